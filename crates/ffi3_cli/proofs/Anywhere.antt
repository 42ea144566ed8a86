-- What clap makes of words does not depend on where the program's texts lie in memory.
use Rattle.std.proofs.Common.{◌≡◌, ◌∙◌, ◌||◌, ℕ, zero, suc, Bool, false, true, cond, List, [], ◌∷◌, drop, length, codes, Option, Some, None, is_some, refl, ap, ap₂}
use Rattle.std.specs.Prelude.{encode_utf8, slice_get, find}
use Rattle.std.specs.List.{fold}
use Rattle.std.specs.Str.{bytes_eq, chars}
use Rattle.clap.specs.Lexer.{long_of, short_of}
use Rattle.clap.specs.Words.{Text, Rule, Row, Shape, App, fault_of, subcommand_of, built}
use Rattle.clap.specs.Kinds.{Kinds, or_else}
use Rattle.clap.specs.Walk.{Held, Outcome, answers_to, Step, Waiting, Walk, idle, option, positional, trailing, done, waits, plain, walk, walked, walked_from, nothing_held, used, used_by_id, settled, settled_rows, reacted, long_met, arg_by_id, arg_by_index, arg_by_long, arg_by_short, attached_value, flag_met, option_met, takes_values, to_positional, bundle_met, bundle_step, short_met, next, value, word_met, long_or_other, short_or_plain, after_flag, after_step, plain_word, option_word, with_default, rows_after}
use Rattle.clap.specs.Simple.{argument_words, entered, label_of, names_of, rows_at}
use Rattle.std.specs.Option.{option_map, option_map_or}
use Rattle.clap.specs.Faults.{bundle_fault, bundle_step_fault, defaults_fault, check_fault, flag_word_fault, flags_fault, level_fault, long_fault, option_fault, react_fault, settle_fault, short_fault, step_fault, turn_fault, use_fault, walk_fault, entered_fault, word_fault}
use Rattle.clap.specs.declared.builder.value_parser.ValueParser.{ValueParser}
use Rattle.clap.specs.declared.error.kind.ErrorKind.TheVariants.{TooManyValues}
use Rattle.ffi3_cli_spec.specs.WordCommands.{Addresses, program, one_of_words, targets}
use Rattle.ffi3_cli.proofs.Level.{built_beside, built_target, built_traced, built_with, help_alone, none_beside_help, none_beside_trace, trace_and_help}

-- a rule that no position names
to_alike : (c d : List Rule) (o : Option Rule) → o ≡ None → (word : Text) (w : Walk) (h : Held) → to_positional c o word w h ≡ to_positional d o word w h
to_alike c d None none word w h = refl
to_alike c d (Some a) none word w h = cc

stray_alike : (f g : Rule → Kinds) (o : Option Rule) → o ≡ None → (stray : Kinds) → option_map_or f o stray ≡ option_map_or g o stray
stray_alike f g None none stray = refl
stray_alike f g (Some a) none stray = cc

-- two parsers of a target that refuse the same values, and are read alike, beside other rules that are met by name alone
module _ (called : Text) (others : List Rule) (none_by_index : (i : ℕ) → arg_by_index others i ≡ None) (p q : ValueParser) (same_use : (vs : List Text) (rows : List Row) → use_fault false (built_target p) vs rows ≡ use_fault false (built_target q) vs rows) (same_used : (vs : List Text) (rows : List Row) → used (built_target p) vs rows ≡ used (built_target q) vs rows) where
  abbrev c : List Rule
  c = built_target p ∷ others

  abbrev d : List Rule
  d = built_target q ∷ others

  abbrev s : Shape
  s = built_beside others called p

  abbrev t : Shape
  t = built_beside others called q

  abbrev named : ValueParser → Bool → Option Rule → Option Rule
  named x is_target other = cond is_target (Some (built_target x)) other

  -- ---- what is pending is used

  used_named : (is_target : Bool) (other : Option Rule) (vs : List Text) (rows : List Row) → used_by_id (named p is_target other) vs rows ≡ used_by_id (named q is_target other) vs rows
  used_named true other vs rows = same_used vs rows
  used_named false other vs rows = refl

  same_rows : (pending : Option (Text × List Text)) (rows : List Row) → settled_rows c pending rows ≡ settled_rows d pending rows
  same_rows None rows = refl
  same_rows (Some x) rows =
      used_named (bytes_eq (codes "target") x.0) (arg_by_id others x.0) x.1 rows

  abbrev with_rows : Held → List Row → Held
  with_rows h rows = record h { rows = rows; pending = None }

  same_settled : (h : Held) → settled c h ≡ settled d h
  same_settled h = ap (with_rows h) (same_rows h.pending h.rows)

  fault_named : (is_target : Bool) (other : Option Rule) (vs : List Text) (rows : List Row) → option_map_or (λ a. use_fault false a vs rows) (named p is_target other) [] ≡ option_map_or (λ a. use_fault false a vs rows) (named q is_target other) []
  fault_named true other vs rows = same_use vs rows
  fault_named false other vs rows = refl

  fault_pending : (pending : Option (Text × List Text)) (rows : List Row) (skip : ℕ) → settle_fault c false (record { rows = rows; pending = pending; skip = skip }) ≡ settle_fault d false (record { rows = rows; pending = pending; skip = skip })
  fault_pending None rows skip = refl
  fault_pending (Some x) rows skip =
      fault_named (bytes_eq (codes "target") x.0) (arg_by_id others x.0) x.1 rows

  same_settle : (h : Held) → settle_fault c false h ≡ settle_fault d false h
  same_settle h = fault_pending h.pending h.rows h.skip

  -- ---- a use

  target_reacts : (vs : List Text) (h : Held) → react_fault c false (built_target p) vs h ≡ react_fault d false (built_target q) vs h
  target_reacts vs h =
      ap₂ or_else (same_settle h) (same_use vs (settled c h).rows ∙ ap (λ (x : Held). use_fault false (built_target q) vs x.rows) (same_settled h))

  other_reacts : (a : Rule) (vs : List Text) (h : Held) → react_fault c false a vs h ≡ react_fault d false a vs h
  other_reacts a vs h =
      ap₂ or_else (same_settle h) (ap (λ (x : Held). use_fault false a vs x.rows) (same_settled h))

  target_reacted : (vs : List Text) (h : Held) → reacted c (built_target p) vs h ≡ reacted d (built_target q) vs h
  target_reacted vs h =
      ap (with_rows h) (same_used vs (settled c h).rows ∙ ap (λ (x : Held). used (built_target q) vs x.rows) (same_settled h))

  other_reacted : (a : Rule) (vs : List Text) (h : Held) → reacted c a vs h ≡ reacted d a vs h
  other_reacted a vs h = ap (with_rows h) (ap (λ (x : Held). used a vs x.rows) (same_settled h))

  -- ---- an option or a flag, with a value or without

  abbrev Met : Type 0
  Met = Held × Outcome

  abbrev either_fault : Bool → Kinds → Kinds → Kinds
  either_fault takes x y = cond takes x y

  abbrev either_met : Bool → Met → Met → Met
  either_met takes x y = cond takes x y

  same_option_fault : (a : Rule) (v : Option Text) (h : Held) → option_fault c false a v h ≡ option_fault d false a v h
  same_option_fault a (Some v) h = other_reacts a (v ∷ []) h
  same_option_fault a None h = same_settle h

  same_flag_fault : (a : Rule) (v : Option Text) (h : Held) → cond (is_some v) (TooManyValues ∷ []) (react_fault c false a [] h) ≡ cond (is_some v) (TooManyValues ∷ []) (react_fault d false a [] h)
  same_flag_fault a (Some v) h = refl
  same_flag_fault a None h = other_reacts a [] h

  abbrev awaiting : Text → Held → Met
  awaiting id h = (record h { pending = Some (id, []) }, waits id)

  abbrev with_done : Held → Met
  with_done h = (h, done)

  same_option_met : (a : Rule) (v : Option Text) (h : Held) → option_met c a v h ≡ option_met d a v h
  same_option_met a (Some v) h = ap with_done (other_reacted a (v ∷ []) h)
  same_option_met a None h = ap (awaiting a.id) (same_settled h)

  same_flag_met : (a : Rule) (v : Option Text) (h : Held) → flag_met c a v h ≡ flag_met d a v h
  same_flag_met a (Some v) h = refl
  same_flag_met a None h = ap with_done (other_reacted a [] h)

  -- ---- `--name` or `--name=value`

  same_long_fault : (is_target : Bool) (other : Option Rule) (v : Option Text) (h : Held) → long_fault c false (named p is_target other) v h ≡ long_fault d false (named q is_target other) v h
  same_long_fault true other (Some v) h = target_reacts (v ∷ []) h
  same_long_fault true other None h = same_settle h
  same_long_fault false (Some a) v h =
      ap₂ (either_fault (takes_values a)) (same_option_fault a v h) (same_flag_fault a v h)
  same_long_fault false None v h = refl

  same_long : (is_target : Bool) (other : Option Rule) (v : Option Text) (h : Held) → long_met c (named p is_target other) v h ≡ long_met d (named q is_target other) v h
  same_long true other (Some v) h = ap with_done (target_reacted (v ∷ []) h)
  same_long true other None h = ap (awaiting (codes "target")) (same_settled h)
  same_long false (Some a) v h =
      ap₂ (either_met (takes_values a)) (same_option_met a v h) (same_flag_met a v h)
  same_long false None v h = refl

  -- ---- a bundle of short flags

  short_fault_alike : (other : Option Rule) (rest : Text) (h : Held) (more more' : Held → Kinds) → ((x : Held) → more x ≡ more' x) → short_fault c false other rest h more ≡ short_fault d false other rest h more'
  short_fault_alike (Some a) rest h more more' same =
      ap₂ (either_fault (takes_values a)) (same_option_fault a (attached_value rest) h) (ap₂ or_else (other_reacts a [] h) (same (reacted c a [] h) ∙ ap more' (other_reacted a [] h)))
  short_fault_alike None rest h more more' same = refl

  bundle_fault_alike : (more more' : Text → ℕ → Held → Kinds) → ((flags : Text) (skip : ℕ) (h : Held) → more flags skip h ≡ more' flags skip h) → (x : Option ℕ) (flags : Text) (skip : ℕ) (h : Held) → bundle_step_fault c false x flags skip h more ≡ bundle_step_fault d false x flags skip h more'
  bundle_fault_alike more more' same None flags skip h = refl
  bundle_fault_alike more more' same (Some x) flags zero h =
      let rest = drop (length (encode_utf8 x)) flags in
      short_fault_alike (arg_by_short others x) rest h (more rest 0) (more' rest 0) (same rest 0)
  bundle_fault_alike more more' same (Some x) flags (suc skip) h = same (drop (length (encode_utf8 x)) flags) skip h

  same_bundle_fault : (k : ℕ) (flags : Text) (skip : ℕ) (h : Held) → flags_fault c false k flags skip h ≡ flags_fault d false k flags skip h
  unfolding flags_fault
  same_bundle_fault zero flags skip h = refl
  same_bundle_fault (suc k) flags skip h =
      bundle_fault_alike (flags_fault c false k) (flags_fault d false k) (same_bundle_fault k) (slice_get (chars flags) 0) flags skip h

  short_met_alike : (other : Option Rule) (rest : Text) (h : Held) (more more' : Held → Met) → ((x : Held) → more x ≡ more' x) → short_met c other rest h more ≡ short_met d other rest h more'
  short_met_alike (Some a) rest h more more' same =
      ap₂ (either_met (takes_values a)) (same_option_met a (attached_value rest) h) (same (reacted c a [] h) ∙ ap more' (other_reacted a [] h))
  short_met_alike None rest h more more' same = refl

  bundle_met_alike : (more more' : Text → ℕ → Outcome → Held → Met) → ((flags : Text) (skip : ℕ) (so_far : Outcome) (h : Held) → more flags skip so_far h ≡ more' flags skip so_far h) → (x : Option ℕ) (flags : Text) (skip : ℕ) (so_far : Outcome) (h : Held) → bundle_step c x flags skip so_far h more ≡ bundle_step d x flags skip so_far h more'
  bundle_met_alike more more' same None flags skip so_far h = refl
  bundle_met_alike more more' same (Some x) flags zero so_far h =
      let rest = drop (length (encode_utf8 x)) flags in
      short_met_alike (arg_by_short others x) rest h (more rest 0 done) (more' rest 0 done) (same rest 0 done)
  bundle_met_alike more more' same (Some x) flags (suc skip) so_far h = same (drop (length (encode_utf8 x)) flags) skip so_far h

  same_bundle : (k : ℕ) (flags : Text) (skip : ℕ) (so_far : Outcome) (h : Held) → bundle_met c k flags skip so_far h ≡ bundle_met d k flags skip so_far h
  unfolding bundle_met
  same_bundle zero flags skip so_far h = refl
  same_bundle (suc k) flags skip so_far h =
      bundle_met_alike (bundle_met c k) (bundle_met d k) (same_bundle k) (slice_get (chars flags) 0) flags skip so_far h

  -- ---- a word

  same_option_word : (is_target : Bool) (other : Option Rule) (id word : Text) (h : Held) → option_word (named p is_target other) id word h ≡ option_word (named q is_target other) id word h
  same_option_word true other id word h = refl
  same_option_word false other id word h = refl

  same_plain : (waiting : Waiting) (word : Text) (h : Held) → plain_word c waiting word h ≡ plain_word d waiting word h
  same_plain (option id) word h =
      ap (λ (x : Held × Waiting). (x.0, next x.1)) (same_option_word (bytes_eq (codes "target") id) (arg_by_id others id) id word h)
  same_plain _ word h = refl

  same_after : (waiting : Waiting) (word : Text) (h : Held) (o : Outcome) → after_flag c waiting word h o ≡ after_flag d waiting word h o
  same_after waiting word h done = refl
  same_after waiting word h (waits id) = refl
  same_after waiting word h _ = same_plain waiting word h

  abbrev after_met : Waiting → Text → Met → Held × Step
  after_met waiting word met = after_flag d waiting word met.0 met.1

  same_short_or_plain : (waiting : Waiting) (word : Text) (flags : Option Text) (h : Held) → short_or_plain c waiting word flags h ≡ short_or_plain d waiting word flags h
  same_short_or_plain waiting word None h = same_plain waiting word h
  same_short_or_plain waiting word (Some flags) h =
      let unskipped : Held = record h { skip = 0 } in
      let met = bundle_met c (length flags) flags h.skip plain unskipped in
      same_after waiting word met.0 met.1 ∙ ap (after_met waiting word) (same_bundle (length flags) flags h.skip plain unskipped)

  same_long_or_other : (waiting : Waiting) (word : Text) (name : Option (Text × Option Text)) (h : Held) → long_or_other c waiting word name h ≡ long_or_other d waiting word name h
  same_long_or_other waiting word None h = same_short_or_plain waiting word (short_of word) h
  same_long_or_other waiting word (Some n) h =
      let is_target = bytes_eq (codes "target") n.0 || false in
      let other = arg_by_long others n.0 in
      let met = long_met c (named p is_target other) n.1 h in
      same_after waiting word met.0 met.1 ∙ ap (after_met waiting word) (same_long is_target other n.1 h)

  same_other : (are_dashes : Bool) (waiting : Waiting) (position : ℕ) (word : Text) (h : Held) → cond are_dashes (h, trailing position) (long_or_other c waiting word (long_of word) h) ≡ cond are_dashes (h, trailing position) (long_or_other d waiting word (long_of word) h)
  same_other true waiting position word h = refl
  same_other false waiting position word h = same_long_or_other waiting word (long_of word) h

  same_word : (is_trailing : Bool) (waiting : Waiting) (position : ℕ) (word : Text) (h : Held) → word_met c [] is_trailing waiting position word h ≡ word_met d [] is_trailing waiting position word h
  same_word true waiting position word h = refl
  same_word false idle position word h = same_other (bytes_eq word (45 ∷ 45 ∷ [])) idle position word h
  same_word false (option id) position word h = same_other (bytes_eq word (45 ∷ 45 ∷ [])) (option id) position word h
  same_word false positional position word h = same_other (bytes_eq word (45 ∷ 45 ∷ [])) positional position word h

  same_step : (word : Text) (w : Walk) (h : Held) (step : Step) → after_step c word w h step ≡ after_step d word w h step
  same_step word w h value = to_alike c d (arg_by_index others w.position) (none_by_index w.position) word w h
  same_step word w h _ = refl

  same_walked : (stopped : Option (Text × List Text)) (w : Walk) (word : Text) → walked_from c [] stopped w word ≡ walked_from d [] stopped w word
  same_walked (Some x) w word = refl
  same_walked None w word =
      let met = word_met c [] w.is_trailing w.waiting w.position word w.held in
      same_step word w met.0 met.1 ∙ ap (λ (x : Held × Step). after_step d word w x.0 x.1) (same_word w.is_trailing w.waiting w.position word w.held)

  -- ---- its fault

  same_flag_word_fault : (name : Option (Text × Option Text)) (word : Text) (h : Held) → flag_word_fault c false name word h ≡ flag_word_fault d false name word h
  same_flag_word_fault (Some n) word h =
      same_long_fault (bytes_eq (codes "target") n.0 || false) (arg_by_long others n.0) n.1 h
  same_flag_word_fault None word h = in_bundle (short_of word)
    where
      in_bundle : (flags : Option Text) → option_map_or (λ f. bundle_fault c false f h) flags [] ≡ option_map_or (λ f. bundle_fault d false f h) flags []
      in_bundle None = refl
      in_bundle (Some f) = same_bundle_fault (length f) f h.skip (record h { skip = 0 })

  same_other_fault : (are_dashes : Bool) (word : Text) (h : Held) → cond are_dashes [] (flag_word_fault c false (long_of word) word h) ≡ cond are_dashes [] (flag_word_fault d false (long_of word) word h)
  same_other_fault true word h = refl
  same_other_fault false word h = same_flag_word_fault (long_of word) word h

  same_word_fault : (is_trailing : Bool) (waiting : Waiting) (word : Text) (h : Held) → word_fault s [] is_trailing waiting word h ≡ word_fault t [] is_trailing waiting word h
  same_word_fault true waiting word h = refl
  same_word_fault false idle word h = same_other_fault (bytes_eq word (45 ∷ 45 ∷ [])) word h
  same_word_fault false (option id) word h = same_other_fault (bytes_eq word (45 ∷ 45 ∷ [])) word h
  same_word_fault false positional word h = same_other_fault (bytes_eq word (45 ∷ 45 ∷ [])) word h

  same_step_fault : (position : ℕ) (h : Held) (step : Step) → step_fault s position h step ≡ step_fault t position h step
  same_step_fault position h value =
      stray_alike _ _ (arg_by_index others position) (none_by_index position) _
  same_step_fault position h _ = refl

  abbrev standing : Option (Text × List Text) → Walk → Walk
  standing stopped w = record w { stopped = stopped }

  same_turn_fault : (stopped : Option (Text × List Text)) (w : Walk) (word : Text) → turn_fault s [] (standing stopped w) word ≡ turn_fault t [] (standing stopped w) word
  same_turn_fault (Some x) w word = refl
  same_turn_fault None w word =
      let met = word_met c [] w.is_trailing w.waiting w.position word w.held in
      ap₂ or_else (same_word_fault w.is_trailing w.waiting word w.held) (same_step_fault w.position met.0 met.1 ∙ ap (λ (x : Held × Step). step_fault t w.position x.0 x.1) (same_word w.is_trailing w.waiting w.position word w.held))

  -- ---- all words

  same_walk : (words : List Text) (w : Walk) → fold (walked c []) w words ≡ fold (walked d []) w words
  unfolding walked
  same_walk [] w = refl
  same_walk (word ∷ more) w =
      same_walk more (walked c [] w word) ∙ ap (λ (x : Walk). fold (walked d []) x more) (same_walked w.stopped w word)

  same_walk_fault : (words : List Text) (w : Walk) → walk_fault s [] w words ≡ walk_fault t [] w words
  unfolding walk_fault walked
  same_walk_fault [] w = refl
  same_walk_fault (word ∷ more) w =
      ap₂ or_else (same_turn_fault w.stopped w word) (same_walk_fault more (walked c [] w word) ∙ ap (λ (x : Walk). walk_fault t [] x more) (same_walked w.stopped w word))

  abbrev end_fault : Kinds → List Row → Kinds
  end_fault pending rows =
      or_else pending (or_else (defaults_fault rows d) (check_fault t (fold with_default rows d) false))

  abbrev at_end : List Rule → List Text → Held
  at_end rules words = (walk rules [] nothing_held words).held

  same_end : (words : List Text) → at_end c words ≡ at_end d words
  same_end words = ap (λ (w : Walk). w.held) (same_walk words (record { held = nothing_held; waiting = idle; position = 1; is_trailing = false; stopped = None }))

  -- the rows at the end
  same_settled_end : (words : List Text) → settled c (at_end c words) ≡ settled d (at_end d words)
  same_settled_end words = same_settled (at_end c words) ∙ ap (settled d) (same_end words)

  pub same_rows_after : (words : List Text) → rows_after c [] words ≡ rows_after d [] words
  same_rows_after words = ap (λ (h : Held). fold with_default h.rows d) (same_settled_end words)

  pub same_level : (words : List Text) → level_fault s [] nothing_held words false [] ≡ level_fault t [] nothing_held words false []
  unfolding defaults_fault
  same_level words =
      let pending = same_settle (at_end c words) ∙ ap (settle_fault d false) (same_end words) in
      ap₂ or_else (same_walk_fault words _) (ap₂ end_fault pending (ap (λ (h : Held). h.rows) (same_settled_end words)))

-- ---- a command with a target

module _ (called : Text) (others : List Rule) (none_by_index : (i : ℕ) → arg_by_index others i ≡ None) (at bt : Addresses) where
  same_level_at : (words : List Text) → level_fault (built_beside others called (one_of_words at targets)) [] nothing_held words false [] ≡ level_fault (built_beside others called (one_of_words bt targets)) [] nothing_held words false []
  same_level_at = same_level called others none_by_index (one_of_words at targets) (one_of_words bt targets) (λ vs rows. refl) (λ vs rows. refl)

  same_rows_at : (words : List Text) → Some (rows_at (built_beside others called (one_of_words at targets)) words) ≡ Some (rows_at (built_beside others called (one_of_words bt targets)) words)
  same_rows_at words =
      ap (λ (rows : List Row). Some (called, rows)) (same_rows_after called others none_by_index (one_of_words at targets) (one_of_words bt targets) (λ vs rows. refl) (λ vs rows. refl) words)

-- ---- the program

-- what is made of one of two shapes is the same, if it is of each
of_either : {X : Type 0} (f : Option Shape → X) (b : Bool) (s t u v : Option Shape) → f s ≡ f t → f u ≡ f v → f (cond b s u) ≡ f (cond b t v)
of_either f true s t u v first second = first
of_either f false s t u v first second = second

module _ (at at' bt bt' : Addresses) where
  abbrev app : App
  app = built (program at at')

  abbrev other : App
  other = built (program bt bt')

  -- the command of a name, with a target's words at these addresses
  abbrev command : Addresses → Addresses → Text → Option Shape
  command x y name = find (λ s. answers_to name (label_of s)) (built (program x y)).subs

  abbrev is_word : Text → Text → Bool
  is_word word name = bytes_eq word name || false

  -- what is made of the command that is met, if it is the same of the two with a target
  same_made : {X : Type 0} (f : Option Shape → X) → f (Some (built_with (codes "place") (one_of_words at targets))) ≡ f (Some (built_with (codes "place") (one_of_words bt targets))) → f (Some (built_traced (codes "run") (one_of_words at' targets))) ≡ f (Some (built_traced (codes "run") (one_of_words bt' targets))) → (name : Text) → f (command at at' name) ≡ f (command bt bt' name)
  same_made f places runs name =
      of_either f (is_word (codes "layout") name) _ _ _ _ refl (of_either f (is_word (codes "place") name) _ _ _ _ places (of_either f (is_word (codes "run") name) _ _ _ _ runs refl))

  same_entered_fault : (stop : Option (Text × List Text)) → entered_fault app stop ≡ entered_fault other stop
  same_entered_fault None = refl
  same_entered_fault (Some x) =
      same_made (λ s. option_map_or (λ s. level_fault s [] nothing_held x.1 false []) s []) (same_level_at (codes "place") help_alone none_beside_help at bt x.1) (same_level_at (codes "run") trace_and_help none_beside_trace at' bt' x.1) x.0

  same_entered : (stop : Option (Text × List Text)) → entered app stop ≡ entered other stop
  same_entered None = refl
  same_entered (Some x) =
      same_made (option_map (λ s. rows_at s x.1)) (same_rows_at (codes "place") help_alone none_beside_help at bt x.1) (same_rows_at (codes "run") trace_and_help none_beside_trace at' bt' x.1) x.0

  abbrev stop_at : List Text → Option (Text × List Text)
  stop_at words = (walk app.top.rules (names_of app) nothing_held (argument_words (program at at') words)).stopped

  -- CLAP FINDS THE SAME FAULTS, wherever the program's texts lie
  pub same_fault : (words : List Text) → fault_of (program at at') words ≡ fault_of (program bt bt') words
  same_fault words =
      let stop = stop_at words in
      ap₂ (λ (x : Option (Text × List Row)) (below : Kinds). level_fault app.top (names_of app) nothing_held (argument_words (program at at') words) (is_some x) below) (same_entered stop) (same_entered_fault stop)

  -- and enters the same command
  pub same_command : (words : List Text) → subcommand_of (program at at') words ≡ subcommand_of (program bt bt') words
  same_command words = same_entered (stop_at words)
