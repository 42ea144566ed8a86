-- A command with a required target beside flags: where clap finds no fault in its words, they give the target one value, which is one of the target's words.
use Rattle.std.proofs.Common.{◌≡◌, ◌||◌, ◌==◌, nat_lt, arith, eqb-true, ◌++◌, ℕ, zero, suc, Bool, true, false, cond, List, [], ◌∷◌, length, drop, codes, Option, Some, None, refl, sym, ap, subst, is_some, true≢false}
use Rattle.std.specs.Prelude.{IfSome, encode_utf8, slice_get}
use Rattle.std.specs.List.{fold}
use Rattle.std.specs.Str.{bytes_eq, chars}
use Rattle.clap.specs.Lexer.{long_of, short_of}
use Rattle.clap.specs.Words.{Row, Rule, Shape, Text, first_of}
use Rattle.clap.specs.Values.{reading_of, refused_kind}
use Rattle.clap.specs.ValueTests.{accepts}
use Rattle.clap.specs.Kinds.{Kinds, or_else}
use Rattle.clap.specs.Walk.{Held, Step, Waiting, Walk, after_flag, after_step, arg_by_index, arg_by_long, arg_by_short, bundle_met, bundle_step, done, flag_met, idle, long_met, long_or_other, nothing_held, most_values, option, option_met, pending_count, plain, plain_word, positional, pushed, reacted, rows_after, settled, settled_rows, short_or_plain, takes_values, trailing, used, waits, walk, walked, with_default}
use Rattle.clap.specs.Simple.{built_leaf, filled, help_rule, inherited, marked_built, with_index, with_leaf_noted}
use Rattle.std.specs.Option.{option_map_or}
use Rattle.clap.specs.Faults.{bundle_fault, bundle_step_fault, defaults_fault, check_fault, flag_word_fault, flags_fault, level_fault, long_fault, option_fault, react_fault, settle_fault, short_fault, step_fault, turn_fault, use_fault, walk_fault}
use Rattle.clap.specs.declared.builder.value_parser.Reading.TheVariants as reading
use Rattle.clap.specs.declared.builder.value_parser.ValueParser.{ValueParser}
use Rattle.clap.specs.declared.error.kind.ErrorKind.{ErrorKind}
use Rattle.clap.specs.declared.error.kind.ErrorKind.TheVariants.{InvalidValue, TooManyValues, WrongNumberOfValues}
use Rattle.clap.specs.declared.parser.matches.ValueSource.TheVariants.{CommandLine}
use Rattle.ffi3_cli.proofs.Found.{Each, found}
use Rattle.ffi3_cli_spec.specs.WordCommands.{program_alone, target_rule, trace_rule, with_target, with_trace}

-- what the program hands down to its commands
abbrev pub above : Shape
above = with_leaf_noted (marked_built (record program_alone.top { is_leaf = false }))

-- a command with a target, and one with a target and the flag, as clap builds them
abbrev pub built_with : Text → ValueParser → Shape
built_with name p = built_leaf (inherited above (with_target name p))

abbrev pub built_traced : Text → ValueParser → Shape
built_traced name p = built_leaf (inherited above (with_trace name p))

abbrev pub built_target : ValueParser → Rule
built_target p = with_index 1 (filled (target_rule p))

abbrev pub built_trace : Rule
built_trace = with_index 1 (filled trace_rule)

abbrev pub built_help : Rule
built_help = with_index 1 (filled help_rule)

-- what stands beside the target
abbrev pub help_alone : List Rule
help_alone = built_help ∷ []

abbrev pub trace_and_help : List Rule
trace_and_help = built_trace ∷ built_help ∷ []

-- a command with a target and these rules
abbrev pub built_beside : List Rule → Text → ValueParser → Shape
built_beside others name p = record (built_with name p) { rules = built_target p ∷ others }

pub never : {k : ErrorKind} {ks : Kinds} → k ∷ ks ≡ [] → ⊥
never e = cc

pub or_none : (a b : Kinds) → or_else a b ≡ [] → (a ≡ []) × (b ≡ [])
or_none [] b e = (refl, e)
or_none (k ∷ ks) b e = cc

-- ---- the rows so far

abbrev target_row : ValueParser → Text → Row
target_row p v =
    record { id = codes "target"; values = v ∷ []; count = None; source = Some CommandLine; reading = reading_of p }

abbrev trace_row : Row
trace_row =
    record { id = codes "trace"; values = codes "true" ∷ []; count = None; source = Some CommandLine; reading = reading.AsWritten }

-- the target has no value yet, or one that passed; the flag was met or not, before it or after it
data Taken (p : ValueParser) : List Row → Type 0 where
  nothing : Taken p []
  traced : Taken p (trace_row ∷ [])
  taken : (v : Text) → accepts false p v ≡ true → Taken p (target_row p v ∷ [])
  taken_traced : (v : Text) → accepts false p v ≡ true → Taken p (target_row p v ∷ trace_row ∷ [])
  traced_taken : (v : Text) → accepts false p v ≡ true → Taken p (trace_row ∷ target_row p v ∷ [])

passed : (b : Bool) (k : ErrorKind) → or_else (cond b [] (k ∷ [])) [] ≡ [] → b ≡ true
passed true k e = refl
passed false k e = cc

target_used : (p : ValueParser) (rs : List Row) → Taken p rs → (v : Text) → use_fault false (built_target p) (v ∷ []) rs ≡ [] → Taken p (used (built_target p) (v ∷ []) rs)
target_used p _ nothing v e = taken v (passed (accepts false p v) (refused_kind p) e)
target_used p _ traced v e = traced_taken v (passed (accepts false p v) (refused_kind p) e)
target_used p _ _ v e = absurd (never e)

-- a rule that takes no value, and whose use leaves the target's value
record IsFlag (p : ValueParser) (a : Rule) : Type 0 where
  takes_none : takes_values a ≡ false
  uses : (rs : List Row) → Taken p rs → use_fault false a [] rs ≡ [] → Taken p (used a [] rs)

help_is_flag : (p : ValueParser) → IsFlag p built_help
help_is_flag p = record { takes_none = refl; uses = λ rs t e. absurd (never e) }

trace_used : (p : ValueParser) (rs : List Row) → Taken p rs → use_fault false built_trace [] rs ≡ [] → Taken p (used built_trace [] rs)
trace_used p _ nothing e = traced
trace_used p _ (taken v passes) e = taken_traced v passes
trace_used p _ _ e = absurd (never e)

trace_is_flag : (p : ValueParser) → IsFlag p built_trace
trace_is_flag p = record { takes_none = refl; uses = trace_used p }

-- ---- the walk

abbrev pending_with : Option (List Text) → Option (Text × List Text)
pending_with None = None
pending_with (Some vs) = Some (codes "target", vs)

data Wait : Type 0 where
  for_none : Wait
  for_target : Wait
  for_more : Wait

abbrev waiting_with : Wait → Waiting
waiting_with for_none = idle
waiting_with for_target = option (codes "target")
waiting_with for_more = positional

waits_if : (b : Bool) → cond b (option (codes "target")) idle ≡ waiting_with (cond b for_target for_none)
waits_if true = refl
waits_if false = refl

too_many : (is_none is_one : Bool) → (is_one ≡ true → ⊥) → cond is_none (InvalidValue ∷ []) (cond is_one [] (WrongNumberOfValues ∷ [])) ≡ [] → ⊥
too_many true is_one not_one e = never e
too_many false true not_one e = not_one refl
too_many false false not_one e = never e

-- a word that no positional takes
stray : (f : Rule → Kinds) (o : Option Rule) (k : ErrorKind) → o ≡ None → option_map_or f o (k ∷ []) ≡ [] → ⊥
stray f None k none e = never e
stray f (Some a) k none e = cc

-- the target has a value that passed
abbrev pub HasTarget : ValueParser → List Row → Type 0
HasTarget p rs =
    (v : Text) × (accepts false p v ≡ true) × (first_of (codes "target") rs ≡ Some v)

module _ (called : Text) (p : ValueParser) (others : List Rule) (flags : Each (IsFlag p) others) (none_by_index : (i : ℕ) → arg_by_index others i ≡ None) (help_by_letter : (x : ℕ) → arg_by_short others x ≡ cond ((104 == x) || false) (Some built_help) None) where
  abbrev s : Shape
  s = built_beside others called p

  abbrev c : List Rule
  c = built_target p ∷ others

  abbrev held : List Row → Option (List Text) → Held
  held rs vs = record { rows = rs; pending = pending_with vs; skip = 0 }

  abbrev standing : List Row → Option (List Text) → Wait → ℕ → Bool → Walk
  standing rs vs w position is_trailing =
      record { held = held rs vs; waiting = waiting_with w; position = position; is_trailing = is_trailing; stopped = None }

  -- the walk stands between two words, and holds no more than that
  abbrev Stands : Walk → Type 0
  Stands w =
      (rs : List Row) × Taken p rs × (vs : Option (List Text)) × (wait : Wait) × (position : ℕ) × (is_trailing : Bool) × (w ≡ standing rs vs wait position is_trailing)

  used_once : (rs : List Row) → Taken p rs → (vs : List Text) → use_fault false (built_target p) vs rs ≡ [] → Taken p (used (built_target p) vs rs)
  used_once rs t [] e = absurd (never e)
  used_once rs t (v ∷ []) e = target_used p rs t v e
  used_once rs t (v ∷ w ∷ more) e =
      let some_values = length (v ∷ w ∷ more) in
      absurd (too_many (some_values == 0) (1 == some_values) (λ one. let same : 1 ≡ some_values = eqb-true _ _ one in absurd (omega arith)) (or_none _ _ e).0)

  abbrev rows_settled : List Row → Option (List Text) → List Row
  rows_settled rs vs = settled_rows c (pending_with vs) rs

  settles : (rs : List Row) → Taken p rs → (vs : Option (List Text)) → settle_fault c false (held rs vs) ≡ [] → Taken p (rows_settled rs vs)
  settles rs t None e = t
  settles rs t (Some vs) e = used_once rs t vs e

  abbrev Uses : Rule → List Text → Type 0
  Uses a values =
      (rs : List Row) → Taken p rs → use_fault false a values rs ≡ [] → Taken p (used a values rs)

  reacts : (a : Rule) (values : List Text) → Uses a values → (rs : List Row) → Taken p rs → (vs : Option (List Text)) → react_fault c false a values (held rs vs) ≡ [] → Taken p (reacted c a values (held rs vs)).rows
  reacts a values uses rs t vs e =
      let parts = or_none _ _ e in uses (rows_settled rs vs) (settles rs t vs parts.0) parts.1

  asks_help : (h : Held) → react_fault c false built_help [] h ≡ [] → ⊥
  asks_help h e = never (or_none _ _ e).1

  -- the walk with what a word made of it
  abbrev Goes : Walk → Text → Held × Step → Type 0
  Goes w word met = step_fault s w.position met.0 met.1 ≡ [] → Stands (after_step c word w met.0 met.1)

  module _ (rs : List Row) (t : Taken p rs) (vs : Option (List Text)) (position : ℕ) (word : Text) where
    abbrev here : Wait → Walk
    here wait = standing rs vs wait position false

    -- the target waits for one more value
    abbrev wants_more : Held → Bool
    wants_more h = nat_lt (pending_count (built_target p) (pushed (codes "target") word h).pending) (most_values (built_target p))

    abbrev walk_on : Held → Waiting → Walk
    walk_on h waiting = record { held = h; waiting = waiting; position = position; is_trailing = false; stopped = None }

    plain_goes : (wait wait' : Wait) (vs' : Option (List Text)) → Goes (here wait) word (plain_word c (waiting_with wait') word (held rs vs'))
    plain_goes wait for_target None e =
        (rs, t, Some (word ∷ []), cond (wants_more (held rs None)) for_target for_none, position, false, ap (walk_on (held rs (Some (word ∷ [])))) (waits_if (wants_more (held rs None))))
    plain_goes wait for_target (Some more) e =
        (rs, t, Some (more ++ word ∷ []), cond (wants_more (held rs (Some more))) for_target for_none, position, false, ap (walk_on (held rs (Some (more ++ word ∷ [])))) (waits_if (wants_more (held rs (Some more)))))
    plain_goes wait _ vs' e = absurd (stray _ _ _ (none_by_index position) e)

    flagged : (wait : Wait) (after : List Row) → Taken p after → Goes (here wait) word (after_flag c (waiting_with wait) word (held after None) done)
    flagged wait after taken' e = (after, taken', None, for_none, position, false, refl)

    awaited : (wait : Wait) (after : List Row) → Taken p after → Goes (here wait) word (after_flag c (waiting_with wait) word (held after (Some [])) (waits (codes "target")))
    awaited wait after taken' e = (after, taken', Some [], for_target, position, false, refl)

    abbrev named : Bool → Option Rule → Option Rule
    named is_target other = cond is_target (Some (built_target p)) other

    -- `--name` or `--name=value` of a flag
    flag_goes : (wait : Wait) (a : Rule) → Uses a [] → (takes : Bool) → takes ≡ false → (v : Option Text) → cond takes (option_fault c false a v (held rs vs)) (cond (is_some v) (TooManyValues ∷ []) (react_fault c false a [] (held rs vs))) ≡ [] → Goes (here wait) word (after_flag c (waiting_with wait) word (cond takes (option_met c a v (held rs vs)) (flag_met c a v (held rs vs))).0 (cond takes (option_met c a v (held rs vs)) (flag_met c a v (held rs vs))).1)
    flag_goes wait a uses true none v fine e = absurd (true≢false none)
    flag_goes wait a uses false none (Some x) fine e = absurd (never fine)
    flag_goes wait a uses false none None fine e =
        flagged wait (reacted c a [] (held rs vs)).rows (reacts a [] uses rs t vs fine) e

    -- `--name` or `--name=value`
    long_goes : (wait : Wait) (is_target : Bool) (other : Option Rule) → IfSome other (IsFlag p) → (v : Option Text) → long_fault c false (named is_target other) v (held rs vs) ≡ [] → Goes (here wait) word (after_flag c (waiting_with wait) word (long_met c (named is_target other) v (held rs vs)).0 (long_met c (named is_target other) v (held rs vs)).1)
    long_goes wait true other flag (Some x) fine e =
        flagged wait (reacted c (built_target p) (x ∷ []) (held rs vs)).rows (reacts (built_target p) (x ∷ []) (λ rs' t'. target_used p rs' t' x) rs t vs fine) e
    long_goes wait true other flag None fine e = awaited wait (rows_settled rs vs) (settles rs t vs fine) e
    long_goes wait false (Some a) flag v fine e =
        flag_goes wait a flag.uses (takes_values a) flag.takes_none v fine e
    long_goes wait false None flag v fine e = absurd (never fine)

    -- a flag of a bundle
    short_fails : (x : ℕ) (rest : Text) (more : Held → Kinds) (is_help : Bool) → short_fault c false (cond is_help (Some built_help) None) rest (held rs vs) more ≡ [] → ⊥
    short_fails x rest more true fine = asks_help (held rs vs) (or_none _ _ fine).0
    short_fails x rest more false fine = never fine

    first_goes : (wait : Wait) (k : ℕ) (letters : Text) (x : Option ℕ) → bundle_step_fault c false x letters 0 (held rs vs) (flags_fault c false k) ≡ [] → Goes (here wait) word (after_flag c (waiting_with wait) word (bundle_step c x letters 0 plain (held rs vs) (bundle_met c k)).0 (bundle_step c x letters 0 plain (held rs vs) (bundle_met c k)).1)
    first_goes wait k letters None fine e = plain_goes wait wait vs e
    first_goes wait k letters (Some x) fine e =
        let rest : Text = drop (length (encode_utf8 x)) letters in
        let more : Held → Kinds = flags_fault c false k rest 0 in
        absurd (short_fails x rest more ((104 == x) || false) (subst (λ (o : Option Rule). short_fault c false o rest (held rs vs) more ≡ []) (help_by_letter x) fine))

    bundle_goes : (wait : Wait) (k : ℕ) (letters : Text) → flags_fault c false k letters 0 (held rs vs) ≡ [] → Goes (here wait) word (after_flag c (waiting_with wait) word (bundle_met c k letters 0 plain (held rs vs)).0 (bundle_met c k letters 0 plain (held rs vs)).1)
    unfolding flags_fault bundle_met
    bundle_goes wait zero letters fine e = plain_goes wait wait vs e
    bundle_goes wait (suc k) letters fine e =
        first_goes wait k letters (slice_get (chars letters) 0) fine e

    short_goes : (wait : Wait) (letters : Option Text) → option_map_or (λ f. bundle_fault c false f (held rs vs)) letters [] ≡ [] → Goes (here wait) word (short_or_plain c (waiting_with wait) word letters (held rs vs))
    short_goes wait None fine e = plain_goes wait wait vs e
    short_goes wait (Some letters) fine e = bundle_goes wait (length letters) letters fine e

    other_goes : (wait : Wait) (name : Option (Text × Option Text)) → flag_word_fault c false name word (held rs vs) ≡ [] → Goes (here wait) word (long_or_other c (waiting_with wait) word name (held rs vs))
    other_goes wait None fine e = short_goes wait (short_of word) fine e
    other_goes wait (Some n) fine e =
        long_goes wait (bytes_eq (codes "target") n.0 || false) (arg_by_long others n.0) (found (IsFlag p) _ others flags) n.1 fine e

    word_goes : (wait : Wait) (are_dashes : Bool) → cond are_dashes [] (flag_word_fault c false (long_of word) word (held rs vs)) ≡ [] → Goes (here wait) word (cond are_dashes (held rs vs, trailing position) (long_or_other c (waiting_with wait) word (long_of word) (held rs vs)))
    word_goes wait true fine e = (rs, t, vs, wait, position, true, refl)
    word_goes wait false fine e = other_goes wait (long_of word) fine e

  one_word : (rs : List Row) (t : Taken p rs) (vs : Option (List Text)) (wait : Wait) (position : ℕ) (is_trailing : Bool) (word : Text) → turn_fault s [] (standing rs vs wait position is_trailing) word ≡ [] → Stands (walked c [] (standing rs vs wait position is_trailing) word)
  unfolding walked
  one_word rs t vs wait position true word fine = absurd (stray _ _ _ (none_by_index position) fine)
  one_word rs t vs for_none position false word fine =
      let parts = or_none _ _ fine in word_goes rs t vs position word for_none (bytes_eq word (45 ∷ 45 ∷ [])) parts.0 parts.1
  one_word rs t vs for_target position false word fine =
      let parts = or_none _ _ fine in word_goes rs t vs position word for_target (bytes_eq word (45 ∷ 45 ∷ [])) parts.0 parts.1
  one_word rs t vs for_more position false word fine =
      let parts = or_none _ _ fine in word_goes rs t vs position word for_more (bytes_eq word (45 ∷ 45 ∷ [])) parts.0 parts.1

  all_words : (words : List Text) (rs : List Row) (t : Taken p rs) (vs : Option (List Text)) (wait : Wait) (position : ℕ) (is_trailing : Bool) → walk_fault s [] (standing rs vs wait position is_trailing) words ≡ [] → Stands (fold (walked c []) (standing rs vs wait position is_trailing) words)
  unfolding walk_fault
  all_words [] rs t vs wait position is_trailing fine = (rs, t, vs, wait, position, is_trailing, refl)
  all_words (word ∷ more) rs t vs wait position is_trailing fine =
      let parts = or_none _ _ fine in
      let after = one_word rs t vs wait position is_trailing word parts.0 in
      let is = after.6 in
      let fine' : walk_fault s [] (standing after.0 after.2 after.3 after.4 after.5) more ≡ [] = subst (λ (w : Walk). walk_fault s [] w more ≡ []) is parts.1 in
      subst (λ (w : Walk). Stands (fold (walked c []) w more)) (sym is) (all_words more after.0 after.1 after.2 after.3 after.4 after.5 fine')

  abbrev at_end : List Text → Held
  at_end words = (walk c [] nothing_held words).held

  -- what is wanted is there in the end, where the last check finds no fault
  abbrev Checks : Type 0
  Checks =
      (rs : List Row) → Taken p rs → check_fault s (fold with_default rs c) false ≡ [] → HasTarget p (fold with_default rs c)

  target_in : Checks → (words : List Text) → level_fault s [] nothing_held words false [] ≡ [] → HasTarget p (rows_after c [] words)
  target_in checks words fine =
      let walked_well = or_none _ _ fine in
      let settled_well = or_none _ _ walked_well.1 in
      let checked_well = or_none (defaults_fault (settled c (at_end words)).rows c) (check_fault s (fold with_default (settled c (at_end words)).rows c) false) settled_well.1 in
      let end = all_words words [] nothing None for_none 1 false walked_well.0 in
      let same : at_end words ≡ held end.0 end.2 = ap (λ (w : Walk). w.held) end.6 in
      let calm : settle_fault c false (held end.0 end.2) ≡ [] = subst (λ (h : Held). settle_fault c false h ≡ []) same settled_well.0 in
      let last = settles end.0 end.1 end.2 calm in
      let same_rows : (settled c (at_end words)).rows ≡ rows_settled end.0 end.2 = ap (λ (h : Held). (settled c h).rows) same in
      let checked : check_fault s (fold with_default (rows_settled end.0 end.2) c) false ≡ [] = subst (λ (rs : List Row). check_fault s (fold with_default rs c) false ≡ []) same_rows checked_well.1 in
      subst (λ (rs : List Row). HasTarget p (fold with_default rs c)) (sym same_rows) (checks (rows_settled end.0 end.2) last checked)

-- ---- a target alone, and one beside the flag

pub none_beside_help : (i : ℕ) → arg_by_index help_alone i ≡ None
none_beside_help i = refl

pub none_beside_trace : (i : ℕ) → arg_by_index trace_and_help i ≡ None
none_beside_trace i = refl

module _ (called : Text) (p : ValueParser) where
  checks_alone : (rs : List Row) → Taken p rs → check_fault (built_with called p) (fold with_default rs (built_target p ∷ help_alone)) false ≡ [] → HasTarget p (fold with_default rs (built_target p ∷ help_alone))
  checks_alone _ (taken v passes) fine = (v, passes, refl)
  checks_alone _ (taken_traced v passes) fine = (v, passes, refl)
  checks_alone _ (traced_taken v passes) fine = (v, passes, refl)
  checks_alone _ _ fine = absurd (never fine)

  checks_traced : (rs : List Row) → Taken p rs → check_fault (built_traced called p) (fold with_default rs (built_target p ∷ trace_and_help)) false ≡ [] → HasTarget p (fold with_default rs (built_target p ∷ trace_and_help))
  checks_traced _ (taken v passes) fine = (v, passes, refl)
  checks_traced _ (taken_traced v passes) fine = (v, passes, refl)
  checks_traced _ (traced_taken v passes) fine = (v, passes, refl)
  checks_traced _ _ fine = absurd (never fine)

  pub has_target : (words : List Text) → level_fault (built_with called p) [] nothing_held words false [] ≡ [] → HasTarget p (rows_after (built_target p ∷ help_alone) [] words)
  has_target words fine =
      target_in called p help_alone (help_is_flag p, tt) none_beside_help (λ x. refl) checks_alone words fine

  pub has_target_traced : (words : List Text) → level_fault (built_traced called p) [] nothing_held words false [] ≡ [] → HasTarget p (rows_after (built_target p ∷ trace_and_help) [] words)
  has_target_traced words fine =
      target_in called p trace_and_help (trace_is_flag p, (help_is_flag p, tt)) none_beside_trace (λ x. refl) checks_traced words fine
