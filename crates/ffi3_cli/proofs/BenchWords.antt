-- The stated words of `bench` are taken, and read as what they state: their numbers are no words that are written out.
use Rattle.std.proofs.Common.{◌≡◌, ◌∙◌, ◌&&◌, ◌<◌, ◌≤◌, ◌^◌, ℕ, Bool, true, false, cond, List, [], ◌∷◌, codes, decimal, Option, Some, None, nat_le, arith, refl, sym, ap, ap₂, subst, le-leb}
use Rattle.std.specs.List.{fold}
use Rattle.std.specs.Option.{option_and_then, option_map_or}
use Rattle.std.specs.Str.{bytes_eq}
use Rattle.clap.specs.Kinds.{Kinds, or_else}
use Rattle.clap.specs.Lexer.{long_of}
use Rattle.clap.specs.Words.{App, Row, Rule, Shape, Text, fault_of, subcommand_of, built}
use Rattle.clap.specs.Walk.{Held, Step, Waiting, Walk, after_step, finished, idle, long_or_other, nothing_held, option, plain_word, rows_after, settled, short_or_plain, trailing, walked}
use Rattle.clap.specs.Simple.{built_leaf, inherited, names_of}
use Rattle.clap.specs.Faults.{bundle_fault, check_fault, defaults_fault, flag_word_fault, level_fault, settle_fault, step_fault, turn_fault, walk_fault}
use Rattle.clap.specs.declared.builder.value_parser.Reading.TheVariants as reading
use Rattle.clap.specs.declared.parser.matches.ValueSource.TheVariants.{CommandLine}
use Rattle.clap.proofs.OnLiterals.{clap_on_literals}
use Rattle.ffi3_cli_spec.specs.declared.words.Request.{Request}
use Rattle.ffi3_cli_spec.specs.declared.words.Request.TheVariants.{Bench}
use Rattle.ffi3_cli_spec.specs.WordCommands.{Addresses, asked, bench_of, bench_shape, number_of, program, with_calls}
use Rattle.ffi3_cli.proofs.Level.{above}
use Rattle.ffi3_cli.proofs.Numbers.{IsPlainWord, plain_decimal, written}

abbrev s : Shape
s = built_leaf (inherited above bench_shape)

abbrev c : List Rule
c = s.rules

-- the walk waits for a value of an option, or for nothing
abbrev standing : List Row → Option (Text × List Text) → Waiting → Walk
standing rows pending waiting = record {
  held = record { rows = rows; pending = pending; skip = 0 };
  waiting = waiting;
  position = 1;
  is_trailing = false;
  stopped = None;
}

-- ---- a value of an option that is no flag

module _ (rows : List Row) (pending : Option (Text × List Text)) (id word : Text) (plain : IsPlainWord word) where
  abbrev h : Held
  h = record { rows = rows; pending = pending; skip = 0 }

  abbrev w : Walk
  w = standing rows pending (option id)

  abbrev Met : Type 0
  Met = Held × Step

  abbrev met_if : Bool → Option (Text × Option Text) → Met
  met_if are_dashes name = cond are_dashes (h, trailing 1) (long_or_other c (option id) word name h)

  met : met_if (bytes_eq word (45 ∷ 45 ∷ [])) (long_of word) ≡ plain_word c (option id) word h
  met =
      ap₂ met_if plain.no_dashes plain.no_long ∙ ap (λ (f : Option Text). short_or_plain c (option id) word f h) plain.no_short

  abbrev fault_if : Bool → Option (Text × Option Text) → Kinds
  fault_if are_dashes name = cond are_dashes [] (flag_word_fault c false name word h)

  no_fault : fault_if (bytes_eq word (45 ∷ 45 ∷ [])) (long_of word) ≡ []
  no_fault =
      ap₂ fault_if plain.no_dashes plain.no_long ∙ ap (λ (f : Option Text). option_map_or (λ flags. bundle_fault c false flags h) f []) plain.no_short

  value_walked : walked c [] w word ≡ after_step c word w (plain_word c (option id) word h).0 (plain_word c (option id) word h).1
  unfolding walked
  value_walked = ap (λ (x : Met). after_step c word w x.0 x.1) met

  value_turn : turn_fault s [] w word ≡ []
  value_turn = ap₂ or_else no_fault (ap (λ (x : Met). step_fault s 1 x.0 x.1) met)

-- ---- all words

-- from here on the words have no fault, and the walk ends so
record Ends (from : Walk) (words : List Text) (end : Walk) : Type 0 where
  fault : walk_fault s [] from words ≡ []
  walk : fold (walked c []) from words ≡ end

at_end : (w : Walk) → Ends w [] w
unfolding walk_fault
at_end w = record { fault = refl; walk = refl }

one_more : (w w' end : Walk) (word : Text) (more : List Text) → turn_fault s [] w word ≡ [] → walked c [] w word ≡ w' → Ends w' more end → Ends w (word ∷ more) end
unfolding walk_fault
one_more w w' end word more fine goes ends =
    let P : Walk → Type 0 = λ x. Ends x more end in
    let after : Ends (walked c [] w word) more end = subst P (sym goes) ends in
    record { fault = ap₂ or_else fine after.fault; walk = after.walk }

abbrev row : Text → Text → Row
row id v =
    record { id = id; values = v ∷ []; count = None; source = Some CommandLine; reading = reading.AsWritten }

abbrev begun : Walk
begun = standing [] None idle

module _ (u v : Text) (plain_u : IsPlainWord u) (plain_v : IsPlainWord v) where
  -- `--seed` comes first
  abbrev with_seed : Walk
  with_seed = standing (row (codes "seed") u ∷ []) (Some (codes "calls", v ∷ [])) idle

  seed_ends : Ends begun (codes "--seed" ∷ u ∷ codes "--calls" ∷ v ∷ []) with_seed
  unfolding clap_on_literals
  seed_ends =
      let w1 = standing [] (Some (codes "seed", [])) (option (codes "seed")) in
      let w2 = standing [] (Some (codes "seed", u ∷ [])) idle in
      let w3 = standing (row (codes "seed") u ∷ []) (Some (codes "calls", [])) (option (codes "calls")) in
      one_more begun w1 with_seed (codes "--seed") (u ∷ codes "--calls" ∷ v ∷ []) refl refl (one_more w1 w2 with_seed u (codes "--calls" ∷ v ∷ []) (value_turn [] (Some (codes "seed", [])) (codes "seed") u plain_u) (value_walked [] (Some (codes "seed", [])) (codes "seed") u plain_u) (one_more w2 w3 with_seed (codes "--calls") (v ∷ []) refl refl (one_more w3 with_seed with_seed v [] (value_turn w3.held.rows w3.held.pending (codes "calls") v plain_v) (value_walked w3.held.rows w3.held.pending (codes "calls") v plain_v) (at_end with_seed))))

  -- `--calls` comes first
  abbrev with_calls_first : Walk
  with_calls_first = standing (row (codes "calls") u ∷ []) (Some (codes "seed", v ∷ [])) idle

  calls_ends : Ends begun (codes "--calls" ∷ u ∷ codes "--seed" ∷ v ∷ []) with_calls_first
  unfolding clap_on_literals
  calls_ends =
      let w1 = standing [] (Some (codes "calls", [])) (option (codes "calls")) in
      let w2 = standing [] (Some (codes "calls", u ∷ [])) idle in
      let w3 = standing (row (codes "calls") u ∷ []) (Some (codes "seed", [])) (option (codes "seed")) in
      one_more begun w1 with_calls_first (codes "--calls") (u ∷ codes "--seed" ∷ v ∷ []) refl refl (one_more w1 w2 with_calls_first u (codes "--seed" ∷ v ∷ []) (value_turn [] (Some (codes "calls", [])) (codes "calls") u plain_u) (value_walked [] (Some (codes "calls", [])) (codes "calls") u plain_u) (one_more w2 w3 with_calls_first (codes "--seed") (v ∷ []) refl refl (one_more w3 with_calls_first with_calls_first v [] (value_turn w3.held.rows w3.held.pending (codes "seed") v plain_v) (value_walked w3.held.rows w3.held.pending (codes "seed") v plain_v) (at_end with_calls_first))))

-- ---- the program

module _ (at at' : Addresses) (name a u b v : Text) where
  abbrev words : List Text
  words = name ∷ codes "bench" ∷ a ∷ u ∷ b ∷ v ∷ []

  abbrev app : App
  app = built (program at at')

  abbrev program_fault : Kinds → Kinds
  program_fault below = level_fault app.top (names_of app) nothing_held (codes "bench" ∷ a ∷ u ∷ b ∷ v ∷ []) true below

  enters : level_fault s [] nothing_held (a ∷ u ∷ b ∷ v ∷ []) false [] ≡ [] → fault_of (program at at') words ≡ []
  unfolding clap_on_literals
  enters below =
      let alone : program_fault [] ≡ [] = refl in
      ap program_fault below ∙ alone

  asks_below : asked (subcommand_of (program at at') words) ≡ asked (Some (codes "bench", rows_after c [] (a ∷ u ∷ b ∷ v ∷ [])))
  unfolding clap_on_literals
  asks_below = refl

-- what follows the walk has no fault
abbrev rest_fault : Held → Kinds
rest_fault held =
    or_else (settle_fault c false held) (or_else (defaults_fault (settled c held).rows c) (check_fault s (finished c held) false))

module _ (at at' : Addresses) (name : Text) where
  abbrev Reads : List Text → Option Request → Type 0
  Reads rest r =
      (fault_of (program at at') (name ∷ rest) ≡ []) × (asked (subcommand_of (program at at') (name ∷ rest)) ≡ r)

  abbrev asked_at : Walk → Option Request
  asked_at x = asked (Some (codes "bench", finished c x.held))

  -- words whose walk ends without fault
  read : (a u b v : Text) (end : Walk) → Ends begun (a ∷ u ∷ b ∷ v ∷ []) end → rest_fault end.held ≡ [] → Reads (codes "bench" ∷ a ∷ u ∷ b ∷ v ∷ []) (asked_at end)
  read a u b v end ends fine = (
    enters at at' name a u b v (ap₂ or_else ends.fault (ap (λ (x : Walk). rest_fault x.held) ends.walk ∙ fine)),
    asks_below at at' name a u b v ∙ ap asked_at ends.walk,
  )

  module _ (u v : Text) (plain_u : IsPlainWord u) (plain_v : IsPlainWord v) where
    seed_read : Reads (codes "bench" ∷ codes "--seed" ∷ u ∷ codes "--calls" ∷ v ∷ []) (bench_of (Some u) (Some v))
    unfolding defaults_fault
    seed_read = read (codes "--seed") u (codes "--calls") v _ (seed_ends u v plain_u plain_v) refl

    calls_read : Reads (codes "bench" ∷ codes "--calls" ∷ u ∷ codes "--seed" ∷ v ∷ []) (bench_of (Some v) (Some u))
    unfolding defaults_fault
    calls_read = read (codes "--calls") u (codes "--seed") v _ (calls_ends u v plain_u plain_v) refl

-- ---- the numbers

in_range : (a b : Bool) (r : Request) → a ≡ true → b ≡ true → cond (a && b) (Some r) None ≡ Some r
in_range a b r first second = ap₂ (λ (x y : Bool). cond (x && y) (Some r) None) first second

asks_bench : (seed calls : ℕ) → seed < 2 ^ 32 → 1 ≤ calls → calls ≤ 1000 → bench_of (Some (decimal seed)) (Some (decimal calls)) ≡ Some (Bench seed calls)
asks_bench seed calls few some not_many =
    let second : option_and_then (with_calls seed) (number_of (decimal calls)) ≡ with_calls seed calls = ap (option_and_then (with_calls seed)) (written calls (omega (arith, not_many))) in
    ap (option_and_then (λ n. option_and_then (with_calls n) (number_of (decimal calls)))) (written seed few) ∙ (second ∙ in_range (nat_le 1 calls) (nat_le calls 1000) (Bench seed calls) (le-leb 1 calls some) (le-leb calls 1000 not_many))

module _ (at at' : Addresses) (name : Text) (seed calls : ℕ) (few : seed < 2 ^ 32) (some : 1 ≤ calls) (not_many : calls ≤ 1000) where
  plain_calls : IsPlainWord (decimal calls)
  plain_calls = plain_decimal calls (omega (arith, not_many))

  pub seed_first : Reads at at' name (codes "bench" ∷ codes "--seed" ∷ decimal seed ∷ codes "--calls" ∷ decimal calls ∷ []) (Some (Bench seed calls))
  seed_first =
      let read = seed_read at at' name (decimal seed) (decimal calls) (plain_decimal seed few) plain_calls in
      (read.0, read.1 ∙ asks_bench seed calls few some not_many)

  pub calls_first : Reads at at' name (codes "bench" ∷ codes "--calls" ∷ decimal calls ∷ codes "--seed" ∷ decimal seed ∷ []) (Some (Bench seed calls))
  calls_first =
      let read = calls_read at at' name (decimal calls) (decimal seed) plain_calls (plain_decimal seed few) in
      (read.0, read.1 ∙ asks_bench seed calls few some not_many)
