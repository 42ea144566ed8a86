-- Where clap finds no fault in the words, they ask for something, or are those of `bench` without its numbers.
use Rattle.std.proofs.Common.{◌≡◌, ◌∙◌, ◌||◌, ◌⊎◌, ◌++◌, ℕ, Bool, true, false, cond, not, List, [], ◌∷◌, codes, Option, Some, None, inl, inr, refl, sym, ap, subst, is_some, true≢false}
use Rattle.std.specs.Prelude.{IfSome, find}
use Rattle.std.specs.List.{fold, list_any}
use Rattle.std.specs.Option.{option_map}
use Rattle.std.specs.Str.{bytes_eq}
use Rattle.std.proofs.lemmas.Slice.Eq.{bytes_eq-Decides}
use Rattle.clap.specs.Facts.{explicit_source}
use Rattle.clap.specs.Lexer.{long_of, short_of}
use Rattle.clap.specs.Words.{App, Row, Rule, Shape, Text, fault_of, first_of, subcommand_of, built}
use Rattle.clap.specs.Walk.{Held, Names, answers_to, Outcome, Step, Waiting, Walk, after_flag, after_step, arg_by_index, done, finished, idle, long_or_other, nothing_held, option, plain_word, positional, rows_after, settled, short_or_plain, subcommand, subcommand_or_other, to_positional, trailing, value, waits, walk, walked, walked_from}
use Rattle.clap.specs.Simple.{argument_words, built_leaf, entered, inherited, names_of, rows_at}
use Rattle.clap.specs.Faults.{check_fault, defaults_fault, entered_fault, other_fault, settle_fault, turn_fault, walk_fault}
use Rattle.clap.specs.declared.error.kind.ErrorKind.TheVariants.{DisplayHelpOnMissingArgumentOrSubcommand, MissingSubcommand}
use Rattle.ffi3_type_spec.specs.declared.Target.{Target}
use Rattle.ffi3_type_spec.specs.declared.Target.TheVariants.{Amd64, Aapcs64, Riscv, Win64, Apple}
use Rattle.ffi3_cli_spec.specs.declared.words.Request.{Request}
use Rattle.ffi3_cli_spec.specs.declared.words.Request.TheVariants.{OnInput}
use Rattle.ffi3_cli_spec.specs.declared.words.InputCommand.TheVariants.{Layout, Place, Run, Cdecl, Cplace, Explain, Arguments}
use Rattle.ffi3_cli_spec.specs.WordCommands.{Addresses, LacksNumbers, asked, bench_shape, is_set, one_of_words, targets, program, target_of, with_target_of}
use Rattle.ffi3_cli.proofs.Found.{Each, found}
use Rattle.ffi3_cli.proofs.Level.{above, built_target, has_target, has_target_traced, never, or_none, trace_and_help}

-- ---- a step at which no command is met

abbrev MeetsNone : Step → Type 0
MeetsNone (subcommand name) = ⊥
MeetsNone _ = Unit {0}

module _ (c : List Rule) (waiting : Waiting) (word : Text) where
  plain_meets : (w : Waiting) (h : Held) → MeetsNone (plain_word c w word h).1
  plain_meets idle h = tt
  plain_meets _ h = tt

  flag_meets : (h : Held) (o : Outcome) → MeetsNone (after_flag c waiting word h o).1
  flag_meets h done = tt
  flag_meets h (waits id) = tt
  flag_meets h _ = plain_meets waiting h

  short_meets : (flags : Option Text) (h : Held) → MeetsNone (short_or_plain c waiting word flags h).1
  short_meets None h = plain_meets waiting h
  short_meets (Some flags) h = flag_meets _ _

  long_meets : (name : Option (Text × Option Text)) (h : Held) → MeetsNone (long_or_other c waiting word name h).1
  long_meets None h = short_meets (short_of word) h
  long_meets (Some n) h = flag_meets _ _

  other_meets : (are_dashes : Bool) (position : ℕ) (h : Held) → MeetsNone (cond are_dashes (h, trailing position) (long_or_other c waiting word (long_of word) h)).1
  other_meets true position h = tt
  other_meets false position h = long_meets (long_of word) h

goes_to : (c : List Rule) (a : Option Rule) (word : Text) (w : Walk) (h : Held) → w.stopped ≡ None → (to_positional c a word w h).stopped ≡ None
goes_to c None word w h none = none
goes_to c (Some a) word w h none = refl

goes_on : (c : List Rule) (word : Text) (w : Walk) (h : Held) (step : Step) → MeetsNone step → w.stopped ≡ None → (after_step c word w h step).stopped ≡ None
goes_on c word w h (subcommand name) meets none = absurd meets
goes_on c word w h value meets none = goes_to c (arg_by_index c w.position) word w h none
goes_on c word w h _ meets none = none

-- after a command is met the words are left to it
stays : (c : List Rule) (names : Names) (words : List Text) (w : Walk) (name : Text) (seen : List Text) → w.stopped ≡ Some (name, seen) → (left : List Text) × ((fold (walked c names) w words).stopped ≡ Some (name, left))
unfolding walked
stays c names [] w name seen met = (seen, met)
stays c names (word ∷ more) w name seen met =
    stays c names more (walked c names w word) name (seen ++ word ∷ []) (ap (λ o. (walked_from c names o w word).stopped) met)

-- ---- the target

abbrev IsTarget : Text → Type 0
IsTarget v = (t : Target) × (target_of v ≡ Some t)

is_target : (v : Text) (is_amd64 is_aapcs64 is_riscv is_win64 is_apple : Bool) → bytes_eq (codes "amd64") v ≡ is_amd64 → bytes_eq (codes "aapcs64") v ≡ is_aapcs64 → bytes_eq (codes "riscv") v ≡ is_riscv → bytes_eq (codes "win64") v ≡ is_win64 → bytes_eq (codes "apple") v ≡ is_apple → (is_amd64 || (is_aapcs64 || (is_riscv || (is_win64 || (is_apple || false))))) ≡ true → IsTarget v
is_target v true b2 b3 b4 b5 e1 e2 e3 e4 e5 one = subst IsTarget ((bytes_eq-Decides (codes "amd64") v).0 e1) (Amd64, refl)
is_target v false true b3 b4 b5 e1 e2 e3 e4 e5 one = subst IsTarget ((bytes_eq-Decides (codes "aapcs64") v).0 e2) (Aapcs64, refl)
is_target v false false true b4 b5 e1 e2 e3 e4 e5 one = subst IsTarget ((bytes_eq-Decides (codes "riscv") v).0 e3) (Riscv, refl)
is_target v false false false true b5 e1 e2 e3 e4 e5 one = subst IsTarget ((bytes_eq-Decides (codes "win64") v).0 e4) (Win64, refl)
is_target v false false false false true e1 e2 e3 e4 e5 one = subst IsTarget ((bytes_eq-Decides (codes "apple") v).0 e5) (Apple, refl)
is_target v false false false false false e1 e2 e3 e4 e5 one = absurd (true≢false (sym one))

-- ---- what a command asks for

-- the command that was met and its rows ask for something, or are those of `bench` without its numbers
abbrev pub Decides : Option (Text × List Row) → Type 0
Decides met = ((r : Request) × (asked met ≡ Some r)) ⊎ LacksNumbers met

bench_asks : (rows : List Row) (o : Option Request) → asked (Some (codes "bench", rows)) ≡ o → Decides (Some (codes "bench", rows))
bench_asks rows None none = inr (refl, none)
bench_asks rows (Some r) some = inl (r, some)

module _ (at at' : Addresses) where
  abbrev app : App
  app = built (program at at')

  abbrev top : Shape
  top = app.top

  abbrev names : Names
  names = names_of app

  -- a command decides, whatever words without fault come after its name
  abbrev Answers : Text → Type 0
  Answers name =
      (rest : List Text) → entered_fault app (Some (name, rest)) ≡ [] → Decides (entered app (Some (name, rest)))

  places : Answers (codes "place")
  places rest fine =
      let got = has_target (codes "place") (one_of_words at targets) rest fine in
      let is = is_target got.0 _ _ _ _ _ refl refl refl refl refl got.1 in
      inl (OnInput (Place is.0), ap (λ o. with_target_of o (λ t. Place t)) got.2 ∙ ap (option_map (λ t. OnInput (Place t))) is.1)

  runs : Answers (codes "run")
  runs rest fine =
      let got = has_target_traced (codes "run") (one_of_words at' targets) rest fine in
      let is = is_target got.0 _ _ _ _ _ refl refl refl refl refl got.1 in
      let rules = built_target (one_of_words at' targets) ∷ trace_and_help in
      let trace : Bool = is_set (first_of (codes "trace") (rows_after rules [] rest)) in
      inl (OnInput (Run is.0 trace), ap (λ o. with_target_of o (λ t. Run t trace)) got.2 ∙ ap (option_map (λ t. OnInput (Run t trace))) is.1)

  benches : Answers (codes "bench")
  benches rest fine =
      let rows = (rows_at (built_leaf (inherited above bench_shape)) rest).1 in
      bench_asks rows (asked (Some (codes "bench", rows))) refl

  -- the walk stopped at no command, or at one that decides
  abbrev StopsWell : Option (Text × List Text) → Type 0
  StopsWell stop = IfSome stop (λ p. Answers p.0)

  -- ---- the words of the program's own level

  abbrev standing : Held → Waiting → ℕ → Bool → Walk
  standing h waiting position is_trailing =
      record { held = h; waiting = waiting; position = position; is_trailing = is_trailing; stopped = None }

  module _ (h : Held) (waiting : Waiting) (position : ℕ) (word : Text) where
    abbrev here : Walk
    here = standing h waiting position false

    abbrev StopsAt : Option Text → Type 0
    StopsAt met =
        StopsWell (after_step top.rules word here (subcommand_or_other top.rules met waiting position word h).0 (subcommand_or_other top.rules met waiting position word h).1).stopped

    stops_none : StopsAt None
    stops_none =
        let meets = other_meets top.rules waiting word (bytes_eq word (45 ∷ 45 ∷ [])) position h in
        subst StopsWell (sym (goes_on top.rules word here _ _ meets refl)) tt

    -- a word of this name has a fault, as `help`, or the command decides
    abbrev Named : Text × List Text → Type 0
    Named n = other_fault top (Some n.0) word h ≡ [] → Answers n.0

    each_named : Each Named names
    each_named =
        (λ e rest fine. inl (OnInput Layout, refl), (λ e. places, (λ e. runs, (λ e. benches, (λ e rest fine. inl (OnInput Cdecl, refl), (λ e rest fine. inl (OnInput Cplace, refl), (λ e rest fine. inl (OnInput Explain, refl), (λ e rest fine. inl (OnInput Arguments, refl), (λ e. absurd (never e), tt)))))))))

    stops_named : (o : Option (Text × List Text)) → IfSome o Named → other_fault top (option_map (λ n. n.0) o) word h ≡ [] → StopsAt (option_map (λ n. n.0) o)
    stops_named None named fine = stops_none
    stops_named (Some n) named fine = named fine

  one_word : (h : Held) (waiting : Waiting) (position : ℕ) (is_trailing : Bool) (word : Text) → turn_fault top names (standing h waiting position is_trailing) word ≡ [] → StopsWell (walked top.rules names (standing h waiting position is_trailing) word).stopped
  unfolding walked
  one_word h waiting position true word fine = subst StopsWell (sym (goes_to top.rules (arg_by_index top.rules position) word (standing h waiting position true) h refl)) tt
  one_word h idle position false word fine =
      stops_named h idle position word (find (answers_to word) names) (found (Named h idle position word) (answers_to word) names (each_named h idle position word)) (or_none _ _ fine).0
  one_word h (option id) position false word fine = stops_none h (option id) position word
  one_word h positional position false word fine = stops_none h positional position word

  abbrev EndsWell : List Text → Walk → Type 0
  EndsWell words w = StopsWell (fold (walked top.rules names) w words).stopped

  -- after a word, with what is shown of the words after it
  after_word : (more : List Text) → ((h : Held) (waiting : Waiting) (position : ℕ) (is_trailing : Bool) → walk_fault top names (standing h waiting position is_trailing) more ≡ [] → EndsWell more (standing h waiting position is_trailing)) → (w : Walk) (stop : Option (Text × List Text)) → w.stopped ≡ stop → StopsWell stop → walk_fault top names w more ≡ [] → EndsWell more w
  after_word more shown w None is well fine =
      let same : w ≡ standing w.held w.waiting w.position w.is_trailing = λ i. record { held = w.held; waiting = w.waiting; position = w.position; is_trailing = w.is_trailing; stopped = is i } in
      subst (EndsWell more) (sym same) (shown w.held w.waiting w.position w.is_trailing (subst (λ (x : Walk). walk_fault top names x more ≡ []) same fine))
  after_word more shown w (Some p) is well fine = subst StopsWell (sym (stays top.rules names more w p.0 p.1 is).1) well

  all_words : (words : List Text) (h : Held) (waiting : Waiting) (position : ℕ) (is_trailing : Bool) → walk_fault top names (standing h waiting position is_trailing) words ≡ [] → EndsWell words (standing h waiting position is_trailing)
  unfolding walk_fault
  all_words [] h waiting position is_trailing fine = tt
  all_words (word ∷ more) h waiting position is_trailing fine =
      let parts = or_none _ _ fine in
      let w = walked top.rules names (standing h waiting position is_trailing) word in
      after_word more (all_words more) w w.stopped refl (one_word h waiting position is_trailing word parts.0) parts.1

  -- ---- at the end

  wants : (wants_help : Bool) → cond wants_help (DisplayHelpOnMissingArgumentOrSubcommand ∷ []) (MissingSubcommand ∷ []) ≡ [] → ⊥
  wants true fine = never fine
  wants false fine = never fine

  asks : (rs : List Row) (stop : Option (Text × List Text)) → StopsWell stop → entered_fault app stop ≡ [] → check_fault top rs (is_some (entered app stop)) ≡ [] → Decides (entered app stop)
  asks rs None well fine checked = absurd (wants (not (list_any (λ (r : Row). explicit_source r.source) rs)) checked)
  asks rs (Some p) well fine checked = well p.1 fine

  abbrev at_end : List Text → Walk
  at_end words = walk top.rules names nothing_held (argument_words (program at at') words)

  pub something_asked : (words : List Text) → fault_of (program at at') words ≡ [] → Decides (subcommand_of (program at at') words)
  something_asked words fine =
      let end = at_end words in
      let walked_well = or_none _ _ fine in
      let entered_well = or_none (entered_fault app end.stopped) _ walked_well.1 in
      let settled_well = or_none (settle_fault top.rules top.args_override_self end.held) _ entered_well.1 in
      let checked = or_none (defaults_fault (settled top.rules end.held).rows top.rules) (check_fault top (finished top.rules end.held) (is_some (entered app end.stopped))) settled_well.1 in
      let well = all_words (argument_words (program at at') words) nothing_held idle 1 false walked_well.0 in
      asks (finished top.rules end.held) end.stopped well entered_well.0 checked.1
