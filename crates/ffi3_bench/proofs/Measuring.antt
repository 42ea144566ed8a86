-- What a sink for a line has taken once a run has ended.
use Rattle.std.proofs.Common.{◌≡◌, ℕ, zero, suc, ◌-◌, ◌<◌, ◌≤◌, inl, inr, List, [], ◌∷◌, ◌++◌, length, map, take, Some, refl, sym, ap, subst, ◌∙◌, arith, lit<}
use Rattle.std.specs.Prelude.{unwrap_or}
use Rattle.ffi3_type_spec.specs.Value.{void_value}
use Rattle.ffi3_place_spec.specs.Standard.{Standard}
use Rattle.ffi3_semantics_spec.specs.declared.Stop.{Stop}
use Rattle.ffi3_semantics_spec.specs.Lines.{untraced, text_of_run}
use Rattle.ffi3_semantics_spec.specs.Meaning.{Program, meaning_of, returned, stopped, most_moves, main_call}
use Rattle.ffi3_semantics_spec.specs.Closures.{no_closures}
use Rattle.ffi3_semantics_spec.proofs.Recursion.{is_plain_recursion}
use Rattle.ffi3_script_spec.specs.Meaning.{program_of}
use Rattle.ffi3_script_spec.specs.Natives.{NamedNative}
use Rattle.ffi3_script_spec.proofs.Natives.{beside_none}
use Rattle.ffi3_script.specs.ScriptOf.{script_of}
use Rattle.ffi3_script.specs.declared.script.Script.{Script}
use Rattle.ffi3_runner.specs.Running.{program}
use Rattle.ffi3_io_spec.specs.Sink.{Adds, Rose}
use Rattle.ffi3_machine_spec.specs.State.{State}
use Rattle.ffi3_run_spec.specs.RunMatches.{RunMatches, WrotePart}
use Rattle.ffi3_app_spec.specs.BenchText.{HasWholeJournal, moves_of}

told : (text taken : List ℕ) (before : List ℕ) → before ≡ [] → Adds (Some before) text (Some taken) → taken ≡ text
told text taken before none adds =
    let h = adds taken refl in
    let first : before ≡ h.0 = ap (λ o. unwrap_or o []) h.1 in
    h.2 ∙ ap (λ s. s ++ text) (sym first ∙ none)

take_within : {X : Type 0} (n : ℕ) (xs : List X) → length (take n xs) ≤ length xs
take_within zero xs = omega arith
take_within (suc n) [] = omega arith
take_within (suc n) (x ∷ xs) = omega (arith, take_within n xs)

risen : (f g : ℕ) → f ≡ 0 → Rose f g → 0 < g
risen f g none (inl more) = omega (arith, more)
risen f g none (inr last) = subst (λ n. 0 < n) (sym last) (lit< tt)

module _ (std : Standard) (q p : Program) (same : q ≡ p) where
  pub line_is : (before taken : List ℕ) (f g : ℕ) (m : State) → before ≡ [] → RunMatches untraced std q (record { taken = Some before; faults = f }) (record { taken = Some taken; faults = g }) m → taken ≡ text_of_run untraced p
  line_is before taken f g m none matches =
      told (text_of_run untraced q) taken before none matches.written.added ∙ ap (text_of_run untraced) same

  pub journal_is : (before taken : List ℕ) (f g : ℕ) (m : State) → RunMatches untraced std q (record { taken = Some before; faults = f }) (record { taken = Some taken; faults = g }) m → HasWholeJournal std p m
  journal_is before taken f g m matches =
      subst (λ (r : Program). HasWholeJournal std r m) same (record { journal = matches.journal; whole = matches.whole })

  -- a short line leaves room, so nothing failed
  pub never_fails : (before taken : List ℕ) (f g : ℕ) → before ≡ [] → f ≡ 0 → length (text_of_run untraced p) ≤ 21 → (0 < g → length taken ≡ 22) → WrotePart untraced q (record { taken = Some before; faults = f }) (record { taken = Some taken; faults = g }) → Rose f g → ⊥
  never_fails before taken f g none no_fault short full part rose =
      let is : taken ≡ take part.0 (text_of_run untraced q) = told (take part.0 (text_of_run untraced q)) taken before none part.1 in
      let few = take_within part.0 (text_of_run untraced q) in
      let same_length : length (text_of_run untraced q) ≡ length (text_of_run untraced p) = ap (λ (r : Program). length (text_of_run untraced r)) same in
      let all : length taken ≡ 22 = full (risen f g no_fault rose) in
      let long : length taken ≡ length (take part.0 (text_of_run untraced q)) = ap length is in
      absurd (omega (arith, few, same_length, all, long, short))

  pub never_stops : (stop : Stop) → (meaning_of p).end ≡ returned void_value → (meaning_of q).end ≡ stopped stop → ⊥
  never_stops stop ends stops =
      let both : returned void_value ≡ stopped stop = sym ends ∙ sym (ap (λ (r : Program). (meaning_of r).end) same) ∙ stops in
      cc

  pub moves_are : (left : ℕ) → left ≡ (meaning_of q).moves → most_moves - left ≡ moves_of p
  moves_are left is =
      ap (λ n. most_moves - n) (is ∙ ap (λ (r : Program). (meaning_of r).moves) same)

pub few_left : (q : Program) (left : ℕ) → left ≡ (meaning_of q).moves → left ≤ 10000
few_left q left is =
    omega (arith, is, (is_plain_recursion q).never_rise main_call no_closures most_moves)

pub none_mapped : {X Y : Type 0} (f : X → Y) (xs : List X) → xs ≡ [] → map f xs ≡ []
none_mapped f xs none = ap (map f) none

-- the program of a run beside no natives
pub alone : (std : Standard) (t s : Script) (natives : List NamedNative) → t ≡ s → natives ≡ [] → program std t natives ≡ program_of std (script_of s)
alone std t s natives same none =
    ap (λ (u : Script). program std u natives) same ∙ ap (program std s) none ∙ beside_none std (script_of s)
