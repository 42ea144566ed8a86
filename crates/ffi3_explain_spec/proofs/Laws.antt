-- The laws of the explanation.
use Rattle.std.specs.Prelude.{◌==◌, ◌≢◌, cond, Option, Some, None}
use Rattle.std.proofs.Common.{◌≡◌, ℕ, ◌+◌, ◌≤◌, Bool, true, false, List, [], ◌∷◌, ◌++◌, length, refl, ap, ◌∙◌, subst, arith}
use Rattle.std.specs.List.{AllByRecursion}
use Rattle.std.proofs.lemmas.Bool.Decides.{nat_tests}
use Rattle.ffi3_type_spec.specs.TargetIsa.{isa_of}
use Rattle.ffi3_type_spec.specs.Signature.{Signature, SignatureHasNoFault}
use Rattle.ffi3_type_spec.specs.Value.{ValueTree}
use Rattle.ffi3_type_spec.proofs.Placed.{faultless_is_plain}
use Rattle.ffi3_type_spec.proofs.Right.{argument_is_laid_out}
use Rattle.ffi3_place_spec.specs.declared.Loc.{Loc}
use Rattle.ffi3_place_spec.specs.declared.Res.{Res}
use Rattle.ffi3_place_spec.specs.declared.Res.TheVariants.{Hidden as HiddenRes}
use Rattle.ffi3_place_spec.specs.Image.{Image}
use Rattle.ffi3_place_spec.specs.Standard.{Standard, frame_of, plan_of}
use Rattle.ffi3_place_spec.specs.Sound.{IsSound, LiesIn, argument_locs, copy_locs, buffer_locs}
use Rattle.ffi3_place_spec.specs.Holds.{Holds, OwnsHidden, RegisterHolds}
use Rattle.ffi3_explain_spec.specs.declared.Check.{Check}
use Rattle.ffi3_explain_spec.specs.Explain.{holds_values, is_broken_at, explained_by, explained, checks, checks_of_arguments, checks_of_hidden, checks_of_count, first_broken, values_at_places}
use Rattle.ffi3_explain_spec.specs.Laws.{HasWords, IsHeld, IsFirstBroken, ExplanationLaws, IsExplained}
use Rattle.ffi3_explain_spec.proofs.Places.{arguments_owned, arguments_held, join, left_part, right_part}

-- ---- the first that is not held

same_number : (c : Check) → (c.found == c.wants) ≡ true → IsHeld c
same_number c e = grind (arith, nat_tests, e)

number_same : (c : Check) → IsHeld c → (c.found == c.wants) ≡ true
number_same c e = grind (arith, nat_tests, e)

other_number : (c : Check) → (c.found == c.wants) ≡ false → c.found ≢ c.wants
other_number c e = λ same. let yes = number_same c same in cc

pub all_held : (cs : List Check) → first_broken cs ≡ None → AllByRecursion IsHeld cs
all_held [] e = tt
all_held (c ∷ cs) e =
    let by_case : (b : Bool) → (c.found == c.wants) ≡ b → cond b (first_broken cs) (Some c) ≡ None → AllByRecursion IsHeld (c ∷ cs) = λ b. elim b as (λ d. (c.found == c.wants) ≡ d → cond d (first_broken cs) (Some c) ≡ None → AllByRecursion IsHeld (c ∷ cs)) [ true ↦ λ is none. (same_number c is, all_held cs none) | false ↦ λ is none. cc ] in
    by_case (c.found == c.wants) refl e

pub none_broken : (cs : List Check) → AllByRecursion IsHeld cs → first_broken cs ≡ None
none_broken [] h = refl
none_broken (c ∷ cs) h =
    ap (λ b. cond b (first_broken cs) (Some c)) (number_same c h.0) ∙ none_broken cs h.1

further : (c d : Check) (cs : List Check) → IsHeld d → IsFirstBroken cs c → IsFirstBroken (d ∷ cs) c
further c d cs held first = record {
  before = d ∷ first.before;
  after = first.after;
  parts = ap (λ xs. d ∷ xs) first.parts;
  held = (held, first.held);
  broken = first.broken;
}

pub broken_first : (cs : List Check) (c : Check) → first_broken cs ≡ Some c → IsFirstBroken cs c
broken_first [] c e = cc
broken_first (d ∷ cs) c e =
    let by_case : (b : Bool) → (d.found == d.wants) ≡ b → cond b (first_broken cs) (Some d) ≡ Some c → IsFirstBroken (d ∷ cs) c = λ b. elim b as (λ x. (d.found == d.wants) ≡ x → cond x (first_broken cs) (Some d) ≡ Some c → IsFirstBroken (d ∷ cs) c) [
      | true ↦ λ is some. further c d cs (same_number d is) (broken_first cs c some)
      | false ↦ λ is some. let same : d ≡ c = cc in
          let tail : d ∷ cs ≡ c ∷ cs = ap (λ x. x ∷ cs) same in
          record { before = []; after = cs; parts = tail; held = tt; broken = subst (λ x. x.found ≢ x.wants) same (other_number d is) }
    ] in
    by_case (d.found == d.wants) refl e

-- ---- the address of a hidden result, and the number of vector registers

hidden_checked : (m : Image) (base : ℕ) (r : Res) → (AllByRecursion IsHeld (checks_of_hidden m base r) → OwnsHidden m base r) × (OwnsHidden m base r → AllByRecursion IsHeld (checks_of_hidden m base r))
hidden_checked m base (HiddenRes at buffer) = (λ h. h.0, λ h. (h, tt))
hidden_checked m base _ = (λ h. tt, λ h. tt)

count_checked : (m : Image) (at : Option Loc) (n : ℕ) → (AllByRecursion IsHeld (checks_of_count m at n) → RegisterHolds m at n) × (RegisterHolds m at n → AllByRecursion IsHeld (checks_of_count m at n))
count_checked m (Some at) n = (λ h. h.0, λ h. (h, tt))
count_checked m None n = (λ h. tt, λ h. tt)

-- ---- the laws

module _ (std : Standard) (s : Signature) (m : Image) (right : SignatureHasNoFault s) (sound : IsSound std s) (has : HasWords m) (reaches : std.link + frame_of std s ≤ length m.stack) where
  abbrev of_arguments : List Check
  of_arguments = checks_of_arguments m std.link 0 s.arguments (plan_of std s).places

  abbrev of_hidden : List Check
  of_hidden = checks_of_hidden m std.link (plan_of std s).res

  abbrev of_count : List Check
  of_count = checks_of_count m std.vector_count (plan_of std s).vectors

  abbrev read : List ValueTree
  read = values_at_places m std.link s.arguments (plan_of std s).places

  copies_lie : AllByRecursion (LiesIn (isa_of std.target) (frame_of std s)) (copy_locs s.arguments (plan_of std s).places)
  copies_lie =
      left_part _ (copy_locs s.arguments (plan_of std s).places) (buffer_locs s.result_type (plan_of std s).res) (right_part _ (argument_locs (plan_of std s)) (copy_locs s.arguments (plan_of std s).places ++ buffer_locs s.result_type (plan_of std s).res) (sound.on_machine (faultless_is_plain s right)).in_frame)

  held_holds : AllByRecursion IsHeld (checks std s m) → Holds std s read m
  held_holds held =
      let owned = arguments_owned m std.link has (isa_of std.target) (frame_of std s) reaches 0 s.arguments (plan_of std s).places (argument_is_laid_out s right) sound.has_all copies_lie (left_part IsHeld of_arguments (of_hidden ++ of_count) held) in
      let rest = right_part IsHeld of_arguments (of_hidden ++ of_count) held in
      record {
        own = record {
          reaches = reaches;
          arguments = owned.0;
          hidden = (hidden_checked m std.link (plan_of std s).res).0 (left_part IsHeld of_hidden of_count rest);
        };
        filled = owned.1;
        vectors = (count_checked m std.vector_count (plan_of std s).vectors).0 (right_part IsHeld of_hidden of_count rest);
      }

  holds_held : (vs : List ValueTree) → Holds std s vs m → AllByRecursion IsHeld (checks std s m) × (read ≡ vs)
  holds_held vs holds =
      let arguments = arguments_held m std.link has 0 s.arguments (plan_of std s).places vs sound.has_all holds.own.arguments holds.filled in
      let hidden = (hidden_checked m std.link (plan_of std s).res).1 holds.own.hidden in
      let count = (count_checked m std.vector_count (plan_of std s).vectors).1 holds.vectors in
      (join IsHeld of_arguments (of_hidden ++ of_count) arguments.0 (join IsHeld of_hidden of_count hidden count), arguments.1)

  values_explained : (vs : List ValueTree) → Holds std s vs m → explained std s m ≡ holds_values vs
  values_explained vs holds =
      let both = holds_held vs holds in
      ap (explained_by read) (none_broken (checks std s m) both.0) ∙ ap holds_values both.1

  explained_values : (vs : List ValueTree) → explained std s m ≡ holds_values vs → Holds std s vs m
  explained_values vs is =
      let by_case : (o : Option Check) → first_broken (checks std s m) ≡ o → explained_by read o ≡ holds_values vs → Holds std s vs m = λ o. elim o as (λ x. first_broken (checks std s m) ≡ x → explained_by read x ≡ holds_values vs → Holds std s vs m) [
        | None ↦ λ e same. let values : read ≡ vs = cc in
            subst (λ ws. Holds std s ws m) values (held_holds (all_held (checks std s m) e))
        | Some c ↦ λ e same. cc
      ] in
      by_case (first_broken (checks std s m)) refl is

  broken_told : (c : Check) → explained std s m ≡ is_broken_at c → IsFirstBroken (checks std s m) c × ((vs : List ValueTree) → ¬ Holds std s vs m)
  broken_told c is =
      let by_case : (o : Option Check) → first_broken (checks std s m) ≡ o → explained_by read o ≡ is_broken_at c → IsFirstBroken (checks std s m) c = λ o. elim o as (λ x. first_broken (checks std s m) ≡ x → explained_by read x ≡ is_broken_at c → IsFirstBroken (checks std s m) c) [
        | None ↦ λ e same. cc
        | Some d ↦ λ e same. let here : d ≡ c = cc in
            broken_first (checks std s m) c (e ∙ ap Some here)
      ] in
      (by_case (first_broken (checks std s m)) refl is, λ vs holds. let other = values_explained vs holds in cc)

  explanation_laws : ExplanationLaws std s m
  explanation_laws = record {
    held = held_holds;
    holds = holds_held;
    values = λ vs. (values_explained vs, explained_values vs);
    broken = broken_told;
  }

pub is_explained : (std : Standard) (s : Signature) (m : Image) → IsExplained std s m
is_explained std s m right sound has reaches = explanation_laws std s m right sound has reaches
