-- What the loop over the arguments keeps, as they are read by the standard alone; and what is told at its end.
use Rattle.std.specs.Prelude.{slice_get, ◌-◌, cond, Bool, Option, Some, None, true, false}
use Rattle.std.proofs.Common.{◌≡◌, ℕ, suc, ◌+◌, ◌<◌, ◌≤◌, List, [], ◌∷◌, ◌++◌, drop, length, refl, ap, sym, ◌∙◌, subst, arith, append_assoc, append-nil, length-append}
use Rattle.std.proofs.lemmas.Option.{get_or_from_slice_get, slice_get_within}
use Rattle.ffi3_type_spec.specs.Tree.{Tree, tree_at, trees_of}
use Rattle.ffi3_type_spec.specs.Signature.{Signature, SignatureHasNoFault}
use Rattle.ffi3_type_spec.specs.Value.{ValueTree, all_fit, values_of}
use Rattle.ffi3_place_spec.specs.declared.Place.{Place}
use Rattle.ffi3_place_spec.specs.Image.{Image}
use Rattle.ffi3_place_spec.specs.Standard.{Standard, plan_of}
use Rattle.ffi3_place_spec.specs.Sound.{IsSound, PlaceHasAll}
use Rattle.ffi3_place_spec.specs.Holds.{Own}
use Rattle.ffi3_place_spec.proofs.Elements.{drop_read, argument_read}
use Rattle.ffi3_explain_spec.specs.declared.Outside.{Outside}
use Rattle.ffi3_explain_spec.specs.Arguments.{are_values, points_outside, arguments_by, first_outside, held_by_standard, is_in_image, offset_in, or_later, outside_of, value_by_standard, values_by_standard}
use Rattle.ffi3_explain_spec.proofs.Arguments.{are_read}
use Rattle.ffi3_explain.specs.declared.reading.Unread.{Unread}
use Rattle.ffi3_explain.specs.declared.reading.Unread.TheVariants.{PointsOutside, NoMemory}
use Rattle.ffi3_explain.specs.Places.{ArgumentIsThere, ArgumentsAreReady}
use Rattle.ffi3_explain.specs.Told.{TellsFirstOutside, TellsOutside}
use Rattle.std.proofs.lemmas.List.{drop_all}

-- ---- where an address points

module _ (m : Image) (address size : ℕ) where
  some_is : (b : Bool) (offset : ℕ) → cond b (Some (address - m.sp)) None ≡ Some offset → (b ≡ true) × (offset ≡ address - m.sp)
  some_is true offset e = (refl, cc)
  some_is false offset e = cc

  pub found_inside : (offset : ℕ) → offset_in m address size ≡ Some offset → (is_in_image m address size ≡ true) × (offset ≡ address - m.sp)
  found_inside offset e = some_is (is_in_image m address size) offset e

-- the arguments from number i on are still to be read
pub record IsLeftToRead (m : Image) (base : ℕ) (ts : List Tree) (ps : List Place) (i : ℕ) (values : List ValueTree) : Type 0 where
  pub count : length values ≡ i
  pub same : first_outside m base 0 ts ps ≡ first_outside m base i (drop i ts) (drop i ps)
  pub read : values_by_standard m base ts ps ≡ values ++ values_by_standard m base (drop i ts) (drop i ps)
  pub ready : ArgumentsAreReady m base (drop i ts) (drop i ps)

pub all_to_read : (m : Image) (base : ℕ) (ts : List Tree) (ps : List Place) (values : List ValueTree) → values ≡ [] → ArgumentsAreReady m base ts ps → IsLeftToRead m base ts ps 0 values
all_to_read m base ts ps values none ready = record {
  count = ap length none;
  same = refl;
  read = ap (λ vs. vs ++ values_by_standard m base ts ps) (sym none);
  ready = ready;
}

module _ (m : Image) (base : ℕ) (ts : List Tree) (ps : List Place) (i : ℕ) (values : List ValueTree) (t : Tree) (p : Place) (below : i < length ts) (type_is : t ≡ tree_at ts i) (place_is : slice_get ps i ≡ Some p) (left : IsLeftToRead m base ts ps i values) where
  types : drop i ts ≡ t ∷ drop (i + 1) ts
  types = argument_read ts i t below type_is

  places : drop i ps ≡ p ∷ drop (i + 1) ps
  places =
      drop_read ps i p (slice_get_within ps i p place_is) (sym (get_or_from_slice_get ps i p p place_is))

  pub ready_to_read : ArgumentIsThere m base p × PlaceHasAll t p × ArgumentsAreReady m base (drop (i + 1) ts) (drop (i + 1) ps)
  ready_to_read =
      let first = subst (λ us. ArgumentsAreReady m base us (drop i ps)) types left.ready in
      subst (ArgumentsAreReady m base (t ∷ drop (i + 1) ts)) places first

  abbrev later : Option Outside
  later = first_outside m base (suc i) (drop (i + 1) ts) (drop (i + 1) ps)

  here : first_outside m base 0 ts ps ≡ or_later (outside_of m base i t p) later
  here =
      left.same ∙ ap (λ us. first_outside m base i us (drop i ps)) types ∙ ap (λ qs. first_outside m base i (t ∷ drop (i + 1) ts) qs) places

  pub tells_outside : (f : Unread) → TellsFirstOutside (outside_of m base i t p) f → TellsFirstOutside (first_outside m base 0 ts ps) f
  tells_outside (PointsOutside o) is = here ∙ ap (λ x. or_later x later) is
  tells_outside NoMemory is = tt

  pub read_further : (v : ValueTree) (more : List ValueTree) → v ≡ value_by_standard m base t p → outside_of m base i t p ≡ None → more ≡ values ++ v ∷ [] → IsLeftToRead m base ts ps (i + 1) more
  read_further v more is inside pushed =
      let next : suc i ≡ i + 1 = omega arith in
      let rest = values_by_standard m base (drop (i + 1) ts) (drop (i + 1) ps) in
      let whole : values_by_standard m base (drop i ts) (drop i ps) ≡ v ∷ values_by_standard m base (drop (i + 1) ts) (drop (i + 1) ps) = ap (λ us. values_by_standard m base us (drop i ps)) types ∙ ap (λ qs. values_by_standard m base (t ∷ drop (i + 1) ts) qs) places ∙ ap (λ w. w ∷ values_by_standard m base (drop (i + 1) ts) (drop (i + 1) ps)) (sym is) in
      record {
        count = ap length pushed ∙ length-append values (v ∷ []) ∙ ap (λ n. n + 1) left.count;
        same = here ∙ ap (λ x. or_later x later) inside ∙ ap (λ n. first_outside m base n (drop (i + 1) ts) (drop (i + 1) ps)) next;
        read = left.read ∙ ap (λ vs. values ++ vs) whole ∙ sym (append_assoc values (v ∷ []) rest) ∙ ap (λ vs. vs ++ rest) (sym pushed);
        ready = ready_to_read.2;
      }

none_outside : (m : Image) (base i : ℕ) (ps : List Place) → first_outside m base i [] ps ≡ None
none_outside m base i [] = refl
none_outside m base i (p ∷ ps) = refl

none_to_read : (m : Image) (base : ℕ) (ps : List Place) → values_by_standard m base [] ps ≡ []
none_to_read m base [] = refl
none_to_read m base (p ∷ ps) = refl

pub all_read : (m : Image) (base : ℕ) (ts : List Tree) (ps : List Place) (i : ℕ) (values : List ValueTree) → length ts ≤ i → IsLeftToRead m base ts ps i values → (values ≡ values_by_standard m base ts ps) × (first_outside m base 0 ts ps ≡ None)
all_read m base ts ps i values end left = (
  sym (left.read ∙ ap (λ us. values ++ values_by_standard m base us (drop i ps)) (drop_all i ts end) ∙ ap (λ vs. values ++ vs) (none_to_read m base (drop i ps)) ∙ append-nil values),
  left.same ∙ ap (λ us. first_outside m base i us (drop i ps)) (drop_all i ts end) ∙ none_outside m base i (drop i ps),
)

-- ---- what is told

module _ (std : Standard) (s : Signature) (m : Image) (base : ℕ) (link : base ≡ std.link) where
  abbrev read : List ValueTree
  read = values_by_standard m base s.arguments (plan_of std s).places

  abbrev first : Option Outside
  first = first_outside m base 0 s.arguments (plan_of std s).places

  by_link : held_by_standard std s m ≡ arguments_by read first
  by_link =
      ap (λ b. arguments_by (values_by_standard m b s.arguments (plan_of std s).places) (first_outside m b 0 s.arguments (plan_of std s).places)) (sym link)

  pub told_values : (vs : List ValueTree) → vs ≡ read → first ≡ None → held_by_standard std s m ≡ are_values vs
  told_values vs are none =
      by_link ∙ ap (arguments_by read) none ∙ ap are_values (sym are)

  pub told_outside : (f : Unread) → TellsFirstOutside first f → TellsOutside (held_by_standard std s m) f
  told_outside (PointsOutside o) is = by_link ∙ ap (arguments_by read) is
  told_outside NoMemory is = tt

module _ (std : Standard) (s : Signature) (m : Image) (right : SignatureHasNoFault s) (sound : IsSound std s) where
  pub values_fit : (vs : List ValueTree) → held_by_standard std s m ≡ are_values vs → all_fit (trees_of s.arguments) (values_of vs) ≡ true
  values_fit vs is = (are_read std s m right sound).fit vs is

  module _ (vs : List ValueTree) (own : Own std s vs m) where
    pub owned_values : (v : List ValueTree) → held_by_standard std s m ≡ are_values v → v ≡ vs
    owned_values v is =
        let same : are_values v ≡ are_values vs = sym is ∙ (are_read std s m right sound).owned vs own in
        cc

    pub owned_fault : (f : Unread) → TellsOutside (held_by_standard std s m) f → f ≡ NoMemory
    owned_fault (PointsOutside o) is =
        let same : points_outside o ≡ are_values vs = sym is ∙ (are_read std s m right sound).owned vs own in
        cc
    owned_fault NoMemory is = refl
