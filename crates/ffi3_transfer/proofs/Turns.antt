-- What the loops over the arguments keep, as they are collected.
use Rattle.std.specs.Prelude.{slice_get, Option, Some, None, true, false, cond}
use Rattle.std.proofs.Common.{◌≡◌, Bool, ℕ, suc, zero, ◌+◌, ◌<◌, ◌≤◌, List, [], ◌∷◌, ◌++◌, take, drop, get_or, length, refl, ap, sym, ◌∙◌, subst, arith, length-drop}
use Rattle.std.proofs.lemmas.List.{ext_get_or, get_or-drop, get_or-take, length-append, length-take-le}
use Rattle.ffi3_type_spec.specs.Tree.{Tree, tree_at}
use Rattle.ffi3_type_spec.specs.Layout.{size_of}
use Rattle.ffi3_type_spec.specs.Value.{part, value_in}
use Rattle.ffi3_type_spec.proofs.Parts.{length_part, inside_part, above_part}
use Rattle.ffi3_place_spec.specs.declared.Place.{Place}
use Rattle.ffi3_place_spec.specs.declared.Place.TheVariants.{Direct, ByRef}
use Rattle.ffi3_place_spec.specs.Image.{Image, word_at}
use Rattle.ffi3_place_spec.specs.Standard.{round8}
use Rattle.ffi3_place_spec.specs.Sound.{PlaceHasAll}
use Rattle.ffi3_place_spec.proofs.Elements.{argument_read}
use Rattle.ffi3_marshal.proofs.Arguments.{place_read}
use Rattle.ffi3_explain_spec.specs.declared.Outside.{Outside}
use Rattle.ffi3_explain_spec.specs.Arguments.{first_outside, is_in_image, or_later, outside_of, value_by_standard, values_by_standard}
use Rattle.ffi3_transfer.specs.Places.{ArgumentIsThere, ArgumentsAreReady}
use Rattle.ffi3_transfer.specs.Packed.{HasZeroPadding, HaveZeroPadding, packed_size, values_packed, first_in, behind}
use Rattle.ffi3_transfer.proofs.Packing.{packed_open, behind_drop}

-- an address that points outside does so whatever the argument's number
pub same_outside : (m : Image) (base i j : ℕ) (t : Tree) (p : Place) → outside_of m base i t p ≡ None → outside_of m base j t p ≡ None
same_outside m base i j t (Direct pieces) e = refl
same_outside m base i j t (ByRef at copy) e = by_test (is_in_image m (word_at m base at) (size_of t)) e
  where
    by_test : (b : Bool) → cond {A = Option Outside} b None (Some (record { argument = i; address = word_at m base at })) ≡ None → cond {A = Option Outside} b None (Some (record { argument = j; address = word_at m base at })) ≡ None
    by_test true e = refl
    by_test false e = cc

ready_drop : (m : Image) (base j : ℕ) (ts : List Tree) (ps : List Place) → ArgumentsAreReady m base ts ps → ArgumentsAreReady m base (drop j ts) (drop j ps)
ready_drop m base zero ts ps h = h
ready_drop m base (suc j) [] [] h = tt
ready_drop m base (suc j) (t ∷ ts) (p ∷ ps) h = ready_drop m base j ts ps h.2
ready_drop m base (suc j) _ _ h = absurd h

pub ready_at : (m : Image) (base j : ℕ) (ts : List Tree) (ps : List Place) (t : Tree) (p : Place) → drop j ts ≡ t ∷ drop (j + 1) ts → drop j ps ≡ p ∷ drop (j + 1) ps → ArgumentsAreReady m base ts ps → ArgumentIsThere m base p × PlaceHasAll t p × ArgumentsAreReady m base (drop (j + 1) ts) (drop (j + 1) ps)
ready_at m base j ts ps t p types places h =
    subst (ArgumentsAreReady m base (t ∷ drop (j + 1) ts)) places (subst (λ us. ArgumentsAreReady m base us (drop j ps)) types (ready_drop m base j ts ps h))

-- the argument at j, and its place
pub record AtArgument (ts : List Tree) (ps : List Place) (j : ℕ) (t : Tree) (p : Place) : Type 0 where
  pub types : drop j ts ≡ t ∷ drop (j + 1) ts
  pub places : drop j ps ≡ p ∷ drop (j + 1) ps

pub at_argument : (ts us : List Tree) (ps : List Place) (j : ℕ) (t : Tree) (p : Place) → us ≡ ts → j < length ts → t ≡ tree_at us j → slice_get ps j ≡ Some p → AtArgument ts ps j t p
at_argument ts us ps j t p same below type_is place_is = record {
  types = argument_read ts j t below (type_is ∙ ap (λ xs. tree_at xs j) same);
  places = place_read ps j p place_is;
}

-- ---- the first address that points outside

-- those of the arguments before number i point inside
pub record AreInside (m : Image) (base : ℕ) (ts : List Tree) (ps : List Place) (i : ℕ) : Type 0 where
  pub same : first_outside m base 0 ts ps ≡ first_outside m base i (drop i ts) (drop i ps)
  pub ready : ArgumentsAreReady m base (drop i ts) (drop i ps)

module _ (m : Image) (base : ℕ) (ts : List Tree) (ps : List Place) (i : ℕ) (t : Tree) (p : Place) (types : drop i ts ≡ t ∷ drop (i + 1) ts) (places : drop i ps ≡ p ∷ drop (i + 1) ps) (left : AreInside m base ts ps i) where
  pub ready_here : ArgumentIsThere m base p × PlaceHasAll t p × ArgumentsAreReady m base (drop (i + 1) ts) (drop (i + 1) ps)
  ready_here =
      subst (ArgumentsAreReady m base (t ∷ drop (i + 1) ts)) places (subst (λ us. ArgumentsAreReady m base us (drop i ps)) types left.ready)

  abbrev later : Option Outside
  later = first_outside m base (suc i) (drop (i + 1) ts) (drop (i + 1) ps)

  here : first_outside m base 0 ts ps ≡ or_later (outside_of m base i t p) later
  here =
      left.same ∙ ap (λ us. first_outside m base i us (drop i ps)) types ∙ ap (λ qs. first_outside m base i (t ∷ drop (i + 1) ts) qs) places

  pub found_here : (o : Outside) → outside_of m base i t p ≡ Some o → Some o ≡ first_outside m base 0 ts ps
  found_here o is = sym (here ∙ ap (λ x. or_later x later) is)

  pub inside_here : outside_of m base i t p ≡ None → AreInside m base ts ps (i + 1)
  inside_here none =
      let next : suc i ≡ i + 1 = omega arith in
      record {
        same = here ∙ ap (λ x. or_later x later) none ∙ ap (λ n. first_outside m base n (drop (i + 1) ts) (drop (i + 1) ps)) next;
        ready = ready_here.2;
      }

-- where none points outside, no one does
split : (x y : Option Outside) → or_later x y ≡ None → (x ≡ None) × (y ≡ None)
split None y e = (refl, e)
split (Some o) y e = cc

pub each_inside : (m : Image) (base i j : ℕ) (ts : List Tree) (ps : List Place) (t : Tree) (p : Place) → first_outside m base j ts ps ≡ None → drop i ts ≡ t ∷ drop (i + 1) ts → drop i ps ≡ p ∷ drop (i + 1) ps → outside_of m base 0 t p ≡ None
each_inside m base zero j [] ps t p none types places = absurd (omega (arith, ap length types))
each_inside m base zero j (u ∷ ts) [] t p none types places = absurd (omega (arith, ap length places))
each_inside m base zero j (u ∷ ts) (q ∷ ps) t p none types places =
    let t_is : u ≡ t = cc in
    let p_is : q ≡ p = cc in
    subst (λ x. outside_of m base 0 x p ≡ None) t_is (subst (λ x. outside_of m base 0 u x ≡ None) p_is (same_outside m base j 0 u q (split (outside_of m base j u q) (first_outside m base (suc j) ts ps) none).0))
each_inside m base (suc i) j [] ps t p none types places = absurd (omega (arith, ap length types))
each_inside m base (suc i) j (u ∷ ts) [] t p none types places = absurd (omega (arith, ap length places))
each_inside m base (suc i) j (u ∷ ts) (q ∷ ps) t p none types places =
    let one_more : suc i + 1 ≡ suc (i + 1) = omega arith in
    each_inside m base i (suc j) ts ps t p (split (outside_of m base j u q) (first_outside m base (suc j) ts ps) none).1 (types ∙ ap (λ n. t ∷ drop n (u ∷ ts)) one_more) (places ∙ ap (λ n. p ∷ drop n (q ∷ ps)) one_more)

-- ---- a part of the buffer that is written

abbrev pub written : ℕ → List ℕ → List ℕ → List ℕ
written at bytes old = take at old ++ (bytes ++ drop (length bytes) (drop at old))

module _ (at : ℕ) (bytes old : List ℕ) (fits : at + length bytes ≤ length old) where
  pub written_size : length (written at bytes old) ≡ length old
  written_size =
      omega (arith, length-append (take at old) (bytes ++ drop (length bytes) (drop at old)), length-append bytes (drop (length bytes) (drop at old)), length-take-le at old (omega (arith, fits)), length-drop (length bytes) (drop at old), length-drop at old, fits)

  pub written_byte : (k : ℕ) → k < length bytes → get_or (drop at (written at bytes old)) k 0 ≡ get_or bytes k 0
  written_byte k below =
      get_or-drop at (written at bytes old) k 0 ∙ inside_part old (written at bytes old) bytes at (length bytes) refl refl fits k below

  pub written_front : (n : ℕ) → n ≤ length bytes → take n (drop at (written at bytes old)) ≡ take n bytes
  written_front n few =
      let many = length_part (written at bytes old) at n (omega (arith, written_size, fits, few)) in
      let same : length (part (written at bytes old) at n) ≡ length (take n bytes) = omega (arith, many, length-take-le n bytes few) in
      ext_get_or 0 (part (written at bytes old) at n) (take n bytes) same (λ k h.
      let below : k < n = subst (λ m. k < m) many h in
      get_or-take n (drop at (written at bytes old)) k 0 below ∙ written_byte k (omega (arith, below, few)) ∙ sym (get_or-take n bytes k 0 below))

  pub written_behind : (end : ℕ) → at + length bytes ≤ end → drop end (written at bytes old) ≡ drop end old
  written_behind end far =
      ext_get_or 0 (drop end (written at bytes old)) (drop end old) (omega (arith, length-drop end (written at bytes old), length-drop end old, written_size)) (λ k h. get_or-drop end (written at bytes old) k 0 ∙ above_part old (written at bytes old) bytes at (length bytes) refl refl fits (end + k) (omega (arith, far)) ∙ sym (get_or-drop end old k 0))

-- ---- the arguments from number j on are collected

module _ (m : Image) (base : ℕ) (ts : List Tree) (ps : List Place) (total : ℕ) where
  pub record AreCollected (j at : ℕ) (out : List ℕ) : Type 0 where
    pub read : values_packed (drop j ts) (drop at out) ≡ values_by_standard m base (drop j ts) (drop j ps)
    pub left : at + packed_size (drop j ts) ≡ total
    pub sized : length out ≡ total
    pub padding : HaveZeroPadding (drop j ts) (drop at out)

  pub one_more : (j : ℕ) (t : Tree) (p : Place) (at end : ℕ) (bytes out : List ℕ) → drop j ts ≡ t ∷ drop (j + 1) ts → drop j ps ≡ p ∷ drop (j + 1) ps → end ≡ at + round8 (size_of t) → length bytes ≡ round8 (size_of t) → size_of t ≤ round8 (size_of t) → end ≤ total → value_in t (first_in t bytes) ≡ value_by_standard m base t p → HasZeroPadding t bytes → AreCollected (j + 1) end out → AreCollected j at (written at bytes out)
  one_more j t p at end bytes out types places next many room high value zeros before =
      let fits : at + length bytes ≤ length out = omega (arith, next, many, high, before.sized) in
      let here : first_in t (drop at (written at bytes out)) ≡ first_in t bytes = written_front at bytes out fits (size_of t) (omega (arith, many, room)) in
      let rest : behind t (drop at (written at bytes out)) ≡ drop end out = behind_drop t at end (written at bytes out) next ∙ written_behind at bytes out fits end (omega (arith, next, many)) in
      let both : values_packed (t ∷ drop (j + 1) ts) (drop at (written at bytes out)) ≡ value_by_standard m base t p ∷ values_by_standard m base (drop (j + 1) ts) (drop (j + 1) ps) = ap (λ xs. value_in t xs ∷ values_packed (drop (j + 1) ts) (behind t (drop at (written at bytes out)))) here ∙ ap (λ xs. value_in t (first_in t bytes) ∷ values_packed (drop (j + 1) ts) xs) rest ∙ ap (λ v. v ∷ values_packed (drop (j + 1) ts) (drop end out)) value ∙ ap (λ vs. value_by_standard m base t p ∷ vs) before.read in
      let clear : HasZeroPadding t (drop at (written at bytes out)) = λ i h padding. written_byte at bytes out fits i (omega (arith, h, many)) ∙ zeros i h padding in
      record {
        read = subst (λ us. values_packed us (drop at (written at bytes out)) ≡ values_by_standard m base us (drop j ps)) (sym types) (subst (λ qs. values_packed (t ∷ drop (j + 1) ts) (drop at (written at bytes out)) ≡ values_by_standard m base (t ∷ drop (j + 1) ts) qs) (sym places) both);
        left = omega (arith, packed_open (drop j ts) (drop (j + 1) ts) t types, before.left, next);
        sized = written_size at bytes out fits ∙ before.sized;
        padding = subst (λ us. HaveZeroPadding us (drop at (written at bytes out))) (sym types) (clear, subst (HaveZeroPadding (drop (j + 1) ts)) (sym rest) before.padding);
      }

  pub all_collected : (j at : ℕ) (out : List ℕ) → j ≡ 0 → total ≡ packed_size ts → AreCollected j at out → values_packed ts out ≡ values_by_standard m base ts ps
  all_collected j at out none sized are =
      let end = subst (λ i. AreCollected i at out) none are in
      let start : at ≡ 0 = omega (arith, end.left, sized) in
      subst (λ n. values_packed ts (drop n out) ≡ values_by_standard m base ts ps) start end.read

  pub all_clear : (j at : ℕ) (out : List ℕ) → j ≡ 0 → total ≡ packed_size ts → AreCollected j at out → HaveZeroPadding ts out
  all_clear j at out none sized are =
      let end = subst (λ i. AreCollected i at out) none are in
      let start : at ≡ 0 = omega (arith, end.left, sized) in
      subst (λ n. HaveZeroPadding ts (drop n out)) start end.padding
