-- The plan of a standard is framed by the ends of its own places, and by those of places that agree with them; and places, result and totals leave no other plan.
use Rattle.std.proofs.Common.{◌≡◌, ℕ, zero, suc, ◌+◌, ◌<◌, ◌≤◌, List, [], ◌∷◌, take, length, ap, subst, sym, ◌∙◌, refl, arith}
use Rattle.std.specs.Prelude.{Some, slice_get}
use Rattle.ffi3_type_spec.specs.Tree.{Tree, tree_at}
use Rattle.ffi3_type_spec.specs.Signature.{Signature}
use Rattle.ffi3_place_spec.specs.declared.Plan.{Plan}
use Rattle.ffi3_place_spec.specs.Standard.{Standard, Spot, ResultSpot, place_at, places_from, copy_end, copies_end, result_at, buffer_end, copies_start, frame_copies_end, plan_of, round16}
use Rattle.ffi3_place_spec.specs.Framed.{copied_step, copied_before, copied_end, IsFramedByEnds}
use Rattle.ffi3_place_spec.proofs.Items.{same_items}

-- spot i is there
abbrev Stands : List Spot → ℕ → Spot → Type 0
Stands spots i spot = slice_get spots i ≡ Some spot

-- ---- one argument of many

module _ (start : ℕ → Tree → ℕ) where
  places_length : (c : ℕ) (ts : List Tree) (spots : List Spot) → length spots ≡ length ts → length (places_from start c ts spots) ≡ length ts
  places_length c [] spots e = refl
  places_length c (t ∷ ts) [] e = absurd (omega (arith, e))
  places_length c (t ∷ ts) (x ∷ spots) e =
      ap suc (places_length (copy_end start c t x) ts spots (omega (arith, e)))

  copied_next : (c : ℕ) (ts : List Tree) (spots : List Spot) (i : ℕ) (spot : Spot) → i < length ts → length spots ≡ length ts → Stands spots i spot → copies_end start c (take (suc i) ts) (take (suc i) spots) ≡ copy_end start (copies_end start c (take i ts) (take i spots)) (tree_at ts i) spot
  copied_next c [] spots i spot h e there = absurd (omega arith)
  copied_next c (t ∷ ts) [] i spot h e there = absurd (omega (arith, e))
  copied_next c (t ∷ ts) (x ∷ spots) zero spot h e there =
      let same : x ≡ spot = cc there in
      ap (λ y. copy_end start c t y) same
  copied_next c (t ∷ ts) (x ∷ spots) (suc i) spot h e there =
      copied_next (copy_end start c t x) ts spots i spot (omega arith) (omega (arith, e)) there

  copied_all : (c : ℕ) (ts : List Tree) (spots : List Spot) → length spots ≡ length ts → copies_end start c (take (length ts) ts) (take (length ts) spots) ≡ copies_end start c ts spots
  copied_all c [] spots e = refl
  copied_all c (t ∷ ts) [] e = absurd (omega (arith, e))
  copied_all c (t ∷ ts) (x ∷ spots) e =
      copied_all (copy_end start c t x) ts spots (omega (arith, e))

  place_stands : (c : ℕ) (ts : List Tree) (spots : List Spot) (i : ℕ) (spot : Spot) → length spots ≡ length ts → i < length ts → Stands spots i spot → slice_get (places_from start c ts spots) i ≡ Some (place_at start (copies_end start c (take i ts) (take i spots)) (tree_at ts i) spot)
  place_stands c [] spots i spot e h there = absurd (omega arith)
  place_stands c (t ∷ ts) [] i spot e h there = absurd (omega (arith, e))
  place_stands c (t ∷ ts) (x ∷ spots) zero spot e h there =
      let same : x ≡ spot = cc there in
      ap (λ y. Some (place_at start c t y)) same
  place_stands c (t ∷ ts) (x ∷ spots) (suc i) spot e h there =
      place_stands (copy_end start c t x) ts spots i spot (omega (arith, e)) (omega arith) there

-- ---- the plan of a standard

module _ (std : Standard) (s : Signature) (spot : ℕ → Spot) (each : length (std.placing s).arguments ≡ length s.arguments) (agree : (i : ℕ) → i < length s.arguments → slice_get (std.placing s).arguments i ≡ Some (spot i)) where
  abbrev end_before : ℕ → ℕ
  end_before i =
      copies_end std.copy_start (copies_start (std.placing s)) (take i s.arguments) (take i (std.placing s).arguments)

  ends_are_copied : (i : ℕ) → i ≤ length s.arguments → end_before i ≡ copied_before std s spot (std.placing s).stack_bytes i
  ends_are_copied zero h = refl
  ends_are_copied (suc i) h =
      copied_next std.copy_start (copies_start (std.placing s)) s.arguments (std.placing s).arguments i (spot i) (omega arith) each (agree i (omega arith)) ∙ ap (copied_step std s spot (std.placing s).stack_bytes i) (ends_are_copied i (omega arith))

  all_copied : frame_copies_end std s ≡ copied_end std s spot (std.placing s).stack_bytes
  all_copied =
      sym (copied_all std.copy_start (copies_start (std.placing s)) s.arguments (std.placing s).arguments each) ∙ ends_are_copied (length s.arguments) (omega arith)

  -- where the places of the arguments agree with those of the standard, its plan is framed by their ends
  pub framed_by_ends : IsFramedByEnds std s spot (std.placing s).result_spot (std.placing s).stack_bytes (std.placing s).vector_registers (plan_of std s)
  framed_by_ends = record {
    one_each = places_length std.copy_start (copies_start (std.placing s)) s.arguments (std.placing s).arguments each;
    placed = λ i h. place_stands std.copy_start (copies_start (std.placing s)) s.arguments (std.placing s).arguments i (spot i) each h (agree i h) ∙ ap (λ n. Some (place_at std.copy_start n (tree_at s.arguments i) (spot i))) (ends_are_copied i (omega arith));
    result_placed = ap (λ n. result_at std.copy_start n s.result_type (std.placing s).result_spot) all_copied;
    frame_end = ap (λ n. round16 (buffer_end std.copy_start n s.result_type (std.placing s).result_spot)) all_copied;
    block_total = refl;
    need_total = refl;
    counted = refl;
  }

-- ---- no other plan

module _ (std : Standard) (s : Signature) (spot other : ℕ → Spot) (same_spots : (i : ℕ) → i < length s.arguments → spot i ≡ other i) (stack : ℕ) where
  same_copied : (i : ℕ) → i ≤ length s.arguments → copied_before std s spot stack i ≡ copied_before std s other stack i
  same_copied zero h = refl
  same_copied (suc i) h =
      ap (λ n. copy_end std.copy_start n (tree_at s.arguments i) (spot i)) (same_copied i (omega arith)) ∙ ap (λ x. copy_end std.copy_start (copied_before std s other stack i) (tree_at s.arguments i) x) (same_spots i (omega arith))

  -- two plans that are framed by the same places, result and totals are one
  pub framed_once : (result : ResultSpot) (vectors : ℕ) (p q : Plan) → IsFramedByEnds std s spot result stack vectors p → IsFramedByEnds std s other result stack vectors q → p ≡ q
  framed_once result vectors p q a b =
      let ends = same_copied (length s.arguments) (omega arith) in
      let places_are : p.places ≡ q.places = same_items p.places q.places (a.one_each ∙ sym b.one_each) (λ i h. let below = subst (λ n. i < n) a.one_each h in a.placed i below ∙ ap (λ n. Some (place_at std.copy_start n (tree_at s.arguments i) (spot i))) (same_copied i (omega (arith, below))) ∙ ap (λ x. Some (place_at std.copy_start (copied_before std s other stack i) (tree_at s.arguments i) x)) (same_spots i below) ∙ sym (b.placed i below)) in
      let res_is : p.res ≡ q.res = a.result_placed ∙ ap (λ n. result_at std.copy_start n s.result_type result) ends ∙ sym b.result_placed in
      let frame_is : p.frame ≡ q.frame = a.frame_end ∙ ap (λ n. round16 (buffer_end std.copy_start n s.result_type result)) ends ∙ sym b.frame_end in
      let block_is : p.block ≡ q.block = a.block_total ∙ sym b.block_total in
      let need_is : p.need ≡ q.need = a.need_total ∙ ap (λ n. n + std.link + std.save + p.block) frame_is ∙ ap (λ n. q.frame + std.link + std.save + n) block_is ∙ sym b.need_total in
      λ i. record { places = places_are i; res = res_is i; need = need_is i; frame = frame_is i; block = block_is i; vectors = (a.counted ∙ sym b.counted) i }
