-- Laws of layouts: elements in a list, and bounds.
use Rattle.std.proofs.Common.{◌≡◌, ℕ, zero, suc, ◌+◌, ◌*◌, ◌%◌, ◌<◌, ◌≤◌, ◌-◌, inl, inr, max, List, [], ◌∷◌, map, length, refl, ap, sym, ◌∙◌, subst, arith, All, add-one}
use Rattle.std.proofs.lemmas.Nat.{mod_below}
use Rattle.std.proofs.lemmas.Bool.{cases_lt}
use Rattle.std.proofs.lemmas.List.{get_or_default}
use Rattle.ffi3_type_spec.specs.declared.limits.TheConstants.{LARGEST_TYPE}
use Rattle.ffi3_type_spec.specs.Tree.{Tree, void, scalar, left_out, structure, Trees, no_trees, tree, trees_of, list_of, struct_of, tree_at, Scalar, u8, nodes, all_nodes, array}
use Rattle.ffi3_type_spec.specs.Layout.{Layout, layout, layouts, element, least_multiple, end_before, start_of, align_before, size_of, align_of, scalar_size, scalar_room}

pub layouts_is_map : (ts : Trees) → layouts ts ≡ map layout (list_of ts)
layouts_is_map no_trees = refl
layouts_is_map (tree t ts) = ap (λ ls. layout t ∷ ls) (layouts_is_map ts)

-- element i of a struct's layouts is the layout of its element i
pub element-layouts : (ts : List Tree) (i : ℕ) → element (layouts (trees_of ts)) i ≡ layout (tree_at ts i)
element-layouts [] i = refl
element-layouts (t ∷ ts) zero = refl
element-layouts (t ∷ ts) (suc i) = element-layouts ts i

pub length-layouts : (ts : List Tree) → length (layouts (trees_of ts)) ≡ length ts
length-layouts [] = refl
length-layouts (t ∷ ts) = ap suc (length-layouts ts)

pub least_multiple-above : (a n : ℕ) → n ≤ least_multiple a n
unfolding least_multiple
least_multiple-above a n = omega arith

pub least_multiple-below : (a n : ℕ) → 0 < a → least_multiple a n < n + a
unfolding least_multiple
least_multiple-below a n h = omega (arith, mod_below (a - n % a) a h)

-- what does not fall in a step does not fall
pub rises : (f : ℕ → ℕ) → ((n : ℕ) → f n ≤ f (suc n)) → (i n : ℕ) → i ≤ n → f i ≤ f n
rises f step i zero h =
    let same : i ≡ 0 = omega arith in
    subst (λ k. f k ≤ f 0) (sym same) (omega arith)
rises f step i (suc n) h =
    elim (cases_lt i (suc n)) [
      | inl below ↦ omega (arith, rises f step i n (omega arith), step n)
      | inr at_least ↦ let same : i ≡ suc n = omega arith in
          subst (λ k. f k ≤ f (suc n)) (sym same) (omega arith)
    ]

-- ends do not fall
pub end_before-le : (es : List Layout) (i n : ℕ) → i ≤ n → end_before es i ≤ end_before es n
end_before-le es = rises (end_before es) (λ n. omega (arith, least_multiple-above (element es n).align (end_before es n)))

-- each element lies before the end of all
pub size_le-end : (es : List Layout) (i n : ℕ) → i < n → (element es i).size ≤ end_before es n
size_le-end es i n h = omega (arith, end_before-le es (suc i) n (omega arith))

pub size_le-struct : (ts : List Tree) (i : ℕ) → i < length ts → size_of (tree_at ts i) ≤ size_of (struct_of ts)
size_le-struct ts i h =
    let es = layouts (trees_of ts) in
    let n = length es in
    let inside = size_le-end es i n (omega (arith, length-layouts ts)) in
    let rounded = least_multiple-above (align_before es n) (end_before es n) in
    let here = ap (λ l. l.size) (element-layouts ts i) in
    omega arith

pub align_before-positive : (es : List Layout) (i : ℕ) → 1 ≤ align_before es i
align_before-positive es zero = omega arith
align_before-positive es (suc i) = omega (arith, align_before-positive es i)

pub align_before-bounded : (es : List Layout) (i : ℕ) → ((k : ℕ) → (element es k).align ≤ 16) → align_before es i ≤ 16
align_before-bounded es zero h = omega arith
align_before-bounded es (suc i) h = omega (arith, align_before-bounded es i h, h i)

pub scalar_size-bounds : (s : Scalar) → (1 ≤ scalar_size s) × (scalar_size s ≤ 16)
scalar_size-bounds u8 = (omega arith, omega arith)
scalar_size-bounds _ = (omega arith, omega arith)

pub scalar_room-bounds : (s : Scalar) → (1 ≤ scalar_room s) × (scalar_room s ≤ 16)
scalar_room-bounds u8 = (omega arith, omega arith)
scalar_room-bounds _ = (omega arith, omega arith)

-- a scalar's bytes lie in those that it takes
pub scalar_size-room : (s : Scalar) → scalar_size s ≤ scalar_room s
scalar_size-room u8 = omega arith
scalar_size-room _ = omega arith

mutual
  pub align_positive : (t : Tree) → 1 ≤ align_of t
  align_positive void = omega arith
  align_positive (scalar s) = (scalar_room-bounds s).0
  align_positive (left_out k) = omega arith
  align_positive (structure ts) = align_before-positive (layouts ts) (length (layouts ts))
  align_positive (array ts n) = first_positive ts

  pub first_positive : (ts : Trees) → 1 ≤ (element (layouts ts) 0).align
  first_positive no_trees = omega arith
  first_positive (tree t ts) = align_positive t

mutual
  pub align_bounded : (t : Tree) → align_of t ≤ 16
  align_bounded void = omega arith
  align_bounded (scalar s) = (scalar_room-bounds s).1
  align_bounded (left_out k) = omega arith
  align_bounded (structure ts) =
      align_before-bounded (layouts ts) (length (layouts ts)) (aligns_bounded ts)
  align_bounded (array ts n) = aligns_bounded ts 0

  pub aligns_bounded : (ts : Trees) (k : ℕ) → (element (layouts ts) k).align ≤ 16
  aligns_bounded no_trees k = omega arith
  aligns_bounded (tree t ts) zero = align_bounded t
  aligns_bounded (tree t ts) (suc k) = aligns_bounded ts k

-- elements as large as the largest struct end within 16 bytes more each
pub end_before-bounded : (ts : List Tree) (i : ℕ) → ((k : ℕ) → size_of (tree_at ts k) ≤ LARGEST_TYPE) → end_before (layouts (trees_of ts)) i ≤ i * (LARGEST_TYPE + 16)
end_before-bounded ts zero h = omega arith
end_before-bounded ts (suc i) h =
    let es = layouts (trees_of ts) in
    let before = end_before-bounded ts i h in
    let sized = h i in
    let here = element-layouts ts i in
    let size_is = ap (λ l. l.size) here in
    let align_is = ap (λ l. l.align) here in
    let positive = align_positive (tree_at ts i) in
    let bounded = align_bounded (tree_at ts i) in
    let below = least_multiple-below (element es i).align (end_before es i) (omega arith) in
    omega arith

-- an element has fewer nodes than its struct
pub nodes-element : (ts : List Tree) (i : ℕ) → i < length ts → nodes (tree_at ts i) ≤ all_nodes (trees_of ts)
nodes-element [] i h = absurd (omega arith)
nodes-element (t ∷ ts) zero h = omega arith
nodes-element (t ∷ ts) (suc i) h = omega (arith, nodes-element ts i (omega arith))

-- a bound on every type of a list holds at every number, since past the end stands Void
pub everywhere : (limit : ℕ) (ts : List Tree) → All (λ t. size_of t ≤ limit) ts → (k : ℕ) → size_of (tree_at ts k) ≤ limit
everywhere limit [] h k = omega arith
everywhere limit (t ∷ ts) h zero = h 0 void (omega arith)
everywhere limit (t ∷ ts) h (suc k) =
    everywhere limit ts (λ i d below. h (suc i) d (omega arith)) k

pub sizes_within : (limit : ℕ) (ts : List Tree) → size_of (struct_of ts) ≤ limit → All (λ t. size_of t ≤ limit) ts
sizes_within limit ts h k d below =
    let same = get_or_default ts k d void below in
    rw same (omega (arith, size_le-struct ts k below))

-- one more element, t, whose size and alignment are known
module _ (ts : List Tree) (i : ℕ) (t : Tree) (is : t ≡ tree_at ts i) where
  pub layout_here : element (layouts (trees_of ts)) i ≡ layout t
  layout_here = element-layouts ts i ∙ ap layout (sym is)

  pub start-turn : (end align : ℕ) → end ≡ end_before (layouts (trees_of ts)) i → align ≡ align_of t → least_multiple align end ≡ start_of (layouts (trees_of ts)) i
  start-turn end align e a = rw (layout_here, e, a)

  pub end_before-turn : (end size align : ℕ) → end ≡ end_before (layouts (trees_of ts)) i → size ≡ size_of t → align ≡ align_of t → least_multiple align end + size ≡ end_before (layouts (trees_of ts)) (i + 1)
  end_before-turn end size align e s a =
      rw (add-one, layout_here, e, s, a)

  pub align_before-turn : (greatest align : ℕ) → greatest ≡ align_before (layouts (trees_of ts)) i → align ≡ align_of t → max greatest align ≡ align_before (layouts (trees_of ts)) (i + 1)
  align_before-turn greatest align g a = rw (add-one, layout_here, g, a)

-- where the elements of a list end, and how they are aligned
module _ (ts : List Tree) (n : ℕ) (all : n ≡ length ts) where
  pub size_at_end : (end align : ℕ) → end ≡ end_before (layouts (trees_of ts)) n → align ≡ align_before (layouts (trees_of ts)) n → least_multiple align end ≡ size_of (struct_of ts)
  size_at_end end align e a = rw (e, a, all, length-layouts)

  pub align_at_end : (align : ℕ) → align ≡ align_before (layouts (trees_of ts)) n → align ≡ align_of (struct_of ts)
  align_at_end align a = rw (a, all, length-layouts)
