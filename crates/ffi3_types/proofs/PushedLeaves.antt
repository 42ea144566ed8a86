-- One more element's leaves behind those before it.
use Rattle.std.proofs.Common.{◌≡◌, ℕ, ◌+◌, ◌*◌, List, ◌++◌, map, length, ap, sym, ◌∙◌, add-one}
use Rattle.std.proofs.lemmas.List.{append_assoc}
use Rattle.ffi3_type_spec.specs.Tree.{Tree, struct_of, trees_of, tree_at}
use Rattle.ffi3_type_spec.specs.Layout.{Leaf, layouts, element, start_of, size_of, leaves_of, leaves_before, repeated, moved}
use Rattle.ffi3_type_spec.proofs.Layouts.{layout_here, length-layouts}
use Rattle.ffi3_type_spec.proofs.Arrays.{moved_twice, moved_append}

-- leaves of an element at `by`, in a type at `from`, where ls are behind xs
one_more : (old xs ls now new : List Leaf) (from by : ℕ) → now ≡ old ++ map (moved from) xs → new ≡ now ++ map (moved (from + by)) ls → new ≡ old ++ map (moved from) (xs ++ map (moved by) ls)
one_more old xs ls now new from by before next =
    next
    ∙ ap (λ ms. ms ++ map (moved (from + by)) ls) before
    ∙ append_assoc old (map (moved from) xs) (map (moved (from + by)) ls)
    ∙ ap (λ ms. old ++ (map (moved from) xs ++ ms)) (sym (moved_twice from by ls))
    ∙ ap (λ ms. old ++ ms) (sym (moved_append from xs (map (moved by) ls)))

-- of a struct
pub pushed-turn : (ts : List Tree) (k : ℕ) (t : Tree) (old now new : List Leaf) (from start : ℕ) → t ≡ tree_at ts k → start ≡ start_of (layouts (trees_of ts)) k → now ≡ old ++ map (moved from) (leaves_before (layouts (trees_of ts)) k) → new ≡ now ++ map (moved (from + start)) (leaves_of t) → new ≡ old ++ map (moved from) (leaves_before (layouts (trees_of ts)) (k + 1))
pushed-turn ts k t old now new from start is s before next =
    let es = layouts (trees_of ts) in
    let here = ap (λ l. l.leaves) (layout_here ts k t is) in
    let behind : new ≡ now ++ map (moved (from + start_of es k)) (element es k).leaves = next ∙ ap (λ n. now ++ map (moved (from + n)) (leaves_of t)) s ∙ ap (λ ls. now ++ map (moved (from + start_of es k)) ls) (sym here) in
    rw add-one (one_more old (leaves_before es k) (element es k).leaves now new from (start_of es k) before behind)

-- of an array
pub repeated-turn : (ts : List Tree) (i : ℕ) (t : Tree) (old now new : List Leaf) (from size : ℕ) → t ≡ tree_at ts 0 → size ≡ size_of t → now ≡ old ++ map (moved from) (repeated (element (layouts (trees_of ts)) 0) i) → new ≡ now ++ map (moved (from + i * size)) (leaves_of t) → new ≡ old ++ map (moved from) (repeated (element (layouts (trees_of ts)) 0) (i + 1))
repeated-turn ts i t old now new from size is s before next =
    let l = element (layouts (trees_of ts)) 0 in
    let here = layout_here ts 0 t is in
    let sized = s ∙ ap (λ m. m.size) (sym here) in
    let behind : new ≡ now ++ map (moved (from + i * l.size)) l.leaves = next ∙ ap (λ n. now ++ map (moved (from + i * n)) (leaves_of t)) sized ∙ ap (λ ls. now ++ map (moved (from + i * l.size)) ls) (ap (λ m. m.leaves) (sym here)) in
    rw add-one (one_more old (repeated l i) l.leaves now new from (i * l.size) before behind)

pub pushed_at_end : (ts : List Tree) (n : ℕ) → n ≡ length ts → (old now : List Leaf) (from : ℕ) → now ≡ old ++ map (moved from) (leaves_before (layouts (trees_of ts)) n) → now ≡ old ++ map (moved from) (leaves_of (struct_of ts))
pushed_at_end ts n all old now from e =
    e ∙ ap (λ k. old ++ map (moved from) (leaves_before (layouts (trees_of ts)) k)) (all ∙ sym (length-layouts ts))
