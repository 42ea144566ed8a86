-- A type without long doubles of 16 bytes has none among its leaves.
use Rattle.std.proofs.Common.{◌≡◌, ℕ, zero, suc, ◌*◌, Bool, true, false, ◌||◌, List, [], ◌∷◌, ◌++◌, map, length, refl, ap, sym, ◌∙◌}
use Rattle.std.specs.List.{list_any}
use Rattle.ffi3_type_spec.specs.Tree.{Tree, void, scalar, left_out, structure, array, Trees, no_trees, tree}
use Rattle.ffi3_type_spec.specs.Layout.{Leaf, Layout, layouts, element, leaves_of, start_of, leaves_before, repeated, moved, is_long_double, has_long_double, have_long_double}

abbrev pub long_in : List Leaf → Bool
long_in ls = list_any (λ leaf. is_long_double leaf.kind) ls

pub neither : (a b : Bool) → (a || b) ≡ false → (a ≡ false) × (b ≡ false)
neither true b e = cc
neither false b e = (refl, e)

both_none : (a b : Bool) → a ≡ false → b ≡ false → (a || b) ≡ false
both_none true b first second = cc
both_none false b first second = second

none_in_both : (xs ys : List Leaf) → long_in xs ≡ false → long_in ys ≡ false → long_in (xs ++ ys) ≡ false
none_in_both [] ys first second = second
none_in_both (x ∷ xs) ys first second =
    let parts = neither (is_long_double x.kind) (long_in xs) first in
    both_none (is_long_double x.kind) (long_in (xs ++ ys)) parts.0 (none_in_both xs ys parts.1 second)

in_moved : (by : ℕ) (ls : List Leaf) → long_in (map (moved by) ls) ≡ long_in ls
in_moved by [] = refl
in_moved by (l ∷ ls) = ap (λ b. is_long_double l.kind || b) (in_moved by ls)

none_before : (es : List Layout) (n : ℕ) → ((i : ℕ) → long_in (element es i).leaves ≡ false) → long_in (leaves_before es n) ≡ false
none_before es zero each = refl
none_before es (suc n) each =
    none_in_both (leaves_before es n) (map (moved (start_of es n)) (element es n).leaves) (none_before es n each) (in_moved (start_of es n) (element es n).leaves ∙ each n)

none_repeated : (l : Layout) (n : ℕ) → long_in l.leaves ≡ false → long_in (repeated l n) ≡ false
none_repeated l zero none = refl
none_repeated l (suc n) none =
    none_in_both (repeated l n) (map (moved (n * l.size)) l.leaves) (none_repeated l n none) (in_moved (n * l.size) l.leaves ∙ none)

mutual
  pub plain_leaves : (t : Tree) → has_long_double t ≡ false → long_in (leaves_of t) ≡ false
  plain_leaves void e = refl
  plain_leaves (scalar s) e = both_none (is_long_double s) false e refl
  plain_leaves (left_out k) e = refl
  plain_leaves (structure ts) e = none_before (layouts ts) (length (layouts ts)) (plain_elements ts e)
  plain_leaves (array ts n) e = none_repeated (element (layouts ts) 0) n (plain_elements ts e 0)

  plain_elements : (ts : Trees) → have_long_double ts ≡ false → (i : ℕ) → long_in (element (layouts ts) i).leaves ≡ false
  plain_elements no_trees e i = refl
  plain_elements (tree t ts) e zero =
      plain_leaves t (neither (has_long_double t) (have_long_double ts) e).0
  plain_elements (tree t ts) e (suc i) =
      plain_elements ts (neither (has_long_double t) (have_long_double ts) e).1 i

-- a leaf that is one tells of the type
pub long_by_leaves : (t : Tree) → long_in (leaves_of t) ≡ true → has_long_double t ≡ true
long_by_leaves t long =
    let by_case : (b : Bool) → has_long_double t ≡ b → b ≡ true = λ b. elim b as (λ x. has_long_double t ≡ x → x ≡ true) [
      | true ↦ λ e. refl
      | false ↦ λ e. sym (plain_leaves t e) ∙ long
    ] in
    by_case (has_long_double t) refl
