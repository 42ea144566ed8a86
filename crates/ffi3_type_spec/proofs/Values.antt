-- The value of a struct, element by element.
use Rattle.std.proofs.Common.{◌≡◌, ℕ, zero, suc, ◌+◌, ◌<◌, ◌≤◌, List, [], ◌∷◌, length, refl, ap, sym, ◌∙◌, arith, add-one}
use Rattle.std.specs.Prelude.{slice_index_or, ◌++◌, ◌⊎◌}
use Rattle.std.proofs.Common.{inl, inr, false}
use Rattle.std.proofs.Math.Bool.{and-false}
use Rattle.std.proofs.lemmas.Bool.{cases_lt}
use Rattle.std.proofs.lemmas.List.{get_or_append_left}
use Rattle.ffi3_type_spec.specs.Tree.{Tree, Trees, no_trees, tree, tree_at, list_of, trees_of, struct_of, list_of-trees_of}
use Rattle.ffi3_type_spec.specs.Layout.{Layout, layouts, size_of, start_of, end_before, element, align_before}
use Rattle.ffi3_type_spec.specs.Value.{ValueTree, void_value, value, values_of, value_in, values_in, part, value_nodes, all_value_nodes, all_fit}
use Rattle.ffi3_type_spec.proofs.Layouts.{end_before-le, element-layouts, length-layouts, least_multiple-above}

-- value i of a list
abbrev pub value_at : List ValueTree → ℕ → ValueTree
value_at vs i = slice_index_or vs i void_value

-- the value of element i of a struct with these bytes
abbrev pub element_value : List Tree → List ℕ → ℕ → ValueTree
element_value ts bytes i =
    value_in (tree_at ts i) (part bytes (start_of (layouts (trees_of ts)) i) (size_of (tree_at ts i)))

pub values_by_elements : (ts : Trees) (es : List Layout) (i : ℕ) (bytes : List ℕ) (vs : List ValueTree) → length vs ≡ length (list_of ts) → ((k : ℕ) → k < length vs → value_at vs k ≡ value_in (tree_at (list_of ts) k) (part bytes (start_of es (i + k)) (size_of (tree_at (list_of ts) k)))) → values_of vs ≡ values_in ts es i bytes
values_by_elements no_trees es i bytes [] n h = refl
values_by_elements no_trees es i bytes (v ∷ vs) n h = absurd (omega arith)
values_by_elements (tree t ts) es i bytes [] n h = absurd (omega arith)
values_by_elements (tree t ts) es i bytes (v ∷ vs) n h =
    let from : Tree → ℕ → ValueTree = λ u j. value_in u (part bytes (start_of es j) (size_of u)) in
    let at_zero : i + 0 ≡ i = omega arith in
    let first = h 0 (omega arith) ∙ ap (from t) at_zero in
    let later : (k : ℕ) → k < length vs → value_at vs k ≡ from (tree_at (list_of ts) k) (i + 1 + k) = λ k below. let moved : i + suc k ≡ i + 1 + k = omega arith in h (suc k) (omega arith) ∙ ap (from (tree_at (list_of ts) k)) moved in
    let rest = values_by_elements ts es (i + 1) bytes vs (omega arith) later in
    ap (λ w. value w (values_of vs)) first ∙ ap (value (from t i)) rest

-- the values of all elements make the value of the struct
pub struct_by_elements : (ts : List Tree) (bytes : List ℕ) (vs : List ValueTree) → length vs ≡ length ts → ((k : ℕ) → k < length vs → value_at vs k ≡ element_value ts bytes k) → values_of vs ≡ values_in (trees_of ts) (layouts (trees_of ts)) 0 bytes
struct_by_elements ts bytes vs n h =
    let es = layouts (trees_of ts) in
    let same = list_of-trees_of ts in
    values_by_elements (trees_of ts) es 0 bytes vs (n ∙ ap length (sym same)) (λ k below. let from_zero : 0 + k ≡ k = omega arith in
    h k below ∙ ap (λ us. value_in (tree_at us k) (part bytes (start_of es k) (size_of (tree_at us k)))) (sym same) ∙ ap (λ j. value_in (tree_at (list_of (trees_of ts)) k) (part bytes (start_of es j) (size_of (tree_at (list_of (trees_of ts)) k)))) (sym from_zero))

-- each element lies within the struct
pub element_within : (ts : List Tree) (i : ℕ) → i < length ts → start_of (layouts (trees_of ts)) i + size_of (tree_at ts i) ≤ size_of (struct_of ts)
element_within ts i below =
    let es = layouts (trees_of ts) in
    let here = ap (λ l. l.size) (element-layouts ts i) in
    let last = end_before-le es (i + 1) (length es) (omega (arith, length-layouts ts)) in
    let rounded = least_multiple-above (align_before es (length es)) (end_before es (length es)) in
    let step : end_before es (i + 1) ≡ start_of es i + (element es i).size = rw add-one in
    omega arith

-- an element has fewer nodes than its struct
pub nodes-value : (vs : List ValueTree) (i : ℕ) → i < length vs → value_nodes (value_at vs i) ≤ all_value_nodes (values_of vs)
nodes-value [] i h = absurd (omega arith)
nodes-value (v ∷ vs) zero h = omega arith
nodes-value (v ∷ vs) (suc i) h = omega (arith, nodes-value vs i (omega arith))

-- where the elements before number i of a struct end, it has room
pub end_within : (ts : List Tree) (i : ℕ) → i ≤ length ts → end_before (layouts (trees_of ts)) i ≤ size_of (struct_of ts)
end_within ts i below =
    let es = layouts (trees_of ts) in
    let last = end_before-le es i (length es) (omega (arith, length-layouts ts)) in
    let rounded = least_multiple-above (align_before es (length es)) (end_before es (length es)) in
    omega arith

-- the element after a list
pub get_or-append_at : (vs : List ValueTree) (v : ValueTree) (k : ℕ) (d : ValueTree) → length vs ≡ k → slice_index_or (vs ++ v ∷ []) k d ≡ v
get_or-append_at [] v zero d n = refl
get_or-append_at [] v (suc k) d n = absurd (omega arith)
get_or-append_at (u ∷ vs) v zero d n = absurd (omega arith)
get_or-append_at (u ∷ vs) v (suc k) d n = get_or-append_at vs v k d (omega arith)

-- one more value at the end of those of the elements before
pub push_value : (ts : List Tree) (bytes : List ℕ) (vs : List ValueTree) (v : ValueTree) (i : ℕ) → length vs ≡ i → ((k : ℕ) → k < i → value_at vs k ≡ element_value ts bytes k) → v ≡ element_value ts bytes i → (k : ℕ) → k < i + 1 → value_at (vs ++ v ∷ []) k ≡ element_value ts bytes k
push_value ts bytes vs v i n before last k below =
    elim (cases_lt k i) [
      | inl earlier ↦ get_or_append_left vs (v ∷ []) void_value k (omega arith) ∙ before k earlier
      | inr here ↦ let same : k ≡ i = omega arith in
          get_or-append_at vs v k void_value (omega arith) ∙ last ∙ ap (element_value ts bytes) (sym same)
    ]

-- values fit elements of the same number only
pub all_fit-lengths : (ts : List Tree) (vs : List ValueTree) → (length ts ≡ length vs) ⊎ (all_fit (trees_of ts) (values_of vs) ≡ false)
all_fit-lengths [] [] = inl refl
all_fit-lengths [] (v ∷ vs) = inr refl
all_fit-lengths (t ∷ ts) [] = inr refl
all_fit-lengths (t ∷ ts) (v ∷ vs) =
    elim (all_fit-lengths ts vs) [ inl same ↦ inl (ap suc same) | inr not ↦ inr (rw not (and-false _)) ]
