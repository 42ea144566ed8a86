-- Values that fit a struct, element by element.
use Rattle.std.proofs.Common.{◌≡◌, ℕ, zero, suc, ◌+◌, ◌<◌, true, List, [], ◌∷◌, length, ◌++◌, inl, inr, refl, ap, ◌∙◌, arith}
use Rattle.std.proofs.lemmas.Bool.{cases_lt}
use Rattle.std.proofs.lemmas.List.{get_or_append_left}
use Rattle.ffi3_type_spec.specs.Tree.{Tree, tree_at, trees_of}
use Rattle.ffi3_type_spec.specs.Value.{ValueTree, void_value, values_of, fits, all_fit}
use Rattle.ffi3_type_spec.proofs.Tests.{and_left, and_right, both}
use Rattle.ffi3_type_spec.proofs.Values.{value_at, get_or-append_at}

-- there are as many values as elements
pub fitting_lengths : (ts : List Tree) (vs : List ValueTree) → all_fit (trees_of ts) (values_of vs) ≡ true → length vs ≡ length ts
fitting_lengths [] [] h = refl
fitting_lengths [] (v ∷ vs) h = cc
fitting_lengths (t ∷ ts) [] h = cc
fitting_lengths (t ∷ ts) (v ∷ vs) h = ap suc (fitting_lengths ts vs (and_right (fits t v) _ h))

-- each value fits its element
pub fitting_element : (ts : List Tree) (vs : List ValueTree) (i : ℕ) → all_fit (trees_of ts) (values_of vs) ≡ true → i < length ts → fits (tree_at ts i) (value_at vs i) ≡ true
fitting_element [] vs i h below = absurd (omega arith)
fitting_element (t ∷ ts) [] i h below = cc
fitting_element (t ∷ ts) (v ∷ vs) zero h below = and_left (fits t v) _ h
fitting_element (t ∷ ts) (v ∷ vs) (suc i) h below =
    fitting_element ts vs i (and_right (fits t v) _ h) (omega arith)

-- values that fit each element fit the struct
pub fit_by_elements : (ts : List Tree) (vs : List ValueTree) → length vs ≡ length ts → ((k : ℕ) → k < length vs → fits (tree_at ts k) (value_at vs k) ≡ true) → all_fit (trees_of ts) (values_of vs) ≡ true
fit_by_elements [] [] n h = refl
fit_by_elements [] (v ∷ vs) n h = absurd (omega arith)
fit_by_elements (t ∷ ts) [] n h = absurd (omega arith)
fit_by_elements (t ∷ ts) (v ∷ vs) n h =
    both (fits t v) _ (h 0 (omega arith)) (fit_by_elements ts vs (omega arith) (λ k below. h (suc k) (omega arith)))

-- one more fitting value at the end
pub push_fitting : (ts : List Tree) (vs : List ValueTree) (v : ValueTree) (i : ℕ) → length vs ≡ i → ((k : ℕ) → k < i → fits (tree_at ts k) (value_at vs k) ≡ true) → fits (tree_at ts i) v ≡ true → (k : ℕ) → k < i + 1 → fits (tree_at ts k) (value_at (vs ++ v ∷ []) k) ≡ true
push_fitting ts vs v i n before last k below =
    elim (cases_lt k i) [
      | inl earlier ↦ ap (fits (tree_at ts k)) (get_or_append_left vs (v ∷ []) void_value k (omega arith)) ∙ before k earlier
      | inr here ↦ let same : k ≡ i = omega arith in
          ap (fits (tree_at ts k)) (get_or-append_at vs v k void_value (omega arith)) ∙ ap (λ j. fits (tree_at ts j) v) same ∙ last
    ]
