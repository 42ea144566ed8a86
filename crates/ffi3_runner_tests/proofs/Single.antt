-- One value for the arguments of a signature.
use Rattle.std.proofs.Common.{◌≡◌, ℕ, Bool, true, false, ◌&&◌, nat_eq, List, [], ◌∷◌, length, refl, ap, sym, ◌∙◌}
use Rattle.std.proofs.lemmas.Bool.{eqb-true}
use Rattle.ffi3_type_spec.specs.Tree.{Tree, trees_of}
use Rattle.ffi3_type_spec.specs.Value.{ValueTree, all_fit, fits, values_of}

and_false : (b : Bool) → (b && false) ≡ false
and_false true = refl
and_false false = refl

either : (b : Bool) → (b ≡ true → ⊥) → b ≡ false
either true not = absurd (not refl)
either false not = refl

pub other_count : (ts : List Tree) (v : ValueTree) (n : ℕ) → n ≡ length ts → (n ≡ 1 → ⊥) → nat_eq n 1 ≡ all_fit (trees_of ts) (values_of (v ∷ []))
other_count [] v n is other = ap (λ k. nat_eq k 1) is
other_count (t ∷ []) v n is other = absurd (other is)
other_count (t ∷ u ∷ ts) v n is other =
    either (nat_eq n 1) (λ h. other (eqb-true n 1 h)) ∙ sym (and_false (fits t v))
