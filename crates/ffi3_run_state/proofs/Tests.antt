-- Tests of signatures.
use Rattle.std.proofs.Common.{◌≡◌, ℕ, true, false, List, [], ◌∷◌, Option, Some, None, refl, ap, ◌∙◌, subst}
use Rattle.std.specs.Prelude.{◌&&◌}
use Rattle.std.proofs.lemmas.Bool.{eqb-true, eq-eqb, false_from_ne_true}
use Rattle.ffi3_type_spec.specs.Tree.{Tree}
use Rattle.ffi3_type_spec.specs.Signature.{Signature}
use Rattle.ffi3_type_spec.specs.Same.{same_tree, same_list, same_fixed, same_signature}
use Rattle.ffi3_type_spec.proofs.Tests.{and_left, and_right, both, types_are_same, type_is_itself, types_are_themselves}

list_is_same : (ts us : List Tree) → same_list ts us ≡ true → ts ≡ us
list_is_same [] [] h = refl
list_is_same [] (u ∷ us) h = cc
list_is_same (t ∷ ts) [] h = cc
list_is_same (t ∷ ts) (u ∷ us) h =
    ap (λ v. v ∷ ts) (types_are_same t u (and_left (same_tree t u) (same_list ts us) h)) ∙ ap (λ l. u ∷ l) (list_is_same ts us (and_right (same_tree t u) (same_list ts us) h))

fixed_is_same : (m n : Option ℕ) → same_fixed m n ≡ true → m ≡ n
fixed_is_same None None h = refl
fixed_is_same None (Some n) h = cc
fixed_is_same (Some m) None h = cc
fixed_is_same (Some m) (Some n) h = ap Some (eqb-true m n h)

fixed_is_itself : (m : Option ℕ) → same_fixed m m ≡ true
fixed_is_itself None = refl
fixed_is_itself (Some m) = eq-eqb m m refl

-- signatures that are equal by the test are equal
pub signature_is_same : (s r : Signature) → same_signature s r ≡ true → s ≡ r
signature_is_same s r h =
    let first = and_left (same_tree s.result_type r.result_type && same_list s.arguments r.arguments) (same_fixed s.fixed r.fixed) h in
    let a = types_are_same s.result_type r.result_type (and_left (same_tree s.result_type r.result_type) _ first) in
    let b = list_is_same s.arguments r.arguments (and_right (same_tree s.result_type r.result_type) _ first) in
    let c = fixed_is_same s.fixed r.fixed (and_right (same_tree s.result_type r.result_type && same_list s.arguments r.arguments) _ h) in
    λ i. record { result_type = a i; arguments = b i; fixed = c i }

signature_is_itself : (s : Signature) → same_signature s s ≡ true
signature_is_itself s =
    both (same_tree s.result_type s.result_type && same_list s.arguments s.arguments) (same_fixed s.fixed s.fixed)
    (both (same_tree s.result_type s.result_type) (same_list s.arguments s.arguments) (type_is_itself s.result_type) (types_are_themselves s.arguments))
    (fixed_is_itself s.fixed)

-- and the test finds equal what is equal
pub same_signatures : (s r : Signature) → s ≡ r → same_signature s r ≡ true
same_signatures s r e = subst (λ x. same_signature s x ≡ true) e (signature_is_itself s)

-- and no others
pub other_signatures : (s r : Signature) → (s ≡ r → ⊥) → same_signature s r ≡ false
other_signatures s r other =
    false_from_ne_true (same_signature s r) (λ h. other (signature_is_same s r h))
