-- Where a signature is right, and where a fault of it is the first.
use Rattle.std.proofs.Common.{◌≡◌, ℕ, ◌<◌, ◌≤◌, ◌⊎◌, inl, inr, true, false, List, length, Some, None, sym, ◌∙◌, arith}
use Rattle.std.proofs.lemmas.Bool.{cases_lt}
use Rattle.ffi3_type_spec.specs.Tree.{Tree, tree_at}
use Rattle.ffi3_type_spec.specs.Layout.{has_long_double}
use Rattle.ffi3_type_spec.specs.declared.Role.{Role}
use Rattle.ffi3_type_spec.specs.Fault.{Fault, HasNoFault}
use Rattle.ffi3_type_spec.specs.Signature.{Signature, at_result, at_argument, SignatureFault, too_many, bad_type, bad_fixed, bad_argument_type, is_promoted, over_most, in_result, in_argument, fixed_outside, promoted, SignatureFaultBefore, Purpose, is_for_calls, result_role, argument_role, IsFoundFault, of_type, of_long_double, IsFaultFor, HasNoFaultFor, IsFirstFaultFor, SignatureHasNoFault}

-- a type that stands there without a fault
pub record IsSuited (purpose : Purpose) (role : Role) (t : Tree) : Type 0 where
  pub right : HasNoFault 0 role t
  pub plain : is_for_calls purpose ≡ true → has_long_double t ≡ false

pub suited_has_none : {purpose : Purpose} {role : Role} {t : Tree} → IsSuited purpose role t → (path : List ℕ) (f : Fault) → ¬ IsFoundFault purpose role t path f
suited_has_none h path f (of_type first) = h.right path f first.is_there
suited_has_none h path f (of_long_double calls right long) =
    let none : true ≡ false = sym long ∙ h.plain calls in cc

module _ {purpose : Purpose} (s : Signature) where
  pub first_too_many : 64 < length s.arguments → IsFirstFaultFor purpose s (too_many (length s.arguments))
  first_too_many over = record { is_there = over_most over; none_before = λ g fault before. elim before [ inl less ↦ omega arith | inr less ↦ omega arith ] }

  -- the kinds before are ruled out one by one
  module _ (few : length s.arguments ≤ 64) where
    pub first_in_result : (path : List ℕ) (f : Fault) → IsFoundFault purpose (result_role purpose) s.result_type path f → IsFirstFaultFor purpose s (bad_type at_result path f)
    first_in_result path f first = record { is_there = in_result first; none_before = go }
      where
        go : (g : SignatureFault) → IsFaultFor purpose s g → ¬ SignatureFaultBefore g (bad_type at_result path f)
        go g (over_most over) before = omega arith
        go g _ before = elim before [ inl less ↦ omega arith | inr less ↦ omega arith ]

    module _ (result_right : IsSuited purpose (result_role purpose) s.result_type) where
      pub first_in_argument : (i : ℕ) (path : List ℕ) (f : Fault) → i < length s.arguments → ((j : ℕ) → j < i → IsSuited purpose (argument_role purpose) (tree_at s.arguments j)) → IsFoundFault purpose (argument_role purpose) (tree_at s.arguments i) path f → IsFirstFaultFor purpose s (bad_type (at_argument i) path f)
      first_in_argument i path f below right first = record { is_there = in_argument below first; none_before = go }
        where
          go : (g : SignatureFault) → IsFaultFor purpose s g → ¬ SignatureFaultBefore g (bad_type (at_argument i) path f)
          go g (over_most over) before = omega arith
          go g (in_result {path = p} {fault = h} other) before = suited_has_none result_right p h other
          go g (in_argument {i = j} {path = p} {fault = h} inside other) before = elim before [ inl less ↦ omega arith | inr less ↦ suited_has_none (right j less.1) p h other ]
          go g _ before = elim before [ inl less ↦ omega arith | inr less ↦ omega arith ]

      module _ (right : (j : ℕ) → j < length s.arguments → IsSuited purpose (argument_role purpose) (tree_at s.arguments j)) where
        pub first_bad_fixed : (n : ℕ) → s.fixed ≡ Some n → (n ≡ 0) ⊎ (length s.arguments < n) → IsFirstFaultFor purpose s (bad_fixed n (length s.arguments))
        first_bad_fixed n is outside = record { is_there = fixed_outside is outside; none_before = go }
          where
            go : (g : SignatureFault) → IsFaultFor purpose s g → ¬ SignatureFaultBefore g (bad_fixed n (length s.arguments))
            go g (over_most over) before = omega arith
            go g (in_result {path = p} {fault = h} other) before = suited_has_none result_right p h other
            go g (in_argument {i = j} {path = p} {fault = h} inside other) before = suited_has_none (right j inside) p h other
            go g _ before = elim before [ inl less ↦ omega arith | inr less ↦ omega arith ]

        pub right_with_no_fixed : s.fixed ≡ None → HasNoFaultFor purpose s
        right_with_no_fixed none g (over_most over) = omega arith
        right_with_no_fixed none g (in_result {path = p} {fault = h} other) = suited_has_none result_right p h other
        right_with_no_fixed none g (in_argument {i = j} {path = p} {fault = h} inside other) = suited_has_none (right j inside) p h other
        right_with_no_fixed none g (fixed_outside is outside) = cc
        right_with_no_fixed none g (promoted is from inside right') = cc

        module _ (n : ℕ) (is : s.fixed ≡ Some n) (some : 0 < n) (within : n ≤ length s.arguments) where
          fixed_is_right : (m : ℕ) → s.fixed ≡ Some m → ¬ ((m ≡ 0) ⊎ (length s.arguments < m))
          fixed_is_right m other outside =
              let same : m ≡ n = cc in
              elim outside [ inl zero ↦ omega arith | inr over ↦ omega arith ]

          pub first_promoted : (i : ℕ) → n ≤ i → i < length s.arguments → is_promoted (tree_at s.arguments i) ≡ true → ((j : ℕ) → n ≤ j → j < i → is_promoted (tree_at s.arguments j) ≡ false) → IsFirstFaultFor purpose s (bad_argument_type i)
          first_promoted i from below bad before_right = record { is_there = promoted is from below bad; none_before = go }
            where
              go : (g : SignatureFault) → IsFaultFor purpose s g → ¬ SignatureFaultBefore g (bad_argument_type i)
              go g (over_most over) before = omega arith
              go g (in_result {path = p} {fault = h} other) before = suited_has_none result_right p h other
              go g (in_argument {i = j} {path = p} {fault = h} inside other) before = suited_has_none (right j inside) p h other
              go g (fixed_outside {n = m} is' outside) before = fixed_is_right m is' outside
              go g (promoted {n = m} {i = j} is' from' inside bad') before =
                  let same : m ≡ n = cc in
                  elim before [ inl less ↦ omega arith | inr less ↦ let e : true ≡ false = sym bad' ∙ before_right j (omega arith) less.1 in cc ]

          pub right_with_fixed : ((j : ℕ) → n ≤ j → j < length s.arguments → is_promoted (tree_at s.arguments j) ≡ false) → HasNoFaultFor purpose s
          right_with_fixed none g (over_most over) = omega arith
          right_with_fixed none g (in_result {path = p} {fault = h} other) = suited_has_none result_right p h other
          right_with_fixed none g (in_argument {i = j} {path = p} {fault = h} inside other) = suited_has_none (right j inside) p h other
          right_with_fixed none g (fixed_outside {n = m} is' outside) = fixed_is_right m is' outside
          right_with_fixed none g (promoted {n = m} {i = j} is' from inside bad) =
              let same : m ≡ n = cc in
              let e : true ≡ false = sym bad ∙ none j (omega arith) inside in
              cc

-- no more arguments are fixed than there are
pub fixed_within : (s : Signature) (n : ℕ) → SignatureHasNoFault s → s.fixed ≡ Some n → n ≤ length s.arguments
fixed_within s n right is =
    elim (cases_lt (length s.arguments) n) [
      | inl over ↦ absurd (right (bad_fixed n (length s.arguments)) (fixed_outside is (inr over)))
      | inr within ↦ within
    ]
