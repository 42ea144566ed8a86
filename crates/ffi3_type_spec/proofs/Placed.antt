-- What calls on the machine ask of a signature is what places ask of it, and that it has no long double of 16 bytes: so of all other signatures the two notions are one.
use Rattle.std.proofs.Common.{◌≡◌, ℕ, ◌<◌, ◌≤◌, inl, inr, Bool, true, false, List, [], ◌∷◌, Some, length, refl, sym, subst, arith}
use Rattle.std.proofs.lemmas.Bool.{cases_lt, eqb-true}
use Rattle.ffi3_type_spec.specs.declared.limits.TheConstants.{MOST_ARGUMENTS}
use Rattle.ffi3_type_spec.specs.declared.Role.{Role}
use Rattle.ffi3_type_spec.specs.declared.Role.TheVariants.{AsResult, AsArgument, PlacedResult, PlacedArgument}
use Rattle.ffi3_type_spec.specs.Tree.{Tree, scalar, left_out, array, Trees, no_trees, tree, tree_at, long_double, x87, is_complex}
use Rattle.ffi3_type_spec.specs.Layout.{has_long_double}
use Rattle.ffi3_type_spec.specs.Fault.{left_out_type, HasNoFault, IsLaidOut, node_at, role_at, takes}
use Rattle.ffi3_type_spec.specs.Signature.{Signature, bad_type, bad_fixed, bad_argument_type, too_many, at_result, at_argument, over_most, in_result, in_argument, fixed_outside, promoted, of_type, of_long_double, SignatureHasNoFault, SignatureIsPlaced, HasNoLongDouble}
use Rattle.ffi3_type_spec.proofs.Faults.{TakesMore, fault_along, right_with_more, right_anywhere}
use Rattle.ffi3_type_spec.proofs.Right.{result_is_right, argument_is_right, right_without_first}

false_if : (b : Bool) → (b ≡ true → ⊥) → b ≡ false
false_if true h = absurd (h refl)
false_if false h = refl

placed_result_takes_more : TakesMore PlacedResult AsResult
placed_result_takes_more (array ts n) e = refl
placed_result_takes_more _ e = e

placed_argument_takes_more : TakesMore PlacedArgument AsArgument
placed_argument_takes_more (array ts n) e = refl
placed_argument_takes_more _ e = e

module _ (s : Signature) (right : SignatureHasNoFault s) where
  -- NO LONG DOUBLE OF 16 BYTES IS PASSED ON THE MACHINE
  pub faultless_is_plain : HasNoLongDouble s
  faultless_is_plain = record {
    result_type = false_if (has_long_double s.result_type) (λ long. right (bad_type at_result [] (left_out_type (left_out long_double))) (in_result (of_long_double refl (result_is_right s right) long)));
    arguments = λ i below. false_if (has_long_double (tree_at s.arguments i)) (λ long. right (bad_type (at_argument i) [] (left_out_type (left_out long_double))) (in_argument below (of_long_double refl (argument_is_right s right i below) long)));
  }

  -- what can be called can be placed
  pub faultless_is_placed : SignatureIsPlaced s
  faultless_is_placed f (over_most over) = right (too_many (length s.arguments)) (over_most over)
  faultless_is_placed f (in_result {path = p} {fault = g} (of_type first)) =
      right_with_more PlacedResult AsResult placed_result_takes_more 0 s.result_type (result_is_right s right) p g first.is_there
  faultless_is_placed f (in_result (of_long_double calls own long)) = cc
  faultless_is_placed f (in_argument {i = i} {path = p} {fault = g} below (of_type first)) =
      right_with_more PlacedArgument AsArgument placed_argument_takes_more 0 (tree_at s.arguments i) (argument_is_right s right i below) p g first.is_there
  faultless_is_placed f (in_argument below (of_long_double calls own long)) = cc
  faultless_is_placed f (fixed_outside {n = n} is outside) = right (bad_fixed n (length s.arguments)) (fixed_outside is outside)
  faultless_is_placed f (promoted {i = i} is from below bad) = right (bad_argument_type i) (promoted is from below bad)

-- ---- the other way round

-- a complex one is no type of a signature without long doubles
complex_is_long : (ts : Trees) (n : ℕ) → is_complex ts n ≡ true → has_long_double (array ts n) ≡ true
complex_is_long (tree (scalar x87) no_trees) n e =
    subst (λ k. has_long_double (array (tree (scalar x87) no_trees) k) ≡ true) (sym (eqb-true n 2 e)) refl
complex_is_long no_trees n e = cc
complex_is_long _ n e = cc

plain_array : (ts : Trees) (n : ℕ) → has_long_double (array ts n) ≡ false → is_complex ts n ≡ false
plain_array ts n plain =
    false_if (is_complex ts n) (λ complex. let long : has_long_double (array ts n) ≡ true = complex_is_long ts n complex in cc)

result_alike : (t : Tree) → has_long_double t ≡ false → takes AsResult t ≡ false → takes PlacedResult t ≡ false
result_alike (array ts n) plain e = plain_array ts n plain
result_alike _ plain e = e

argument_alike : (t : Tree) → has_long_double t ≡ false → takes AsArgument t ≡ false → takes PlacedArgument t ≡ false
argument_alike (array ts n) plain e = plain_array ts n plain
argument_alike _ plain e = e

-- roles that take the same at the root take the same
module _ (role other : Role) (t : Tree) (alike : takes role t ≡ false → takes other t ≡ false) where
  at_node : (path : List ℕ) (u : Tree) → node_at path t ≡ Some u → takes (role_at role path) u ≡ false → takes (role_at other path) u ≡ false
  at_node [] u is e =
      let same : t ≡ u = cc in
      subst (λ x. takes other x ≡ false) same (alike (subst (λ x. takes role x ≡ false) (sym same) e))
  at_node (i ∷ path) u is e = e

  right_at_root : HasNoFault 0 other t → HasNoFault 0 role t
  right_at_root right path f fault = right path f (fault_along t path f (omega arith) (at_node path) fault)

module _ (s : Signature) (placed : SignatureIsPlaced s) where
  placed_result : HasNoFault 0 PlacedResult s.result_type
  placed_result =
      right_without_first PlacedResult s.result_type (λ path f first. placed (bad_type at_result path f) (in_result (of_type first)))

  placed_argument : (i : ℕ) → i < length s.arguments → HasNoFault 0 PlacedArgument (tree_at s.arguments i)
  placed_argument i below =
      right_without_first PlacedArgument (tree_at s.arguments i) (λ path f first. placed (bad_type (at_argument i) path f) (in_argument below (of_type first)))

  -- each has a layout, and there are few
  pub placed_result_is_laid_out : IsLaidOut s.result_type
  placed_result_is_laid_out = right_anywhere 0 PlacedResult s.result_type placed_result

  pub placed_argument_is_laid_out : (i : ℕ) → i < length s.arguments → IsLaidOut (tree_at s.arguments i)
  placed_argument_is_laid_out i below =
      right_anywhere 0 PlacedArgument (tree_at s.arguments i) (placed_argument i below)

  pub few_placed : length s.arguments ≤ MOST_ARGUMENTS
  few_placed =
      elim (cases_lt MOST_ARGUMENTS (length s.arguments)) [
        | inl over ↦ absurd (placed (too_many (length s.arguments)) (over_most over))
        | inr few ↦ few
      ]

  -- what can be placed, and has no long double of 16 bytes, can be called
  pub placed_is_faultless : HasNoLongDouble s → SignatureHasNoFault s
  placed_is_faultless plain f (over_most over) = placed (too_many (length s.arguments)) (over_most over)
  placed_is_faultless plain f (in_result {path = p} {fault = g} (of_type first)) =
      right_at_root AsResult PlacedResult s.result_type (result_alike s.result_type plain.result_type) placed_result p g first.is_there
  placed_is_faultless plain f (in_result (of_long_double calls own long)) =
      let none : has_long_double s.result_type ≡ false = plain.result_type in cc
  placed_is_faultless plain f (in_argument {i = i} {path = p} {fault = g} below (of_type first)) =
      right_at_root AsArgument PlacedArgument (tree_at s.arguments i) (argument_alike (tree_at s.arguments i) (plain.arguments i below)) (placed_argument i below) p g first.is_there
  placed_is_faultless plain f (in_argument {i = i} below (of_long_double calls own long)) =
      let none : has_long_double (tree_at s.arguments i) ≡ false = plain.arguments i below in cc
  placed_is_faultless plain f (fixed_outside {n = n} is outside) = placed (bad_fixed n (length s.arguments)) (fixed_outside is outside)
  placed_is_faultless plain f (promoted {i = i} is from below bad) = placed (bad_argument_type i) (promoted is from below bad)
