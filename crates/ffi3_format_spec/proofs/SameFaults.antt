-- Of signatures without long doubles of 16 bytes the two notions have the same faults, and so the same first one.
use Rattle.std.proofs.Common.{◌≡◌, ℕ, Bool, true, false, List, [], ◌∷◌, Some, refl, sym, subst}
use Rattle.std.proofs.lemmas.Bool.{eqb-true}
use Rattle.ffi3_type_spec.specs.declared.Role.{Role}
use Rattle.ffi3_type_spec.specs.declared.Role.TheVariants.{AsResult, AsArgument, PlacedResult, PlacedArgument}
use Rattle.ffi3_type_spec.specs.Tree.{Tree, scalar, array, Trees, no_trees, tree, tree_at, x87, is_complex}
use Rattle.ffi3_type_spec.specs.Layout.{has_long_double}
use Rattle.ffi3_type_spec.specs.Fault.{Fault, IsFault, IsFirstFault, node_at, role_at, takes, out_of_place, left_out_kind, nested_deep, misshapen, over_limit}
use Rattle.ffi3_type_spec.specs.Signature.{Signature, SignatureFault, over_most, in_result, in_argument, fixed_outside, promoted, of_type, of_long_double, for_calls, for_places, IsFaultFor, IsFirstFaultFor, IsFirstSignatureFault, HasNoLongDouble}

-- ---- roles that take the same at the root

module _ (role other : Role) (t : Tree) (alike : takes role t ≡ false → takes other t ≡ false) where
  at_node : (path : List ℕ) (u : Tree) → node_at path t ≡ Some u → takes (role_at role path) u ≡ false → takes (role_at other path) u ≡ false
  at_node [] u is e =
      let same : t ≡ u = cc in
      subst (λ x. takes other x ≡ false) same (alike (subst (λ x. takes role x ≡ false) (sym same) e))
  at_node (i ∷ path) u is e = e

  there_too : (path : List ℕ) (f : Fault) → IsFault 0 role t path f → IsFault 0 other t path f
  there_too path f (out_of_place {node = u} is bad) = out_of_place is (at_node path u is bad)
  there_too path f (left_out_kind is) = left_out_kind is
  there_too path f (nested_deep is parts deep) = nested_deep is parts deep
  there_too path f (misshapen is bad) = misshapen is bad
  there_too path f (over_limit is parts large) = over_limit is parts large

record TakeAlike (role other : Role) (t : Tree) : Type 0 where
  pub there : takes role t ≡ false → takes other t ≡ false
  pub back : takes other t ≡ false → takes role t ≡ false

first_alike : (role other : Role) (t : Tree) (path : List ℕ) (f : Fault) → TakeAlike role other t → IsFirstFault 0 role t path f → IsFirstFault 0 other t path f
first_alike role other t path f alike first = record {
  is_there = there_too role other t alike.there path f first.is_there;
  none_before = λ q g fault. first.none_before q g (there_too other role t alike.back q g fault);
}

-- ---- an array of two is a complex long double or taken by neither

false_if : (b : Bool) → (b ≡ true → ⊥) → b ≡ false
false_if true h = absurd (h refl)
false_if false h = refl

complex_is_long : (ts : Trees) (n : ℕ) → is_complex ts n ≡ true → has_long_double (array ts n) ≡ true
complex_is_long (tree (scalar x87) no_trees) n e =
    subst (λ k. has_long_double (array (tree (scalar x87) no_trees) k) ≡ true) (sym (eqb-true n 2 e)) refl
complex_is_long no_trees n e = cc
complex_is_long _ n e = cc

plain_array : (ts : Trees) (n : ℕ) → has_long_double (array ts n) ≡ false → is_complex ts n ≡ false
plain_array ts n plain =
    false_if (is_complex ts n) (λ complex. let long : has_long_double (array ts n) ≡ true = complex_is_long ts n complex in cc)

results_alike : (t : Tree) → has_long_double t ≡ false → TakeAlike AsResult PlacedResult t
results_alike (array ts n) plain = record { there = λ e. plain_array ts n plain; back = λ e. refl }
results_alike _ plain = record { there = λ e. e; back = λ e. e }

arguments_alike : (t : Tree) → has_long_double t ≡ false → TakeAlike AsArgument PlacedArgument t
arguments_alike (array ts n) plain = record { there = λ e. plain_array ts n plain; back = λ e. refl }
arguments_alike _ plain = record { there = λ e. e; back = λ e. e }

turned : {role other : Role} {t : Tree} → TakeAlike role other t → TakeAlike other role t
turned alike = record { there = alike.back; back = alike.there }

-- ---- signatures

module _ (s : Signature) (plain : HasNoLongDouble s) where
  for_places_too : (f : SignatureFault) → IsFaultFor for_calls s f → IsFaultFor for_places s f
  for_places_too f (over_most over) = over_most over
  for_places_too f (in_result {path = p} {fault = g} (of_type first)) =
      in_result (of_type (first_alike AsResult PlacedResult s.result_type p g (results_alike s.result_type plain.result_type) first))
  for_places_too f (in_result (of_long_double calls own long)) =
      let none : has_long_double s.result_type ≡ false = plain.result_type in cc
  for_places_too f (in_argument {i = i} {path = p} {fault = g} below (of_type first)) =
      in_argument below (of_type (first_alike AsArgument PlacedArgument (tree_at s.arguments i) p g (arguments_alike (tree_at s.arguments i) (plain.arguments i below)) first))
  for_places_too f (in_argument {i = i} below (of_long_double calls own long)) =
      let none : has_long_double (tree_at s.arguments i) ≡ false = plain.arguments i below in cc
  for_places_too f (fixed_outside is outside) = fixed_outside is outside
  for_places_too f (promoted is from below bad) = promoted is from below bad

  for_calls_too : (f : SignatureFault) → IsFaultFor for_places s f → IsFaultFor for_calls s f
  for_calls_too f (over_most over) = over_most over
  for_calls_too f (in_result {path = p} {fault = g} (of_type first)) =
      in_result (of_type (first_alike PlacedResult AsResult s.result_type p g (turned (results_alike s.result_type plain.result_type)) first))
  for_calls_too f (in_result (of_long_double calls own long)) = cc
  for_calls_too f (in_argument {i = i} {path = p} {fault = g} below (of_type first)) =
      in_argument below (of_type (first_alike PlacedArgument AsArgument (tree_at s.arguments i) p g (turned (arguments_alike (tree_at s.arguments i) (plain.arguments i below))) first))
  for_calls_too f (in_argument below (of_long_double calls own long)) = cc
  for_calls_too f (fixed_outside is outside) = fixed_outside is outside
  for_calls_too f (promoted is from below bad) = promoted is from below bad

  pub same_first : (f : SignatureFault) → IsFirstFaultFor for_places s f → IsFirstSignatureFault s f
  same_first f first = record {
    is_there = for_calls_too f first.is_there;
    none_before = λ g fault. first.none_before g (for_places_too g fault);
  }
