use Rattle.std.proofs.Common.{◌≡◌, ◌≤◌, ◌<◌, ℕ, false}
use Rattle.ffi3_type_spec.specs.Tree.{tree_at}
use Rattle.ffi3_type_spec.specs.Signature.{is_promoted, argument_role}
use Rattle.ffi3_type_spec.proofs.Signatures.{IsSuited}
use Rattle.ffi3_types.specs.FirstElement.{purpose_of}
use Rattle.ffi3_types.proofs.sig.check_for.Given as goal

abbrev pub invariant-loop-i : goal.invariant-loop-i
invariant-loop-i l =
    (j : ℕ) → j < l.i → IsSuited (purpose_of l.calls) (argument_role (purpose_of l.calls)) (tree_at l.sig.arguments j)

abbrev pub invariant-loop-i-2 : goal.invariant-loop-i-2
invariant-loop-i-2 l =
    (j : ℕ) → l.fixed ≤ j → j < l.i → is_promoted (tree_at l.sig.arguments j) ≡ false
