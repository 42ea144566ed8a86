use Rattle.std.proofs.Common.{ℕ, ◌<◌}
use Rattle.ffi3_type_spec.specs.Signature.{SignatureHasNoFault, signature_at}
use Rattle.ffi3_explain_theorem.proofs.entries.are_right.Given as goal

abbrev pub invariant-loop-k : goal.invariant-loop-k
invariant-loop-k g l =
    (k : ℕ) → k < l.k → SignatureHasNoFault (signature_at l.cifs k)
