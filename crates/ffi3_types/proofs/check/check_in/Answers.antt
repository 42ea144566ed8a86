use Rattle.std.proofs.Common.{ap, sym}
use Rattle.ffi3_type_spec.specs.Signature.{is_for_calls, of_type, of_long_double}
use Rattle.ffi3_types.specs.FirstElement.{purpose_of}
use Rattle.ffi3_types.proofs.check.check_in.Goals as goal

pub returns-in-Err-clause-err : goal.returns-in-Err-clause-err
returns-in-Err-clause-err c = of_type (rw c.role_in.ensures at c.in-Err.ensures.err)

pub returns-then-has_long_double-clause-err : goal.returns-then-has_long_double-clause-err
returns-then-has_long_double-clause-err c =
    let calls = ap (λ b. is_for_calls (purpose_of b)) c.if-not-calls.false in
    rw c.new.ensures (of_long_double calls (rw c.role_in.ensures at c.in_default.ensures.ok) (sym c.if-has_long_double.ensures))
