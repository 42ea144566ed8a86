use Rattle.std.proofs.Common.{arith}
use Rattle.ffi3_type_spec.proofs.Right.{few_arguments}
use Rattle.ffi3_types.proofs.checked.CheckedSig.count.Goals as goal

pub returns-clause-few : goal.returns-clause-few
returns-clause-few c = omega (arith, c.count.ensures, few_arguments c.self.inside.sig.now c.self.invariant)
