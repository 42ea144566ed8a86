use Rattle.std.proofs.Common.{arith}
use Rattle.ffi3_type_spec.proofs.Placed.{few_placed}
use Rattle.ffi3_types.proofs.checked.PlacedSig.count.Goals as goal

pub returns-clause-few : goal.returns-clause-few
returns-clause-few c = omega (arith, c.count.ensures, few_placed c.self.inside.sig.now c.self.invariant)
