use Rattle.std.proofs.Common.{arith}
use Rattle.ffi3_type_spec.proofs.Layouts.{align_bounded}
use Rattle.ffi3_aapcs64.proofs.Classed.passed_align.Goals as goal

pub returns-else-self-clause-small : goal.returns-else-self-clause-small
returns-else-self-clause-small c =
    omega (arith, c.self.invariant.aligned, align_bounded c.self.inside.ty)
