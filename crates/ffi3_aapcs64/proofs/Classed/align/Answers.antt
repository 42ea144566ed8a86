use Rattle.std.proofs.Common.{arith}
use Rattle.ffi3_type_spec.proofs.Layouts.{align_positive, align_bounded}
use Rattle.ffi3_aapcs64.proofs.Classed.align.Goals as goal

pub returns-clause-positive : goal.returns-clause-positive
returns-clause-positive c =
    omega (arith, c.self.invariant.aligned, align_positive c.self.inside.ty)

pub returns-clause-small : goal.returns-clause-small
returns-clause-small c =
    omega (arith, c.self.invariant.aligned, align_bounded c.self.inside.ty)
