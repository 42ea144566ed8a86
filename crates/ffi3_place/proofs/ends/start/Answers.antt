use Rattle.std.proofs.Common.{arith}
use Rattle.ffi3_type_spec.proofs.Layouts.{align_bounded}
use Rattle.ffi3_place.proofs.ends.start.Goals as goal

pub round_up-requires-clause-fits : goal.round_up-requires-clause-fits
round_up-requires-clause-fits c =
    omega (arith, c.max.ensures, c.align.ensures, align_bounded c.args.ty.now)

pub returns-clause-near : goal.returns-clause-near
returns-clause-near c =
    omega (arith, c.round_up.ensures.close, c.max.ensures, c.align.ensures, align_bounded c.args.ty.now)
