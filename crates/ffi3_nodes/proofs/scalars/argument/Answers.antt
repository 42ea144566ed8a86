use Rattle.std.proofs.Common.{◌≡◌, arith}
use Rattle.ffi3_nodes.proofs.FlatTypes.{scalar_written}
use Rattle.ffi3_nodes.proofs.scalars.argument.Goals as goal

pub returns-clause-written : goal.returns-clause-written
returns-clause-written c =
    let none : c.args.node.count ≡ 0 = omega (arith, c.if-node-ne0.false) in
    scalar_written c.args.node none c.scalar.result c.scalar.ensures.some

pub returns-clause-scalar : goal.returns-clause-scalar
returns-clause-scalar c = c.scalar.ensures.scalar

pub returns-clause-plain : goal.returns-clause-plain
returns-clause-plain c = c.scalar.ensures.plain
