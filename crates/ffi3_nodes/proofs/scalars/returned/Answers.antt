use Rattle.std.proofs.Common.{◌≡◌, arith}
use Rattle.ffi3_type_spec.specs.declared.Role.TheVariants.{AsResult}
use Rattle.ffi3_nodes.proofs.FlatTypes.{scalar_of_right, scalar_written, void_right, void_written}
use Rattle.ffi3_nodes.proofs.scalars.returned.Goals as goal

pub returns-then-node-eq-VOID-clause-written : goal.returns-then-node-eq-VOID-clause-written
returns-then-node-eq-VOID-clause-written c =
    let none : c.args.node.count ≡ 0 = omega (arith, c.if-node-ne0.false) in
    void_written c.args.node none c.if-node-eq-VOID.true

pub returns-then-node-eq-VOID-clause-right : goal.returns-then-node-eq-VOID-clause-right
returns-then-node-eq-VOID-clause-right c = void_right

pub returns-clause-written : goal.returns-clause-written
returns-clause-written c =
    let none : c.args.node.count ≡ 0 = omega (arith, c.if-node-ne0.false) in
    scalar_written c.args.node none c.scalar.result c.scalar.ensures.some

pub returns-clause-right : goal.returns-clause-right
returns-clause-right c = scalar_of_right AsResult c.scalar.result c.scalar.ensures.scalar

pub returns-clause-plain : goal.returns-clause-plain
returns-clause-plain c = c.scalar.ensures.plain
