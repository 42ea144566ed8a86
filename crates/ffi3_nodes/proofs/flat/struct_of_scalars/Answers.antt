use Rattle.std.proofs.Common.{subst, arith}
use Rattle.ffi3_types.specs.TreeOf.{tree_of}
use Rattle.ffi3_nodes.proofs.FlatTypes.{AreMembers, no_members, more_members, members_read}
use Rattle.ffi3_nodes.proofs.flat.struct_of_scalars.Goals as goal

pub loop-i-init : goal.loop-i-init
loop-i-init c = no_members c.in_ok-types.types c.args.nodes.now c.in_ok-types.ensures.value

pub loop-i-preserved : goal.loop-i-preserved
loop-i-preserved c =
    more_members (tree_of c.in-Some.ty) c.loop-i.types c.push.new.self c.args.nodes.now c.loop-i.i (record { kind = 0; count = 0 }) (omega (arith, c.loop-i-test.true, c.if-members-nodes.false)) c.in_ok-push.ensures.ok c.loop-i.invariant c.in-Some.ensures.written c.in-Some.ensures.scalar c.in-Some.ensures.plain

pub returns-clause-read : goal.returns-clause-read
returns-clause-read c = λ role.
    members_read role c.loop-i.types c.args.nodes.now c.args.count
    (subst (AreMembers c.loop-i.types c.args.nodes.now) (omega (arith, c.loop-i-test.false, c.loop-i.auto.i-end)) c.loop-i.invariant)
    (omega (arith, c.if-members-eq0.false)) (omega (arith, c.if-members-gt-MOST_MEMBERS.false))
