use Rattle.std.proofs.Common.{arith}
use Rattle.ffi3_types.specs.TreeOf.{tree_of}
use Rattle.ffi3_nodes.specs.declared.Node.{Node}
use Rattle.ffi3_nodes.proofs.FlatTypes.{scalar_argument}
use Rattle.ffi3_nodes.proofs.flat.push_scalars.Goals as goal

pub loop-end-preserved : goal.loop-end-preserved
loop-end-preserved c =
    let d : Node = record { kind = 0; count = 0 } in
    record {
      read = λ ret so_far. scalar_argument ret (tree_of c.in-Some.ty) c.loop-end.args c.push.new.self c.args.nodes.now c.loop-end.end d c.loop-end-test.true (omega (arith, c.if-len-lt-MOST_ARGUMENTS.true, c.len.ensures.count)) c.in_ok-push.ensures.ok c.in-Some.ensures.written c.in-Some.ensures.scalar c.in-Some.ensures.plain (c.loop-end.invariant.read ret so_far);
      on = omega (arith, c.loop-end.invariant.on);
    }
