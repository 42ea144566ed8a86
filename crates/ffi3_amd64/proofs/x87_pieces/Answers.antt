use Rattle.std.proofs.Common.{arith}
use Rattle.ffi3_amd64_spec.proofs.LongDoubles.{x87_few}
use Rattle.ffi3_amd64.proofs.LongDoubles.{x87_turn}
use Rattle.ffi3_amd64.proofs.x87_pieces.Goals as goal

pub push_x87-requires-clause-few : goal.push_x87-requires-clause-few
push_x87-requires-clause-few c = omega (arith, x87_few c.args.ty.now c.requires)

pub loop-k-preserved : goal.loop-k-preserved
loop-k-preserved c =
    x87_turn c.args.ty.now c.loop-k.k c.loop-k.pieces _ _ (omega arith) c.in_ok-push_x87.ensures c.loop-k.invariant
