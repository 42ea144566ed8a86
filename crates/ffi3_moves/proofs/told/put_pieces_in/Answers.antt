use Rattle.std.proofs.Common.{◌<◌, length, arith}
use Rattle.ffi3_moves.proofs.Telling.{piece_told_in}
use Rattle.ffi3_moves.proofs.told.put_pieces_in.Goals as goal

pub loop-j-preserved : goal.loop-j-preserved
loop-j-preserved c =
    let below : c.loop-j.j < length c.args.pieces.now = omega (arith, c.loop-j-test.true, c.len-j-end.ensures) in
    piece_told_in c.args.part c.args.from c.args.at c.loop-j.j c.args.pieces.now c.get.result.now c.piece_in.result c.told_move.result c.loop-j.told _ c.args.ty.now below c.get.ensures c.piece_in.ensures c.told_move.ensures c.loop-j.invariant
