use Rattle.std.proofs.Common.{◌<◌, length, arith}
use Rattle.ffi3_types.specs.TreeOf.{tree_of}
use Rattle.ffi3_explain.specs.ImageOf.{image_of}
use Rattle.ffi3_explain.proofs.Loops.{broken_here, check_further, is_other, is_same}
use Rattle.ffi3_explain.proofs.pieces.first_broken_piece.Goals as goal

pub returns-then-differs : goal.returns-then-differs
returns-then-differs c =
    let below : c.loop-j.j < length c.args.pieces.now = omega arith in
    broken_here (image_of c.args.image.now) c.args.base c.args.i (tree_of c.args.ty.now) c.args.pieces.now c.loop-j.j below c.loop-j.invariant c.check_piece-check.result c.check_piece-check.ensures (is_other c.check_piece-check.result.found c.check_piece-check.result.wants c.if-differs.true)

pub loop-j-preserved : goal.loop-j-preserved
loop-j-preserved c =
    let below : c.loop-j.j < length c.args.pieces.now = omega arith in
    check_further (image_of c.args.image.now) c.args.base c.args.i (tree_of c.args.ty.now) c.args.pieces.now c.loop-j.j below c.loop-j.invariant c.check_piece-check.result c.check_piece-check.ensures (is_same c.check_piece-check.result.found c.check_piece-check.result.wants c.if-differs.false)
