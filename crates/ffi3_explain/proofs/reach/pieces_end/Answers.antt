use Rattle.std.proofs.Common.{arith}
use Rattle.ffi3_explain.proofs.Ends.{no_piece, piece_further, pieces_end, small_greater}
use Rattle.ffi3_explain.proofs.reach.pieces_end.Goals as goal

pub loop-j-init : goal.loop-j-init
loop-j-init c = (no_piece c.args.pieces.now, omega arith)

pub loop-j-preserved : goal.loop-j-preserved
loop-j-preserved c = (
  piece_further c.args.pieces.now c.loop-j.j c.loop-j.end c.greater-end.result c.loc_end.result c.get.result.now (omega arith) c.get.ensures c.loc_end.ensures.value c.greater-end.ensures c.loop-j.invariant.0,
  small_greater c.loop-j.end c.loc_end.result c.greater-end.result c.loop-j.invariant.1 c.loc_end.ensures.small c.greater-end.ensures,
)

pub returns-clause-value : goal.returns-clause-value
returns-clause-value c = pieces_end c.args.pieces.now c.loop-j.j c.loop-j.end (omega arith) c.loop-j.invariant.0
