use Rattle.std.proofs.Common.{length}
use Rattle.ffi3_explain.specs.ImageOf.{image_of}
use Rattle.ffi3_explain.proofs.Loops.{ArePiecesRead}
use Rattle.ffi3_explain.proofs.pieces.read_pieces.Given as goal

abbrev pub invariant-loop-j : goal.invariant-loop-j
invariant-loop-j l = ArePiecesRead (image_of l.image) l.base l.pieces (length l.fn.out) l.j l.out
