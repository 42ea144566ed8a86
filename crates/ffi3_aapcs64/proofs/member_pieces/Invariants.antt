use Rattle.std.proofs.Common.{◌≡◌, ◌+◌, ◌++◌, drop}
use Rattle.ffi3_type_spec.specs.Layout.{leaves_of}
use Rattle.ffi3_aapcs64_spec.specs.Aapcs64.{member_pieces}
use Rattle.ffi3_aapcs64.proofs.member_pieces.Given as goal

abbrev pub invariant-loop-i : goal.invariant-loop-i
invariant-loop-i l = l.pieces ++ member_pieces (l.vector + l.i) (drop l.i (leaves_of l.classed)) ≡ member_pieces l.vector (leaves_of l.classed)
