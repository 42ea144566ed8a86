use Rattle.std.proofs.Common.{◌≡◌, ◌++◌, drop}
use Rattle.ffi3_type_spec.specs.Layout.{leaves_of}
use Rattle.ffi3_amd64_spec.specs.Amd64.{x87_pieces}
use Rattle.ffi3_amd64.proofs.x87_pieces.Given as goal

abbrev pub invariant-loop-k : goal.invariant-loop-k
invariant-loop-k l = l.pieces ++ x87_pieces l.k (drop l.k (leaves_of l.ty)) ≡ x87_pieces 0 (leaves_of l.ty)
