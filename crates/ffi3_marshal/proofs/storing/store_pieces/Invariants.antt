use Rattle.std.proofs.Common.{ℕ, ◌+◌}
use Rattle.std.specs.List.{AllByRecursion}
use Rattle.ffi3_place_spec.specs.Sound.{piece_locs}
use Rattle.ffi3_marshal.specs.Stored.{IsPlaceIn}
use Rattle.ffi3_marshal.proofs.Stepping.{AreStored}
use Rattle.ffi3_marshal.proofs.storing.store_pieces.Given as goal

abbrev pub invariant-loop-j : goal.invariant-loop-j
invariant-loop-j g l =
    AreStored l.base l.ty l.bytes l.pieces l.j (g.W.ReadImage.image l.initial.state) (g.W.ReadImage.image l.state)
    × ((room : ℕ) → AllByRecursion (IsPlaceIn g.W.ReadImage.floatings room) (piece_locs l.pieces) → g.W.WriteImage.wrote l.base (l.base + room) l.initial.state l.state)
