use Rattle.std.proofs.Common.{◌≡◌, ◌-◌, length, rules}
use Rattle.std.specs.List.{AllByRecursion}
use Rattle.ffi3_place_spec.specs.Sound.{piece_locs}
use Rattle.ffi3_marshal.specs.Stored.{KeepsAbove, Stays}
use Rattle.ffi3_marshal.specs.Standing.{PiecesStand}
use Rattle.ffi3_place_spec.specs.Image.{Image}
use Rattle.ffi3_transfer.specs.Stored.{image_in}
use Rattle.ffi3_transfer.proofs.Lent.{each_takes, gave_back}
use Rattle.ffi3_transfer.proofs.storing.store_pieces.Goals as goal

pub store_pieces-requires-clause-take : goal.store_pieces-requires-clause-take
store_pieces-requires-clause-take c = each_takes (piece_locs c.args.pieces.now)

pub returns : goal.returns
returns c =
    let same = c.store_pieces.ensures.within (length c.args.stack.now - c.args.base) c.requires.lie in
    let registers : c.registers-1.given.0 ≡ c.store_pieces.new.state.registers.now = search rules in
    let stack : c.stack-1.given.0 ≡ c.store_pieces.new.state.stack.now = search rules in
    let back = λ (P : Image → Type 0). gave_back P c.registers-1.given.0 c.store_pieces.new.state.registers.now c.stack-1.given.0 c.store_pieces.new.state.stack.now registers stack in
    record {
      stand = back (λ m. PiecesStand c.args.base m c.args.ty.now c.args.bytes.now c.args.pieces.now) c.store_pieces.ensures.stand;
      kept = back (λ m. AllByRecursion (KeepsAbove c.args.base (image_in c.args.registers.now c.args.stack.now) m) c.args.pieces.now) c.store_pieces.ensures.kept;
      stays = back (Stays c.args.base (piece_locs c.args.pieces.now) (image_in c.args.registers.now c.args.stack.now)) c.store_pieces.ensures.stays;
    }
