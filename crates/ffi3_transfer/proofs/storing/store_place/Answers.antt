use Rattle.std.proofs.Common.{◌≡◌, ◌-◌, length, rules}
use Rattle.ffi3_place_spec.specs.Sound.{place_locs}
use Rattle.ffi3_marshal.specs.Stored.{Stays}
use Rattle.ffi3_marshal.specs.Standing.{PlaceKeeps, PlaceStands, place_uses}
use Rattle.ffi3_place_spec.specs.Image.{Image}
use Rattle.ffi3_transfer.specs.Stored.{image_in}
use Rattle.ffi3_transfer.proofs.Lent.{each_takes, gave_back}
use Rattle.ffi3_transfer.proofs.storing.store_place.Goals as goal

pub store_place-requires-clause-take : goal.store_place-requires-clause-take
store_place-requires-clause-take c = each_takes (place_locs c.args.place.now)

pub returns : goal.returns
returns c =
    let same = c.store_place.ensures.within (length c.args.stack.now - c.args.base) c.requires.lies in
    let registers : c.registers-1.given.0 ≡ c.store_place.new.state.registers.now = search rules in
    let stack : c.stack-1.given.0 ≡ c.store_place.new.state.stack.now = search rules in
    let back = λ (P : Image → Type 0). gave_back P c.registers-1.given.0 c.store_place.new.state.registers.now c.stack-1.given.0 c.store_place.new.state.stack.now registers stack in
    record {
      stands = back (λ m. PlaceStands c.args.base m c.args.ty.now c.args.bytes.now c.args.place.now) c.store_place.ensures.stands;
      kept = back (λ m. PlaceKeeps c.args.base (image_in c.args.registers.now c.args.stack.now) m c.args.ty.now c.args.place.now) c.store_place.ensures.kept;
      stays = back (Stays c.args.base (place_uses c.args.ty.now c.args.place.now) (image_in c.args.registers.now c.args.stack.now)) c.store_place.ensures.stays;
    }
