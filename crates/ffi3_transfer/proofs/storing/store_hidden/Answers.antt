use Rattle.std.proofs.Common.{◌≡◌, ◌-◌, length, rules}
use Rattle.ffi3_place_spec.specs.Holds.{OwnsHidden}
use Rattle.ffi3_place_spec.specs.Sound.{hidden_locs}
use Rattle.ffi3_marshal.specs.Stored.{Stays}
use Rattle.ffi3_place_spec.specs.Image.{Image}
use Rattle.ffi3_transfer.specs.Stored.{image_in}
use Rattle.ffi3_transfer.proofs.Lent.{each_takes, gave_back, hidden_places}
use Rattle.ffi3_transfer.proofs.PlaceBytes.{hidden_lies}
use Rattle.ffi3_transfer.proofs.storing.store_hidden.Goals as goal

pub store_hidden-requires-clause-lies : goal.store_hidden-requires-clause-lies
store_hidden-requires-clause-lies c =
    hidden_lies (image_in c.args.registers.now c.args.stack.now) c.args.base c.args.res.now c.requires.base c.requires.whole c.requires.there

pub store_hidden-requires-clause-take : goal.store_hidden-requires-clause-take
store_hidden-requires-clause-take c = each_takes (hidden_locs c.args.res.now)

pub returns : goal.returns
returns c =
    let same = c.store_hidden.ensures.within (length c.args.stack.now - c.args.base) (hidden_places c.args.base (image_in c.args.registers.now c.args.stack.now) c.args.res.now (hidden_lies (image_in c.args.registers.now c.args.stack.now) c.args.base c.args.res.now c.requires.base c.requires.whole c.requires.there)) in
    let registers : c.registers-1.given.0 ≡ c.store_hidden.new.state.registers.now = search rules in
    let stack : c.stack-1.given.0 ≡ c.store_hidden.new.state.stack.now = search rules in
    let back = λ (P : Image → Type 0). gave_back P c.registers-1.given.0 c.store_hidden.new.state.registers.now c.stack-1.given.0 c.store_hidden.new.state.stack.now registers stack in
    record {
      stands = back (λ m. OwnsHidden m c.args.base c.args.res.now) c.store_hidden.ensures.stands;
      stays = back (Stays c.args.base (hidden_locs c.args.res.now) (image_in c.args.registers.now c.args.stack.now)) c.store_hidden.ensures.stays;
    }
