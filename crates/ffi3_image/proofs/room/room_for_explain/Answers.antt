use Rattle.std.proofs.Common.{length}
use Rattle.ffi3_place_spec.specs.Standard.{frame_of}
use Rattle.ffi3_image_spec.specs.Room.{whole_call}
use Rattle.ffi3_image.proofs.Rooms.{below_whole, enough_for}
use Rattle.ffi3_image.proofs.room.room_for_explain.Goals as goal

pub returns-clause-below : goal.returns-clause-below
returns-clause-below g c =
    below_whole c.check_room.result c.args.image.now.sp g.A.Abi.standard.link (frame_of g.A.Abi.standard c.args.cif.now) c.whole_call.result c.whole_call.ensures c.check_room.ensures.below

pub returns-clause-enough : goal.returns-clause-enough
returns-clause-enough g c =
    enough_for c.check_room.result c.whole_call.result (whole_call g.A.Abi.standard c.args.cif.now) (length c.args.image.now.stack) c.whole_call.ensures c.check_room.ensures.enough
