use Rattle.std.proofs.Common.{length}
use Rattle.ffi3_explain_spec.specs.Arguments.{least_stack}
use Rattle.ffi3_image.proofs.Rooms.{enough_for}
use Rattle.ffi3_image.proofs.room.room_for_arguments.Goals as goal

pub returns-clause-enough : goal.returns-clause-enough
returns-clause-enough g c =
    enough_for c.check_room.result c.least_stack.result (least_stack g.A.Abi.standard c.args.cif.now) (length c.args.image.now.stack) c.least_stack.ensures c.check_room.ensures.enough
