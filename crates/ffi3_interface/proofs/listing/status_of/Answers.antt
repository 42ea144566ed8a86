use Rattle.std.proofs.Common.{true, false}
use Rattle.std.proofs.lemmas.Bool.{le-leb, lt-leb}
use Rattle.ffi3_interface.proofs.Telling.{room_is}
use Rattle.ffi3_interface.proofs.listing.status_of.Goals as goal

pub returns-then-count-room : goal.returns-then-count-room
returns-then-count-room c =
    λ moves old counted has. room_is c.args.count c.args.room true moves old (le-leb c.args.count c.args.room c.if-count-room.true) counted has

pub returns-else-count-room : goal.returns-else-count-room
returns-else-count-room c =
    λ moves old counted has. room_is c.args.count c.args.room false moves old (lt-leb c.args.count c.args.room c.if-count-room.false) counted has
