use Rattle.std.proofs.Common.{◌<◌, ◌≤◌, length, refl, arith}
use Rattle.ffi3_moves.specs.Moves.{pieces_in}
use Rattle.ffi3_moves.proofs.Telling.{pieces_in_count, told_front, told_none}
use Rattle.ffi3_moves.proofs.told.tell_pieces_in.Goals as goal

pub returns-then-told-count-clause-told : goal.returns-then-told-count-clause-told
returns-then-told-count-clause-told c =
    let moves = pieces_in 0 0 c.args.ty.now c.args.pieces.now in
    let short : length c.args.told.now < length moves = omega (arith, c.if-told-count.true, c.len-count.ensures, pieces_in_count 0 0 c.args.ty.now c.args.pieces.now) in
    told_none moves c.args.told.now c.args.told.now short refl

pub returns-clause-told : goal.returns-clause-told
returns-clause-told c =
    let moves = pieces_in 0 0 c.args.ty.now c.args.pieces.now in
    let room : length moves ≤ length c.args.told.now = omega (arith, c.if-told-count.false, c.len-count.ensures, pieces_in_count 0 0 c.args.ty.now c.args.pieces.now) in
    told_front moves c.args.told.now c.put_pieces_in.new.told room c.put_pieces_in.ensures.put
