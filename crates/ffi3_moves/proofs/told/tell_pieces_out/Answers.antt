use Rattle.std.proofs.Common.{◌<◌, ◌≤◌, length, sym, ◌∙◌, refl, arith}
use Rattle.ffi3_moves.specs.Moves.{pieces_out}
use Rattle.ffi3_moves.proofs.Telling.{pieces_out_count, told_front, told_none}
use Rattle.ffi3_moves.proofs.told.tell_pieces_out.Goals as goal

pub returns-then-told-count-clause-told : goal.returns-then-told-count-clause-told
returns-then-told-count-clause-told c =
    let moves = pieces_out 0 0 c.args.pieces.now in
    let short : length c.args.told.now < length moves = omega (arith, c.if-told-count.true, c.len-count.ensures, pieces_out_count 0 0 c.args.pieces.now) in
    told_none moves c.args.told.now c.args.told.now short refl

pub returns-then-told-count-clause-count : goal.returns-then-told-count-clause-count
returns-then-told-count-clause-count c = c.len-count.ensures ∙ sym (pieces_out_count 0 0 c.args.pieces.now)

pub returns-clause-count : goal.returns-clause-count
returns-clause-count c = omega (arith, c.put_pieces_out.ensures.end, pieces_out_count 0 0 c.args.pieces.now)

pub returns-clause-told : goal.returns-clause-told
returns-clause-told c =
    let moves = pieces_out 0 0 c.args.pieces.now in
    let room : length moves ≤ length c.args.told.now = omega (arith, c.if-told-count.false, c.len-count.ensures, pieces_out_count 0 0 c.args.pieces.now) in
    told_front moves c.args.told.now c.put_pieces_out.new.told room c.put_pieces_out.ensures.put
