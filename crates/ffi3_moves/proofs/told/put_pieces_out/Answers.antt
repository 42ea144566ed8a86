use Rattle.std.proofs.Common.{◌≡◌, ◌+◌, ◌-◌, take, map, ap, ◌∙◌, arith, rules}
use Rattle.std.proofs.lemmas.List.Edits.{sets}
use Rattle.ffi3_moves.specs.Moves.{pieces_out}
use Rattle.ffi3_moves.specs.Told.{told_move}
use Rattle.ffi3_moves.proofs.Telling.{all_taken, piece_told_out}
use Rattle.ffi3_moves.proofs.told.put_pieces_out.Goals as goal

pub loop-j-init : goal.loop-j-init
loop-j-init c =
    let begins : c.args.at + 0 ≡ c.args.at = omega arith in
    ap (λ k. sets c.args.told.now k (map told_move (pieces_out c.args.part c.args.to (take (c.len-count.result - 0) c.args.pieces.now)))) begins ∙ ap (λ ps. sets c.args.told.now c.args.at (map told_move (pieces_out c.args.part c.args.to ps))) (all_taken c.args.pieces.now c.len-count.result c.len-count.ensures)

pub loop-j-preserved : goal.loop-j-preserved
loop-j-preserved c =
    piece_told_out c.args.part c.args.to c.args.at c.loop-j.j c.len-count.result c.args.pieces.now c.get.result.now c.piece_out.result c.told_move.result c.loop-j.told _ c.len-count.ensures c.loop-j-test.true (search rules) c.piece_out.ensures c.told_move.ensures c.loop-j.invariant
