use Rattle.std.proofs.Common.{rules, ◌≡◌, drop, arith}
use Rattle.std.specs.Prelude.{Err, slice_range}
use Rattle.std.proofs.Math.ListN.{drop_of_length-le}
use Rattle.ffi3_app.proofs.Pieces.{continues_on, continues_ended, continues_done, piece_of}
use Rattle.ffi3_app.proofs.write.write_lines.Goals as goal

pub returns-in_err-write_piece : goal.returns-in_err-write_piece
returns-in_err-write_piece g c =
    let text = c.args.text.now in
    let start = c.loop-at.at in
    let end = c.end_of_line-end.result in
    let ended : c.from_residual.result ≡ Err c.in_err-write_piece.field-0.0 = search rules in
    continues_ended text (drop start text) _ _ c.loop-at.invariant.continues (slice_range text start end) (drop end text) _ _ _ (piece_of text start end (omega (arith, c.end_of_line-end.ensures.more))) c.in_err-write_piece.ensures ended

pub loop-at-preserved : goal.loop-at-preserved
loop-at-preserved g c =
    let text = c.args.text.now in
    let start = c.loop-at.at in
    let end = c.end_of_line-end.result in
    record {
      within = c.end_of_line-end.ensures.within;
      continues = continues_on text (drop start text) _ _ c.loop-at.invariant.continues (slice_range text start end) (drop end text) _ (piece_of text start end (omega (arith, c.end_of_line-end.ensures.more))) c.in_ok-write_piece.ensures;
    }

pub returns : goal.returns
returns g c =
    let text = c.args.text.now in
    continues_done text (drop c.loop-at.at text) _ _ c.loop-at.invariant.continues (drop_of_length-le text {i = c.loop-at.at} (search rules))
