use Rattle.std.proofs.Common.{rules, ◌≡◌, ◌++◌, refl}
use Rattle.std.specs.Prelude.{Err}
use Rattle.ffi3_app.proofs.Pieces.{continues_from, continues_on, continues_ended, continues_last}
use Rattle.ffi3_app.proofs.write.write_two_lines.Goals as goal

pub returns-in_err-write_made_line : goal.returns-in_err-write_made_line
returns-in_err-write_made_line g c one two first second =
    let whole = one ++ two in
    let ended : c.from_residual.result ≡ Err c.in_err-write_made_line.field-0.0 = search rules in
    continues_ended whole whole _ _ (continues_from whole _) one two _ _ _ refl (c.in_err-write_made_line.ensures one first) ended

pub returns : goal.returns
returns g c one two first second =
    let whole = one ++ two in
    let went = continues_on whole whole _ _ (continues_from whole (g.O.Sink.state c.args.output.now)) one two _ refl (c.in_ok-write_made_line.ensures one first) in
    continues_last whole two _ _ went two _ _ refl (c.write_made_line-2.ensures two second)
