use Rattle.std.proofs.Common.{rules, ◌≡◌, ◌++◌, [], map, refl, sym, ap}
use Rattle.std.specs.Prelude.{Err}
use Rattle.std.proofs.lemmas.List.{append-nil}
use Rattle.ffi3_type_spec.specs.Signature.{at_result, at_argument}
use Rattle.ffi3_type_spec.specs.Tree.{void}
use Rattle.ffi3_text_spec.specs.LayoutLines.{layout_text_of}
use Rattle.std.specs.List.{concat}
use Rattle.ffi3_app_spec.specs.Commands.{layout_lines, arguments_from}
use Rattle.ffi3_app.proofs.Pieces.{continues_from, continues_on, continues_ended, continues_done, argument_at, arguments_end, line_for}
use Rattle.ffi3_app.proofs.layout.layout_of.Goals as goal

pub returns-in_err-write_made_line : goal.returns-in_err-write_made_line
returns-in_err-write_made_line g c =
    let s = c.args.sig.now in
    let n = c.args.number in
    let whole = concat (layout_lines n s) in
    let ended : c.from_residual.result ≡ Err c.in_err-write_made_line.field-0.0 = search rules in
    continues_ended whole whole _ _ (continues_from whole _) (layout_text_of n s at_result) (concat (map (layout_text_of n s) (arguments_from 0 s.arguments))) _ _ _ refl (c.in_err-write_made_line.ensures (layout_text_of n s at_result) (line_for (λ v. layout_text_of n v at_result) c.as_sig.result.now s c.layout_line.result c.as_sig.ensures.value c.layout_line.ensures)) ended

pub loop-j-init : goal.loop-j-init
loop-j-init g c =
    let s = c.args.sig.now in
    let n = c.args.number in
    let whole = concat (layout_lines n s) in
    let lines = map (layout_text_of n s) (arguments_from 0 s.arguments) in
    continues_on whole whole _ _ (continues_from whole _) (layout_text_of n s at_result) (concat (lines ++ [])) _ (ap (λ ls. layout_text_of n s at_result ++ concat ls) (sym (append-nil lines))) (c.in_ok-write_made_line.ensures (layout_text_of n s at_result) (line_for (λ v. layout_text_of n v at_result) c.as_sig.result.now s c.layout_line.result c.as_sig.ensures.value c.layout_line.ensures))

pub returns-in_err-write_made_line-2 : goal.returns-in_err-write_made_line-2
returns-in_err-write_made_line-2 g c =
    let s = c.args.sig.now in
    let n = c.args.number in
    let j = c.loop-j.j in
    let ended : c.from_residual-in_err-write_made_line-2.result ≡ Err c.in_err-write_made_line-2.field-0.0 = search rules in
    continues_ended (concat (layout_lines n s)) _ _ _ c.loop-j.invariant (layout_text_of n s (at_argument j)) _ _ _ _ (argument_at (layout_text_of n s) s.arguments [] j void (search rules)) (c.in_err-write_made_line-2.ensures (layout_text_of n s (at_argument j)) (line_for (λ v. layout_text_of n v (at_argument j)) c.as_sig-in-loop-j.result.now s c.layout_line-in-loop-j.result c.as_sig-in-loop-j.ensures.value c.layout_line-in-loop-j.ensures)) ended

pub loop-j-preserved : goal.loop-j-preserved
loop-j-preserved g c =
    let s = c.args.sig.now in
    let n = c.args.number in
    let j = c.loop-j.j in
    continues_on (concat (layout_lines n s)) _ _ _ c.loop-j.invariant (layout_text_of n s (at_argument j)) _ _ (argument_at (layout_text_of n s) s.arguments [] j void (search rules)) (c.in_ok-write_made_line-2.ensures (layout_text_of n s (at_argument j)) (line_for (λ v. layout_text_of n v (at_argument j)) c.as_sig-in-loop-j.result.now s c.layout_line-in-loop-j.result c.as_sig-in-loop-j.ensures.value c.layout_line-in-loop-j.ensures))

pub returns : goal.returns
returns g c =
    let s = c.args.sig.now in
    let n = c.args.number in
    let j = c.loop-j.j in
    continues_done (concat (layout_lines n s)) _ _ _ c.loop-j.invariant (arguments_end (layout_text_of n s) s.arguments [] j (search rules))
