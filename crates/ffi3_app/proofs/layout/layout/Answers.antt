use Rattle.std.proofs.Common.{rules, ◌≡◌, ◌∙◌}
use Rattle.std.specs.Prelude.{Err}
use Rattle.ffi3_script.specs.ScriptOf.{script_of}
use Rattle.std.specs.List.{concat}
use Rattle.ffi3_app_spec.specs.Commands.{layout_lines, layout_text}
use Rattle.ffi3_app.proofs.Pieces.{continues_on, continues_ended, continues_done, lines_of, lines_end}
use Rattle.ffi3_app.proofs.Right.{right_at}
use Rattle.ffi3_app.proofs.layout.layout.Goals as goal

pub of-sig-requires : goal.of-sig-requires
of-sig-requires g c =
    right_at c.sigs-sigs.result.now c.loop-i.i c.get.result.now c.sigs-sigs.ensures.right (search rules) c.get.ensures

pub returns-in_err-layout_of : goal.returns-in_err-layout_of
returns-in_err-layout_of g c =
    let script = script_of c.args.script.now in
    let ended : c.from_residual.result ≡ Err c.in_err-layout_of.field-0.0 = search rules in
    continues_ended (layout_text script) _ _ _ c.loop-i.invariant (concat (layout_lines c.loop-i.i c.of-sig.result)) _ _ _ _ (lines_of layout_lines script.signatures c.loop-i.i c.sigs-sigs.result.now c.of-sig.result c.sigs-sigs.ensures.are (search rules) (c.of-sig.ensures ∙ c.get.ensures)) c.in_err-layout_of.ensures ended

pub loop-i-preserved : goal.loop-i-preserved
loop-i-preserved g c =
    let script = script_of c.args.script.now in
    continues_on (layout_text script) _ _ _ c.loop-i.invariant (concat (layout_lines c.loop-i.i c.of-sig.result)) _ _ (lines_of layout_lines script.signatures c.loop-i.i c.sigs-sigs.result.now c.of-sig.result c.sigs-sigs.ensures.are (search rules) (c.of-sig.ensures ∙ c.get.ensures)) c.in_ok-layout_of.ensures

pub returns : goal.returns
returns g c =
    let script = script_of c.args.script.now in
    continues_done (layout_text script) _ _ _ c.loop-i.invariant (lines_end layout_lines script.signatures c.loop-i.i (search rules))
