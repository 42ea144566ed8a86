use Rattle.std.proofs.Common.{rules, ◌≡◌, ap, ◌∙◌}
use Rattle.std.specs.Prelude.{Err, Ok}
use Rattle.ffi3_script.specs.ScriptOf.{script_of}
use Rattle.std.specs.List.{concat}
use Rattle.ffi3_app_spec.specs.Commands.{place_lines, place_text}
use Rattle.ffi3_app.proofs.Pieces.{continues_on, continues_ended, continues_done, lines_of, lines_end}
use Rattle.ffi3_names.specs.NamesOf.{names_of}
use Rattle.ffi3_app.proofs.Named.{wrote_unnamed}
use Rattle.ffi3_app.proofs.Right.{right_at}
use Rattle.ffi3_app.proofs.place.place.Goals as goal

pub of-sig-requires : goal.of-sig-requires
of-sig-requires g c =
    right_at c.sigs-sigs.result.now c.loop-i.i c.get.result.now c.sigs-sigs.ensures.right (search rules) c.get.ensures

pub returns-in_err-place_one : goal.returns-in_err-place_one
returns-in_err-place_one g c =
    let std = g.A.Abi.standard in
    let script = script_of c.args.script.now in
    let ended : c.from_residual.result ≡ Err c.in_err-place_one.field-0.0 = search rules in
    continues_ended (place_text std script) _ _ _ c.loop-i.invariant (concat (place_lines std c.loop-i.i c.of-sig.result)) _ _ _ _ (lines_of (place_lines std) script.signatures c.loop-i.i c.sigs-sigs.result.now c.of-sig.result c.sigs-sigs.ensures.are (search rules) (c.of-sig.ensures ∙ c.get.ensures)) (wrote_unnamed std c.of-sig.result c.loop-i.i (names_of c.new-none.result.items) (g.O.Sink.state c.loop-i.output) (g.O.Sink.state c.place_one.new.output) (Err c.in_err-place_one.field-0.0) (ap names_of c.new-none.ensures.items) c.in_err-place_one.ensures) ended

pub loop-i-preserved : goal.loop-i-preserved
loop-i-preserved g c =
    let std = g.A.Abi.standard in
    let script = script_of c.args.script.now in
    continues_on (place_text std script) _ _ _ c.loop-i.invariant (concat (place_lines std c.loop-i.i c.of-sig.result)) _ _ (lines_of (place_lines std) script.signatures c.loop-i.i c.sigs-sigs.result.now c.of-sig.result c.sigs-sigs.ensures.are (search rules) (c.of-sig.ensures ∙ c.get.ensures)) (wrote_unnamed std c.of-sig.result c.loop-i.i (names_of c.new-none.result.items) (g.O.Sink.state c.loop-i.output) (g.O.Sink.state c.place_one.new.output) (Ok tt) (ap names_of c.new-none.ensures.items) c.in_ok-place_one.ensures)

pub returns : goal.returns
returns g c =
    let std = g.A.Abi.standard in
    let script = script_of c.args.script.now in
    continues_done (place_text std script) _ _ _ c.loop-i.invariant (lines_end (place_lines std) script.signatures c.loop-i.i (search rules))
