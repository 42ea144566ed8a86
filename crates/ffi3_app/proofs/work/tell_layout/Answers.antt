use Rattle.std.proofs.Common.{refl}
use Rattle.ffi3_script.specs.ScriptOf.{script_of}
use Rattle.ffi3_script_spec.specs.Script.{Script}
use Rattle.ffi3_script_spec.specs.Reading.{script}
use Rattle.ffi3_script_spec.specs.Natives.{names_of}
use Rattle.ffi3_script_spec.specs.Handed.{handed}
use Rattle.ffi3_app_spec.specs.Commands.{layout_text}
use Rattle.ffi3_app_spec.specs.Outcome.{tells, IsOfScript}
use Rattle.ffi3_app.proofs.Working.{text_works}
use Rattle.ffi3_app.proofs.work.tell_layout.Goals as goal

pub returns-in-Ok : goal.returns-in-Ok
returns-in-Ok g c m =
    let natives = handed _ _ _ c.args.natives.now.items in
    let text = λ (s : Script). layout_text s in
    text_works (IsOfScript (names_of natives) (λ s. tells (text s)) c.args.bytes.now) (text (script_of c.in-Ok.script)) (g.O.Sink.state c.args.output.now) (g.O.Sink.state c.layout.new.output) m c.layout.result c.written.result (script (script_of c.in-Ok.script), c.in-Ok.ensures.script, refl) c.layout.ensures c.written.ensures
