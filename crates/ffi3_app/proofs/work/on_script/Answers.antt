use Rattle.std.proofs.Common.{◌≡◌}
use Rattle.ffi3_script.specs.ScriptOf.{script_of}
use Rattle.ffi3_script_spec.specs.Natives.{names_of}
use Rattle.ffi3_script_spec.specs.Handed.{handed}
use Rattle.ffi3_explain_spec.specs.Standards.{standard_of}
use Rattle.ffi3_app_spec.specs.Outcome.{Outcome, IsOfScript}
use Rattle.ffi3_app.specs.Work.{script_outcome}
use Rattle.ffi3_app.proofs.Working.{script_works, works_for}
use Rattle.ffi3_app.proofs.work.on_script.Goals as goal

pub returns-in-Ok : goal.returns-in-Ok
returns-in-Ok g c =
    let natives = handed _ _ _ c.args.natives.now.items in
    let outcome = script_outcome c.args.task natives (standard_of c.args.target) in
    let P = λ (o : Outcome). o ≡ outcome (script_of c.in-Ok.script) in
    works_for P (IsOfScript (names_of natives) outcome c.args.bytes.now) (g.O.Sink.state c.args.output.now) (g.O.Sink.state c.on_target.new.output) c.args.machine.now c.on_target.new.machine c.on_target.result (script_works (names_of natives) outcome c.args.bytes.now (script_of c.in-Ok.script) c.in-Ok.ensures.script) c.on_target.ensures
