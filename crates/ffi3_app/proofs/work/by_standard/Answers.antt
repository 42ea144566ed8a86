use Rattle.std.proofs.Common.{◌≡◌, refl}
use Rattle.ffi3_script.specs.ScriptOf.{script_of}
use Rattle.ffi3_script_spec.specs.Handed.{handed}
use Rattle.ffi3_app.specs.declared.work.ScriptTask.TheVariants.{Place, Run}
use Rattle.ffi3_app_spec.specs.Commands.{place_text}
use Rattle.ffi3_app_spec.specs.Outcome.{Outcome, tells}
use Rattle.ffi3_app.proofs.Working.{text_works, works_at}
use Rattle.ffi3_app.proofs.work.by_standard.Goals as goal

pub returns-in-Place : goal.returns-in-Place
returns-in-Place g c =
    let s = script_of c.args.script.now in
    let text = place_text g.A.Abi.standard s in
    works_at (handed _ _ _ c.args.natives.now.items) s (g.O.Sink.state c.args.output.now) (g.O.Sink.state c.place.new.output) c.args.machine.now c.args.machine.now c.written.result g.A.Abi.standard c.args.task Place c.in-Place.is (text_works (λ (o : Outcome). o ≡ tells text) text (g.O.Sink.state c.args.output.now) (g.O.Sink.state c.place.new.output) c.args.machine.now c.place.result c.written.result refl c.place.ensures c.written.ensures)

pub returns-in-Run : goal.returns-in-Run
returns-in-Run g c =
    works_at (handed _ _ _ c.args.natives.now.items) (script_of c.args.script.now) (g.O.Sink.state c.args.output.now) (g.O.Sink.state c.run_by.new.output) c.args.machine.now c.run_by.new.machine c.run_by.result g.A.Abi.standard c.args.task (Run c.in-Run.trace) c.in-Run.is c.run_by.ensures
