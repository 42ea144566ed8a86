use Rattle.ffi3_cli_spec.specs.declared.words.InputCommand.TheVariants.{Layout, Place, Run, Cdecl, Cplace, Explain, Arguments}
use Rattle.ffi3_script_spec.specs.Handed.{handed}
use Rattle.ffi3_app.proofs.Working.{works_as}
use Rattle.ffi3_app.proofs.work.work.Goals as goal

pub returns-in-Layout : goal.returns-in-Layout
returns-in-Layout g c =
    works_as c.args.command Layout (handed _ _ _ c.args.natives.now.items) c.args.bytes.now (g.O.Sink.state c.args.output.now) (g.O.Sink.state c.tell_layout.new.output) c.args.machine.now c.args.machine.now c.tell_layout.result c.in-Layout.is (c.tell_layout.ensures c.args.machine.now)

pub returns-in-Place : goal.returns-in-Place
returns-in-Place g c =
    works_as c.args.command (Place c.in-Place.target) (handed _ _ _ c.args.natives.now.items) c.args.bytes.now (g.O.Sink.state c.args.output.now) (g.O.Sink.state c.on_script.new.output) c.args.machine.now c.on_script.new.machine c.on_script.result c.in-Place.is c.on_script.ensures

pub returns-in-Run : goal.returns-in-Run
returns-in-Run g c =
    works_as c.args.command (Run c.in-Run.target c.in-Run.trace) (handed _ _ _ c.args.natives.now.items) c.args.bytes.now (g.O.Sink.state c.args.output.now) (g.O.Sink.state c.on_script-in-Run.new.output) c.args.machine.now c.on_script-in-Run.new.machine c.on_script-in-Run.result c.in-Run.is c.on_script-in-Run.ensures

pub returns-in-Cdecl : goal.returns-in-Cdecl
returns-in-Cdecl g c =
    works_as c.args.command Cdecl (handed _ _ _ c.args.natives.now.items) c.args.bytes.now (g.O.Sink.state c.args.output.now) (g.O.Sink.state c.tell_cdecl.new.output) c.args.machine.now c.args.machine.now c.tell_cdecl.result c.in-Cdecl.is (c.tell_cdecl.ensures c.args.machine.now)

pub returns-in-Cplace : goal.returns-in-Cplace
returns-in-Cplace g c =
    works_as c.args.command Cplace (handed _ _ _ c.args.natives.now.items) c.args.bytes.now (g.O.Sink.state c.args.output.now) (g.O.Sink.state c.tell_cplace.new.output) c.args.machine.now c.args.machine.now c.tell_cplace.result c.in-Cplace.is (c.tell_cplace.ensures c.args.machine.now)

pub returns-in-Explain : goal.returns-in-Explain
returns-in-Explain g c =
    works_as c.args.command Explain (handed _ _ _ c.args.natives.now.items) c.args.bytes.now (g.O.Sink.state c.args.output.now) (g.O.Sink.state c.tell_answer.new.output) c.args.machine.now c.args.machine.now c.tell_answer.result c.in-Explain.is (c.tell_answer.ensures c.args.machine.now)

pub returns-in-Arguments : goal.returns-in-Arguments
returns-in-Arguments g c =
    works_as c.args.command Arguments (handed _ _ _ c.args.natives.now.items) c.args.bytes.now (g.O.Sink.state c.args.output.now) (g.O.Sink.state c.tell_answer-in-Arguments.new.output) c.args.machine.now c.args.machine.now c.tell_answer-in-Arguments.result c.in-Arguments.is (c.tell_answer-in-Arguments.ensures c.args.machine.now)
