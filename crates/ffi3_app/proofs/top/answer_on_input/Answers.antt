use Rattle.ffi3_cli_spec.specs.declared.words.Request.TheVariants.{OnInput}
use Rattle.ffi3_script_spec.specs.Handed.{handed}
use Rattle.ffi3_app.proofs.Coming.{ready_on_input}
use Rattle.ffi3_app.proofs.Saying.{says_end, says_not_begun, says_not_read}
use Rattle.ffi3_app.proofs.top.answer_on_input.Goals as goal

pub returns-in-Err-NoMemory : goal.returns-in-Err-NoMemory
returns-in-Err-NoMemory g c words takes =
    says_not_begun words (handed _ _ _ c.args.natives.now.items) (g.I.Source.state c.args.input.now) (g.I.Source.state c.read_all.new.input) (g.O.Sink.state c.args.output.now) (g.E.Sink.state c.args.faults.now) (g.E.Sink.state c.tell_fault.new.faults) c.args.machine.now c.args.command takes c.in-Err-NoMemory.ensures.lost c.tell_fault.result (c.in-Err-NoMemory.ensures.no_memory c.in-Err-NoMemory.field-0-is) c.tell_fault.ensures

pub returns-in-Err-Failed : goal.returns-in-Err-Failed
returns-in-Err-Failed g c words takes =
    says_not_read words (handed _ _ _ c.args.natives.now.items) (g.I.Source.state c.args.input.now) (g.I.Source.state c.read_all.new.input) (g.O.Sink.state c.args.output.now) (g.E.Sink.state c.args.faults.now) (g.E.Sink.state c.tell_fault-in-Err-Failed.new.faults) c.args.machine.now c.args.command takes c.in-Err-Failed.ensures.lost c.tell_fault-in-Err-Failed.result (c.in-Err-Failed.ensures.failed c.in-Err-Failed.field-0-is) c.tell_fault-in-Err-Failed.ensures

pub returns : goal.returns
returns g c words takes =
    let natives = handed _ _ _ c.args.natives.now.items in
    let input = g.I.Source.state c.args.input.now in
    let input' = g.I.Source.state c.read_all.new.input in
    let lent = c.deref.result.now in
    says_end words natives input input' (g.O.Sink.state c.args.output.now) (g.O.Sink.state c.work.new.output) (g.E.Sink.state c.args.faults.now) (g.E.Sink.state c.tell_end.new.faults) c.args.machine.now c.work.new.machine (OnInput c.args.command) takes lent (ready_on_input c.args.command natives input input' c.in-Ok.bytes.items lent c.deref.ensures.value c.in-Ok.ensures.first c.in-Ok.ensures.same) c.work.result c.tell_end.result c.work.ensures c.tell_end.ensures
