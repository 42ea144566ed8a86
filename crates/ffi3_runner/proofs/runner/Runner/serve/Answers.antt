use Rattle.ffi3_runner.proofs.Serving.{target_stays}
use Rattle.ffi3_runner.proofs.runner.Runner.serve.Goals as goal

pub returns-then-ne-clause-target : goal.returns-then-ne-clause-target
returns-then-ne-clause-target g c =
    let t = c.requires.entry in
    target_stays g.A.Abi.standard c.args.trace _ t.0 t.1 c.args.self.now.configuration c.serve-end.new.configuration c.args.machine.now c.serve-end.new.machine (g.O.Sink.state c.args.output.now) (g.O.Sink.state c.serve-end.new.output) c.serve-end.result t.2 c.serve-end.ensures

pub returns-else-ne-clause-target : goal.returns-else-ne-clause-target
returns-else-ne-clause-target g c =
    let t = c.requires.entry in
    target_stays g.A.Abi.standard c.args.trace _ t.0 t.1 c.args.self.now.configuration c.serve-end.new.configuration c.args.machine.now c.serve-end.new.machine (g.O.Sink.state c.args.output.now) (g.O.Sink.state c.serve-end.new.output) c.serve-end.result t.2 c.serve-end.ensures
