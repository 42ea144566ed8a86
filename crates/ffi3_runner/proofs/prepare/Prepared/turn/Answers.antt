use Rattle.ffi3_runner.proofs.Running.{goes_on_again, one_fewer, stands_here}
use Rattle.ffi3_runner.proofs.prepare.Prepared.turn.Goals as goal

pub one_move-requires-clause-between : goal.one_move-requires-clause-between
one_move-requires-clause-between g c =
    let between = c.requires.between in
    stands_here g.A.Abi.standard _ between.0 c.args.configuration.now c.args.machine.now between.2 c.args.trace between.1 (g.O.Sink.state c.args.output.now)

pub returns-clause-between : goal.returns-clause-between
returns-clause-between g c = λ traces with_it h more.
    goes_on_again g.A.Abi.standard _ traces c.args.configuration.now c.args.machine.now h c.args.trace with_it (g.O.Sink.state c.args.output.now) c.one_move.new.configuration c.one_move.new.machine (g.O.Sink.state c.one_move.new.output) c.one_move.result c.one_move.ensures.turned more

pub returns-clause-counted : goal.returns-clause-counted
returns-clause-counted g c = λ more.
    let between = c.requires.between in
    one_fewer g.A.Abi.standard _ between.0 c.args.configuration.now c.args.machine.now between.2 c.args.trace between.1 (g.O.Sink.state c.args.output.now) c.one_move.new.configuration c.one_move.new.machine (g.O.Sink.state c.one_move.new.output) c.one_move.result c.one_move.ensures.turned more
