use Rattle.ffi3_runner.proofs.Ending.{ran_counted, ran_cut_by_memory, ran_cut_by_write, ran_done, ran_failed, ran_left, ran_left_at_stop, ran_never_falls, ran_no_memory, ran_part, ran_returned, ran_stopped, ran_stops}
use Rattle.ffi3_runner.proofs.runner.Runner.run_main.Goals as goal

pub returns-clause-done : goal.returns-clause-done
returns-clause-done g c =
    ran_done _ g.A.Abi.standard c.args.trace c.run_main.new.configuration c.run_main.new.machine (g.O.Sink.state c.args.output.now) (g.O.Sink.state c.run_main.new.output) c.run_main.result c.run_main.ensures

pub returns-clause-returns : goal.returns-clause-returns
returns-clause-returns g c =
    ran_returned _ g.A.Abi.standard c.args.trace c.run_main.new.configuration c.run_main.new.machine (g.O.Sink.state c.args.output.now) (g.O.Sink.state c.run_main.new.output) c.run_main.result c.run_main.ensures

pub returns-clause-steps : goal.returns-clause-steps
returns-clause-steps g c =
    ran_counted _ g.A.Abi.standard c.args.trace c.run_main.new.configuration c.run_main.new.machine (g.O.Sink.state c.args.output.now) (g.O.Sink.state c.run_main.new.output) c.run_main.result c.run_main.ensures _ g.met.A.Abi.target_is

pub returns-clause-stopped : goal.returns-clause-stopped
returns-clause-stopped g c =
    ran_stopped _ g.A.Abi.standard c.args.trace c.run_main.new.configuration c.run_main.new.machine (g.O.Sink.state c.args.output.now) (g.O.Sink.state c.run_main.new.output) c.run_main.result c.run_main.ensures

pub returns-clause-stops : goal.returns-clause-stops
returns-clause-stops g c =
    ran_stops _ g.A.Abi.standard c.args.trace c.run_main.new.configuration c.run_main.new.machine (g.O.Sink.state c.args.output.now) (g.O.Sink.state c.run_main.new.output) c.run_main.result c.run_main.ensures

pub returns-clause-no_memory : goal.returns-clause-no_memory
returns-clause-no_memory g c =
    ran_no_memory _ g.A.Abi.standard c.args.trace c.run_main.new.configuration c.run_main.new.machine (g.O.Sink.state c.args.output.now) (g.O.Sink.state c.run_main.new.output) c.run_main.result c.run_main.ensures

pub returns-clause-failed : goal.returns-clause-failed
returns-clause-failed g c =
    ran_failed _ g.A.Abi.standard c.args.trace c.run_main.new.configuration c.run_main.new.machine (g.O.Sink.state c.args.output.now) (g.O.Sink.state c.run_main.new.output) c.run_main.result c.run_main.ensures

pub returns-clause-cut_by_memory : goal.returns-clause-cut_by_memory
returns-clause-cut_by_memory g c =
    ran_cut_by_memory _ g.A.Abi.standard c.args.trace c.run_main.new.configuration c.run_main.new.machine (g.O.Sink.state c.args.output.now) (g.O.Sink.state c.run_main.new.output) c.run_main.result c.run_main.ensures

pub returns-clause-cut_by_write : goal.returns-clause-cut_by_write
returns-clause-cut_by_write g c =
    ran_cut_by_write _ g.A.Abi.standard c.args.trace c.run_main.new.configuration c.run_main.new.machine (g.O.Sink.state c.args.output.now) (g.O.Sink.state c.run_main.new.output) c.run_main.result c.run_main.ensures

pub returns-clause-never_falls : goal.returns-clause-never_falls
returns-clause-never_falls g c =
    ran_never_falls _ g.A.Abi.standard c.args.trace c.run_main.new.configuration c.run_main.new.machine (g.O.Sink.state c.args.output.now) (g.O.Sink.state c.run_main.new.output) c.run_main.result c.run_main.ensures

pub returns-clause-part : goal.returns-clause-part
returns-clause-part g c =
    ran_part _ g.A.Abi.standard c.args.trace c.run_main.new.configuration c.run_main.new.machine (g.O.Sink.state c.args.output.now) (g.O.Sink.state c.run_main.new.output) c.run_main.result c.run_main.ensures

pub returns-clause-left : goal.returns-clause-left
returns-clause-left g c =
    ran_left _ g.A.Abi.standard c.args.trace c.run_main.new.configuration c.run_main.new.machine (g.O.Sink.state c.args.output.now) (g.O.Sink.state c.run_main.new.output) c.run_main.result c.run_main.ensures

pub returns-clause-left_at_stop : goal.returns-clause-left_at_stop
returns-clause-left_at_stop g c =
    ran_left_at_stop _ g.A.Abi.standard c.args.trace c.run_main.new.configuration c.run_main.new.machine (g.O.Sink.state c.args.output.now) (g.O.Sink.state c.run_main.new.output) c.run_main.result c.run_main.ensures
