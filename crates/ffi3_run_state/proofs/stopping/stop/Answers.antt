use Rattle.ffi3_run_state.proofs.Telling.{stopped_off}
use Rattle.ffi3_run_state.proofs.stopping.stop.Goals as goal

pub returns-in-Err : goal.returns-in-Err
returns-in-Err g c =
    stopped_off c.args.cifs.now c.args.why (g.O.Sink.state c.args.output.now) (g.O.Sink.state c.write_stop.new.output) c.in-Err.cause c.cut_off.result c.cut_off.ensures.is c.in-Err.ensures
