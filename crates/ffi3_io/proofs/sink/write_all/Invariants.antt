use Rattle.std.proofs.Common.{length, ◌-◌, ◌≡◌, ◌≤◌, take}
use Rattle.ffi3_io_spec.specs.Sink.{Adds}
use Rattle.ffi3_io.proofs.sink.write_all.Given as goal

abbrev pub invariant-loop-done : goal.invariant-loop-done
invariant-loop-done g l = record {
  within : l.done ≤ length l.bytes;
  adds : Adds (g.O.Sink.state l.fn.output).taken (take l.done l.bytes) (g.O.Sink.state l.output).taken;
  same : (g.O.Sink.state l.output).faults ≡ (g.O.Sink.state l.fn.output).faults;
}

abbrev pub decreases-loop-done : goal.decreases-loop-done
decreases-loop-done g l = length l.bytes - l.done
