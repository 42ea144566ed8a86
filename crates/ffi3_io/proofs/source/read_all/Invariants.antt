use Rattle.std.proofs.Common.{length, vec_len, ◌-◌, ◌≡◌, ◌≤◌}
use Rattle.ffi3_io_spec.specs.Source.{Gives, HasRead}
use Rattle.ffi3_io.proofs.source.read_all.Given as goal

abbrev pub invariant-loop-buf : goal.invariant-loop-buf
invariant-loop-buf g l = record {
  within : vec_len l.bytes ≤ l.limit;
  room : length l.buf ≡ 4096;
  reads : HasRead g.I.Source.read_gives l.limit l.fn.input l.bytes.items l.input;
  gives : Gives (g.I.Source.state l.fn.input).left l.bytes.items (g.I.Source.state l.input).left;
  same : (g.I.Source.state l.input).faults ≡ (g.I.Source.state l.fn.input).faults;
}

abbrev pub decreases-loop-buf : goal.decreases-loop-buf
decreases-loop-buf g l = l.limit - vec_len l.bytes
