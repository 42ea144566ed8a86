use Rattle.std.proofs.Common.{◌≡◌, ◌-◌, ◌++◌, length}
use Rattle.ffi3_script_spec.specs.Made.{drawn_types, state_after}
use Rattle.ffi3_bench_script.specs.KindOf.{types_of, state_of}
use Rattle.ffi3_bench_script.proofs.shapes.draw_kinds.Given as goal

abbrev pub invariant-loop : goal.invariant-loop
invariant-loop l = record {
  are : types_of l.kinds.items ++ drawn_types (l.count - l.counter) (state_of l.draws) ≡ drawn_types l.count (state_of l.initial.draws);
  moved : state_after (l.count - l.counter) (state_of l.draws) ≡ state_after l.count (state_of l.initial.draws);
  many : length l.kinds.items ≡ l.counter;
}
