use Rattle.std.proofs.Common.{◌≡◌, drop}
use Rattle.ffi3_script_spec.specs.Made.{with_arguments}
use Rattle.ffi3_script_body.specs.ExprOf.{expression_of}
use Rattle.ffi3_bench_script.specs.KindOf.{types_of}
use Rattle.ffi3_bench_script.proofs.summing.with_arguments.Given as goal

abbrev pub invariant-loop-i : goal.invariant-loop-i
invariant-loop-i l =
    with_arguments (expression_of l.so_far.value) l.i (types_of (drop l.i l.kinds)) ≡ with_arguments (expression_of l.fn.start.value) 0 (types_of l.kinds)
