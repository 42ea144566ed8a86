use Rattle.std.proofs.Common.{◌≡◌, ◌≤◌, ◌+◌, ◌*◌, ◌++◌, map, drop}
use Rattle.ffi3_script_spec.specs.Made.{filled_arguments}
use Rattle.ffi3_script_body.specs.ExprOf.{expression_of}
use Rattle.ffi3_bench_script.specs.KindOf.{types_of}
use Rattle.ffi3_bench_script.proofs.filling.filled_each.Given as goal

abbrev pub invariant-loop-kind : goal.invariant-loop-kind
invariant-loop-kind l =
    (map expression_of l.values.items ++ filled_arguments l.next (types_of (drop l.kind-index l.kinds)) ≡ filled_arguments l.v (types_of l.kinds)) × (l.next ≤ l.v + 3 * l.kind-index)
