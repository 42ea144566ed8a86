use Rattle.std.proofs.Common.{◌≡◌, ◌++◌, drop, length}
use Rattle.ffi3_bench_script.specs.KindOf.{types_of}
use Rattle.ffi3_bench_script.proofs.shapes.signature.Given as goal

abbrev pub invariant-loop-kind : goal.invariant-loop-kind
invariant-loop-kind l =
    (l.args ++ types_of (drop l.kind-index l.kinds) ≡ types_of l.kinds) × (length l.args ≡ l.kind-index)
