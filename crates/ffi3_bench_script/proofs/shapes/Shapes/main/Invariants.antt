use Rattle.std.proofs.Common.{◌≡◌, ◌+◌, ◌-◌, ◌*◌, ◌++◌, length}
use Rattle.ffi3_script_spec.specs.Made.{made_main, made_calls, state_after}
use Rattle.ffi3_script_body.specs.ExprOf.{script_moves_of}
use Rattle.ffi3_bench_script.specs.KindOf.{state_of}
use Rattle.ffi3_bench_script.specs.ShapesOf.{types_in}
use Rattle.ffi3_bench_script.proofs.shapes.Shapes.main.Given as goal

abbrev pub invariant-loop-j : goal.invariant-loop-j
invariant-loop-j l =
    (script_moves_of l.moves.items ++ made_calls (types_in l.self) (l.calls - l.j) l.j (state_of l.draws) ≡ made_main (types_in l.self) l.calls (state_of l.fn.draws)) × (length l.moves.items ≡ 4 + l.j) × (state_after (2 * (l.calls - l.j)) (state_of l.draws) ≡ state_after (2 * l.calls) (state_of l.fn.draws))
