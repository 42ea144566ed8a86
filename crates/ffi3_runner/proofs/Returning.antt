-- Where a run returned, each of its calls has returned.
use Rattle.std.proofs.Common.{◌≡◌, ℕ, suc, ◌+◌, ◌-◌, ◌≤◌, List, [], ◌∷◌, refl, subst, arith}
use Rattle.ffi3_type_spec.specs.Value.{ValueTree}
use Rattle.ffi3_semantics_spec.specs.Closures.{no_closures}
use Rattle.ffi3_semantics_spec.specs.Meaning.{Program, End, returned, main_call, most_moves, meaning_of}
use Rattle.ffi3_semantics_spec.specs.Trace.{TraceItem, Enter, Line, Leave, StopLine, trace_of}
use Rattle.ffi3_small_step_spec.specs.Nested.{depth_at}
use Rattle.ffi3_small_step_spec.proofs.Depths.{IsLevel, act_deep}
use Rattle.ffi3_run_spec.specs.CallSteps.{entries_in, returns_in}

-- each call takes one byte
abbrev by_ones : Program → Program
by_ones p = record p { need = λ s. 1 }

entered : (a r e depth : ℕ) → a + r ≡ depth + 1 + e → a + r ≡ depth + suc e
entered a r e depth k = omega (arith, k)

left : (a r e depth : ℕ) → suc r ≤ depth → a + r ≡ depth - 1 + e → a + suc r ≡ depth + e
left a r e depth enough k = omega (arith, enough, k)

-- then the depth after a trace, begun deep enough, tells its entries less its returns
counts : (p : Program) (depth : ℕ) (trace : List TraceItem) → returns_in trace ≤ depth → depth_at (by_ones p) depth trace + returns_in trace ≡ depth + entries_in trace
counts p depth [] enough = refl
counts p depth (Enter ptr sig args ∷ later) enough =
    entered (depth_at (by_ones p) (depth + 1) later) (returns_in later) (entries_in later) depth (counts p (depth + 1) later (omega (arith, enough)))
counts p depth (Line t v ∷ later) enough = counts p depth later enough
counts p depth (Leave sig r ∷ later) enough =
    left (depth_at (by_ones p) (depth - 1) later) (returns_in later) (entries_in later) depth (omega (arith, enough)) (counts p (depth - 1) later (omega (arith, enough)))
counts p depth (StopLine stop ∷ later) enough = counts p depth later enough

-- EACH CALL HAS RETURNED where main has
pub calls_returned : (p : Program) (v : ValueTree) → (meaning_of p).end ≡ returned v → entries_in (trace_of p) ≡ returns_in (trace_of p)
calls_returned p v is =
    let n = returns_in (trace_of p) in
    let level = subst (λ (e : End). IsLevel (by_ones p) e (trace_of p)) is (act_deep p (by_ones p) main_call no_closures most_moves).level in
    let flat : depth_at (by_ones p) (returns_in (trace_of p)) (trace_of p) ≡ returns_in (trace_of p) = level n in
    omega (arith, flat, counts p n (trace_of p) (omega arith))
