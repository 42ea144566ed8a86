-- A machine's count of instructions along a run: calls alone move it on.
use Rattle.std.specs.Prelude.{ℕ, List, [], ◌∷◌}
use Rattle.ffi3_type_spec.specs.declared.Target.{Target}
use Rattle.ffi3_type_spec.specs.TargetIsa.{isa_of}
use Rattle.ffi3_semantics_spec.specs.Meaning.{End, returned, stopped}
use Rattle.ffi3_semantics_spec.specs.Trace.{TraceItem, Enter, Line, Leave, StopLine}
use Rattle.ffi3_small_step_spec.specs.Remainder.{Bottom, as_main, served}
use Rattle.ffi3_machine_spec.specs.Stubs.{Entry, Return}
use Rattle.ffi3_stubs.specs.Calls.{steps_of}
use Rattle.ffi3_machine_transfer.specs.Passing.{by_exchange, steps_if}
use Rattle.ffi3_invoke.specs.Calls.{begun_steps, ended_steps}

-- the count after one item, where it was n before
abbrev pub counted : Target → TraceItem → ℕ → ℕ
counted target (Enter ptr sig args) n = begun_steps target n
counted target (Line t v) n = n
counted target (Leave sig r) n = ended_steps target n
counted target (StopLine stop) n = n

-- THE COUNT AFTER A TRACE: it is n + steps_in target trace modulo 2^64, where n is a number of 64 bits (`counts_all`)
abbrev pub steps_after : Target → ℕ → List TraceItem → ℕ
steps_after target n [] = n
steps_after target n (h ∷ later) = steps_after target (counted target h n) later

-- ---- a call that is served: Call, the trampoline and Return are its caller's

-- the count once it is accepted, where it was n at the entry
abbrev pub accepted_steps : Target → ℕ → ℕ
accepted_steps target n = steps_if (by_exchange target) (steps_of (isa_of target) Entry) n

-- the count once the caller's Return has run, where it was n at the return out of the outermost activation; main has no caller
abbrev pub back_at_caller : Target → Bottom → ℕ → ℕ
back_at_caller target as_main n = n
back_at_caller target (served sig) n = steps_if (by_exchange target) (steps_of (isa_of target) Return) n

-- the same where a run ended with this count: after a stop nothing returns
abbrev pub count_at_end : Target → Bottom → End → ℕ → ℕ
count_at_end target bottom (stopped stop) n = n
count_at_end target bottom (returned v) n = back_at_caller target bottom n
