-- One move of a run, the small-step semantics of a program: what happens at once, and where the run stands then.
use Rattle.std.specs.Prelude.{ℕ, List, [], ◌∷◌}
use Rattle.ffi3_type_spec.specs.Value.{ValueTree, void_value}
use Rattle.ffi3_semantics_spec.specs.Closures.{Closures}
use Rattle.ffi3_semantics_spec.specs.Meaning.{Program, Activation, Effect, ends, stops, prints, goes_on, enters, End}
use Rattle.ffi3_semantics_spec.specs.Meaning.{returned, stopped, with_result, effect_of, next_move}
use Rattle.ffi3_semantics_spec.specs.Trace.{TraceItem, Enter, Line, Leave, StopLine}
use Rattle.ffi3_small_step_spec.specs.Remainder.{Remainder, before, only, Suspended, Bottom, as_main, served, CallStack}
use Rattle.ffi3_small_step_spec.specs.Remainder.{rest, inside}

-- the run stands at a call stack, or it is over
pub data Step : Type 0 where
  on : (own : List TraceItem) → CallStack → Closures → Step
  over : (own : List TraceItem) → End → Closures → Step

-- the innermost activation has one result more
abbrev pub acts_on : Activation → ValueTree → List Suspended → CallStack
acts_on a r outer = record { innermost = with_result a r; suspended = outer }

-- a return out of the run
abbrev pub returns_out : Bottom → Closures → ValueTree → Step
returns_out as_main closures v = over [] (returned v) closures
returns_out (served sig) closures v = over (Leave sig v ∷ []) (returned v) closures

-- or to the activation that waits for it
abbrev pub returns_to : Bottom → List Suspended → Closures → ValueTree → Step
returns_to bottom [] closures v = returns_out bottom closures v
returns_to bottom (s ∷ outer) closures v =
    on (Leave s.signature v ∷ []) (acts_on s.activation v outer) closures

abbrev pub step_of : Bottom → Activation → List Suspended → Closures → Effect → Step
step_of bottom a outer closures (ends v) = returns_to bottom outer closures v
step_of bottom a outer closures (stops stop) = over (StopLine stop ∷ []) (stopped stop) closures
step_of bottom a outer closures (prints t v) = on (Line t v ∷ []) (acts_on a void_value outer) closures
step_of bottom a outer closures (goes_on r closures') = on [] (acts_on a r outer) closures'
step_of bottom a outer closures (enters ptr sig callee) =
    on (Enter ptr sig callee.arguments ∷ []) (inside callee sig a outer) closures

-- THE STEP OF A PATH
abbrev pub step : Program → Bottom → CallStack → Closures → Step
step p bottom call_stack closures =
    step_of bottom call_stack.innermost call_stack.suspended closures
    (effect_of p call_stack.innermost closures (next_move p call_stack.innermost))

-- what was left before the step, by what is left after it
abbrev pub left_before : Program → Bottom → ℕ → Step → Remainder
left_before p bottom moves (on own call_stack closures) = before own (rest p bottom call_stack closures moves)
left_before p bottom moves (over own end closures) = only own end closures moves
