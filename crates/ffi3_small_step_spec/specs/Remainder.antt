-- What is left of a run at a moment: the innermost activation acts on, then each suspended one with the result of the one inside it.
use Rattle.std.specs.Prelude.{ℕ, List, [], ◌∷◌, ◌++◌}
use Rattle.ffi3_semantics_spec.specs.declared.Stop.{Stop}
use Rattle.ffi3_semantics_spec.specs.Closures.{Closures}
use Rattle.ffi3_semantics_spec.specs.Meaning.{Program, Activation, End, returned, stopped, Outcome, act, with_result}
use Rattle.ffi3_semantics_spec.specs.Trace.{TraceItem, Leave, StopLine, written_out}

-- how it ends, the closures and moves that are left then, and what happens until then
pub record Remainder : Type 0 where
  pub end : End
  pub closures : Closures
  pub moves : ℕ
  pub trace : List TraceItem

abbrev pub remainder_of : Outcome → Remainder
remainder_of o =
    record { end = o.end; closures = o.closures; moves = o.moves; trace = written_out o.call_tree }

-- this trace, and then all that is left
abbrev pub before : List TraceItem → Remainder → Remainder
before own l = record l { trace = own ++ l.trace }

-- only this end is left, after this trace
abbrev pub only : List TraceItem → End → Closures → ℕ → Remainder
only own end closures moves =
    record { end = end; closures = closures; moves = moves; trace = own }

-- only the line of a stop is left
abbrev pub only_stops : Stop → Closures → ℕ → Remainder
only_stops stop closures moves = only (StopLine stop ∷ []) (stopped stop) closures moves

-- an activation that is suspended until its call of this signature returns
pub record Suspended : Type 0 where
  pub activation : Activation
  pub signature : ℕ

-- how the outermost activation began: as main, or as the function of a call of this signature, which is served
pub data Bottom : Type 0 where
  as_main : Bottom
  served : (signature : ℕ) → Bottom

-- the unfinished activations: the innermost, and those around it from the inside out
pub record CallStack : Type 0 where
  pub innermost : Activation
  pub suspended : List Suspended

-- a call that returns is left, and its caller acts on with the result; where the run stopped in it, nothing follows
abbrev pub resumed_at : Program → Suspended → Remainder → End → Remainder
resumed_at p s l (stopped stop) = l
resumed_at p s l (returned r) =
    before (l.trace ++ Leave s.signature r ∷ []) (remainder_of (act p (with_result s.activation r) l.closures l.moves))

-- a served call that returns is left
abbrev pub left_at : ℕ → Remainder → End → Remainder
left_at sig l (stopped stop) = l
left_at sig l (returned r) = record l { trace = l.trace ++ Leave sig r ∷ [] }

abbrev pub finished : Bottom → Remainder → Remainder
finished as_main l = l
finished (served sig) l = left_at sig l l.end

-- the suspended activations act on, one after another
abbrev pub through : Program → Bottom → List Suspended → Remainder → Remainder
through p bottom [] l = finished bottom l
through p bottom (s ∷ outer) l = through p bottom outer (resumed_at p s l l.end)

-- WHAT IS LEFT OF A RUN that stands at this call stack, with these closures and moves left
abbrev pub rest : Program → Bottom → CallStack → Closures → ℕ → Remainder
rest p bottom call_stack closures moves =
    through p bottom call_stack.suspended (remainder_of (act p call_stack.innermost closures moves))

-- the call stack of an activation that nothing waits for
abbrev pub alone : Activation → CallStack
alone a = record { innermost = a; suspended = [] }

-- the call stack in an activation that was just entered
abbrev pub inside : (callee : Activation) → (signature : ℕ) → (caller : Activation)
    → (outer : List Suspended) → CallStack
inside callee sig caller outer =
    record { innermost = callee; suspended = record { activation = caller; signature = sig } ∷ outer }

-- the signatures of the open calls, from the inside out
abbrev pub awaited_below : Bottom → List ℕ
awaited_below as_main = []
awaited_below (served sig) = sig ∷ []

abbrev pub awaited : Bottom → List Suspended → List ℕ
awaited bottom [] = awaited_below bottom
awaited bottom (s ∷ outer) = s.signature ∷ awaited bottom outer
