-- What holds of every program's direct meaning.
use Rattle.std.specs.Prelude.{◌≡◌, ℕ, suc, ◌≤◌, List, ◌∷◌, ◌++◌, Option, Some, None}
use Rattle.ffi3_type_spec.specs.Signature.{Signature}
use Rattle.ffi3_type_spec.specs.Value.{ValueTree}
use Rattle.ffi3_semantics_spec.specs.declared.Stop.TheVariants.{MoveLimit}
use Rattle.ffi3_semantics_spec.specs.Closures.{Closures, no_closures}
use Rattle.ffi3_semantics_spec.specs.Meaning.{Program, Activation, End, returned, stopped, called, act, meaning_of}
use Rattle.ffi3_semantics_spec.specs.Meaning.{main_call, most_moves, stack_size}
use Rattle.ffi3_semantics_spec.specs.Peak.{peak_of}
use Rattle.ffi3_semantics_spec.specs.Trace.{TraceItem, Enter, written_out_one, trace_of}
use Rattle.ffi3_semantics_spec.specs.Lines.{Point, Tracing, text}
use Rattle.ffi3_small_step_spec.specs.Remainder.{remainder_of, only_stops, before, Bottom, as_main, served, CallStack}
use Rattle.ffi3_small_step_spec.specs.Remainder.{rest, alone}
use Rattle.ffi3_small_step_spec.specs.SmallStep.{step, left_before}
use Rattle.ffi3_small_step_spec.specs.Path.{Position, IsOnPath}
use Rattle.ffi3_small_step_spec.specs.Depth.{deepest}
use Rattle.ffi3_small_step_spec.specs.Interrupted.{past_all}

-- THE DIRECT MEANING GOES STEP BY STEP: it is what is left at main, and one move leads to what its step says, until none is left.
pub record GoesByStep (p : Program) : Type 0 where
  pub whole : remainder_of (meaning_of p) ≡ rest p as_main (alone main_call) no_closures most_moves
  pub one : (bottom : Bottom) (call_stack : CallStack) (closures : Closures) (moves : ℕ)
      → rest p bottom call_stack closures (suc moves) ≡ left_before p bottom moves (step p bottom call_stack closures)
  pub none : (bottom : Bottom) (call_stack : CallStack) (closures : Closures)
      → rest p bottom call_stack closures 0 ≡ only_stops MoveLimit closures 0

-- WHO STANDS ON A RUN'S PATH has its trace behind, and before it what is left there: the two are all that was left at its start.
abbrev pub PathFollows : Program → Type 0
PathFollows p =
    (bottom : Bottom) (start : Position) (own : List TraceItem) (x : Position)
    → IsOnPath p bottom start own x
    → rest p bottom start.call_stack start.closures start.moves
    ≡ before own (rest p bottom x.call_stack x.closures x.moves)

-- THE PEAK OF THE CALL TREE is that of its trace, and no run takes more stack than there is.
pub record PeaksAlike (p : Program) : Type 0 where
  pub same : deepest p 0 (trace_of p) ≡ peak_of p (meaning_of p).call_tree
  pub fits : peak_of p (meaning_of p).call_tree ≤ stack_size

-- the result of a call, if it returned
abbrev pub result_of : End → Option ValueTree
result_of (returned r) = Some r
result_of (stopped stop) = None

-- A CALL THAT IS SERVED is its entry, and then what is left of its function.
abbrev pub ServesAlike : Program → Type 0
ServesAlike p =
    (pointer signature : ℕ) (callee : Activation) (closures : Closures) (moves : ℕ)
    → written_out_one
    (called pointer signature callee.arguments
    (act p callee closures moves).call_tree (result_of (act p callee closures moves).end))
    ≡ Enter pointer signature callee.arguments ∷ (rest p (served signature) (alone callee) closures moves).trace

-- THE TEXT OF A TRACE in two parts is that of the first, and that of the second from where the first comes to.
abbrev pub TextGoesByParts : Type 0
TextGoesByParts =
    (tracing : Tracing) (signatures : List Signature) (at : Point) (a b : List TraceItem)
    → text tracing signatures at (a ++ b)
    ≡ text tracing signatures at a ++ text tracing signatures (past_all signatures at a) b
