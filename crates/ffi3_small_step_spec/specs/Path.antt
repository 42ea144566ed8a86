-- The path of a run, by the small-step semantics: where it stands before each of its moves, and what happens in the next one.
use Rattle.std.specs.Prelude.{◌≡◌, ℕ, zero, suc, List, [], ◌∷◌, ◌++◌}
use Rattle.ffi3_semantics_spec.specs.declared.Stop.TheVariants.{MoveLimit}
use Rattle.ffi3_semantics_spec.specs.Closures.{Closures, no_closures}
use Rattle.ffi3_semantics_spec.specs.Meaning.{Program, main_call, most_moves}
use Rattle.ffi3_semantics_spec.specs.Trace.{TraceItem, StopLine}
use Rattle.ffi3_small_step_spec.specs.Remainder.{Bottom, CallStack, alone}
use Rattle.ffi3_small_step_spec.specs.SmallStep.{Step, on, over, step}

-- where a run stands between two moves
pub record Position : Type 0 where
  pub call_stack : CallStack
  pub closures : Closures
  pub moves : ℕ

-- main is called, with no closures and all moves left
abbrev pub main_start : Position
main_start = record { call_stack = alone main_call; closures = no_closures; moves = most_moves }

-- THE PATH OF A RUN: it stands where it began, or where a step leads from where it stood, with one move fewer left. This trace is what happened until then.
pub data IsOnPath (p : Program) (bottom : Bottom) (start : Position) : List TraceItem → Position → Type 0 where
  path_begins : IsOnPath p bottom start [] start
  path_goes_on : (own more : List TraceItem) (x : Position) (call_stack : CallStack) (closures : Closures) (moves : ℕ)
      → IsOnPath p bottom start own x
      → x.moves ≡ suc moves
      → step p bottom x.call_stack x.closures ≡ on more call_stack closures
      → IsOnPath p bottom start (own ++ more)
      (record { call_stack = call_stack; closures = closures; moves = moves })

-- what happens in a step
abbrev pub happens_in : Step → List TraceItem
happens_in (on own call_stack closures) = own
happens_in (over own end closures) = own

-- what happens in the next move of a run that stands there; where no move is left, that is the stop at the limit
abbrev pub happens_with : Program → Bottom → CallStack → Closures → (moves : ℕ) → List TraceItem
happens_with p bottom call_stack closures zero = StopLine MoveLimit ∷ []
happens_with p bottom call_stack closures (suc moves) = happens_in (step p bottom call_stack closures)

abbrev pub happens_next : Program → Bottom → Position → List TraceItem
happens_next p bottom x = happens_with p bottom x.call_stack x.closures x.moves
