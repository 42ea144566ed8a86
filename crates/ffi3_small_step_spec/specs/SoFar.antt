-- How far a run has come: what is done of it, what is seen of that, and what is left.
use Rattle.std.specs.Prelude.{◌≡◌, ℕ, ◌-◌, Bool, List, [], ◌∷◌, ◌++◌, length}
use Rattle.ffi3_type_spec.specs.Signature.{Signature, signature_at}
use Rattle.ffi3_place_spec.specs.declared.Loc.{Loc}
use Rattle.ffi3_place_spec.specs.Standard.{Standard}
use Rattle.ffi3_place_spec.specs.Event.{Event}
use Rattle.ffi3_semantics_spec.specs.Closures.{Closures}
use Rattle.ffi3_semantics_spec.specs.Meaning.{Program, End, stack_size}
use Rattle.ffi3_semantics_spec.specs.Trace.{TraceItem}
use Rattle.ffi3_semantics_spec.specs.Journal.{Entered, stack_top}
use Rattle.ffi3_semantics_spec.specs.Lines.{OpenCall, Point, Tracing}
use Rattle.ffi3_small_step_spec.specs.Remainder.{Remainder, before, Suspended, Bottom, as_main, served, rest}
use Rattle.ffi3_small_step_spec.specs.Remainder.{awaited}
use Rattle.ffi3_small_step_spec.specs.Path.{Position, IsOnPath, main_start}
use Rattle.ffi3_small_step_spec.specs.Nested.{depth_at, depth_of, IsNested}
use Rattle.ffi3_small_step_spec.specs.Open.{unreturned, open_calls, AnswersTo}
use Rattle.ffi3_small_step_spec.specs.Interrupted.{past_all}
use Rattle.ffi3_small_step_spec.specs.TraceInterrupted.{TraceWasInterrupted}

-- what a run begins with: the top of its stack and the bytes left below it, what reserved registers hold, the number of events before it, the entries of the calls that are open, and where it stands
pub record Base : Type 0 where
  pub standard : Standard
  pub top : ℕ
  pub room : ℕ
  pub held : Loc → ℕ
  pub count : ℕ
  pub bottom : Bottom
  pub entries : List Event
  pub start : Position

-- main begins on a new machine
abbrev pub main_base : Standard → Base
main_base std = record {
  standard = std;
  top = stack_top;
  room = stack_size;
  held = λ at. 0;
  count = 0;
  bottom = as_main;
  entries = [];
  start = main_start;
}

-- the calls that are open as a run begins, as its text sees them: the entry of a call that is served came last
abbrev pub calls_below : List Signature → (count : ℕ) → Bottom → List OpenCall
calls_below signatures count as_main = []
calls_below signatures count (served sig) =
    record { signature = signature_at signatures sig; entry = count - 1 } ∷ []

-- where its text stands as it begins
abbrev pub text_start : Program → Base → Point
text_start p b =
    record { events = b.count; calls = calls_below p.signatures b.count b.bottom }

-- and after this trace
abbrev pub text_after : Program → Base → List TraceItem → Point
text_after p b own = past_all p.signatures (text_start p b) own

abbrev pub left_at_position : Program → Base → Position → Remainder
left_at_position p b x = rest p b.bottom x.call_stack x.closures x.moves

-- the open calls, with these activations suspended after these events
abbrev pub open_at : Program → Base → List Suspended → List Event → List Entered
open_at p b outer events =
    open_calls p.signatures (awaited b.bottom outer) (unreturned b.entries events)

-- these events answer to all of this trace
abbrev pub Answer : Program → Base → List TraceItem → List Event → List Entered → Type 0
Answer p b trace events left_open =
    AnswersTo b.standard b.top b.held p.signatures b.count (open_at p b [] []) trace events left_open

-- THE RUN HAS COME TO A POINT of its path: its activations with their functions, user data and results so far, its closures and the moves left are those that the direct meaning's steps lead to. Of all that was left this trace is done, these events answer to it, and the call stack's calls are open, with the entries of the inner ones before those of the beginning.
pub record HasComeTo (p : Program) (b : Base) (all : Remainder) (own : List TraceItem) (events : List Event)
    (x : Position) : Type 0 where
  pub path : IsOnPath p b.bottom b.start own x
  pub follows : all ≡ before own (left_at_position p b x)
  pub answers : Answer p b own events (open_at p b x.call_stack.suspended events)
  pub inner : List Event
  pub entries_are : unreturned b.entries events ≡ inner ++ b.entries
  pub counted : length inner ≡ length x.call_stack.suspended
  pub depth : depth_at p (depth_of p (awaited b.bottom [])) own ≡ depth_of p (awaited b.bottom x.call_stack.suspended)
  pub nested : IsNested p b.room x.call_stack.innermost x.call_stack.suspended

-- THE RUN IS OVER: all that was left is done.
pub record IsOver (p : Program) (b : Base) (all : Remainder) (end : End) (closures : Closures) (moves : ℕ)
    (events : List Event) : Type 0 where
  pub end_is : all.end ≡ end
  pub closures_are : all.closures ≡ closures
  pub moves_are : all.moves ≡ moves
  pub left_open : List Entered
  pub answers : Answer p b all.trace events left_open

-- THE RUN WAS INTERRUPTED since it began: of all that was left this is done and that comes later, this happened, these bytes are written, and these events are recorded.
abbrev pub IsInterrupted : Tracing → Program → Base → (in_line recorded : Bool) → Remainder
    → (done later happened : List TraceItem) → (written : List ℕ) → List Event → Type 0
IsInterrupted tracing p b in_line recorded all done later happened written events =
    TraceWasInterrupted b.standard b.top b.held tracing p.signatures (text_start p b) b.count (open_at p b [] [])
    in_line recorded all.trace done later happened written events
