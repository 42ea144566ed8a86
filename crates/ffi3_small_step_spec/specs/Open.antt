-- The calls that are open, and events that answer to a trace from open calls to open calls.
use Rattle.std.specs.Prelude.{◌≡◌, ℕ, List, [], ◌∷◌}
use Rattle.ffi3_type_spec.specs.Signature.{Signature, signature_at}
use Rattle.ffi3_place_spec.specs.declared.Loc.{Loc}
use Rattle.ffi3_place_spec.specs.Standard.{Standard}
use Rattle.ffi3_place_spec.specs.Event.{Event, EventKind, enters, leaves}
use Rattle.ffi3_semantics_spec.specs.Trace.{TraceItem, Enter, Line, Leave, StopLine}
use Rattle.ffi3_semantics_spec.specs.Journal.{Entered, Answers, IsWhole}

-- ---- from the events alone

-- an entry opens a call, a return ends the innermost
abbrev pub after_event : EventKind → Event → List Event → List Event
after_event enters e entries = e ∷ entries
after_event leaves e [] = []
after_event leaves e (entry ∷ entries) = entries

-- the entries that have no return yet, the innermost first
abbrev pub unreturned : List Event → List Event → List Event
unreturned entries [] = entries
unreturned entries (e ∷ events) = unreturned (after_event e.kind e entries) events

-- THE OPEN CALLS: their signatures by number, and their entries
abbrev pub open_calls : List Signature → List ℕ → List Event → List Entered
open_calls signatures (sig ∷ sigs) (e ∷ entries) =
    record { signature = signature_at signatures sig; event = e } ∷ open_calls signatures sigs entries
open_calls signatures _ _ = []

-- ---- from the trace and its events

abbrev pub open_after : List Signature → List Entered → List TraceItem → List Event → List Entered
open_after signatures unfinished [] events = unfinished
open_after signatures unfinished (Line t v ∷ later) events = open_after signatures unfinished later events
open_after signatures unfinished (StopLine stop ∷ later) events = open_after signatures unfinished later events
open_after signatures unfinished (Enter ptr sig args ∷ later) [] = unfinished
open_after signatures unfinished (Enter ptr sig args ∷ later) (e ∷ events) =
    open_after signatures (record { signature = signature_at signatures sig; event = e } ∷ unfinished) later events
open_after signatures unfinished (Leave sig r ∷ later) [] = unfinished
open_after signatures [] (Leave sig r ∷ later) (e ∷ events) = open_after signatures [] later events
open_after signatures (entered ∷ unfinished) (Leave sig r ∷ later) (e ∷ events) =
    open_after signatures unfinished later events

-- THE EVENTS ANSWER TO ALL OF THIS TRACE, after n events and with these calls open, and leave those calls open.
pub record AnswersTo (std : Standard) (top : ℕ) (held : Loc → ℕ) (signatures : List Signature) (n : ℕ)
    (unfinished : List Entered) (trace : List TraceItem) (events : List Event) (unfinished' : List Entered)
    : Type 0 where
  pub answers : Answers std top held signatures n unfinished trace events
  pub whole : IsWhole trace events
  pub left_open : open_after signatures unfinished trace events ≡ unfinished'
