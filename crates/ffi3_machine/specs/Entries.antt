-- The events of a journal, from its entries and the bytes that they share.
use Rattle.std.specs.Prelude.{ℕ, ◌≤◌, ◌-◌, List, map, take, drop}
use Rattle.ffi3_place_spec.specs.Event as events
use Rattle.ffi3_machine.specs.declared.journal.EventKind.{EventKind}
use Rattle.ffi3_machine.specs.declared.journal.EventKind.TheVariants.{Enter, Leave}
use Rattle.ffi3_machine.specs.declared.journal.Event.{Event}
use Rattle.ffi3_machine.specs.declared.journal.Entry.{Entry}

abbrev pub kind_of : EventKind → events.EventKind
kind_of Enter = events.enters
kind_of Leave = events.leaves

-- an event with these bytes of stack
abbrev pub event_of : Event → List ℕ → events.Event
event_of e stack = record {
  kind = kind_of e.kind;
  closure = e.closure;
  image = record { general = e.general; floating = e.floating; sp = e.sp; stack = stack };
}

abbrev pub entry_event : List ℕ → Entry → events.Event
entry_event bytes e = event_of e.event (take (e.to - e.from) (drop e.from bytes))

abbrev pub entry_events : List ℕ → List Entry → List events.Event
entry_events bytes entries = map (entry_event bytes) entries

-- each entry's bytes are there
abbrev pub LiesWithin : ℕ → Entry → Type 0
LiesWithin n e = (e.from ≤ e.to) × (e.to ≤ n)
