-- What contracts see of a journal and of one of its events.
use Rattle.std.specs.Prelude.{ℕ, List, [], slice_index_or}
use Rattle.ffi3_place_spec.specs.Event.{enters, Event}

pub record Recorded : Type 0 where
  pub events : List Event
  pub spare_events : ℕ
  pub spare_bytes : ℕ

-- event i, and an empty one past the last
abbrev pub event_at : List Event → ℕ → Event
event_at events i =
    slice_index_or events i
    (record { kind = enters; closure = 0; image = record { general = []; floating = []; sp = 0; stack = [] } })
