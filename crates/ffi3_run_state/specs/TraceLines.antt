-- The lines of an entry and of a return, as the recorded event tells them.
use Rattle.std.specs.Prelude.{ℕ, ◌-◌, Bool, true, false, List, [], ◌++◌, length}
use Rattle.ffi3_type_spec.specs.Signature.{Signature}
use Rattle.ffi3_type_spec.specs.Value.{ValueTree}
use Rattle.ffi3_place_spec.specs.Event.{Event}
use Rattle.ffi3_place_spec.specs.Standard.{Standard}
use Rattle.ffi3_machine_spec.specs.Recorded.{event_at}
use Rattle.ffi3_text.specs.TraceLines.{enter_text_of, leave_text_of, keep_text_of}

-- the event that was recorded last
abbrev pub last_event : List Event → Event
last_event events = event_at events (length events - 1)

-- two lines of an entry where the run is traced, and none where it is not
abbrev pub entry_lines : (trace : Bool) → Standard → Signature → Event → List ValueTree → List ℕ
entry_lines false std s e args = []
entry_lines true std s e args = enter_text_of s e args ++ keep_text_of std e

-- the same of a return
abbrev pub return_lines : (trace : Bool) → Standard → Signature → Event → ValueTree → List ℕ
return_lines false std s e v = []
return_lines true std s e v = leave_text_of s e v ++ keep_text_of std e
