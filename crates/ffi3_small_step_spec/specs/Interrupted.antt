-- How far the text of a run has come after a part of its trace, and what is there of the next item where the run was interrupted.
use Rattle.std.specs.Prelude.{◌≡◌, ℕ, ◌<◌, Bool, true, false, List, [], ◌∷◌}
use Rattle.ffi3_type_spec.specs.Signature.{Signature}
use Rattle.ffi3_semantics_spec.specs.Trace.{TraceItem, Enter, Line, Leave, StopLine}
use Rattle.ffi3_semantics_spec.specs.Lines.{Point, past, Tracing, item_text}

-- where the text stands after all of a trace
abbrev pub past_all : List Signature → Point → List TraceItem → Point
past_all signatures at [] = at
past_all signatures at (h ∷ later) = past_all signatures (past signatures at h) later

-- the text of the next item, if there is one
abbrev pub next_text : Tracing → List Signature → Point → List TraceItem → List ℕ
next_text tracing signatures at [] = []
next_text tracing signatures at (h ∷ later) = item_text tracing signatures at h

-- the next item, where its event is recorded already
abbrev pub begun : Bool → List TraceItem → List TraceItem
begun true (h ∷ later) = h ∷ []
begun _ _ = []

-- Interrupted in an item's lines, some of their bytes are missing; elsewhere none of them is written.
abbrev pub IsPart : Bool → ℕ → ℕ → Type 0
IsPart true part size = part < size
IsPart false part size = part ≡ 0

-- An item's event comes before its lines: in the lines of an entry or a return its event is recorded, and no other item has an event.
abbrev pub HasItsEvent : (recorded in_line : Bool) → List TraceItem → Type 0
HasItsEvent recorded in_line [] = recorded ≡ false
HasItsEvent recorded in_line (Enter ptr sig args ∷ later) = in_line ≡ true → recorded ≡ true
HasItsEvent recorded in_line (Leave sig r ∷ later) = in_line ≡ true → recorded ≡ true
HasItsEvent recorded in_line (Line t v ∷ later) = recorded ≡ false
HasItsEvent recorded in_line (StopLine stop ∷ later) = recorded ≡ false
