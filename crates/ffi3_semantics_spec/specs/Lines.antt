-- The text of a run: a line for each print and for what stops it; where the run is traced, also two lines for each entry and each return. It does not depend on how far a machine came, so nothing that a machine recorded is looked at.
use Rattle.std.specs.Prelude.{ℕ, ◌+◌, ◌-◌, false, List, [], ◌∷◌, ◌++◌, length, map, drop, replicate, codes}
use Rattle.std.specs.Fmt.{decimal, digits}
use Rattle.std.specs.List.{concat, join_with_byte}
use Rattle.ffi3_type_spec.specs.Tree.{trees_of}
use Rattle.ffi3_type_spec.specs.Signature.{Signature, signature_at}
use Rattle.ffi3_type_spec.specs.Text.{signature_text}
use Rattle.ffi3_type_spec.specs.Value.{ValueTree, values_of}
use Rattle.ffi3_type_spec.specs.ValueText.{value_text_of, value_texts_of}
use Rattle.ffi3_place_spec.specs.declared.Loc.{Loc}
use Rattle.ffi3_place_spec.specs.Standard.{Standard, needs_of, frame_of}
use Rattle.ffi3_semantics_spec.specs.declared.Stop.{Stop}
use Rattle.ffi3_semantics_spec.specs.declared.Stop.TheVariants.{NoClosure, WrongSig, TableFull, StackFull, MoveLimit}
use Rattle.ffi3_semantics_spec.specs.Meaning.{Program}
use Rattle.ffi3_semantics_spec.specs.Trace.{TraceItem, Enter, Line, Leave, StopLine, trace_of}

-- with a newline at the end
abbrev pub a_line : List ℕ → List ℕ
a_line text = text ++ 10 ∷ []

-- an address, in lower-case hexadecimal without leading zeros
abbrev pub address_text : ℕ → List ℕ
address_text address = codes "0x" ++ digits 16 false address

abbrev pub stop_text : List Signature → Stop → List ℕ
stop_text signatures (NoClosure ptr) = codes "stop: no closure at " ++ address_text ptr
stop_text signatures (WrongSig ptr site found) =
    codes "stop: wrong signature at " ++ address_text ptr
    ++ codes ": called as " ++ signature_text (signature_at signatures site)
    ++ codes ", is " ++ signature_text (signature_at signatures found)
stop_text signatures TableFull = codes "stop: closure table full"
stop_text signatures (StackFull need left) =
    codes "stop: stack full: need " ++ decimal need ++ codes ", left " ++ decimal left
stop_text signatures MoveLimit = codes "stop: move limit"

-- ---- where a run stands

-- a call that is open: its signature, and the number of its entry among the run's entries and returns, from 0
pub record OpenCall : Type 0 where
  pub signature : Signature
  pub entry : ℕ

-- how many entries and returns came before, and the calls that are open, the innermost first
pub record Point : Type 0 where
  pub events : ℕ
  pub calls : List OpenCall

abbrev pub at_start : Point
at_start = record { events = 0; calls = [] }

-- after what happens next
abbrev pub past : List Signature → Point → TraceItem → Point
past signatures at (Enter ptr sig args) = record {
  events = at.events + 1;
  calls = record { signature = signature_at signatures sig; entry = at.events } ∷ at.calls;
}
past signatures at (Leave sig r) =
    record { events = at.events + 1; calls = drop 1 at.calls }
past signatures at (Line t v) = at
past signatures at (StopLine stop) = at

-- ---- the lines of entries and returns

-- not told at all, or told by a standard, on a stack that falls from `top`, where at the entry of number n a callee-saved register has what `leaves n` says
pub data Tracing : Type 0 where
  untraced : Tracing
  traced : Standard → (top : ℕ) → (leaves : ℕ → Loc → ℕ) → Tracing

-- the stack pointer at a call, inside these calls: below all that they need and the call's own frame
abbrev pub sp_at_call : Standard → (top : ℕ) → List OpenCall → Signature → ℕ
sp_at_call std top outer s =
    top - needs_of std (map (λ c. c.signature) outer) - frame_of std s

abbrev pub enter_text : Standard → (top : ℕ) → List OpenCall → (address : ℕ) → Signature → List ValueTree → List ℕ
enter_text std top outer address s args =
    codes "enter " ++ address_text address
    ++ codes " sp " ++ address_text (sp_at_call std top outer s - std.link)
    ++ codes " (" ++ join_with_byte 44 (value_texts_of (trees_of s.arguments) (values_of args)) ++ codes ")"

abbrev pub leave_text : Standard → (top : ℕ) → List OpenCall → Signature → ValueTree → List ℕ
leave_text std top outer s r =
    codes "leave sp " ++ address_text (sp_at_call std top outer s) ++ codes " " ++ value_text_of s.result_type r

-- 16 hexadecimal digits
abbrev pub word_text : ℕ → List ℕ
word_text n =
    replicate (16 - length (digits 16 false n)) 48 ++ digits 16 false n

-- the callee-saved registers, as a caller leaves them
abbrev pub keep_text : Standard → (Loc → ℕ) → List ℕ
keep_text std leaves =
    codes "keep" ++ concat (map (λ at. codes " " ++ word_text (leaves at)) std.callee_saved)

abbrev pub enter_lines : Tracing → Point → (address : ℕ) → Signature → List ValueTree → List ℕ
enter_lines untraced at address s args = []
enter_lines (traced std top leaves) at address s args =
    a_line (enter_text std top at.calls address s args) ++ a_line (keep_text std (leaves at.events))

-- of the innermost call
abbrev pub leave_lines : Tracing → List OpenCall → ValueTree → List ℕ
leave_lines untraced calls r = []
leave_lines (traced std top leaves) [] r = []
leave_lines (traced std top leaves) (c ∷ outer) r =
    a_line (leave_text std top outer c.signature r) ++ a_line (keep_text std (leaves c.entry))

-- ---- the text

abbrev pub item_text : Tracing → List Signature → Point → TraceItem → List ℕ
item_text tracing signatures at (Enter ptr sig args) =
    enter_lines tracing at ptr (signature_at signatures sig) args
item_text tracing signatures at (Line t v) = a_line (value_text_of t v)
item_text tracing signatures at (Leave sig r) = leave_lines tracing at.calls r
item_text tracing signatures at (StopLine stop) = a_line (stop_text signatures stop)

-- of what happens from some point on, in order
abbrev pub text : Tracing → List Signature → Point → List TraceItem → List ℕ
text tracing signatures at [] = []
text tracing signatures at (h ∷ rest) =
    item_text tracing signatures at h ++ text tracing signatures (past signatures at h) rest

-- THE TEXT OF A PROGRAM'S RUN
abbrev pub text_of_run : Tracing → Program → List ℕ
text_of_run tracing p = text tracing p.signatures at_start (trace_of p)
