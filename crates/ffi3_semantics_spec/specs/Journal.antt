-- The journal of a machine against what happens in a run: each entry holds the caller's values, each return the callee's result, and what is to be preserved is preserved.
use Rattle.std.specs.Prelude.{◌≡◌, ℕ, ◌+◌, ◌%◌, ⊤, List, [], ◌∷◌, length, map}
use Rattle.std.specs.List.{AllByRecursion}
use Rattle.ffi3_type_spec.specs.declared.limits.TheConstants.{STACK_TOP}
use Rattle.ffi3_type_spec.specs.Signature.{Signature, signature_at}
use Rattle.ffi3_type_spec.specs.Value.{ValueTree}
use Rattle.ffi3_place_spec.specs.declared.Loc.{Loc}
use Rattle.ffi3_place_spec.specs.Scribble.{scribble}
use Rattle.ffi3_place_spec.specs.Standard.{Standard, needs_of, frame_of}
use Rattle.ffi3_place_spec.specs.Image.{register}
use Rattle.ffi3_place_spec.specs.Holds.{Holds, HoldsResult, Kept}
use Rattle.ffi3_place_spec.specs.Event.{Event, enters, leaves}
use Rattle.ffi3_semantics_spec.specs.Trace.{TraceItem, Enter, Line, Leave, StopLine}

-- the first address above the stack
abbrev pub stack_top : ℕ
stack_top = STACK_TOP

-- an unfinished call: its signature, and the event of its entry
pub record Entered : Type 0 where
  pub signature : Signature
  pub event : Event

-- the bytes of stack that unfinished calls take together
abbrev pub needs : Standard → List Entered → ℕ
needs std outer = needs_of std (map (λ e. e.signature) outer)

-- Event number n is the entry of a call with these arguments, below the unfinished calls around it, the outermost of which lies just below `top`; a reserved register holds what it `held` where these calls began.
pub record IsEntry (std : Standard) (top : ℕ) (held : Loc → ℕ) (outer : List Entered) (n pointer : ℕ) (s : Signature)
    (arguments : List ValueTree) (e : Event) : Type 0 where
  pub kind : e.kind ≡ enters
  pub closure : e.closure ≡ pointer
  pub holds : Holds std s arguments e.image
  pub sp : e.image.sp + (std.link + frame_of std s + needs std outer) ≡ top
  -- the caller's stack pointer, as it calls, is a multiple of 16 (psABI AMD64 3.2.2; AAPCS64, "Stack constraints at a public interface"; RISC-V ELF psABI, "Integer Calling Convention")
  pub aligned : top % 16 ≡ 0 → (e.image.sp + std.link) % 16 ≡ 0
  pub stack : length e.image.stack ≡ std.link + frame_of std s
  pub preserved : AllByRecursion (λ at. register e.image at ≡ scribble n at) std.callee_saved
  pub reserved : AllByRecursion (λ at. register e.image at ≡ held at) std.reserved

-- the event is the return of an unfinished call with this result
pub record IsReturn (std : Standard) (entered : Entered) (result : ValueTree) (e : Event) : Type 0 where
  pub kind : e.kind ≡ leaves
  pub closure : e.closure ≡ 0
  pub holds : HoldsResult std entered.signature result e.image
  pub kept : Kept std entered.event.image e.image
  pub stack : length e.image.stack ≡ frame_of std entered.signature

-- Each event answers to the entry or return of its number; n events came before. `unfinished` are the calls that are open, the innermost first.
abbrev pub Answers : Standard → (top : ℕ) → (held : Loc → ℕ) → List Signature → ℕ → List Entered → List TraceItem
    → List Event → Type 0
Answers std top held signatures n unfinished trace [] = ⊤
Answers std top held signatures n unfinished [] (e ∷ events) = ⊥
Answers std top held signatures n unfinished (Line t v ∷ rest) (e ∷ events) =
    Answers std top held signatures n unfinished rest (e ∷ events)
Answers std top held signatures n unfinished (StopLine stop ∷ rest) (e ∷ events) =
    Answers std top held signatures n unfinished rest (e ∷ events)
Answers std top held signatures n unfinished (Enter ptr sig args ∷ rest) (e ∷ events) =
    IsEntry std top held unfinished n ptr (signature_at signatures sig) args e
    × Answers std top held signatures (n + 1)
    (record { signature = signature_at signatures sig; event = e } ∷ unfinished) rest events
Answers std top held signatures n [] (Leave sig r ∷ rest) (e ∷ events) = ⊥
Answers std top held signatures n (entered ∷ unfinished) (Leave sig r ∷ rest) (e ∷ events) =
    IsReturn std entered r e × Answers std top held signatures (n + 1) unfinished rest events

-- how many entries and returns there are
abbrev pub events_in : List TraceItem → ℕ
events_in [] = 0
events_in (Enter ptr sig args ∷ rest) = events_in rest + 1
events_in (Leave sig r ∷ rest) = events_in rest + 1
events_in (Line t v ∷ rest) = events_in rest
events_in (StopLine stop ∷ rest) = events_in rest

-- THE JOURNAL ANSWERS TO THIS TRACE, as far as it goes, on a machine that began: from the top of the stack down, with reserved registers 0
abbrev pub JournalOf : Standard → List Signature → List TraceItem → List Event → Type 0
JournalOf std signatures trace journal =
    Answers std stack_top (λ at. 0) signatures 0 [] trace journal

-- and it is whole
abbrev pub IsWhole : List TraceItem → List Event → Type 0
IsWhole trace journal = length journal ≡ events_in trace
