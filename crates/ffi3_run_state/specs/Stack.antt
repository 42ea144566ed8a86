-- The open calls on a machine's stack, one above the other.
use Rattle.std.specs.Prelude.{◌≡◌, ℕ, ◌+◌, ◌<◌, ◌≤◌, List, [], ◌∷◌, length, Some}
use Rattle.std.specs.List.{AllByRecursion}
use Rattle.ffi3_type_spec.specs.Signature.{Signature, signature_at}
use Rattle.ffi3_place_spec.specs.declared.Loc.{Loc}
use Rattle.ffi3_place_spec.specs.Holds.{Own}
use Rattle.ffi3_place_spec.specs.Image.{register}
use Rattle.ffi3_place_spec.specs.Standard.{Standard, frame_of}
use Rattle.ffi3_semantics_spec.specs.Journal.{Entered}
use Rattle.ffi3_machine_spec.specs.State.{State, image_of, stack_at}
use Rattle.ffi3_callee.specs.Received.{IsIncoming}
use Rattle.ffi3_invoke.specs.Calls.{Stands}
use Rattle.ffi3_run_state.specs.declared.activation.OpenCall.{OpenCall}
use Rattle.ffi3_run_state.specs.Activations.{arguments_at}

-- where the stack pointer of the caller stood, before it stored the arguments
abbrev pub caller_sp : Standard → Entered → ℕ
caller_sp std e = e.event.image.sp + std.link + frame_of std e.signature

-- AN OPEN CALL STANDS ON THE STACK: its callee's block begins at sp, the arguments in that block are those that the image at its entry owns, and the reserved registers were at its entry as they were at first.
pub record IsOpen (std : Standard) (signatures : List Signature) (held : Loc → ℕ) (m : State) (c : OpenCall)
    (e : Entered) (sp : ℕ) : Type 0 where
  pub below : c.sig < length signatures
  pub signature : e.signature ≡ signature_at signatures c.sig
  pub stands : Stands std e sp m
  pub reserved : AllByRecursion (λ at. register e.event.image at ≡ held at) std.reserved
  pub incoming : IsIncoming std e.signature c.incoming
  pub block : c.incoming.block ≡ sp
  pub arguments : Own std e.signature (arguments_at signatures m (Some c)) e.event.image

-- EACH OPEN CALL STANDS JUST BELOW THE ONE AROUND IT, the outermost just below the top.
abbrev pub OpenStand : Standard → List Signature → (Loc → ℕ) → (top : ℕ) → State → List OpenCall → List Entered
    → (sp : ℕ) → Type 0
OpenStand std signatures held top m [] [] sp = sp ≡ top
OpenStand std signatures held top m [] (e ∷ outer) sp = ⊥
OpenStand std signatures held top m (c ∷ calls) [] sp = ⊥
OpenStand std signatures held top m (c ∷ calls) (e ∷ outer) sp =
    IsOpen std signatures held m c e sp × OpenStand std signatures held top m calls outer (caller_sp std e)

-- the bytes of stack that the returns of open calls record
abbrev pub frames : Standard → List Entered → ℕ
frames std [] = 0
frames std (e ∷ outer) = frame_of std e.signature + frames std outer

-- THE MACHINE HOLDS THE OPEN CALLS: they stand on its stack, and its journal has room for their returns.
pub record HoldsCalls (std : Standard) (signatures : List Signature) (held : Loc → ℕ) (top : ℕ) (m : State)
    (calls : List OpenCall) (entered : List Entered) : Type 0 where
  pub target : m.target ≡ std.target
  pub stand : OpenStand std signatures held top m calls entered m.sp
  pub reserved : AllByRecursion (λ at. register (image_of 0 m) at ≡ held at) std.reserved
  pub room : length entered ≤ m.spare_events
  pub bytes : frames std entered ≤ m.spare_bytes

-- A MOVE WRITES NO STACK BYTE outside the need of the last activation and below: at an entry that is the callee's, which ends at the sp before it; at a return the callee's, which ends at the sp after it; elsewhere sp stays, and nothing is written from there on.
abbrev pub WritesInLast : State → State → Type 0
WritesInLast before after =
    (address count : ℕ) → before.sp ≤ address → after.sp ≤ address
    → stack_at address count after ≡ stack_at address count before
