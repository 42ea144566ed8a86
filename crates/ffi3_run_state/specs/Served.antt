-- A call that is served: what a machine shows of it at its entry, what its run begins with, and what it leaves.
use Rattle.std.specs.Prelude.{◌≡◌, ℕ, ◌+◌, ◌-◌, ◌<◌, ◌≤◌, ⊤, Bool, true, false, if◌then◌else◌, nat_lt, List, []}
use Rattle.std.specs.Prelude.{◌∷◌, ◌++◌, length, take, drop, get_or, Some, None}
use Rattle.ffi3_type_spec.specs.declared.limits.TheConstants.{ENTRY, RETURN, STACK, STACK_TOP}
use Rattle.ffi3_type_spec.specs.Signature.{Signature, signature_at}
use Rattle.ffi3_type_spec.specs.Value.{ValueTree, void_value}
use Rattle.ffi3_place_spec.specs.declared.Loc.{Loc}
use Rattle.ffi3_place_spec.specs.Event.{Event}
use Rattle.ffi3_place_spec.specs.Image.{register}
use Rattle.ffi3_place_spec.specs.Scribble.{scribble}
use Rattle.ffi3_place_spec.specs.Standard.{Standard, block_bytes, frame_of, plan_of}
use Rattle.ffi3_semantics_spec.specs.declared.Closure.{Closure}
use Rattle.ffi3_semantics_spec.specs.Closures.{Closures}
use Rattle.ffi3_semantics_spec.specs.Journal.{Entered, IsReturn}
use Rattle.ffi3_semantics_spec.specs.Lines.{Tracing, untraced, traced}
use Rattle.ffi3_semantics_spec.specs.Meaning as meaning
use Rattle.ffi3_semantics_spec.specs.Meaning.{Program, function, most_moves}
use Rattle.ffi3_small_step_spec.specs.Remainder.{Remainder, Bottom, as_main, served, rest, alone}
use Rattle.ffi3_small_step_spec.specs.SoFar.{Base}
use Rattle.ffi3_machine_spec.specs.State.{State, HasReturnAddress}
use Rattle.ffi3_io_spec.specs.Sink.{SinkState}
use Rattle.ffi3_callee.specs.Answered.{IsBesideResult}
use Rattle.ffi3_callee.specs.Received.{OwnsAtEntry}
use Rattle.ffi3_invoke.specs.Calls.{entry_at, return_at}
use Rattle.ffi3_run_state.specs.declared.activation.OpenCall.{OpenCall}
use Rattle.ffi3_run_state.specs.declared.configuration.Configuration.{Configuration}
use Rattle.ffi3_run_state.specs.Going.{activation_of}
use Rattle.ffi3_run_state.specs.Known.{AreKnown}
use Rattle.ffi3_run_state.specs.Counted.{accepted_steps}
use Rattle.ffi3_run_state.specs.Between.{Beginning, KeepsFound}

-- ---- at the entry

-- THE MACHINE SHOWS A CALL at its entry, by any caller: its image owns the values, RETURN is the return address, the stack has room for the callee's save area and block, and the journal for the entry and the return. All other bits may be any.
pub record ShowsCall (std : Standard) (s : Signature) (arguments : List ValueTree) (m : State) : Type 0 where
  pub target : m.target ≡ std.target
  pub entry : m.pc ≡ ENTRY
  pub room : STACK + std.save + block_bytes s ≤ m.sp
  pub frame : m.sp + std.link + frame_of std s ≤ STACK_TOP
  pub owns : OwnsAtEntry std s m arguments
  pub return_address : HasReturnAddress m
  pub events : 2 ≤ m.spare_events
  pub bytes : std.link + frame_of std s + frame_of std s ≤ m.spare_bytes

-- the activation of the closure's function, with the stack below its block
abbrev pub served_activation : Standard → List Signature → Closure → List ValueTree → State → meaning.Activation
served_activation std signatures closure arguments m = record {
  who = function closure.func;
  arguments = arguments;
  user = closure.user;
  left = m.sp - std.save - block_bytes (signature_at signatures closure.sig) - STACK;
  results = [];
}

-- what its run begins with: the caller's frame is the last that lies below the run's top, the reserved registers are those of the entry, and the function's activation stands before its first move
abbrev pub served_base : Standard → Program → Closure → List ValueTree → State → Closures → ℕ → Base
served_base std p closure arguments m closures moves = record {
  standard = std;
  top = m.sp + std.link + frame_of std (signature_at p.signatures closure.sig);
  room = m.sp - std.save - block_bytes (signature_at p.signatures closure.sig) - STACK;
  held = λ at. register (entry_at std (signature_at p.signatures closure.sig) m).image at;
  count = length m.events + 1;
  bottom = served closure.sig;
  entries = entry_at std (signature_at p.signatures closure.sig) m ∷ [];
  start = record {
    call_stack = alone (served_activation std p.signatures closure arguments m);
    closures = closures;
    moves = moves;
  };
}

-- and what it found: its entry is in the journal and counted, the room there for its entry and its return is its own, and it is traced so
abbrev pub served_beginning : Standard → Signature → State → SinkState → Tracing → Beginning
served_beginning std s m output tracing = record {
  events = m.events ++ entry_at std s m ∷ [];
  mark = m.mark;
  steps = accepted_steps m.target m.steps;
  told = 0;
  output = output;
  stack = m.stack;
  spare_events = m.spare_events - 2;
  spare_bytes = m.spare_bytes - (std.link + frame_of std s + frame_of std s);
  tracing = tracing;
}

-- what callers leave in a callee-saved register, by the number of an entry: of the served call what its entry shows, and later what `scribble` leaves
abbrev pub served_leaves : Event → ℕ → ℕ → Loc → ℕ
served_leaves entry count n at =
    if nat_lt n count then register entry.image at else scribble n at

-- how its run is traced: not at all; or by its standard, from the top of its part of the stack
abbrev pub served_tracing : (trace : Bool) → Standard → List Signature → ℕ → State → Tracing
served_tracing false std signatures sig m = untraced
served_tracing true std signatures sig m =
    traced std
    (m.sp + std.link + frame_of std (signature_at signatures sig))
    (served_leaves (entry_at std (signature_at signatures sig) m) (length m.events + 1))

-- ALL THAT IS LEFT OF THE CALL after its entry, by the direct meaning: what its function does, and the return
abbrev pub served_left : Standard → Program → Closure → List ValueTree → State → Closures → ℕ → Remainder
served_left std p closure arguments m closures moves =
    rest p (served closure.sig) (alone (served_activation std p.signatures closure arguments m)) closures moves

module _ {S : Type 0} where
  -- the call was accepted: its function's activation, before its first move, is the only one
  pub record HasAccepted (closure : Closure) (standing : S) (old new : Configuration S) : Type 0 where
    pub call : OpenCall
    pub signature : call.sig ≡ closure.sig
    pub innermost : new.innermost ≡ Some (activation_of closure standing)
    pub suspended : new.suspended.items ≡ old.suspended.items
    pub served : new.served ≡ Some call
    pub table : new.table ≡ old.table
    pub moves : new.moves ≡ old.moves

  -- NO ACTIVATION IS UNFINISHED, so that a call can be served
  pub record IsIdle (p : Program) (b : Configuration S) : Type 0 where
    pub innermost : b.innermost ≡ None
    pub suspended : b.suspended.items ≡ []
    pub served : b.served ≡ None
    pub known : AreKnown p b.table
    pub few : b.moves ≤ most_moves

-- ---- what is above a run

-- of the frame of the call that is served nothing was written but a hidden result's buffer; main has no caller
abbrev pub KeepsFrame : Standard → List Signature → Bottom → List Event → (stack : List ℕ) → Type 0
KeepsFrame std signatures as_main entries stack = ⊤
KeepsFrame std signatures (served sig) [] stack = ⊥
KeepsFrame std signatures (served sig) (entry ∷ _) stack =
    (i : ℕ)
    → i < std.link + frame_of std (signature_at signatures sig)
    → IsBesideResult
    (entry.image.sp + std.link)
    (signature_at signatures sig).result_type (plan_of std (signature_at signatures sig)).res (entry.image.sp + i)
    → get_or stack (entry.image.sp + i - STACK) 0 ≡ get_or entry.image.stack i 0

-- THE STACK OF THE CALLERS AROUND A RUN IS KEPT: from the run's top on it is as it was found, and so is the frame below it.
pub record KeepsCallers (p : Program) (base : Base) (first : Beginning) (stack : List ℕ) : Type 0 where
  pub above : (address count : ℕ) → base.top ≤ address
      → take count (drop (address - STACK) stack) ≡ take count (drop (address - STACK) first.stack)
  pub frame : KeepsFrame base.standard p.signatures base.bottom base.entries stack

-- ---- what a return leaves

-- THE SERVED CALL HAS RETURNED: the machine is at RETURN, its image holds the result, what a callee preserves is as at the entry, and from the entry's sp on only a hidden result's buffer was written.
pub record HasServed (base : Base) (first : Beginning) (entered : Entered) (v : ValueTree) (m : State) : Type 0 where
  pub is_return : IsReturn base.standard entered v (return_at base.standard entered.signature m)
  pub pc : m.pc ≡ RETURN
  pub sp : m.sp ≡ entered.event.image.sp + base.standard.link
  pub frame : (i : ℕ)
      → i < base.standard.link + frame_of base.standard entered.signature
      → IsBesideResult m.sp
      entered.signature.result_type (plan_of base.standard entered.signature).res (entered.event.image.sp + i)
      → get_or m.stack (entered.event.image.sp + i - STACK) 0 ≡ get_or entered.event.image.stack i 0
  pub found : KeepsFound base first [] m

-- WHAT THE RETURN OF THE OUTERMOST ACTIVATION LEAVES: all of its stack is free where that was main, which gives no value
abbrev pub HasLeft : Program → Base → Beginning → Bottom → List Event → ValueTree → State → Type 0
HasLeft p base first as_main entries v m = (v ≡ void_value) × (m.sp ≡ base.top)
HasLeft p base first (served sig) [] v m = ⊥
HasLeft p base first (served sig) (entry ∷ _) v m =
    HasServed base first (record { signature = signature_at p.signatures sig; event = entry }) v m
