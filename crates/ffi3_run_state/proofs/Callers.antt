-- The stack of the callers around a run is kept while its calls are open.
use Rattle.std.proofs.Common.{◌≡◌, ℕ, ◌+◌, ◌-◌, ◌<◌, ◌≤◌, List, [], ◌∷◌, ◌++◌, length, take, drop, get_or, sym, ap, ◌∙◌, subst, arith}
use Rattle.std.proofs.lemmas.List.{get_or-take, get_or-drop}
use Rattle.ffi3_type_spec.specs.declared.limits.TheConstants.{STACK}
use Rattle.ffi3_type_spec.specs.Signature.{Signature, signature_at}
use Rattle.ffi3_place_spec.specs.declared.Loc.{Loc}
use Rattle.ffi3_place_spec.specs.Event.{Event}
use Rattle.ffi3_place_spec.specs.Standard.{Standard, block_bytes, frame_of}
use Rattle.ffi3_semantics_spec.specs.Journal.{Entered}
use Rattle.ffi3_semantics_spec.specs.Meaning.{Program}
use Rattle.ffi3_semantics_spec.specs.Trace.{TraceItem}
use Rattle.ffi3_small_step_spec.specs.Remainder.{Remainder, Suspended, Bottom, as_main, served, awaited}
use Rattle.ffi3_small_step_spec.specs.Open.{open_calls}
use Rattle.ffi3_small_step_spec.specs.SoFar.{Base, open_at, HasComeTo}
use Rattle.ffi3_small_step_spec.specs.Path.{Position}
use Rattle.ffi3_machine_spec.specs.State.{State, stack_at}
use Rattle.ffi3_run_state.specs.declared.activation.OpenCall.{OpenCall}
use Rattle.ffi3_run_state.specs.Between.{Beginning, RunState, position, IsBetween}
use Rattle.ffi3_run_state.specs.Outermost.{AreEntriesOf}
use Rattle.ffi3_run_state.specs.Served.{KeepsFrame, KeepsCallers}
use Rattle.ffi3_run_state.specs.Stack.{caller_sp, OpenStand}

-- a byte of a part of the stack that is known
pub byte_of_part : (m : State) (from count i : ℕ) (bytes : List ℕ) → STACK ≤ from → i < count → stack_at from count m ≡ bytes → get_or m.stack (from + i - STACK) 0 ≡ get_or bytes i 0
byte_of_part m from count i bytes inside below is =
    let same : from + i - STACK ≡ from - STACK + i = omega (arith, inside) in
    ap (λ (k : ℕ). get_or m.stack k 0) same
    ∙ sym (get_or-drop (from - STACK) m.stack i 0)
    ∙ sym (get_or-take count (drop (from - STACK) m.stack) i 0 below)
    ∙ ap (λ (l : List ℕ). get_or l i 0) is

-- the frame of an entry stands as it was recorded
record FrameStands (std : Standard) (s : Signature) (entry : Event) (m : State) : Type 0 where
  pub low : STACK ≤ entry.image.sp
  pub frame : stack_at entry.image.sp (std.link + frame_of std s) m ≡ entry.image.stack

module _ (std : Standard) (ss : List Signature) (held : Loc → ℕ) (top : ℕ) (m : State) where
  -- that of the outermost open call, which is served
  outermost_stands : (sig : ℕ) (entry : Event) (calls : List OpenCall) (outer : List Suspended) (inner : List Event) (sp : ℕ) → length inner ≡ length outer → OpenStand std ss held top m calls (open_calls ss (awaited (served sig) outer) (inner ++ entry ∷ [])) sp → FrameStands std (signature_at ss sig) entry m
  outermost_stands sig entry [] [] [] sp same h = elim h [ ]
  outermost_stands sig entry (c ∷ calls) [] [] sp same h =
      let bottom : STACK ≤ sp = h.0.stands.bottom in
      let place : sp + block_bytes (signature_at ss sig) + std.save ≡ entry.image.sp = h.0.stands.place in
      record { low = omega (arith, bottom, place); frame = h.0.stands.frame }
  outermost_stands sig entry calls [] (e ∷ inner) sp same h = absurd (omega (arith, same))
  outermost_stands sig entry calls (s ∷ outer) [] sp same h = absurd (omega (arith, same))
  outermost_stands sig entry [] (s ∷ outer) (e ∷ inner) sp same h = elim h [ ]
  outermost_stands sig entry (c ∷ calls) (s ∷ outer) (e ∷ inner) sp same h =
      let newest : Entered = record { signature = signature_at ss s.signature; event = e } in
      outermost_stands sig entry calls outer inner (caller_sp std newest) (omega (arith, same)) h.1

  frame_kept : (bottom : Bottom) (entries : List Event) (calls : List OpenCall) (outer : List Suspended) (inner : List Event) (sp : ℕ) → length inner ≡ length outer → AreEntriesOf bottom entries → OpenStand std ss held top m calls (open_calls ss (awaited bottom outer) (inner ++ entries)) sp → KeepsFrame std ss bottom entries m.stack
  frame_kept as_main entries calls outer inner sp same are h = tt
  frame_kept (served sig) [] calls outer inner sp same are h = let none = are.1 in cc
  frame_kept (served sig) (e ∷ []) calls outer inner sp same are h =
      let stands = outermost_stands sig e calls outer inner sp same h in
      λ i below outside. byte_of_part m e.image.sp (std.link + frame_of std (signature_at ss sig)) i e.image.stack stands.low below stands.frame
  frame_kept (served sig) (e ∷ f ∷ entries) calls outer inner sp same are h = let none = are.1 in cc

module _ (p : Program) (base : Base) (all : Remainder) (first : Beginning) (own : List TraceItem) (events : List Event) where
  -- where a run has come to a point, and the calls that are open there stand on the stack
  pub callers_kept : (x : Position) (calls : List OpenCall) (m : State) (sp : ℕ) → HasComeTo p base all own events x → AreEntriesOf base.bottom base.entries → OpenStand base.standard p.signatures base.held base.top m calls (open_at p base x.call_stack.suspended events) sp → ((address count : ℕ) → base.top ≤ address → stack_at address count m ≡ take count (drop (address - STACK) first.stack)) → KeepsCallers p base first m.stack
  callers_kept x calls m sp come are stand above =
      let P = λ (l : List Event). OpenStand base.standard p.signatures base.held base.top m calls (open_calls p.signatures (awaited base.bottom x.call_stack.suspended) l) sp in
      record {
        above = above;
        frame = frame_kept base.standard p.signatures base.held base.top m base.bottom base.entries calls x.call_stack.suspended come.inner sp come.counted are (subst P come.entries_are stand);
      }

  -- between two moves
  pub between_keeps : (x : RunState) → IsBetween p base all first own events x → KeepsCallers p base first x.machine.stack
  between_keeps x h =
      callers_kept (position x) x.calls x.machine x.machine.sp h.come h.outermost h.calls.stand h.found.above
