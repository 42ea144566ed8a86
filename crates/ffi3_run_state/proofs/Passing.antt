-- A call whose arguments are passed: what the machine shows at its entry, and what holds once its callee has accepted it.
use Rattle.std.proofs.Common.{◌≡◌, ℕ, ◌+◌, ◌*◌, ◌<◌, ◌≤◌, List, length, refl, sym, ◌∙◌, subst, arith}
use Rattle.ffi3_type_spec.specs.declared.limits.TheConstants.{STACK, STACK_BYTES, STACK_TOP}
use Rattle.ffi3_type_spec.specs.Signature.{Signature, signature_at}
use Rattle.ffi3_type_spec.specs.Value.{ValueTree}
use Rattle.ffi3_place_spec.specs.Agrees.{AgreesWithMachine}
use Rattle.ffi3_place_spec.specs.Standard.{Standard, block_bytes, frame_of, need_of}
use Rattle.ffi3_machine_spec.specs.State.{State, with_room}
use Rattle.ffi3_callee.specs.declared.Incoming.{Incoming}
use Rattle.ffi3_invoke.specs.Calls.{HasBegun, HasPassed, KeepsReserved}
use Rattle.ffi3_invoke.proofs.Made.{begun}
use Rattle.ffi3_run_state.specs.Passed.{IsPassed}
use Rattle.ffi3_run_state.specs.Served.{ShowsCall}
use Rattle.ffi3_semantics_spec.specs.Meaning.{Program}
use Rattle.ffi3_small_step_spec.specs.SoFar.{Base}
use Rattle.ffi3_run_state.proofs.Accepting.{WasAccepted}
use Rattle.ffi3_run_state.proofs.Crossing.{HasCalled, has_called}

-- by another name of its signature
pub passed_by : (std : Standard) (s t : Signature) (ptr : ℕ) (args : List ValueTree) (m m' : State) → s ≡ t → IsPassed std s ptr args m m' → IsPassed std t ptr args m m'
passed_by std s t ptr args m m' same is = subst (λ (x : Signature). IsPassed std x ptr args m m') same is

-- from what is said of the machine with room
pub is_passed : (std : Standard) (s t : Signature) (ptr len : ℕ) (args : List ValueTree) (m roomy m' : State) → s ≡ t → len ≡ std.link + frame_of std s → roomy ≡ with_room len m → length m.stack ≡ STACK_BYTES → m.target ≡ std.target → STACK + need_of std t ≤ m.sp → m.sp ≤ STACK_TOP → HasPassed std s args ptr roomy m' → IsPassed std t ptr args m m'
is_passed std s t ptr len args m roomy m' same sized made size target room top passed =
    let P = λ (x : State). HasPassed std s args ptr x m' in
    let Q = λ (n : ℕ). HasPassed std s args ptr (with_room n m) m' in
    let R = λ (x : Signature). HasPassed std x args ptr (with_room (std.link + frame_of std x) m) m' in
    record { size = size; target = target; room = room; top = top; passed = subst R same (subst Q sized (subst P made passed)) }

module _ (std : Standard) (s : Signature) (ptr : ℕ) (args : List ValueTree) (before m : State) (is : IsPassed std s ptr args before m) where
  -- THE MACHINE SHOWS THE CALL, as it shows one of any caller
  pub shows : ShowsCall std s args m
  shows =
      let passed = is.passed in
      let need : need_of std s ≡ frame_of std s + std.link + std.save + block_bytes s = refl in
      let sp : m.sp + std.link + frame_of std s ≡ before.sp = passed.sp in
      let room : STACK + need_of std s ≤ before.sp = is.room in
      let top : before.sp ≤ STACK_TOP = is.top in
      let events : m.spare_events ≡ before.spare_events + 2 = passed.spare_events in
      let bytes : m.spare_bytes ≡ before.spare_bytes + 2 * (std.link + frame_of std s) = passed.spare_bytes in
      record {
        target = passed.within.target ∙ is.target;
        entry = passed.pc;
        room = omega (arith, need, sp, room);
        frame = omega (arith, sp, top);
        owns = passed.holds.own;
        return_address = passed.return_address;
        events = omega (arith, events);
        bytes = omega (arith, bytes);
      }

  -- THE CALL HAS BEGUN, once its callee has accepted it
  pub begins : (m' : State) (incoming : Incoming) → AgreesWithMachine std → WasAccepted std s m m' incoming → KeepsReserved std m m' → HasBegun std s args ptr (with_room (std.link + frame_of std s) before) m'
  begins m' incoming agrees was reserved =
      begun std s agrees args ptr (with_room (std.link + frame_of std s) before) m m' is.size is.room is.top is.passed was.events was.received was.sp was.within reserved was.spare_events was.spare_bytes was.steps was.in_callee

-- by another name of its signature
pub shows_by : (std : Standard) (s t : Signature) (ptr : ℕ) (args : List ValueTree) (before m : State) → s ≡ t → IsPassed std s ptr args before m → ShowsCall std t args m
shows_by std s t ptr args before m same is =
    shows std t ptr args before m (passed_by std s t ptr args before m same is)

-- THE CALL, in the words of the program, once its callee has accepted it
pub called_from : (p : Program) (base : Base) (std : Standard) (ss : List Signature) (s : Signature) (ptr sig : ℕ) (args : List ValueTree) (before m m' : State) (incoming : Incoming) → base.standard ≡ std → p.signatures ≡ ss → s ≡ signature_at ss sig → sig < length ss → AgreesWithMachine std → IsPassed std (signature_at ss sig) ptr args before m → (ShowsCall std s args m → WasAccepted std s m m' incoming) → KeepsReserved std m m' → HasCalled p base ptr sig args before m' incoming
called_from p base std ss s ptr sig args before m m' incoming standard signatures s_is below agrees passed accepts reserved =
    let is = passed_by std (signature_at ss sig) s ptr args before m (sym s_is) passed in
    let was = accepts (shows std s ptr args before m is) in
    has_called p base std ss s ptr sig std.link (frame_of std s) args before (with_room (std.link + frame_of std s) before) m' incoming standard signatures s_is refl refl refl (begins std s ptr args before m is m' incoming agrees was reserved) was.incoming_is was.block below
