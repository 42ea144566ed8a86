-- The callee has recorded its entry and taken its arguments.
use Rattle.std.proofs.Common.{◌≡◌, ℕ, ◌+◌, ◌-◌, ◌≤◌, List, [], ◌∷◌, ◌++◌, length, refl, sym, ◌∙◌, subst, arith}
use Rattle.std.proofs.lemmas.List.{length-append}
use Rattle.ffi3_type_spec.specs.declared.limits.TheConstants.{STACK, STACK_TOP}
use Rattle.ffi3_type_spec.specs.TargetIsa.{isa_of}
use Rattle.ffi3_type_spec.specs.Signature.{Signature, SignatureHasNoFault}
use Rattle.ffi3_type_spec.specs.Value.{ValueTree}
use Rattle.ffi3_place_spec.specs.declared.Loc.{Loc}
use Rattle.ffi3_place_spec.specs.declared.Loc.TheVariants.{G, F, S}
use Rattle.ffi3_place_spec.specs.declared.Res.{Res}
use Rattle.ffi3_place_spec.specs.declared.Res.TheVariants.{Hidden}
use Rattle.ffi3_place_spec.specs.declared.SaveWord.{SaveWord}
use Rattle.ffi3_place_spec.specs.declared.SaveWord.TheVariants.{Register, Hidden as HiddenWord, Spare}
use Rattle.ffi3_place_spec.specs.MachineRegisters.{link_register}
use Rattle.ffi3_place_spec.specs.Event.{Event}
use Rattle.ffi3_place_spec.specs.Standard.{Standard, block_bytes, frame_of, plan_of}
use Rattle.ffi3_place_spec.specs.Agrees.{AgreesWithMachine}
use Rattle.ffi3_place_spec.specs.Sound.{IsSound}
use Rattle.ffi3_place_spec.proofs.Tests.{each_at, each_weaker}
use Rattle.ffi3_machine_spec.specs.State.{State, HasReturnAddress, HasReturnAt, after_enter, image_of}
use Rattle.ffi3_machine_transfer.specs.Stored.{WroteWithin, word_in, with_journal_of}
use Rattle.ffi3_callee.specs.Given.{IsAddressOf, ReservedStay}
use Rattle.ffi3_callee.specs.Received.{IsReceived, OwnsAtEntry, hidden_of}
use Rattle.ffi3_callee.specs.Saved.{IsHiddenWord, IsSaveable, IsToSave, hidden_word, saved_word}
use Rattle.ffi3_callee.proofs.Entry.{address_owned}
use Rattle.ffi3_callee.proofs.Laws.{words_saveable}
use Rattle.ffi3_invoke.specs.Calls.{IsInCallee, IsSavedOf, entry_at}
use Rattle.ffi3_machine_transfer.proofs.Composing.{beside}
use Rattle.ffi3_callee.proofs.Answered.{return_same}
use Rattle.ffi3_callee.proofs.Keeping.{reserved_there}
use Rattle.ffi3_invoke.proofs.Passed.{same_in}
use Rattle.ffi3_invoke.proofs.Stretches.{above_stays}

pub counted : (es : List Event) (e : Event) → length (es ++ e ∷ []) ≡ length es + 1
counted es e = length-append es (e ∷ [])

module _ (std : Standard) (s : Signature) (agrees : AgreesWithMachine std) (m r : State) (received : IsReceived std s (after_enter (std.link + frame_of std s) m) r) where
  abbrev entered : State
  entered = after_enter (std.link + frame_of std s) m

  -- an event is recorded beside the registers and the stack
  word_beside : (base : ℕ) (l : Loc) → word_in base entered l ≡ word_in base m l
  word_beside base (G k) = refl
  word_beside base (F k) = refl
  word_beside base (S k w) = refl

  pub reserved_beside : ReservedStay std entered r → ReservedStay std m r
  reserved_beside stay =
      each_weaker (λ at. word_in STACK_TOP r at ≡ word_in STACK_TOP entered at) (λ at. word_in STACK_TOP r at ≡ word_in STACK_TOP m at) (λ at h. h ∙ word_beside STACK_TOP at) std.reserved stay

  pub within_beside : WroteWithin r.sp m.sp m (with_journal_of m r)
  within_beside =
      let w = received.within in beside r.sp m.sp m r w.size w.outside w.mark w.target w.code

  -- ---- what stands in the save area

  hidden_is : (base n : ℕ) (res : Res) → IsHiddenWord base entered (hidden_of res) n → IsAddressOf base (hidden_word base entered (hidden_of res)) res → IsAddressOf base n res
  hidden_is base n (Hidden at buffer) saved h = saved ∙ h
  hidden_is base n _ saved h = tt

  word_is : (vs : List ValueTree) → IsSound std s → SignatureHasNoFault s → STACK ≤ m.sp → OwnsAtEntry std s m vs → (w : SaveWord) (n : ℕ) → IsSaveable 0 w → IsToSave (m.sp + std.link) entered (hidden_of (plan_of std s).res) w n → IsSavedOf std s (image_of (std.link + frame_of std s) m) w n
  word_is vs sound right low own (Register (G k)) n lies saved = saved
  word_is vs sound right low own (Register (F k)) n lies saved = saved
  word_is vs sound right low own (Register (S k w)) n lies saved = absurd (omega (arith, lies.0, lies.1))
  word_is vs sound right low own HiddenWord n lies saved =
      hidden_is (m.sp + std.link) n (plan_of std s).res saved (address_owned std s entered vs sound right low own)
  word_is vs sound right low own Spare n lies saved = tt

  -- THE CALLEE OF AN OPEN CALL RUNS
  pub in_callee : (vs : List ValueTree) → IsSound std s → SignatureHasNoFault s → m.target ≡ std.target → STACK + std.save + block_bytes s ≤ m.sp → m.sp + std.link + frame_of std s ≤ STACK_TOP → OwnsAtEntry std s m vs → ReservedStay std m r → HasReturnAddress m → 2 ≤ m.spare_events → std.link + frame_of std s + frame_of std s ≤ m.spare_bytes → IsInCallee std (record { signature = s; event = entry_at std s m }) r
  in_callee vs sound right target room frame own stay back events bytes =
      let w = received.within in
      let sp = received.sp in
      let low : STACK ≤ m.sp = omega (arith, room) in
      let at_standard = subst (λ k. HasReturnAt (link_register (isa_of k)) m.general m.sp m.stack) target back in
      let spare_events : r.spare_events ≡ m.spare_events - 1 = received.spare_events in
      let spare_bytes : r.spare_bytes ≡ m.spare_bytes - (std.link + frame_of std s) = received.spare_bytes in
      record {
        target = w.target ∙ target;
        stands = record {
          place = received.sp;
          bottom = omega (arith, sp, room);
          top = frame;
          saved = λ i word below is. word_is vs sound right low own word (saved_word (m.sp - std.save) i r) (each_at (IsSaveable 0) std.save_area i word below (sym is) (words_saveable std agrees)) (received.saved i word below is);
          return_address = return_same (link_register (isa_of std.target)) m.general m.sp m.stack r.stack (λ none. above_stays r.sp m.sp entered (with_journal_of entered r) w m.sp 8 low (omega arith)) at_standard;
          frame = above_stays r.sp m.sp entered (with_journal_of entered r) w m.sp (std.link + frame_of std s) low (omega arith);
        };
        reserved = same_in (std.link + frame_of std s) 0 m r std.reserved (reserved_there std agrees) stay;
        room = omega (arith, spare_events, events);
        bytes = omega (arith, spare_bytes, bytes);
      }
