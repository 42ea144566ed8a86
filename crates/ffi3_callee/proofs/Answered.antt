-- A whole activation of a callee, and what else is true at its return.
use Rattle.std.specs.Prelude.{Option, Some, None}
use Rattle.std.proofs.Common.{◌≡◌, ◌⊎◌, inl, inr, ℕ, ◌+◌, ◌-◌, ◌≤◌, List, take, drop, get_or, length, refl, ap, sym, ◌∙◌, subst, arith}
use Rattle.std.proofs.lemmas.Bool.{cases_lt}
use Rattle.ffi3_type_spec.specs.declared.Isa.{Isa}
use Rattle.ffi3_type_spec.specs.declared.Isa.TheVariants.{Amd64}
use Rattle.ffi3_type_spec.specs.declared.limits.TheConstants.{STACK, STACK_BYTES, STACK_TOP}
use Rattle.ffi3_type_spec.specs.TargetIsa.{isa_of}
use Rattle.ffi3_type_spec.specs.Layout.{size_of}
use Rattle.ffi3_type_spec.specs.Signature.{Signature}
use Rattle.ffi3_type_spec.specs.Tree.{Tree}
use Rattle.ffi3_place_spec.specs.declared.Res.{Res}
use Rattle.ffi3_place_spec.specs.declared.Res.TheVariants.{Nothing, Direct, Hidden}
use Rattle.ffi3_place_spec.specs.Agrees.{AgreesWithMachine}
use Rattle.ffi3_place_spec.specs.Image.{register}
use Rattle.ffi3_place_spec.specs.MachineRegisters.{link_register, pushed_bytes}
use Rattle.ffi3_place_spec.specs.Standard.{Standard, block_bytes, frame_of, plan_of}
use Rattle.ffi3_machine_spec.specs.State.{HasReturnAddress, HasReturnAt, State, image_of, stack_at}
use Rattle.ffi3_machine_spec.specs.Stubs.{Exit}
use Rattle.ffi3_stubs.specs.Calls.{steps_of}
use Rattle.ffi3_machine_transfer.specs.Passing.{by_exchange, passing, steps_if}
use Rattle.ffi3_machine_transfer.specs.Stored.{WroteWithin, with_journal_of}
use Rattle.ffi3_machine_transfer.proofs.Composing.{wrote_wider}
use Rattle.ffi3_callee.specs.Answered.{HasAnswered, IsBesideResult}
use Rattle.ffi3_callee.specs.Given.{ResultWrites}
use Rattle.ffi3_callee.specs.GoneBack.{HasGoneBack, IsAtReturn}
use Rattle.ffi3_callee.specs.Received.{IsReceived}
use Rattle.ffi3_callee.specs.Saved.{HoldRegisters}
use Rattle.ffi3_callee.proofs.Copying.{stretch_stays}

-- ---- what a result writes

abbrev result_end : ℕ → Tree → Res → ℕ
result_end base t Nothing = base
result_end base t (Direct pieces) = base
result_end base t (Hidden at buffer) = base + buffer + size_of t

result_within : (base : ℕ) (t : Tree) (res : Res) (a b : State) → ResultWrites base t res a b → WroteWithin base (result_end base t res) a b
result_within base t (Hidden at buffer) a b w =
    wrote_wider (base + buffer) (base + buffer + size_of t) base (base + buffer + size_of t) a b (omega arith) (omega arith) w
result_within base t Nothing a b w = w
result_within base t (Direct pieces) a b w = w

result_beside : (base : ℕ) (t : Tree) (res : Res) (a b : State) (i : ℕ) → ResultWrites base t res a b → IsBesideResult base t res (STACK + i) → get_or b.stack i 0 ≡ get_or a.stack i 0
result_beside base t Nothing a b i w far = w.outside i (cases_lt (STACK + i) base)
result_beside base t (Direct pieces) a b i w far = w.outside i (cases_lt (STACK + i) base)
result_beside base t (Hidden at buffer) a b i w far = w.outside i far

-- ---- the return address

pub pushes : (isa : Isa) → link_register isa ≡ None → pushed_bytes isa ≡ 8
pushes Amd64 none = refl
pushes _ none = cc

-- its bytes are asked for where a call pushes it
pub return_same : (link : Option ℕ) (general : List ℕ) (sp : ℕ) (xs ys : List ℕ) → (link ≡ None → take 8 (drop (sp - STACK) ys) ≡ take 8 (drop (sp - STACK) xs)) → HasReturnAt link general sp xs → HasReturnAt link general sp ys
return_same None general sp xs ys same h = (h.0, same refl ∙ h.1)
return_same (Some l) general sp xs ys same h = h

-- ---- from the entry `m` by what was received and given to the return

module _ (std : Standard) (s : Signature) (agrees : AgreesWithMachine std) (m a b c : State) (entry : ℕ) (target : m.target ≡ std.target) (entry_is : entry ≡ m.sp) (low : STACK + std.save + block_bytes s ≤ m.sp) (high : m.sp + std.link + frame_of std s ≤ STACK_TOP) (sized : length m.stack ≡ STACK_BYTES) (received : IsReceived std s m a) (writes : ResultWrites (entry + std.link) s.result_type (plan_of std s).res (passing a) (passing b)) (back : HasGoneBack std entry b c) (hold : HoldRegisters (entry - std.save) std.save_area (register (image_of 0 m)) b) where
  given : WroteWithin (entry + std.link) (result_end (entry + std.link) s.result_type (plan_of std s).res) (passing a) (passing b)
  given = result_within (entry + std.link) s.result_type (plan_of std s).res (passing a) (passing b) writes

  gone : (i : ℕ) → get_or c.stack i 0 ≡ get_or b.stack i 0
  gone i = back.within.outside i (cases_lt (STACK + i) STACK_TOP)

  falls : (m.mark ≤ a.mark) ⊎ (a.sp ≤ a.mark) → (a.mark ≤ b.mark) ⊎ (entry + std.link ≤ b.mark) → (b.mark ≤ c.mark) ⊎ (STACK_TOP ≤ c.mark) → (m.mark ≤ c.mark) ⊎ (m.sp ≤ c.mark + std.save + block_bytes s)
  falls x y (inr k) = inr (omega (arith, high, k))
  falls x (inr j) (inl k) = inr (omega (arith, entry_is, j, k))
  falls (inl h) (inl j) (inl k) = inl (omega (arith, h, j, k))
  falls (inr h) (inl j) (inl k) = let sp = received.sp in inr (omega (arith, sp, h, j, k))

  pushed_there : link_register (isa_of std.target) ≡ None → stack_at m.sp 8 b ≡ stack_at m.sp 8 m
  pushed_there none =
      let eight : std.link ≡ 8 = agrees.link ∙ pushes (isa_of std.target) none in
      let size : length a.stack ≡ STACK_BYTES = received.within.size ∙ sized in
      stretch_stays (entry + std.link) (result_end (entry + std.link) s.result_type (plan_of std s).res) m.sp 8 (passing a) (passing b) (omega (arith, low)) (omega (arith, high, size, eight, low)) (inl (omega (arith, entry_is, eight))) given
      ∙ stretch_stays a.sp m.sp m.sp 8 m (with_journal_of m a) (omega (arith, low)) (omega (arith, high, sized, eight, low)) (inr (omega arith)) received.within

  at_return : HasReturnAddress m → IsAtReturn (by_exchange c.target) c
  at_return h =
      let there : HasReturnAt (link_register (isa_of std.target)) m.general m.sp m.stack = subst (λ t. HasReturnAt (link_register (isa_of t)) m.general m.sp m.stack) target h in
      back.at_return (image_of 0 m) hold (subst (λ n. HasReturnAt (link_register (isa_of std.target)) m.general n b.stack) (sym entry_is) (return_same (link_register (isa_of std.target)) m.general m.sp m.stack b.stack pushed_there there))

  pub answered : HasAnswered std s m c
  answered = record {
    size = back.within.size ∙ given.size ∙ received.within.size;
    below = λ i h. let sp = received.sp in gone i ∙ given.outside i (inl (omega (arith, entry_is, h))) ∙ received.within.outside i (inl (omega (arith, sp, h)));
    above = λ i h far. gone i ∙ result_beside (entry + std.link) s.result_type (plan_of std s).res (passing a) (passing b) i writes (subst (λ n. IsBesideResult (n + std.link) s.result_type (plan_of std s).res (STACK + i)) (sym entry_is) far) ∙ received.within.outside i (inr h);
    mark = falls received.within.mark given.mark back.within.mark;
    at_return = at_return;
    target = back.within.target ∙ given.target ∙ received.within.target;
    code = back.within.code ∙ given.code ∙ received.within.code;
    events = back.events ∙ given.events ∙ received.events;
    spare_events = back.spare_events ∙ given.spare_events ∙ received.spare_events;
    spare_bytes = back.spare_bytes ∙ given.spare_bytes ∙ received.spare_bytes;
    steps = back.steps ∙ ap (λ k. steps_if (by_exchange k) (steps_of (isa_of k) Exit) b.steps) (given.target ∙ received.within.target) ∙ ap (λ n. steps_if (by_exchange m.target) (steps_of (isa_of m.target) Exit) n) (given.steps ∙ received.steps);
  }
