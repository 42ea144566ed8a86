-- A machine as the image of what a call passes. Its stack is the whole region, so that it begins at the lowest address. (This library's own: the standards' images begin at the stack pointer.)
use Rattle.std.specs.Prelude.{◌≡◌, ℕ, ◌+◌, ◌≤◌, ◌⊎◌, false, refl}
use Rattle.std.proofs.Common.{inl, inr, ◌∙◌, sym, subst, arith}
use Rattle.ffi3_type_spec.specs.TargetIsa.{isa_of}
use Rattle.ffi3_place_spec.specs.MachineRegisters.{is_zero_register}
use Rattle.ffi3_type_spec.specs.declared.limits.TheConstants.{STACK}
use Rattle.ffi3_place_spec.specs.Image.{Image}
use Rattle.ffi3_machine_spec.specs.State.{State}
use Rattle.ffi3_machine_transfer.specs.Passing.{passing}
use Rattle.ffi3_machine_transfer.specs.Stored.{WroteWithin}

abbrev pub image_passed : State → Image
image_passed m =
    record { general = m.general; floating = m.floating; sp = STACK; stack = m.stack }

-- the stack changes only from one offset to another, and beside it what a call passes in registers
pub record ChangesWithin (low high : ℕ) (old new : State) : Type 0 where
  pub within : WroteWithin (STACK + low) (STACK + high) (passing old) (passing new)
  pub sp : new.sp ≡ old.sp

-- ---- one write after another

pub wrote_nothing : (low high : ℕ) (m : State) → WroteWithin low high m m
wrote_nothing low high m = record {
  size = refl;
  outside = λ i h. refl;
  mark = inl (omega arith);
  target = refl;
  pc = refl;
  code = refl;
  events = refl;
  spare_events = refl;
  spare_bytes = refl;
  exchange = refl;
  steps = refl;
}

pub wrote_then : (low high : ℕ) (a b c : State) → WroteWithin low high a b → WroteWithin low high b c → WroteWithin low high a c
wrote_then low high a b c s t = record {
  size = t.size ∙ s.size;
  outside = λ i h. t.outside i h ∙ s.outside i h;
  mark = falls s.mark t.mark;
  target = t.target ∙ s.target;
  pc = t.pc ∙ s.pc;
  code = t.code ∙ s.code;
  events = t.events ∙ s.events;
  spare_events = t.spare_events ∙ s.spare_events;
  spare_bytes = t.spare_bytes ∙ s.spare_bytes;
  exchange = t.exchange ∙ s.exchange;
  steps = t.steps ∙ s.steps;
}
  where
    falls : (a.mark ≤ b.mark) ⊎ (low ≤ b.mark) → (b.mark ≤ c.mark) ⊎ (low ≤ c.mark) → (a.mark ≤ c.mark) ⊎ (low ≤ c.mark)
    falls x (inr h) = inr h
    falls (inl h) (inl k) = inl (omega (arith, h, k))
    falls (inr h) (inl k) = inr (omega (arith, h, k))

pub changes_nothing : (low high : ℕ) (m : State) → ChangesWithin low high m m
changes_nothing low high m = record { within = wrote_nothing (STACK + low) (STACK + high) (passing m); sp = refl }

pub changes_then : (low high : ℕ) (a b c : State) → ChangesWithin low high a b → ChangesWithin low high b c → ChangesWithin low high a c
changes_then low high a b c s t = record {
  within = wrote_then (STACK + low) (STACK + high) (passing a) (passing b) (passing c) s.within t.within;
  sp = t.sp ∙ s.sp;
}

-- a register that takes a write still takes one
pub still_written : (low high k : ℕ) (a b : State) → ChangesWithin low high a b → is_zero_register (isa_of a.target) k ≡ false → is_zero_register (isa_of b.target) k ≡ false
still_written low high k a b s takes =
    subst (λ t. is_zero_register (isa_of t) k ≡ false) (sym s.within.target) takes
