-- What one instruction of each kind does to the machine, by any instruction set.
use Rattle.std.proofs.Common.{◌≡◌, ℕ, ◌+◌, ◌≤◌, Bool, false, if◌then◌else◌, refl, sym, ap, ◌∙◌, Some, None, ℤ}
use Rattle.std.specs.Prelude.{⊤, option_map, slice_set, slice_index}
use Rattle.ffi3_isa.specs.declared.Instr.{Instr}
use Rattle.ffi3_isa.specs.declared.Instr.TheVariants.{Ld, Sd, Fld, Fsd, Addi, Ret}
use Rattle.ffi3_type_spec.specs.declared.Isa.{Isa}
use Rattle.ffi3_type_spec.specs.declared.Isa.TheVariants.{Amd64}
use Rattle.ffi3_type_spec.specs.declared.limits.TheConstants.{STACK, STACK_TOP}
use Rattle.ffi3_place_spec.specs.declared.Loc.{Loc}
use Rattle.ffi3_place_spec.specs.declared.Loc.TheVariants.{G, F, S}
use Rattle.ffi3_place_spec.specs.MachineRegisters.{stack_pointer}
use Rattle.ffi3_machine_spec.specs.declared.stub.TheConstants.{EXCHANGE}
use Rattle.ffi3_machine_spec.specs.State.{State}
use Rattle.ffi3_machine.specs.MachineStep.{StepsBy, IsInstructionAt, loaded, moved, next, base, register, reads_zero, reads_sp, sets, sums, floats, stores, changed}
use Rattle.ffi3_stubs.specs.Effects.{counted, received, with_sp_by, exchanged, saved, held}
use Rattle.ffi3_stubs.proofs.Places.{in_exchange, in_stack, takes_exchange, takes_stack}

abbrev pub load_instr : Loc → ℕ → ℤ → Instr
load_instr (G k) b d = Ld k b d
load_instr (F k) b d = Fld k b d
load_instr (S k w) b d = Ret

abbrev pub store_instr : Loc → ℕ → ℤ → Instr
store_instr (G k) b d = Sd k b d
store_instr (F k) b d = Fsd k b d
store_instr (S k w) b d = Ret

-- a general register that is neither sp nor 0 always, or a floating one
pub record IsPlain (isa : Isa) (k : ℕ) : Type 0 where
  pub no_zero : reads_zero isa k ≡ false
  pub no_sp : reads_sp isa k ≡ false

abbrev pub CanMove : Isa → Loc → Type 0
CanMove isa (G k) = IsPlain isa k
CanMove isa (F k) = ⊤
CanMove isa (S k w) = ⊥

register_is : (isa : Isa) (k : ℕ) (s : State) → IsPlain isa k → register isa k s ≡ slice_index s.general k
register_is isa k s is =
    ap (λ (b : Bool). if b then 0 else (if reads_sp isa k then s.sp else slice_index s.general k)) is.no_zero ∙ ap (λ (b : Bool). if b then s.sp else slice_index s.general k) is.no_sp

pub wrote : (isa : Isa) (s : State) (k v size : ℕ) → IsPlain isa k → received size (G k) v s ≡ changed isa (sets isa k (s.pc + size) v) s
wrote isa s k v size is =
    let shape : Bool → State = λ b. changed isa (record { general = if b then None else Some (k, v); floating = None; sp = if b then Some v else None; store = None; pc = s.pc + size }) s in
    let form : Bool → State = λ b. record s { general = if b then s.general else slice_set s.general k v; pc = s.pc + size; steps = counted s } in
    sym (ap shape is.no_sp ∙ ap form is.no_zero)

pub loads : (isa : Isa) (s : State) (l : Loc) (b : ℕ) (d : ℤ) (size addr v : ℕ) → CanMove isa l → IsInstructionAt isa s (load_instr l b d) size → next size s ≡ s.pc + size → moved (base isa b s) d ≡ addr → loaded isa addr s ≡ Some v → StepsBy isa s (received size l v s)
loads isa s (G k) b d size addr v can stands behind to is = record {
  instr = Ld k b d;
  size = size;
  change = sets isa k (s.pc + size) v;
  stands = stands;
  does = (λ i. option_map (sets isa k (behind i)) (loaded isa (to i) s)) ∙ ap (option_map (sets isa k (s.pc + size))) is;
  is_after = wrote isa s k v size can;
}
loads isa s (F k) b d size addr v can stands behind to is = record {
  instr = Fld k b d;
  size = size;
  change = floats k (s.pc + size) v;
  stands = stands;
  does = (λ i. option_map (floats k (behind i)) (loaded isa (to i) s)) ∙ ap (option_map (floats k (s.pc + size))) is;
  is_after = refl;
}
loads isa s (S k w) b d size addr v can stands behind to is = absurd can

-- what a store names, and what it holds
holds : (isa : Isa) (s : State) (l : Loc) (b : ℕ) (d : ℤ) (size pc addr v : ℕ) → CanMove isa l → IsInstructionAt isa s (store_instr l b d) size → next size s ≡ pc → moved (base isa b s) d ≡ addr → held l s ≡ v → (t : State) → stores None pc addr v ≡ Some (record { general = None; floating = None; sp = None; store = Some (addr, v); pc = pc }) → t ≡ changed isa (record { general = None; floating = None; sp = None; store = Some (addr, v); pc = pc }) s → StepsBy isa s t
holds isa s (G k) b d size pc addr v can stands behind to is t takes after = record {
  instr = Sd k b d;
  size = size;
  change = record { general = None; floating = None; sp = None; store = Some (addr, v); pc = pc };
  stands = stands;
  does = (λ i. stores None (behind i) (to i) ((register_is isa k s can ∙ is) i)) ∙ takes;
  is_after = after;
}
holds isa s (F k) b d size pc addr v can stands behind to is t takes after = record {
  instr = Fsd k b d;
  size = size;
  change = record { general = None; floating = None; sp = None; store = Some (addr, v); pc = pc };
  stands = stands;
  does = (λ i. stores None (behind i) (to i) (is i)) ∙ takes;
  is_after = after;
}
holds isa s (S k w) b d size pc addr v can stands behind to is t takes after = absurd can

-- to the exchange region
pub exchanges : (isa : Isa) (s : State) (l : Loc) (b : ℕ) (d : ℤ) (size o addr : ℕ) → CanMove isa l → IsInstructionAt isa s (store_instr l b d) size → next size s ≡ s.pc + size → moved (base isa b s) d ≡ addr → o + 8 ≤ 552 → EXCHANGE + o ≡ addr → StepsBy isa s (exchanged size o (held l s) s)
exchanges isa s l b d size o addr can stands behind to room is =
    holds isa s l b d size (s.pc + size) addr (held l s) can stands behind to refl (exchanged size o (held l s) s) (takes_exchange None (s.pc + size) addr o (held l s) room is) (sym (in_exchange isa s addr o (held l s) (s.pc + size) room is))

-- to the stack
pub saves : (isa : Isa) (s : State) (l : Loc) (b : ℕ) (d : ℤ) (size addr : ℕ) → CanMove isa l → IsInstructionAt isa s (store_instr l b d) size → next size s ≡ s.pc + size → moved (base isa b s) d ≡ addr → STACK ≤ addr → addr + 8 ≤ STACK_TOP → StepsBy isa s (saved size addr (held l s) s)
saves isa s l b d size addr can stands behind to low high =
    holds isa s l b d size (s.pc + size) addr (held l s) can stands behind to refl (saved size addr (held l s) s) (takes_stack None (s.pc + size) addr (held l s) low high) (sym (in_stack isa s None addr (held l s) (s.pc + size) low high))

sp_summed : (isa : Isa) (s : State) (v pc : ℕ) → changed isa (sums isa (stack_pointer isa) pc v) s ≡ record s { sp = v; pc = pc; steps = counted s }
sp_summed Amd64 s v pc = refl
sp_summed _ s v pc = refl

-- sp from a sum
pub sums_sp : (isa : Isa) (s : State) (from : ℕ) (d : ℤ) (size v : ℕ) → IsInstructionAt isa s (Addi (stack_pointer isa) from d) size → next size s ≡ s.pc + size → moved (base isa from s) d ≡ v → StepsBy isa s (with_sp_by size v s)
sums_sp isa s from d size v stands behind to = record {
  instr = Addi (stack_pointer isa) from d;
  size = size;
  change = sums isa (stack_pointer isa) (s.pc + size) v;
  stands = stands;
  does = λ i. Some (sums isa (stack_pointer isa) (behind i) (to i));
  is_after = sym (sp_summed isa s v (s.pc + size));
}

-- sp from a word, where loads can name it
pub loads_sp : (isa : Isa) (s : State) (b : ℕ) (d : ℤ) (size addr v : ℕ) → IsInstructionAt isa s (Ld (stack_pointer isa) b d) size → next size s ≡ s.pc + size → moved (base isa b s) d ≡ addr → loaded isa addr s ≡ Some v → with_sp_by size v s ≡ changed isa (sets isa (stack_pointer isa) (s.pc + size) v) s → StepsBy isa s (with_sp_by size v s)
loads_sp isa s b d size addr v stands behind to is after = record {
  instr = Ld (stack_pointer isa) b d;
  size = size;
  change = sets isa (stack_pointer isa) (s.pc + size) v;
  stands = stands;
  does = (λ i. option_map (sets isa (stack_pointer isa) (behind i)) (loaded isa (to i) s)) ∙ ap (option_map (sets isa (stack_pointer isa) (s.pc + size))) is;
  is_after = after;
}
