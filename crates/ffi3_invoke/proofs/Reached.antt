-- A call and a trampoline: the registers that they write, the return address, and what is written of the stack.
use Rattle.std.specs.Prelude.{false, if◌then◌else◌, ◌||◌, slice_set}
use Rattle.std.proofs.Common.{◌≡◌, ◌⊎◌, inl, inr, ℕ, ◌+◌, ◌-◌, ◌<◌, ◌≤◌, Bool, List, get_or, length, refl, ap, sym, ◌∙◌, subst, arith}
use Rattle.std.specs.List.{AllByRecursion}
use Rattle.std.specs.Int.{w64, to_le_bytes}
use Rattle.std.proofs.lemmas.Bool.{ne_eqb}
use Rattle.std.proofs.lemmas.List.{get_or-set_same, get_or-set_other, length-set}
use Rattle.ffi3_type_spec.specs.declared.Isa.{Isa}
use Rattle.ffi3_type_spec.specs.declared.Isa.TheVariants.{Amd64, Aarch64, Riscv}
use Rattle.ffi3_type_spec.specs.declared.limits.TheConstants.{ENTRY, RETURN, STACK, STACK_TOP}
use Rattle.ffi3_type_spec.specs.TargetIsa.{isa_of}
use Rattle.ffi3_place_spec.specs.declared.Loc.{Loc}
use Rattle.ffi3_place_spec.specs.declared.Loc.TheVariants.{G, F, S}
use Rattle.ffi3_place_spec.specs.MachineRegisters.{closure_register, is_reserved, jump_register, link_register, pushed_bytes, reserved_places, trampoline_registers}
use Rattle.ffi3_place_spec.specs.Scribble.{scribble}
use Rattle.ffi3_place_spec.specs.Sound.{IsNoneOf}
use Rattle.ffi3_place_spec.proofs.Forbidden.{each_none_of, none_of}
use Rattle.ffi3_machine_spec.specs.State.{State, HasReturnAddress, HasReturnAt, linked_stack, scribbled}
use Rattle.ffi3_machine.specs.Scribbled.{get_or-scribbled_floating, get_or-scribbled_general}
use Rattle.ffi3_closures.specs.Reaching.{jumped_through, reached}
use Rattle.ffi3_machine_transfer.specs.Stored.{IsPlace, word_in, WroteWithin, with_journal_of}
use Rattle.ffi3_caller.specs.Called.{SlotIsCalled}
use Rattle.ffi3_machine_transfer.proofs.Composing.{beside, by_register}
use Rattle.ffi3_machine_transfer.proofs.Putting.{mark_within}
use Rattle.ffi3_marshal.proofs.Ranges.{above_range, below_range, range_length}

-- ---- a trampoline

abbrev pub reached_general : Isa → ℕ → List ℕ → List ℕ
reached_general isa pc general = slice_set (jumped_through (jump_register isa) general) (closure_register isa) pc

pub trampoline_leaves : (isa : Isa) (pc : ℕ) (general : List ℕ) (r : ℕ) → IsNoneOf (trampoline_registers isa) (G r) → get_or (reached_general isa pc general) r 0 ≡ get_or general r 0
trampoline_leaves Amd64 pc general r none = get_or-set_other general 10 r pc 0 none.0
trampoline_leaves Aarch64 pc general r none =
    get_or-set_other (slice_set general 16 ENTRY) 17 r pc 0 none.0 ∙ get_or-set_other general 16 r ENTRY 0 none.1.0
trampoline_leaves Riscv pc general r none =
    get_or-set_other (slice_set general 7 ENTRY) 6 r pc 0 none.0 ∙ get_or-set_other general 7 r ENTRY 0 none.1.0

pub trampoline_tells : (isa : Isa) (pc : ℕ) (general : List ℕ) → length general ≡ 32 → get_or (reached_general isa pc general) (closure_register isa) 0 ≡ pc
trampoline_tells Amd64 pc general sized = get_or-set_same general 10 pc 0 (omega (arith, sized))
trampoline_tells Aarch64 pc general sized =
    get_or-set_same (slice_set general 16 ENTRY) 17 pc 0 (omega (arith, length-set general 16 ENTRY, sized))
trampoline_tells Riscv pc general sized =
    get_or-set_same (slice_set general 7 ENTRY) 6 pc 0 (omega (arith, length-set general 7 ENTRY, sized))

-- ---- a call

eight : length (to_le_bytes w64 RETURN) ≡ 8
eight = refl

stack_sized : (isa : Isa) (sp : ℕ) (stack : List ℕ) → STACK + pushed_bytes isa ≤ sp → sp - STACK ≤ length stack → length (linked_stack (link_register isa) sp stack) ≡ length stack
stack_sized Amd64 sp stack low fits =
    range_length stack (to_le_bytes w64 RETURN) (sp - 8 - STACK) (sp - STACK) (omega (arith, eight, low)) fits
stack_sized _ sp stack low fits = refl

stack_outside : (isa : Isa) (sp : ℕ) (stack : List ℕ) (i : ℕ) → STACK + pushed_bytes isa ≤ sp → sp - STACK ≤ length stack → (STACK + i < sp - pushed_bytes isa) ⊎ (sp ≤ STACK + i) → get_or (linked_stack (link_register isa) sp stack) i 0 ≡ get_or stack i 0
stack_outside Amd64 sp stack i low fits (inl below) =
    below_range stack (to_le_bytes w64 RETURN) (sp - 8 - STACK) (sp - STACK) (omega (arith, eight, low)) fits i (omega (arith, low, below))
stack_outside Amd64 sp stack i low fits (inr above) =
    above_range stack (to_le_bytes w64 RETURN) (sp - 8 - STACK) (sp - STACK) (omega (arith, eight, low)) fits i (omega (arith, low, above))
stack_outside _ sp stack i low fits far = refl

-- of the stack a call writes the bytes that it pushes, and a trampoline none
pub pushed_within : (pointer : ℕ) (a d : State) → SlotIsCalled pointer a d → STACK + pushed_bytes (isa_of a.target) ≤ a.sp → a.sp - STACK ≤ length a.stack → WroteWithin (a.sp - pushed_bytes (isa_of a.target)) a.sp a (with_journal_of a (reached d))
pushed_within pointer a d called low fits =
    let bytes = pushed_bytes (isa_of a.target) in
    beside (a.sp - bytes) a.sp a (reached d) (ap length called.stack ∙ stack_sized (isa_of a.target) a.sp a.stack low fits) (λ i far. ap (λ xs. get_or xs i 0) called.stack ∙ stack_outside (isa_of a.target) a.sp a.stack i low fits far) (subst (λ k. (a.mark ≤ k) ⊎ (a.sp - pushed_bytes (isa_of a.target) ≤ k)) (sym called.mark) (mark_within (a.sp - pushed_bytes (isa_of a.target)) a.mark (a.sp - pushed_bytes (isa_of a.target)) (pushed_bytes (isa_of a.target)) (omega arith))) called.target called.code

-- ---- the return address

-- a trampoline leaves it
return_reached : (isa : Isa) (pc sp : ℕ) (general stack : List ℕ) → HasReturnAt (link_register isa) general sp stack → HasReturnAt (link_register isa) (reached_general isa pc general) sp stack
return_reached Amd64 pc sp general stack h = h
return_reached Aarch64 pc sp general stack h =
    trampoline_leaves Aarch64 pc general 30 (none_of (trampoline_registers Aarch64) (G 30) refl) ∙ h
return_reached Riscv pc sp general stack h =
    trampoline_leaves Riscv pc general 1 (none_of (trampoline_registers Riscv) (G 1) refl) ∙ h

pub return_address_passed : (d : State) → HasReturnAddress d → HasReturnAddress (reached d)
return_address_passed d back = return_reached (isa_of d.target) d.pc d.sp d.general d.stack back

-- ---- registers that a trampoline leaves

pub passes : (d : State) (l : Loc) → IsPlace 0 l → IsNoneOf (trampoline_registers (isa_of d.target)) l → word_in STACK_TOP (reached d) l ≡ word_in STACK_TOP d l
passes d l lies =
    by_register (λ l. IsNoneOf (trampoline_registers (isa_of d.target)) l → word_in STACK_TOP (reached d) l ≡ word_in STACK_TOP d l) (λ r below trampoline. trampoline_leaves (isa_of d.target) d.pc d.general r trampoline) (λ r below trampoline. refl) l lies

-- none of them is reserved
pub reserved_clear_of_trampoline : (isa : Isa) → AllByRecursion (IsNoneOf (trampoline_registers isa)) (reserved_places isa)
reserved_clear_of_trampoline Amd64 = tt
reserved_clear_of_trampoline isa = each_none_of (trampoline_registers isa) (reserved_places isa) refl

-- ---- a scribble

not_reserved : (isa : Isa) (k : ℕ) → IsNoneOf (reserved_places isa) (G k) → is_reserved isa k ≡ false
not_reserved Amd64 k none = refl
not_reserved Aarch64 k none = λ i. ne_eqb k 18 none.0 i || false
not_reserved Riscv k none = λ i. ne_eqb k 0 none.0 i || (ne_eqb k 3 none.1.0 i || (ne_eqb k 4 none.1.1.0 i || false))

-- a register that is not reserved has the scribble's number
pub scribbled_there : (n : ℕ) (m : State) (l : Loc) → IsPlace 0 l → IsNoneOf (reserved_places (isa_of m.target)) l → word_in STACK_TOP (scribbled n m) l ≡ scribble n l
scribbled_there n m (G k) lies none =
    get_or-scribbled_general (isa_of m.target) n m.general k lies ∙ ap (λ (b : Bool). if b then get_or m.general k 0 else scribble n (G k)) (not_reserved (isa_of m.target) k none)
scribbled_there n m (F k) lies none = get_or-scribbled_floating n k lies
scribbled_there n m (S k w) lies none = absurd (omega (arith, lies.0, lies.1))
