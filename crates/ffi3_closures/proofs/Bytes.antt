-- The bytes of a live slot, as they are put together.
use Rattle.std.proofs.Common.{◌≡◌, ℕ, ◌+◌, List, replicate, refl}
use Rattle.std.specs.List.{replace_range}
use Rattle.std.specs.Int.{w64, to_le_bytes}
use Rattle.ffi3_type_spec.specs.declared.Isa.{Isa}
use Rattle.ffi3_type_spec.specs.declared.Isa.TheVariants.{Amd64, Aarch64, Riscv}
use Rattle.ffi3_semantics_spec.specs.declared.Closure.{Closure}
use Rattle.ffi3_machine_spec.specs.Slots.{trampoline, slot_head, slot_tail, live_slot}

abbrev pub put : ℕ → ℕ → List ℕ → List ℕ
put at word bytes = replace_range bytes at (at + 8) (to_le_bytes w64 word)

pub put_together : (isa : Isa) (c : Closure) → put 48 c.user (put 40 c.sig (put 32 c.func (replace_range (replicate 64 0) 0 32 (slot_head isa)))) ≡ live_slot isa c
unfolding trampoline slot_head slot_tail
put_together Amd64 c = refl
put_together Aarch64 c = refl
put_together Riscv c = refl
