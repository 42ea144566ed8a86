-- Where the stubs lead, by any instruction set.
use Rattle.std.proofs.Common.{◌≡◌, ℕ, ◌+◌, ◌<◌, ◌≤◌, ◌^◌, refl, sym, ap, ◌∙◌, subst, arith, lit<, length-set}
use Rattle.ffi3_machine_spec.specs.Memory.{number_of}
use Rattle.ffi3_type_spec.specs.declared.Isa.{Isa}
use Rattle.ffi3_type_spec.specs.declared.Isa.TheVariants.{Amd64, Aarch64, Riscv}
use Rattle.std.specs.Prelude.{slice_index}
use Rattle.ffi3_type_spec.specs.declared.limits.TheConstants.{STACK, STACK_TOP}
use Rattle.ffi3_place_spec.specs.declared.Loc.TheVariants.{G}
use Rattle.ffi3_place_spec.specs.MachineRegisters.{pushed_bytes}
use Rattle.ffi3_place_spec.specs.StubRegisters.{area_bytes, entry_stores, callee_saved_words, result_loads}
use Rattle.ffi3_machine_spec.specs.declared.stub.TheConstants.{EXCHANGE, AREA_AT, CALLEE_AT, CALL_SP_AT, ENTRY_SP_AT, RETURN_SP_AT}
use Rattle.ffi3_machine_spec.specs.State.{State, IsMachine, x_of, stack_at, with_pc}
use Rattle.ffi3_machine_spec.specs.Stubs.{Call, Entry, Exit, Return, stub_at}
use Rattle.ffi3_machine.proofs.Words.{x_word, stack_word}
use Rattle.ffi3_stubs.specs.Effects.{addressed, addressed_twice, with_sp_by, riscv_restored, riscv_given, aarch64_saved, aarch64_passed, aarch64_taken}
use Rattle.ffi3_stubs.specs.Calls.{steps_of, after_call, after_entry, after_exit, after_return}
use Rattle.ffi3_stubs.proofs.Standing.{TakesBy}
use Rattle.ffi3_stubs.proofs.Reading.{place, misses, are_spread, are_apart, exchange_beyond, exchange_others, came_from_area}
use Rattle.ffi3_stubs.proofs.Amd64Stubs as amd64
use Rattle.ffi3_stubs.proofs.Aarch64Stubs as aarch64
use Rattle.ffi3_stubs.proofs.RiscvStubs as riscv

pub call_way : (isa : Isa) (s : State) → s.pc ≡ stub_at isa Call → IsMachine s → STACK + pushed_bytes isa ≤ x_of CALL_SP_AT s → x_of CALL_SP_AT s ≤ STACK_TOP → TakesBy isa (steps_of isa Call) s (after_call isa s)
call_way Amd64 s at is low high = amd64.call_runs s at is.general low high
call_way Aarch64 s at is low high = aarch64.call_runs s at is.general high
call_way Riscv s at is low high = riscv.call_runs s at is.general (x_word CALLEE_AT s is)

under : (a b : ℕ) → a ≡ b → b < 2 ^ 64 → a < 2 ^ 64
under a b e h = subst (λ (x : ℕ). x < 2 ^ 64) (sym e) h

passed_sp : (s : State) → IsMachine s → x_of ENTRY_SP_AT (aarch64_passed s) ≡ x_of ENTRY_SP_AT s
unfolding place misses are_spread
passed_sp s is = ap (number_of 8) (exchange_beyond Aarch64 16 (entry_stores Aarch64) (addressed 4 16 (aarch64_saved s)) ENTRY_SP_AT (omega arith) refl is.exchange)

taken_sp : (s : State) → IsMachine s → x_of RETURN_SP_AT (aarch64_taken s) ≡ x_of RETURN_SP_AT s
unfolding place misses are_spread
taken_sp s is = ap (number_of 8) (exchange_beyond Aarch64 16 (result_loads Aarch64) (addressed 4 16 s) RETURN_SP_AT (omega arith) refl is.exchange)

pub entry_way : (isa : Isa) (s : State) → s.pc ≡ 4096 → IsMachine s → STACK + area_bytes isa ≤ s.sp → s.sp ≤ STACK_TOP → TakesBy isa (steps_of isa Entry) s (after_entry isa s)
entry_way Amd64 s at is low high = amd64.entry_runs s at is.general low high
entry_way Aarch64 s at is low high = aarch64.entry_runs s at is.general low high (under _ _ (passed_sp s is) (x_word ENTRY_SP_AT s is))
entry_way Riscv s at is low high = riscv.entry_runs s at is.general low high

-- the return address that RISC-V's Exit has loaded
given_link : (s : State) → IsMachine s → slice_index (riscv_given s).general 1 ≡ number_of 8 (stack_at (x_of AREA_AT s) 8 s)
unfolding are_apart
given_link s is =
    let t : State = with_sp_by 4 (x_of AREA_AT s) (addressed_twice 6 s) in
    let area = came_from_area Riscv 0 (x_of AREA_AT s) (callee_saved_words Riscv) t (omega arith) refl (length-set s.general 6 EXCHANGE ∙ is.general) is.floating in
    exchange_others Riscv 6 (result_loads Riscv) (riscv_restored s) (G 1) refl ∙ area.0

pub exit_way : (isa : Isa) (s : State) → s.pc ≡ 6144 → IsMachine s → STACK ≤ x_of AREA_AT s → x_of AREA_AT s + area_bytes isa + pushed_bytes isa ≤ STACK_TOP → TakesBy isa (steps_of isa Exit) s (after_exit isa s)
exit_way Amd64 s at is low high = amd64.exit_runs s at is.general low (omega arith)
exit_way Aarch64 s at is low high = aarch64.exit_runs s at is.general low (omega arith)
exit_way Riscv s at is low high = riscv.exit_runs s at is.general low (omega arith) (subst (λ (x : ℕ). x < 2 ^ 64) (sym (given_link s is)) (stack_word (x_of AREA_AT s) s is))

pub return_way : (isa : Isa) (s : State) → s.pc ≡ 8192 → IsMachine s → TakesBy isa (steps_of isa Return) s (after_return isa s)
return_way Amd64 s at is = amd64.return_runs s at is.general
return_way Aarch64 s at is = aarch64.return_runs s at is.general (under _ _ (taken_sp s is) (x_word RETURN_SP_AT s is))
return_way Riscv s at is = riscv.return_runs s at is.general

pub some_call : (isa : Isa) → 0 < steps_of isa Call
some_call Amd64 = omega arith
some_call _ = omega arith

pub some_entry : (isa : Isa) → 0 < steps_of isa Entry
some_entry Amd64 = omega arith
some_entry _ = omega arith

pub some_exit : (isa : Isa) → 0 < steps_of isa Exit
some_exit Amd64 = omega arith
some_exit _ = omega arith

pub some_return : (isa : Isa) → 0 < steps_of isa Return
some_return Amd64 = omega arith
some_return _ = omega arith

-- a machine is one wherever its pc is
pub machine_at : (s : State) (pc : ℕ) → pc < 2 ^ 64 → IsMachine s → IsMachine (with_pc pc s)
machine_at s pc small is = record {
  general = is.general;
  floating = is.floating;
  stack = is.stack;
  code = is.code;
  exchange = is.exchange;
  mark_low = is.mark_low;
  mark_high = is.mark_high;
  zero = is.zero;
  general_words = is.general_words;
  floating_words = is.floating_words;
  sp_word = is.sp_word;
  pc_word = small;
  stack_bytes = is.stack_bytes;
  code_bytes = is.code_bytes;
  exchange_bytes = is.exchange_bytes;
}

pub call_word : (isa : Isa) → stub_at isa Call < 2 ^ 64
call_word Amd64 = lit< tt
call_word _ = lit< tt

pub exit_word : (isa : Isa) → stub_at isa Exit < 2 ^ 64
exit_word isa = lit< tt
