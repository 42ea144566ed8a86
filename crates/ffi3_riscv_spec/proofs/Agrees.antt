-- The standard agrees with the machine: what it names of it is what the machine has, and its registers do not get in one another's way.
use Rattle.std.proofs.Common.{◌≡◌, ℕ, false, refl, arith}
use Rattle.std.proofs.lemmas.Bool.Decides.{nat_tests}
use Rattle.ffi3_type_spec.specs.declared.Isa.TheVariants as isa
use Rattle.ffi3_place_spec.specs.declared.Loc.{Loc}
use Rattle.ffi3_place_spec.specs.declared.Loc.TheVariants.{G, F, S}
use Rattle.ffi3_place_spec.specs.MachineRegisters.{TakesWrites, is_zero_register}
use Rattle.ffi3_place_spec.specs.Sound.{IsNoneOf, closed_to_arguments}
use Rattle.ffi3_place_spec.specs.Agrees.{given_back, saved_registers, special, AgreesWithMachine}
use Rattle.ffi3_place_spec.proofs.Forbidden.{each_exists, each_none_of, each_one_of, apart_all}
use Rattle.ffi3_riscv_spec.specs.Riscv.{callee_saved, argument_registers, riscv}

-- only zero drops a write, and it is reserved
written : (l : Loc) → IsNoneOf riscv.reserved l → TakesWrites isa.Riscv l
written (G k) h = not_zero k h.0
  where
    not_zero : (k : ℕ) → (k ≡ 0 → ⊥) → is_zero_register isa.Riscv k ≡ false
    not_zero k differs = grind (arith, nat_tests, differs)
written (F k) h = tt
written (S n w) h = tt

pub agrees : AgreesWithMachine riscv
agrees = record {
  link = refl;
  stack_pointer = refl;
  link_register = refl;
  reserved = refl;
  trampoline = refl;
  written = written;
  callee_saved_exist = each_exists isa.Riscv callee_saved refl;
  callee_saved_apart = apart_all callee_saved refl;
  callee_saved_plain = each_none_of (special riscv) callee_saved refl;
  arguments_exist = each_exists isa.Riscv argument_registers refl;
  arguments_apart = apart_all argument_registers refl;
  arguments_plain = each_none_of (closed_to_arguments riscv) argument_registers refl;
  count_exists = tt;
  count_plain = tt;
  returned_exists = tt;
  returned_plain = tt;
  area = refl;
  saves_each = each_one_of (saved_registers riscv.save_area) (given_back riscv) refl;
  saves_no_other = each_one_of (given_back riscv) (saved_registers riscv.save_area) refl;
  saves_once = apart_all (saved_registers riscv.save_area) refl;
  saves_address = refl;
  save_aligned = refl;
}
