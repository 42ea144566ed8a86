-- The standard agrees with an AMD64 machine.
use Rattle.std.proofs.Common.{refl, ◌++◌}
use Rattle.ffi3_place_spec.specs.declared.Loc.{Loc}
use Rattle.ffi3_place_spec.specs.declared.Loc.TheVariants.{G, F, S}
use Rattle.ffi3_type_spec.specs.declared.Isa.TheVariants.{Amd64}
use Rattle.ffi3_place_spec.specs.MachineRegisters.{TakesWrites, to_list}
use Rattle.ffi3_place_spec.specs.Sound.{IsNoneOf, closed_to_arguments}
use Rattle.ffi3_place_spec.specs.Agrees.{AgreesWithMachine, given_back, special, saved_registers}
use Rattle.ffi3_place_spec.proofs.Forbidden.{each_exists, each_none_of, each_one_of, apart_all}
use Rattle.ffi3_amd64_spec.specs.Amd64.{amd64}

pub agrees : AgreesWithMachine amd64
agrees = record {
  link = refl;
  stack_pointer = refl;
  link_register = refl;
  reserved = refl;
  trampoline = refl;
  written = written;
  callee_saved_exist = each_exists Amd64 amd64.callee_saved refl;
  callee_saved_apart = apart_all amd64.callee_saved refl;
  callee_saved_plain = each_none_of (special amd64) amd64.callee_saved refl;
  arguments_exist = each_exists Amd64 amd64.argument_registers refl;
  arguments_apart = apart_all amd64.argument_registers refl;
  arguments_plain = each_none_of (closed_to_arguments amd64) amd64.argument_registers refl;
  count_exists = each_exists Amd64 (to_list amd64.vector_count) refl;
  count_plain = each_none_of (given_back amd64 ++ (amd64.reserved ++ amd64.trampoline_registers)) (to_list amd64.vector_count) refl;
  returned_exists = each_exists Amd64 (to_list amd64.returned_address) refl;
  returned_plain = each_none_of (given_back amd64 ++ amd64.reserved) (to_list amd64.returned_address) refl;
  area = refl;
  saves_each = each_one_of (saved_registers amd64.save_area) (given_back amd64) refl;
  saves_no_other = each_one_of (given_back amd64) (saved_registers amd64.save_area) refl;
  saves_once = apart_all (saved_registers amd64.save_area) refl;
  saves_address = refl;
  save_aligned = refl;
}
  where
    -- a write to any register is kept
    written : (l : Loc) → IsNoneOf amd64.reserved l → TakesWrites Amd64 l
    written (G k) h = refl
    written (F k) h = tt
    written (S n w) h = tt
