-- The standard agrees with a machine that has AMD64's instructions.
use Rattle.std.proofs.Common.{refl, ◌++◌}
use Rattle.ffi3_type_spec.specs.TargetIsa.{isa_of}
use Rattle.ffi3_place_spec.specs.declared.Loc.{Loc}
use Rattle.ffi3_place_spec.specs.declared.Loc.TheVariants.{G, F, S}
use Rattle.ffi3_place_spec.specs.MachineRegisters.{TakesWrites, to_list}
use Rattle.ffi3_place_spec.specs.Sound.{IsNoneOf, closed_to_arguments}
use Rattle.ffi3_place_spec.specs.Agrees.{AgreesWithMachine, given_back, special, saved_registers}
use Rattle.ffi3_place_spec.proofs.Forbidden.{each_exists, each_none_of, each_one_of, apart_all}
use Rattle.ffi3_win64_spec.specs.Win64.{win64}

-- a write to any register is kept
written : (l : Loc) → IsNoneOf win64.reserved l → TakesWrites (isa_of win64.target) l
written (G k) h = refl
written (F k) h = tt
written (S n w) h = tt

pub agrees : AgreesWithMachine win64
agrees = record {
  link = refl;
  stack_pointer = refl;
  link_register = refl;
  reserved = refl;
  trampoline = refl;
  written = written;
  callee_saved_exist = each_exists (isa_of win64.target) win64.callee_saved refl;
  callee_saved_apart = apart_all win64.callee_saved refl;
  callee_saved_plain = each_none_of (special win64) win64.callee_saved refl;
  arguments_exist = each_exists (isa_of win64.target) win64.argument_registers refl;
  arguments_apart = apart_all win64.argument_registers refl;
  arguments_plain = each_none_of (closed_to_arguments win64) win64.argument_registers refl;
  count_exists = tt;
  count_plain = tt;
  returned_exists = each_exists (isa_of win64.target) (to_list win64.returned_address) refl;
  returned_plain = each_none_of (given_back win64 ++ win64.reserved) (to_list win64.returned_address) refl;
  area = refl;
  saves_each = each_one_of (saved_registers win64.save_area) (given_back win64) refl;
  saves_no_other = each_one_of (given_back win64) (saved_registers win64.save_area) refl;
  saves_once = apart_all (saved_registers win64.save_area) refl;
  saves_address = refl;
  save_aligned = refl;
}
