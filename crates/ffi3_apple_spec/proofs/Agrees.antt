-- The standard agrees with the machine that has AArch64's instructions.
use Rattle.std.proofs.Common.{refl}
use Rattle.ffi3_type_spec.specs.TargetIsa.{isa_of}
use Rattle.ffi3_place_spec.specs.declared.Loc.{Loc}
use Rattle.ffi3_place_spec.specs.declared.Loc.TheVariants.{G, F, S}
use Rattle.ffi3_place_spec.specs.MachineRegisters.{TakesWrites}
use Rattle.ffi3_place_spec.specs.Sound.{IsNoneOf, closed_to_arguments}
use Rattle.ffi3_place_spec.specs.Agrees.{AgreesWithMachine, saved_registers, given_back, special}
use Rattle.ffi3_place_spec.proofs.Forbidden.{each_exists, each_none_of, each_one_of, apart_all}
use Rattle.ffi3_apple_spec.specs.Apple.{apple}

-- the register that is 0 always is no number of a general register here
written : (l : Loc) → IsNoneOf apple.reserved l → TakesWrites (isa_of apple.target) l
written (G r) h = refl
written (F r) h = tt
written (S n w) h = tt

pub agrees : AgreesWithMachine apple
agrees = record {
  link = refl;
  stack_pointer = refl;
  link_register = refl;
  reserved = refl;
  trampoline = refl;
  written = written;
  callee_saved_exist = each_exists (isa_of apple.target) apple.callee_saved refl;
  callee_saved_apart = apart_all apple.callee_saved refl;
  callee_saved_plain = each_none_of (special apple) apple.callee_saved refl;
  arguments_exist = each_exists (isa_of apple.target) apple.argument_registers refl;
  arguments_apart = apart_all apple.argument_registers refl;
  arguments_plain = each_none_of (closed_to_arguments apple) apple.argument_registers refl;
  count_exists = tt;
  count_plain = tt;
  returned_exists = tt;
  returned_plain = tt;
  area = refl;
  saves_each = each_one_of (saved_registers apple.save_area) (given_back apple) refl;
  saves_no_other = each_one_of (given_back apple) (saved_registers apple.save_area) refl;
  saves_once = apart_all (saved_registers apple.save_area) refl;
  saves_address = refl;
  save_aligned = refl;
}
