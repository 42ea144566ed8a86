-- The standard's calls can lead through the stubs of its target.
use Rattle.std.proofs.Common.{refl}
use Rattle.ffi3_type_spec.specs.declared.Isa.TheVariants as isa
use Rattle.ffi3_type_spec.specs.Signature.{Signature}
use Rattle.ffi3_place_spec.specs.declared.Loc.TheVariants.{G}
use Rattle.ffi3_place_spec.specs.MachineRegisters.{closure_register}
use Rattle.ffi3_place_spec.specs.StubRegisters.{call_loads, entry_scratch, entry_stores}
use Rattle.ffi3_place_spec.specs.ByStubs.{stub_scratch, AgreesWithStubs, ResultGoesByStubs}
use Rattle.ffi3_place_spec.proofs.Forbidden.{each_none_of, each_one_of, none_of, one_of}
use Rattle.ffi3_riscv_spec.specs.Riscv.{riscv}
use Rattle.ffi3_riscv_spec.proofs.Sound.{result_loaded, hidden_saved}

pub by_stubs : AgreesWithStubs riscv
by_stubs = record {
  area = refl;
  area_size = refl;
  arguments_loaded = each_one_of (call_loads isa.Riscv) riscv.argument_registers refl;
  count_loaded = tt;
  arguments_stored = each_one_of (entry_stores isa.Riscv) riscv.argument_registers refl;
  closure_stored = one_of (entry_stores isa.Riscv) (G (closure_register isa.Riscv)) refl;
  returned_loaded = tt;
  callee_saved_kept = each_none_of (stub_scratch isa.Riscv) riscv.callee_saved refl;
  reserved_kept = each_none_of (stub_scratch isa.Riscv) riscv.reserved refl;
  arguments_kept = each_none_of (stub_scratch isa.Riscv) riscv.argument_registers refl;
  count_kept = tt;
  closure_kept = none_of (entry_scratch isa.Riscv) (G (closure_register isa.Riscv)) refl;
}

pub result_by_stubs : (s : Signature) → ResultGoesByStubs riscv s
result_by_stubs s = record { loaded = result_loaded s; hidden = hidden_saved s }
