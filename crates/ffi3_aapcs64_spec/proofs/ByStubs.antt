-- The standard's calls can lead through the stubs of its target.
use Rattle.std.proofs.Common.{refl}
use Rattle.ffi3_type_spec.specs.declared.Isa.TheVariants.{Aarch64}
use Rattle.ffi3_type_spec.specs.Signature.{Signature, HasNoLongDouble}
use Rattle.ffi3_place_spec.specs.declared.Loc.TheVariants.{G}
use Rattle.ffi3_place_spec.specs.MachineRegisters.{closure_register}
use Rattle.ffi3_place_spec.specs.StubRegisters.{call_loads, entry_scratch, entry_stores}
use Rattle.ffi3_place_spec.specs.ByStubs.{stub_scratch, AgreesWithStubs, ResultGoesByStubs}
use Rattle.ffi3_place_spec.proofs.Forbidden.{each_none_of, each_one_of, none_of, one_of}
use Rattle.ffi3_aapcs64_spec.specs.Aapcs64.{aapcs64}
use Rattle.ffi3_aapcs64_spec.proofs.Sound.{result_loaded, hidden_saved}

pub by_stubs : AgreesWithStubs aapcs64
by_stubs = record {
  area = refl;
  area_size = refl;
  arguments_loaded = each_one_of (call_loads Aarch64) aapcs64.argument_registers refl;
  count_loaded = tt;
  arguments_stored = each_one_of (entry_stores Aarch64) aapcs64.argument_registers refl;
  closure_stored = one_of (entry_stores Aarch64) (G (closure_register Aarch64)) refl;
  returned_loaded = tt;
  callee_saved_kept = each_none_of (stub_scratch Aarch64) aapcs64.callee_saved refl;
  reserved_kept = each_none_of (stub_scratch Aarch64) aapcs64.reserved refl;
  arguments_kept = each_none_of (stub_scratch Aarch64) aapcs64.argument_registers refl;
  count_kept = tt;
  closure_kept = none_of (entry_scratch Aarch64) (G (closure_register Aarch64)) refl;
}

pub result_by_stubs : (s : Signature) → HasNoLongDouble s → ResultGoesByStubs aapcs64 s
result_by_stubs s plain = record { loaded = result_loaded s plain; hidden = hidden_saved s }
