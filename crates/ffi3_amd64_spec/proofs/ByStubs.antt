-- The standard's calls can lead through the stubs of its target.
use Rattle.std.proofs.Common.{refl}
use Rattle.ffi3_type_spec.specs.declared.Isa.TheVariants.{Amd64}
use Rattle.ffi3_type_spec.specs.Signature.{Signature, HasNoLongDouble}
use Rattle.ffi3_place_spec.specs.declared.Loc.TheVariants.{G}
use Rattle.ffi3_place_spec.specs.MachineRegisters.{closure_register, to_list}
use Rattle.ffi3_place_spec.specs.StubRegisters.{call_loads, call_scratch, entry_scratch, entry_stores, result_loads}
use Rattle.ffi3_place_spec.specs.ByStubs.{stub_scratch, AgreesWithStubs, ResultGoesByStubs}
use Rattle.ffi3_place_spec.proofs.Forbidden.{each_none_of, each_one_of, none_of, one_of}
use Rattle.ffi3_amd64_spec.specs.Amd64.{amd64}
use Rattle.ffi3_amd64_spec.proofs.Sound.{result_loaded, hidden_saved}

pub by_stubs : AgreesWithStubs amd64
by_stubs = record {
  area = refl;
  area_size = refl;
  arguments_loaded = each_one_of (call_loads Amd64) amd64.argument_registers refl;
  count_loaded = each_one_of (call_loads Amd64) (to_list amd64.vector_count) refl;
  arguments_stored = each_one_of (entry_stores Amd64) amd64.argument_registers refl;
  closure_stored = one_of (entry_stores Amd64) (G (closure_register Amd64)) refl;
  returned_loaded = each_one_of (result_loads Amd64) (to_list amd64.returned_address) refl;
  callee_saved_kept = each_none_of (stub_scratch Amd64) amd64.callee_saved refl;
  reserved_kept = each_none_of (stub_scratch Amd64) amd64.reserved refl;
  arguments_kept = each_none_of (stub_scratch Amd64) amd64.argument_registers refl;
  count_kept = each_none_of (call_scratch Amd64) (to_list amd64.vector_count) refl;
  closure_kept = none_of (entry_scratch Amd64) (G (closure_register Amd64)) refl;
}

pub result_by_stubs : (s : Signature) → HasNoLongDouble s → ResultGoesByStubs amd64 s
result_by_stubs s plain = record { loaded = result_loaded s plain; hidden = hidden_saved s }
