use Rattle.std.proofs.Common.{refl}
use Rattle.ffi3_type_spec.specs.declared.Isa.TheVariants.{Aarch64}
use Rattle.ffi3_host_stubs.specs.Stubs.{host_bytes}
use Rattle.ffi3_host_stubs.proofs.Rows.{names, source_of}
use Rattle.ffi3_host_stubs.proofs.Laws.{all_call}
use Rattle.ffi3_host_stubs.proofs.aarch64_call.Goals as goal

pub returns : goal.returns
unfolding host_bytes names
returns c = record { bytes = refl; calls = all_call Aarch64 0 (source_of Aarch64 0 0 refl) }
