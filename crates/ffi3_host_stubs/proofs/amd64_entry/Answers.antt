use Rattle.std.proofs.Common.{refl}
use Rattle.ffi3_type_spec.specs.declared.Isa.TheVariants.{Amd64}
use Rattle.ffi3_host_stubs.specs.Stubs.{host_bytes}
use Rattle.ffi3_host_stubs.proofs.Rows.{names, source_of}
use Rattle.ffi3_host_stubs.proofs.Laws.{all_enter}
use Rattle.ffi3_host_stubs.proofs.amd64_entry.Goals as goal

pub returns : goal.returns
unfolding host_bytes names
returns c = record { bytes = refl; enters = all_enter Amd64 0 (source_of Amd64 0 0 refl) }
