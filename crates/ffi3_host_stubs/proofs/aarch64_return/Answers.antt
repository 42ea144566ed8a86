use Rattle.std.proofs.Common.{refl}
use Rattle.ffi3_type_spec.specs.declared.Isa.TheVariants.{Aarch64}
use Rattle.ffi3_host_stubs.specs.Stubs.{host_bytes}
use Rattle.ffi3_host_stubs.proofs.Rows.{names, source_of}
use Rattle.ffi3_host_stubs.proofs.Laws.{all_return}
use Rattle.ffi3_host_stubs.proofs.aarch64_return.Goals as goal

pub returns : goal.returns
unfolding host_bytes names
returns c = record { bytes = refl; returns = all_return Aarch64 19 (source_of Aarch64 0 19 refl) }
