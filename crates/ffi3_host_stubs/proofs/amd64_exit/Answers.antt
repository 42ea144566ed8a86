use Rattle.std.proofs.Common.{refl, lit≤}
use Rattle.ffi3_type_spec.specs.declared.Isa.TheVariants.{Amd64}
use Rattle.ffi3_host_stubs.specs.Stubs.{host_bytes}
use Rattle.ffi3_host_stubs.proofs.Rows.{names, source_of}
use Rattle.ffi3_host_stubs.proofs.Laws.{all_leave}
use Rattle.ffi3_host_stubs.proofs.amd64_exit.Goals as goal

pub returns : goal.returns
unfolding host_bytes names
returns c = record { bytes = refl; leaves = all_leave Amd64 1 576 (source_of Amd64 0 1 refl) (lit≤ tt) }
