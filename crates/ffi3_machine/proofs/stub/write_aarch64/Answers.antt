use Rattle.std.proofs.Common.{refl}
use Rattle.ffi3_type_spec.specs.declared.Isa.TheVariants.{Aarch64}
use Rattle.ffi3_machine.proofs.Stubs.{four_written}
use Rattle.ffi3_machine.proofs.stub.write_aarch64.Goals as goal

pub returns : goal.returns
returns c =
    four_written Aarch64 c.args.region.now _ _ _ _ _ _ _ _ _ c.requires.base refl c.aarch64_entry.ensures c.aarch64_exit.ensures c.aarch64_call.ensures c.aarch64_return.ensures c.copy_in.ensures c.copy_in-2.ensures c.copy_in-3.ensures c.copy_in-4.ensures
