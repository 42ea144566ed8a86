use Rattle.std.proofs.Common.{refl}
use Rattle.ffi3_type_spec.specs.declared.Isa.TheVariants.{Riscv}
use Rattle.ffi3_machine.proofs.Stubs.{four_written}
use Rattle.ffi3_machine.proofs.stub.write_riscv.Goals as goal

pub returns : goal.returns
returns c =
    four_written Riscv c.args.region.now _ _ _ _ _ _ _ _ _ c.requires.base refl c.riscv_entry.ensures c.riscv_exit.ensures c.riscv_call.ensures c.riscv_return.ensures c.copy_in.ensures c.copy_in-2.ensures c.copy_in-3.ensures c.copy_in-4.ensures
