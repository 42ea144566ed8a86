use Rattle.std.proofs.Common.{sym, subst}
use Rattle.std.specs.Prelude.{IfErr}
use Rattle.ffi3_transfer.specs.Stored.{image_in}
use Rattle.ffi3_transfer.specs.Calls.{IsNotGiven}
use Rattle.ffi3_prepared.specs.Prepared.{signature_in, standard_in}
use Rattle.ffi3_prepared.specs.declared.Prepared.{Prepared}
use Rattle.ffi3_prepared.proofs.give.Goals as goal

pub returns-in-Riscv-clause-err : goal.returns-in-Riscv-clause-err
returns-in-Riscv-clause-err c =
    subst (λ (p : Prepared). IfErr c.give-in-Riscv.result (λ f. IsNotGiven (standard_in p) (signature_in p) c.args.value.now (image_in c.args.registers.now c.args.stack.now) f)) (sym c.in-Riscv.is) c.give-in-Riscv.ensures.err
