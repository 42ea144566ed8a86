use Rattle.std.proofs.Common.{ap, ◌∙◌, length}
use Rattle.ffi3_machine_spec.specs.Memory.{Memory}
use Rattle.ffi3_type_spec.specs.declared.Isa.TheVariants.{Amd64, Aarch64, Riscv}
use Rattle.ffi3_machine.proofs.Stubs.{length-words, begun_by}
use Rattle.ffi3_machine.proofs.stub.begin_stubs.Goals as goal

pub write_amd64-requires-clause-length : goal.write_amd64-requires-clause-length
write_amd64-requires-clause-length c =
    ap (λ (m : Memory). length m.bytes) c.fill_words.ensures ∙ length-words c.args.isa

pub returns-in-Amd64 : goal.returns-in-Amd64
returns-in-Amd64 c =
    begun_by c.args.isa Amd64 c.args.region.now _ _ c.in-Amd64.is c.fill_words.ensures c.write_amd64.ensures

pub write_aarch64-requires-clause-length : goal.write_aarch64-requires-clause-length
write_aarch64-requires-clause-length c =
    ap (λ (m : Memory). length m.bytes) c.fill_words.ensures ∙ length-words c.args.isa

pub returns-in-Aarch64 : goal.returns-in-Aarch64
returns-in-Aarch64 c =
    begun_by c.args.isa Aarch64 c.args.region.now _ _ c.in-Aarch64.is c.fill_words.ensures c.write_aarch64.ensures

pub write_riscv-requires-clause-length : goal.write_riscv-requires-clause-length
write_riscv-requires-clause-length c =
    ap (λ (m : Memory). length m.bytes) c.fill_words.ensures ∙ length-words c.args.isa

pub returns-in-Riscv : goal.returns-in-Riscv
returns-in-Riscv c =
    begun_by c.args.isa Riscv c.args.region.now _ _ c.in-Riscv.is c.fill_words.ensures c.write_riscv.ensures
