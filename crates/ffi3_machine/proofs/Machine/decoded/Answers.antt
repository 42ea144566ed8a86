use Rattle.std.proofs.Common.{◌≡◌}
use Rattle.ffi3_type_spec.specs.declared.Isa.TheVariants.{Amd64, Aarch64, Riscv}
use Rattle.ffi3_type_spec.specs.TargetIsa.{isa_of}
use Rattle.ffi3_machine.proofs.Standing.{listed-at, stands-at}
use Rattle.ffi3_machine.proofs.Machine.decoded.Goals as goal

pub returns-in-Amd64-clause-stands : goal.returns-in-Amd64-clause-stands
returns-in-Amd64-clause-stands c =
    let at : c.pc-pc.result ≡ c.args.self.now.pc = cc in
    let is : isa_of c.args.self.now.target ≡ Amd64 = cc in
    stands-at c.args.self.now Amd64 c.code_from-bytes.result.now is (rw (← at) c.code_from-bytes.ensures) tt c.decode_amd64.result c.decode_amd64.ensures.listed

pub returns-in-Amd64-clause-only : goal.returns-in-Amd64-clause-only
returns-in-Amd64-clause-only c i n h =
    let at : c.pc-pc.result ≡ c.args.self.now.pc = cc in
    let is : isa_of c.args.self.now.target ≡ Amd64 = cc in
    c.decode_amd64.ensures.only i n (listed-at c.args.self.now Amd64 c.code_from-bytes.result.now i n is (rw (← at) c.code_from-bytes.ensures) h)

pub returns-else-pc-ne0-clause-only : goal.returns-else-pc-ne0-clause-only
returns-else-pc-ne0-clause-only c i n h =
    let at : c.pc-pc.result ≡ c.args.self.now.pc = cc in
    let is : isa_of c.args.self.now.target ≡ Aarch64 = cc in
    c.decode_aarch64.ensures.only i n (listed-at c.args.self.now Aarch64 c.code_from-bytes.result.now i n is (rw (← at) c.code_from-bytes.ensures) h)

pub returns-else-pc-ne0-2-clause-only : goal.returns-else-pc-ne0-2-clause-only
returns-else-pc-ne0-2-clause-only c i n h =
    let at : c.pc-pc.result ≡ c.args.self.now.pc = cc in
    let is : isa_of c.args.self.now.target ≡ Riscv = cc in
    c.decode_riscv.ensures.only i n (listed-at c.args.self.now Riscv c.code_from-bytes.result.now i n is (rw (← at) c.code_from-bytes.ensures) h)
