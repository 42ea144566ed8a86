-- The registers that an instruction names.
use Rattle.std.specs.Prelude.{ℕ, ◌<◌}
use Rattle.ffi3_isa.specs.declared.Instr.{Instr}
use Rattle.ffi3_isa.specs.declared.Instr.TheVariants.{Endbr, Nop, Lea, JmpMem, LdrLit, Adr, Br, Auipc, Ld, Jalr, Addi}
use Rattle.ffi3_isa.specs.declared.Instr.TheVariants.{Sd, Fld, Fsd, CallMem, Ret, Blr}

-- each register that the instruction names has a number below n
abbrev pub HasRegistersBelow : ℕ → Instr → Type 0
HasRegistersBelow n Endbr = Unit {0}
HasRegistersBelow n Nop = Unit {0}
HasRegistersBelow n (Lea reg d) = reg < n
HasRegistersBelow n (JmpMem d) = Unit {0}
HasRegistersBelow n (LdrLit t d) = t < n
HasRegistersBelow n (Adr rd d) = rd < n
HasRegistersBelow n (Br r) = r < n
HasRegistersBelow n (Auipc rd d) = rd < n
HasRegistersBelow n (Ld rd rs d) = (rd < n) × (rs < n)
HasRegistersBelow n (Jalr rd rs d) = (rd < n) × (rs < n)
HasRegistersBelow n (Addi rd rs d) = (rd < n) × (rs < n)
HasRegistersBelow n (Sd rd rs d) = (rd < n) × (rs < n)
HasRegistersBelow n (Fld rd rs d) = (rd < n) × (rs < n)
HasRegistersBelow n (Fsd rd rs d) = (rd < n) × (rs < n)
HasRegistersBelow n (CallMem rs d) = rs < n
HasRegistersBelow n Ret = Unit {0}
HasRegistersBelow n (Blr r) = r < n
