-- The instruction set of each target.
use Rattle.ffi3_type_spec.specs.declared.Target.{Target}
use Rattle.ffi3_type_spec.specs.declared.Target.TheVariants as target
use Rattle.ffi3_type_spec.specs.declared.Isa.{Isa}
use Rattle.ffi3_type_spec.specs.declared.Isa.TheVariants.{Amd64, Aarch64, Riscv}

abbrev pub isa_of : Target → Isa
isa_of target.Amd64 = Amd64
isa_of target.Aapcs64 = Aarch64
isa_of target.Riscv = Riscv
isa_of target.Win64 = Amd64
isa_of target.Apple = Aarch64
