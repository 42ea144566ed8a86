-- The calling standard of each target. It stands in the lowest crate that knows all five.
use Rattle.ffi3_type_spec.specs.declared.Target.{Target}
use Rattle.ffi3_type_spec.specs.declared.Target.TheVariants.{Amd64, Aapcs64, Riscv, Win64, Apple}
use Rattle.ffi3_place_spec.specs.Standard.{Standard}
use Rattle.ffi3_amd64_spec.specs.Amd64.{amd64}
use Rattle.ffi3_aapcs64_spec.specs.Aapcs64.{aapcs64}
use Rattle.ffi3_riscv_spec.specs.Riscv.{riscv}
use Rattle.ffi3_win64_spec.specs.Win64.{win64}
use Rattle.ffi3_apple_spec.specs.Apple.{apple}

-- THE STANDARD that a target's calls follow
abbrev pub standard_of : Target → Standard
standard_of Amd64 = amd64
standard_of Aapcs64 = aapcs64
standard_of Riscv = riscv
standard_of Win64 = win64
standard_of Apple = apple
