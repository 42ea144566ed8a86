-- Whether a `char` is signed where no word says so. (Signed by the psABI AMD64 3.1.2, on Microsoft x64 and by Apple for arm64; unsigned by AAPCS64 "Arithmetic types" and the RISC-V psABI "C/C++ type representations")
use Rattle.std.specs.Prelude.{ℕ, Option, Some, None, slice_get}
use Rattle.ffi3_type_spec.specs.declared.Target.{Target}
use Rattle.ffi3_type_spec.specs.declared.Target.TheVariants.{Amd64, Aapcs64, Riscv, Win64, Apple}
use Rattle.ffi3_cdecl_spec.specs.Tokens.{Sign, signed, unsigned}
use Rattle.ffi3_capi.specs.Placed.{targets}

abbrev pub char_by : Option Target → Sign
char_by (Some Amd64) = signed
char_by (Some Aapcs64) = unsigned
char_by (Some Riscv) = unsigned
char_by (Some Win64) = signed
char_by (Some Apple) = signed
char_by None = signed

-- on the target of this number
abbrev pub char_sign : ℕ → Sign
char_sign target = char_by (slice_get targets target)

-- A layout is of no target: `char` is told as a signed integer of one byte there.
abbrev pub layout_sign : Sign
layout_sign = signed
