-- The image that registers and the bytes of memory from the stack pointer on are.
use Rattle.std.specs.Prelude.{ℕ, List, ◌++◌}
use Rattle.ffi3_place_spec.specs.Image.{Image}
use Rattle.ffi3_transfer.specs.declared.Registers.{Registers}

-- its floating file: the low words of 32 registers, of which AMD64 has its x87 registers from number 16 on, and behind them the upper halves of AArch64's v0 to v7
abbrev pub image_in : Registers → List ℕ → Image
image_in r stack =
    record { general = r.general; floating = r.floating ++ r.upper; sp = r.sp; stack = stack }

-- how many words the floating file has
abbrev pub floating_words : ℕ
floating_words = 40
