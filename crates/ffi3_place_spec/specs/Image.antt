-- An image of a machine: its registers, and the stack from the stack pointer on, which grows downwards. (System V psABI AMD64 3.2.1 "Registers" and 3.2.2 "The Stack Frame"; Arm AAPCS64, "Machine Registers" and "The Stack"; RISC-V ELF psABI, "Integer Register Convention" and "Floating-point Register Convention"; Microsoft, "x64 stack usage")
use Rattle.std.specs.Prelude.{ℕ, ◌+◌, List, map, get_or}
use Rattle.std.specs.List.{range_with_len}
use Rattle.std.specs.Int.{w64, to_le_bytes, from_le_bytes}
use Rattle.ffi3_place_spec.specs.declared.Loc.{Loc}
use Rattle.ffi3_place_spec.specs.declared.Loc.TheVariants.{G, F, S}

-- 32 general and 32 floating registers, the stack pointer, and the stack's bytes from there on
pub record Image : Type 0 where
  pub general : List ℕ
  pub floating : List ℕ
  pub sp : ℕ
  pub stack : List ℕ

-- byte k of a place; stack places count from `base`, the number of bytes between sp and the first stack argument
abbrev pub byte_at : Image → ℕ → Loc → ℕ → ℕ
byte_at m base (G r) k = get_or (to_le_bytes w64 (get_or m.general r 0)) k 0
byte_at m base (F r) k = get_or (to_le_bytes w64 (get_or m.floating r 0)) k 0
byte_at m base (S n w) k = get_or m.stack (base + n + k) 0

-- the number that the bytes of a place make
abbrev pub word_at : Image → ℕ → Loc → ℕ
word_at m base (G r) = get_or m.general r 0
word_at m base (F r) = get_or m.floating r 0
word_at m base (S n w) = from_le_bytes w64 (map (byte_at m base (S n w)) (range_with_len 0 w))

-- what a register holds
abbrev pub register : Image → Loc → ℕ
register m at = word_at m 0 at
