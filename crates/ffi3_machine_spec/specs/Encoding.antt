-- Two bytes of AMD64's instructions. (Intel 64 and IA-32 Architectures Software Developer's Manual, volume 2)
use Rattle.std.specs.Prelude.{ℕ, ◌+◌, ◌*◌}

-- the REX prefix 0100WRXB (2.2.1.2)
abbrev pub rex : ℕ → ℕ → ℕ → ℕ → ℕ
rex w r x b = 0x40 + 8 * w + 4 * r + 2 * x + b

-- the ModR/M byte: mod in bits 7 to 6, reg in 5 to 3, r/m in 2 to 0 (2.1.3)
abbrev pub mod_rm : ℕ → ℕ → ℕ → ℕ
mod_rm «mod» reg rm = 64 * «mod» + 8 * reg + rm
