-- Fields of instructions.
use Rattle.std.specs.Prelude.{ℕ, ◌-◌, ◌^◌, if◌then◌else◌, nat_lt, ℤ, pos, ◌-ℤ◌, List, [], ◌∷◌, Option, Some, None}
use Rattle.std.specs.Int.{w32, from_le_bytes}

-- the number of so many bits, read as two's complement
abbrev pub sign_extend : ℕ → ℕ → ℤ
sign_extend width n =
    if nat_lt n (2 ^ (width - 1)) then pos n else pos n -ℤ pos (2 ^ width)

-- the word that the first four bytes make, the lowest byte first (Arm ARM B2.6.2; RISC-V unprivileged ISA 1.5)
abbrev pub first_word : List ℕ → Option ℕ
first_word (a ∷ b ∷ c ∷ d ∷ rest) = Some (from_le_bytes w32 (a ∷ b ∷ c ∷ d ∷ []))
first_word _ = None
