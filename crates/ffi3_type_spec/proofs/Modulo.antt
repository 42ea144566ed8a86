-- Numbers modulo two to a number of bits: of 128 bits and fewer, of sums and differences.
use Rattle.std.specs.Prelude.{◌%◌, ◌^◌, ◌↔◌, ℤ, pos, negsuc, ◌+ℤ◌, ◌-ℤ◌}
use Rattle.std.proofs.Common.{◌≡◌, ℕ, ◌+◌, ◌-◌, ◌<◌, inl, inr, refl, ap, ◌∙◌, arith}
use Rattle.std.proofs.lemmas.Int.{ints, to_z_pos}
use Rattle.std.proofs.lemmas.Bool.{cases_lt}
use Rattle.std.specs.Int.{Width, w8, w128, to_le_bytes, cast_signed, cast_unsigned}
use Rattle.std.specs.Int.RustNames.{FitsSigned}
use Rattle.ffi3_type_spec.specs.Tree.{Scalar}
use Rattle.ffi3_type_spec.specs.Integer.{width_of, bit_count, modulo, bytes_of_number}
use Rattle.ffi3_type_spec.proofs.Widened.{read_negative}

-- modulo two to the 128th, and then to fewer bits
pub modulo-fewer : (w : Width) (z : ℤ) → modulo 128 z % 2 ^ bit_count w ≡ modulo (bit_count w) z
modulo-fewer w8 (pos n) = omega arith
modulo-fewer _ (pos n) = omega arith
modulo-fewer _ _ = omega arith

-- the bytes of a number are those of its bits
pub bytes_of_bits : (s : Scalar) (z : ℤ) (n : ℕ) → n ≡ modulo 128 z → to_le_bytes (width_of s) (n % 2 ^ bit_count (width_of s)) ≡ bytes_of_number s z
bytes_of_bits s z n e =
    ap (λ m. to_le_bytes (width_of s) (m % 2 ^ bit_count (width_of s))) e ∙ ap (to_le_bytes (width_of s)) (modulo-fewer (width_of s) z)

-- the bits of a number of 128 bits
pub modulo-fitting : (z : ℤ) → FitsSigned w128 z → cast_unsigned w128 z ≡ modulo 128 z
modulo-fitting (pos n) h =
    let fits : n < 2 ^ 127 = h.sfits in
    omega arith
modulo-fitting (negsuc n) h =
    let fits : n < 2 ^ 127 = h.sfits in
    omega arith

pub modulo-signed : (n : ℕ) → n < 2 ^ 128 → modulo 128 (cast_signed w128 n) ≡ n
modulo-signed n h =
    elim (cases_lt n (2 ^ 127)) [
      | inl low ↦ rw (to_z_pos w128 n low) (omega arith)
      | inr high ↦ rw (read_negative w128 n high) (omega arith)
    ]

-- a sum and a difference have the bits of the sum and the difference of the bits
sum_modulo : (x y z : ℤ) → z ≡ x +ℤ y → (modulo 128 x + modulo 128 y) % 2 ^ 128 ≡ modulo 128 z
sum_modulo (pos a) (pos b) (pos c) e = omega (arith, ints, e)
sum_modulo _ (pos b) (pos c) e = omega (arith, ints, e)
sum_modulo _ _ (pos c) e = omega (arith, ints, e)
sum_modulo _ _ _ e = omega (arith, ints, e)

pub modulo-add : (x y : ℤ) → (modulo 128 x + modulo 128 y) % 2 ^ 128 ≡ modulo 128 (x +ℤ y)
modulo-add x y = sum_modulo x y (x +ℤ y) refl

difference_modulo : (x y z : ℤ) → z ≡ x -ℤ y → (modulo 128 x + (2 ^ 128 - modulo 128 y)) % 2 ^ 128 ≡ modulo 128 z
difference_modulo (pos a) (pos b) (pos c) e = omega (arith, ints, e)
difference_modulo _ (pos b) (pos c) e = omega (arith, ints, e)
difference_modulo _ _ (pos c) e = omega (arith, ints, e)
difference_modulo _ _ _ e = omega (arith, ints, e)

pub modulo-sub : (x y : ℤ) → (modulo 128 x + (2 ^ 128 - modulo 128 y)) % 2 ^ 128 ≡ modulo 128 (x -ℤ y)
modulo-sub x y = difference_modulo x y (x -ℤ y) refl

-- only zero is zero, of numbers of at most 128 bits
pub modulo-zero_unsigned : (n : ℕ) → n < 2 ^ 128 → (modulo 128 (pos n) ≡ 0) ↔ (pos n ≡ pos 0)
modulo-zero_unsigned n h = (λ e. let none : n ≡ 0 = omega arith in ap pos none, λ e. let none : n ≡ 0 = omega (arith, ints, e) in omega arith)

pub modulo-zero_signed : (z : ℤ) → FitsSigned w128 z → (modulo 128 z ≡ 0) ↔ (z ≡ pos 0)
modulo-zero_signed (pos n) h =
    let fits : n < 2 ^ 127 = h.sfits in
    modulo-zero_unsigned n (omega arith)
modulo-zero_signed (negsuc n) h =
    let fits : n < 2 ^ 127 = h.sfits in
    (λ e. absurd (omega arith), λ e. cc)
