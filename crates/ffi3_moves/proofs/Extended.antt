-- Bytes of a narrow integer with zeros, or with its sign, above them are the number that a register has of it.
use Rattle.std.specs.Prelude.{◌/◌, ◌%◌, ◌^◌, true}
use Rattle.std.proofs.Common.{◌≡◌, ℕ, suc, ◌+◌, ◌*◌, ◌<◌, ◌≤◌, ◌-◌, inl, inr, List, [], ◌∷◌, length, get_or, refl, ap, sym, ◌∙◌, arith}
use Rattle.std.proofs.lemmas.Int.{to_z_pos}
use Rattle.std.proofs.lemmas.Bool.{cases_lt}
use Rattle.std.specs.Int.{w8, w16, w32, w64, from_le_bytes, cast_signed, cast_unsigned}
use Rattle.ffi3_type_spec.specs.Tree.{Scalar, u8, s8, u16, s16, u32, s32, x87, binary128, scalar}
use Rattle.ffi3_type_spec.specs.Layout.{scalar_size, scalar_room}
use Rattle.ffi3_type_spec.specs.Integer.{modulo, widened, widened_from_32}
use Rattle.ffi3_type_spec.proofs.Widened.{read_negative}
use Rattle.ffi3_place_spec.specs.declared.Ext.TheVariants.{Widen, Riscv}
use Rattle.ffi3_place_spec.specs.Sound.{is_narrow_integer}
use Rattle.ffi3_moves.specs.declared.Kind.{Kind}
use Rattle.ffi3_moves.specs.declared.Kind.TheVariants.{Zero, Sign}
use Rattle.ffi3_moves.specs.Play.{to_eight, sign_of}
use Rattle.ffi3_moves.specs.Moves.{filling}

-- a narrow integer takes as many bytes as its value has
pub narrow_room : (s : Scalar) → is_narrow_integer (scalar s) ≡ true → scalar_room s ≡ scalar_size s
narrow_room u8 narrow = refl
narrow_room x87 narrow = cc
narrow_room binary128 narrow = cc
narrow_room _ narrow = refl

-- ---- numbers, by their highest bit

low_8 : (n : ℕ) → n < 2 ^ 7 → cast_unsigned w64 (cast_signed w8 n) ≡ n
low_8 n h = rw (to_z_pos w8 n h) (omega arith)

high_8 : (n : ℕ) → 2 ^ 7 ≤ n → n < 2 ^ 8 → cast_unsigned w64 (cast_signed w8 n) ≡ n + (2 ^ 64 - 2 ^ 8)
high_8 n h k = rw (read_negative w8 n h) (omega arith)

low_16 : (n : ℕ) → n < 2 ^ 15 → cast_unsigned w64 (cast_signed w16 n) ≡ n
low_16 n h = rw (to_z_pos w16 n h) (omega arith)

high_16 : (n : ℕ) → 2 ^ 15 ≤ n → n < 2 ^ 16 → cast_unsigned w64 (cast_signed w16 n) ≡ n + (2 ^ 64 - 2 ^ 16)
high_16 n h k = rw (read_negative w16 n h) (omega arith)

low_32 : (n : ℕ) → n < 2 ^ 31 → cast_unsigned w64 (cast_signed w32 n) ≡ n
low_32 n h = rw (to_z_pos w32 n h) (omega arith)

high_32 : (n : ℕ) → 2 ^ 31 ≤ n → n < 2 ^ 32 → cast_unsigned w64 (cast_signed w32 n) ≡ n + (2 ^ 64 - 2 ^ 32)
high_32 n h k = rw (read_negative w32 n h) (omega arith)

-- the same after an extension to 32 bits
low_8_from_32 : (n : ℕ) → n < 2 ^ 7 → cast_unsigned w64 (cast_signed w32 (modulo 32 (cast_signed w8 n))) ≡ n
low_8_from_32 n h = rw (to_z_pos w8 n h) (let e = low_32 (n % 2 ^ 32) (omega arith) in omega arith)

high_8_from_32 : (n : ℕ) → 2 ^ 7 ≤ n → n < 2 ^ 8 → cast_unsigned w64 (cast_signed w32 (modulo 32 (cast_signed w8 n))) ≡ n + (2 ^ 64 - 2 ^ 8)
high_8_from_32 n h k =
    rw (read_negative w8 n h) (let e = high_32 (2 ^ 32 - suc ((2 ^ 8 - suc n) % 2 ^ 32)) (omega arith) (omega arith) in omega arith)

low_16_from_32 : (n : ℕ) → n < 2 ^ 15 → cast_unsigned w64 (cast_signed w32 (modulo 32 (cast_signed w16 n))) ≡ n
low_16_from_32 n h = rw (to_z_pos w16 n h) (let e = low_32 (n % 2 ^ 32) (omega arith) in omega arith)

high_16_from_32 : (n : ℕ) → 2 ^ 15 ≤ n → n < 2 ^ 16 → cast_unsigned w64 (cast_signed w32 (modulo 32 (cast_signed w16 n))) ≡ n + (2 ^ 64 - 2 ^ 16)
high_16_from_32 n h k =
    rw (read_negative w16 n h) (let e = high_32 (2 ^ 32 - suc ((2 ^ 16 - suc n) % 2 ^ 32)) (omega arith) (omega arith) in omega arith)

low_32_from_32 : (n : ℕ) → n < 2 ^ 31 → cast_unsigned w64 (cast_signed w32 (modulo 32 (cast_signed w32 n))) ≡ n
low_32_from_32 n h = rw (to_z_pos w32 n h) (let e = low_32 (n % 2 ^ 32) (omega arith) in omega arith)

high_32_from_32 : (n : ℕ) → 2 ^ 31 ≤ n → n < 2 ^ 32 → cast_unsigned w64 (cast_signed w32 (modulo 32 (cast_signed w32 n))) ≡ n + (2 ^ 64 - 2 ^ 32)
high_32_from_32 n h k =
    rw (read_negative w32 n h) (let e = high_32 (2 ^ 32 - suc ((2 ^ 32 - suc n) % 2 ^ 32)) (omega arith) (omega arith) in omega arith)

unsigned_low : (n : ℕ) → n < 2 ^ 31 → cast_unsigned w64 (cast_signed w32 (n % 2 ^ 32)) ≡ n
unsigned_low n h = let e = low_32 (n % 2 ^ 32) (omega arith) in omega arith

unsigned_high : (n : ℕ) → 2 ^ 31 ≤ n → n < 2 ^ 32 → cast_unsigned w64 (cast_signed w32 (n % 2 ^ 32)) ≡ n + (2 ^ 64 - 2 ^ 32)
unsigned_high n h k = let e = high_32 (n % 2 ^ 32) (omega arith) (omega arith) in omega arith

-- ---- bytes

eight_of_1 : (a above : ℕ) → from_le_bytes w64 (a ∷ above ∷ above ∷ above ∷ above ∷ above ∷ above ∷ above ∷ []) ≡ a + 72340172838076672 * above
eight_of_1 a above = omega arith

eight_of_2 : (a b above : ℕ) → from_le_bytes w64 (a ∷ b ∷ above ∷ above ∷ above ∷ above ∷ above ∷ above ∷ []) ≡ a + 256 * b + 72340172838076416 * above
eight_of_2 a b above = omega arith

pub eight_of_4 : (a b c d above : ℕ) → from_le_bytes w64 (a ∷ b ∷ c ∷ d ∷ above ∷ above ∷ above ∷ above ∷ []) ≡ a + 256 * b + 65536 * c + 16777216 * d + 72340172821233664 * above
eight_of_4 a b c d above = omega arith

-- a number of bytes that is what another is, by its highest bit
by_bit : (n half whole top x : ℕ) → (n < half → x ≡ n) → (half ≤ n → n < whole → x ≡ n + (2 ^ 64 - whole)) → n < whole → (n < half → top ≡ 0) → (half ≤ n → top ≡ 255) → (scale : ℕ) → scale * 255 ≡ 2 ^ 64 - whole → n + scale * top ≡ x
by_bit n half whole top x low high below at_low at_high scale is =
    elim (cases_lt n half) [
      | inl l ↦
          let none : scale * top ≡ 0 = ap (λ t. scale * t) (at_low l) ∙ nothing scale in
          omega (arith, none, low l)
      | inr h ↦
          let ones : scale * top ≡ 2 ^ 64 - whole = ap (λ t. scale * t) (at_high h) ∙ is in
          ap (λ m. n + m) ones ∙ sym (high h below)
    ]
  where
    nothing : (m : ℕ) → m * 0 ≡ 0
    nothing m = omega arith

zeros_1 : (bytes : List ℕ) → length bytes ≡ 1 → from_le_bytes w64 (to_eight 0 bytes) ≡ from_le_bytes w8 bytes
zeros_1 (a ∷ []) l =
    let same : from_le_bytes w8 (a ∷ []) ≡ a = omega arith in
    eight_of_1 a 0 ∙ omega (arith, same)
zeros_1 _ l = absurd (omega arith)

signs_1 : (bytes : List ℕ) → length bytes ≡ 1 → ((k : ℕ) → get_or bytes k 0 < 256) → (x : ℕ) → (from_le_bytes w8 bytes < 2 ^ 7 → x ≡ from_le_bytes w8 bytes) → (2 ^ 7 ≤ from_le_bytes w8 bytes → from_le_bytes w8 bytes < 2 ^ 8 → x ≡ from_le_bytes w8 bytes + (2 ^ 64 - 2 ^ 8)) → from_le_bytes w64 (to_eight (sign_of bytes) bytes) ≡ x
signs_1 (a ∷ []) l small x low high =
    let same : from_le_bytes w8 (a ∷ []) ≡ a = omega arith in
    let s0 : a < 256 = small 0 in
    eight_of_1 a (a / 128 * 255) ∙ by_bit (a) (2 ^ 7) (2 ^ 8) (a / 128 * 255) x (λ h. low (omega (arith, h, same)) ∙ same) (λ h k. high (omega (arith, h, same)) (omega (arith, k, same)) ∙ ap (λ m. m + (2 ^ 64 - 2 ^ 8)) same) (omega (arith, s0)) (λ h. omega (arith, h, s0)) (λ h. omega (arith, h, s0)) 72340172838076672 refl
signs_1 _ l small x low high = absurd (omega arith)

zeros_2 : (bytes : List ℕ) → length bytes ≡ 2 → from_le_bytes w64 (to_eight 0 bytes) ≡ from_le_bytes w16 bytes
zeros_2 (a ∷ b ∷ []) l =
    let same : from_le_bytes w16 (a ∷ b ∷ []) ≡ a + 256 * b = omega arith in
    eight_of_2 a b 0 ∙ omega (arith, same)
zeros_2 _ l = absurd (omega arith)

signs_2 : (bytes : List ℕ) → length bytes ≡ 2 → ((k : ℕ) → get_or bytes k 0 < 256) → (x : ℕ) → (from_le_bytes w16 bytes < 2 ^ 15 → x ≡ from_le_bytes w16 bytes) → (2 ^ 15 ≤ from_le_bytes w16 bytes → from_le_bytes w16 bytes < 2 ^ 16 → x ≡ from_le_bytes w16 bytes + (2 ^ 64 - 2 ^ 16)) → from_le_bytes w64 (to_eight (sign_of bytes) bytes) ≡ x
signs_2 (a ∷ b ∷ []) l small x low high =
    let same : from_le_bytes w16 (a ∷ b ∷ []) ≡ a + 256 * b = omega arith in
    let s0 : a < 256 = small 0 in
    let s1 : b < 256 = small 1 in
    eight_of_2 a b (b / 128 * 255) ∙ by_bit (a + 256 * b) (2 ^ 15) (2 ^ 16) (b / 128 * 255) x (λ h. low (omega (arith, h, same)) ∙ same) (λ h k. high (omega (arith, h, same)) (omega (arith, k, same)) ∙ ap (λ m. m + (2 ^ 64 - 2 ^ 16)) same) (omega (arith, s0, s1)) (λ h. omega (arith, h, s0, s1)) (λ h. omega (arith, h, s0, s1)) 72340172838076416 refl
signs_2 _ l small x low high = absurd (omega arith)

zeros_4 : (bytes : List ℕ) → length bytes ≡ 4 → from_le_bytes w64 (to_eight 0 bytes) ≡ from_le_bytes w32 bytes
zeros_4 (a ∷ b ∷ c ∷ d ∷ []) l =
    let same : from_le_bytes w32 (a ∷ b ∷ c ∷ d ∷ []) ≡ a + 256 * b + 65536 * c + 16777216 * d = omega arith in
    eight_of_4 a b c d 0 ∙ omega (arith, same)
zeros_4 _ l = absurd (omega arith)

signs_4 : (bytes : List ℕ) → length bytes ≡ 4 → ((k : ℕ) → get_or bytes k 0 < 256) → (x : ℕ) → (from_le_bytes w32 bytes < 2 ^ 31 → x ≡ from_le_bytes w32 bytes) → (2 ^ 31 ≤ from_le_bytes w32 bytes → from_le_bytes w32 bytes < 2 ^ 32 → x ≡ from_le_bytes w32 bytes + (2 ^ 64 - 2 ^ 32)) → from_le_bytes w64 (to_eight (sign_of bytes) bytes) ≡ x
signs_4 (a ∷ b ∷ c ∷ d ∷ []) l small x low high =
    let same : from_le_bytes w32 (a ∷ b ∷ c ∷ d ∷ []) ≡ a + 256 * b + 65536 * c + 16777216 * d = omega arith in
    let s0 : a < 256 = small 0 in
    let s1 : b < 256 = small 1 in
    let s2 : c < 256 = small 2 in
    let s3 : d < 256 = small 3 in
    eight_of_4 a b c d (d / 128 * 255) ∙ by_bit (a + 256 * b + 65536 * c + 16777216 * d) (2 ^ 31) (2 ^ 32) (d / 128 * 255) x (λ h. low (omega (arith, h, same)) ∙ same) (λ h k. high (omega (arith, h, same)) (omega (arith, k, same)) ∙ ap (λ m. m + (2 ^ 64 - 2 ^ 32)) same) (omega (arith, s0, s1, s2, s3)) (λ h. omega (arith, h, s0, s1, s2, s3)) (λ h. omega (arith, h, s0, s1, s2, s3)) 72340172821233664 refl
signs_4 _ l small x low high = absurd (omega arith)

-- ---- a move's eight bytes

-- the bytes with what a move of this kind puts above them are the number
abbrev pub IsFilledBy : List ℕ → Kind → ℕ → Type 0
IsFilledBy bytes Zero n = from_le_bytes w64 (to_eight 0 bytes) ≡ n
IsFilledBy bytes Sign n = from_le_bytes w64 (to_eight (sign_of bytes) bytes) ≡ n
IsFilledBy bytes _ n = ⊥

module _ (bytes : List ℕ) (small : (k : ℕ) → get_or bytes k 0 < 256) where
  pub widen_filled : (s : Scalar) → is_narrow_integer (scalar s) ≡ true → length bytes ≡ scalar_size s → IsFilledBy bytes (filling Widen s) (widened s bytes)
  widen_filled u8 narrow l = (zeros_1 bytes l)
  widen_filled s8 narrow l = (signs_1 bytes l small (widened s8 bytes) (low_8 (from_le_bytes w8 bytes)) (high_8 (from_le_bytes w8 bytes)))
  widen_filled u16 narrow l = (zeros_2 bytes l)
  widen_filled s16 narrow l = (signs_2 bytes l small (widened s16 bytes) (low_16 (from_le_bytes w16 bytes)) (high_16 (from_le_bytes w16 bytes)))
  widen_filled u32 narrow l = (zeros_4 bytes l)
  widen_filled s32 narrow l = (signs_4 bytes l small (widened s32 bytes) (low_32 (from_le_bytes w32 bytes)) (high_32 (from_le_bytes w32 bytes)))
  widen_filled _ narrow l = cc

  below_8 : from_le_bytes w8 bytes < 2 ^ 8
  below_8 = omega (arith, small 0)

  below_16 : from_le_bytes w16 bytes < 2 ^ 16
  below_16 = omega (arith, small 0, small 1)

  pub riscv_filled : (s : Scalar) → is_narrow_integer (scalar s) ≡ true → length bytes ≡ scalar_size s → IsFilledBy bytes (filling Riscv s) (widened_from_32 s bytes)
  riscv_filled u8 narrow l = (zeros_1 bytes l ∙ sym (unsigned_low (from_le_bytes w8 bytes) (omega (arith, below_8))))
  riscv_filled s8 narrow l = (signs_1 bytes l small (widened_from_32 s8 bytes) (low_8_from_32 (from_le_bytes w8 bytes)) (high_8_from_32 (from_le_bytes w8 bytes)))
  riscv_filled u16 narrow l = (zeros_2 bytes l ∙ sym (unsigned_low (from_le_bytes w16 bytes) (omega (arith, below_16))))
  riscv_filled s16 narrow l = (signs_2 bytes l small (widened_from_32 s16 bytes) (low_16_from_32 (from_le_bytes w16 bytes)) (high_16_from_32 (from_le_bytes w16 bytes)))
  riscv_filled u32 narrow l = (signs_4 bytes l small (widened_from_32 u32 bytes) (unsigned_low (from_le_bytes w32 bytes)) (unsigned_high (from_le_bytes w32 bytes)))
  riscv_filled s32 narrow l = (signs_4 bytes l small (widened_from_32 s32 bytes) (low_32_from_32 (from_le_bytes w32 bytes)) (high_32_from_32 (from_le_bytes w32 bytes)))
  riscv_filled _ narrow l = cc
