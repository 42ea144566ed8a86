-- The bytes of an integer that is extended by its sign are the bytes that it was read from.
use Rattle.std.specs.Prelude.{◌/◌, ◌%◌, ◌^◌, ℤ, negsuc}
use Rattle.std.proofs.Common.{◌≡◌, ℕ, zero, suc, ◌<◌, ◌≤◌, ◌-◌, inl, inr, List, [], ◌∷◌, length, get_or, take, refl, ap, sym, ◌∙◌, arith, true}
use Rattle.std.proofs.lemmas.Int.{to_z_pos}
use Rattle.std.proofs.lemmas.Bool.{cases_lt}
use Rattle.std.proofs.lemmas.Nat.{le_bytes_2, le_bytes_4, le_bytes_8}
use Rattle.std.proofs.lemmas.List.{get_or-take}
use Rattle.std.specs.Int.{Width, w8, w16, w32, w64, to_le_bytes, from_le_bytes, cast_signed, cast_unsigned, byte_at, bytes_low_first, byte_len}
use Rattle.std.specs.List.{All}
use Rattle.std.proofs.lemmas.List.Elements.{All-from_get_or}
use mir.Val.{hbits, bits}
use Rattle.std.proofs.lemmas.Bool.Decides.{nat_tests}
use Rattle.ffi3_type_spec.specs.Tree.{Scalar, u8, s8, u16, s16, u32, s32, u64, s64, u128, s128, float, double, pointer, x87, binary128}
use Rattle.ffi3_type_spec.specs.Layout.{scalar_size}
use Rattle.ffi3_type_spec.specs.Integer.{width_of, bit_count, modulo, bytes_of_number, widened, widened_from_32, is_number}

-- the lower bytes of two numbers that are congruent
pub low_bytes_8 : (m n : ℕ) → m % 2 ^ 8 ≡ n → take 1 (to_le_bytes w64 m) ≡ to_le_bytes w8 n
low_bytes_8 m n e =
    let at_0 : m % 256 ≡ n % 256 = omega arith in
    λ i. at_0 i ∷ []

pub low_bytes_16 : (m n : ℕ) → m % 2 ^ 16 ≡ n → take 2 (to_le_bytes w64 m) ≡ to_le_bytes w16 n
low_bytes_16 m n e =
    let at_0 : m % 256 ≡ n % 256 = omega arith in
    let at_1 : m / 256 % 256 ≡ n / 256 % 256 = omega arith in
    λ i. at_0 i ∷ at_1 i ∷ []

pub low_bytes_32 : (m n : ℕ) → m % 2 ^ 32 ≡ n → take 4 (to_le_bytes w64 m) ≡ to_le_bytes w32 n
low_bytes_32 m n e =
    let at_0 : m % 256 ≡ n % 256 = omega arith in
    let at_1 : m / 256 % 256 ≡ n / 256 % 256 = omega arith in
    let at_2 : m / 65536 % 256 ≡ n / 65536 % 256 = omega arith in
    let at_3 : m / 16777216 % 256 ≡ n / 16777216 % 256 = omega arith in
    λ i. at_0 i ∷ at_1 i ∷ at_2 i ∷ at_3 i ∷ []

-- a number read by its sign, in the two cases
pub read_negative : (w : Width) (n : ℕ) → 2 ^ hbits w ≤ n → cast_signed w n ≡ negsuc (2 ^ bits w - suc n)
read_negative w n h = grind (arith, nat_tests)

-- a list of bytes is what its number is written as
module _ (bs : List ℕ) (small : (k : ℕ) → get_or bs k 0 < 256) where
  from_bytes_below_8 : from_le_bytes w8 bs < 2 ^ 8
  from_bytes_below_8 = omega (arith, small 0)

  from_bytes_below_16 : from_le_bytes w16 bs < 2 ^ 16
  from_bytes_below_16 = omega (arith, small 0, small 1)

  from_bytes_below_32 : from_le_bytes w32 bs < 2 ^ 32
  from_bytes_below_32 = omega (arith, small 0, small 1, small 2, small 3)

  from_bytes_below_64 : from_le_bytes w64 bs < 2 ^ 64
  from_bytes_below_64 = omega (arith, small 0, small 1, small 2, small 3, small 4, small 5, small 6, small 7)

written_1 : (bs : List ℕ) → length bs ≡ 1 → get_or bs 0 0 ∷ [] ≡ bs
written_1 [] l = absurd (omega arith)
written_1 (a ∷ []) l = refl
written_1 (a ∷ b ∷ bs) l = absurd (omega arith)

le_bytes_1 : (bs : List ℕ) (n : ℕ) → length bs ≡ 1 → ((k : ℕ) → get_or bs k 0 < 256) → n ≡ from_le_bytes w8 bs → to_le_bytes w8 n ≡ bs
le_bytes_1 bs n l small is =
    let at_0 : n % 256 ≡ get_or bs 0 0 = omega (arith, small 0) in
    (λ i. at_0 i ∷ []) ∙ written_1 bs l

-- a number that is extended by its sign keeps its lower bits
extended_8 : (n : ℕ) → n < 2 ^ 8 → (cast_unsigned w64 (cast_signed w8 n) % 2 ^ 8 ≡ n) × (cast_unsigned w64 (cast_signed w8 n) < 2 ^ 64)
extended_8 n h =
    elim (cases_lt n (2 ^ 7)) [
      | inl low ↦ rw (to_z_pos w8 n low) (omega arith, omega arith)
      | inr high ↦ rw (read_negative w8 n high) (omega arith, omega arith)
    ]

extended_16 : (n : ℕ) → n < 2 ^ 16 → (cast_unsigned w64 (cast_signed w16 n) % 2 ^ 16 ≡ n) × (cast_unsigned w64 (cast_signed w16 n) < 2 ^ 64)
extended_16 n h =
    elim (cases_lt n (2 ^ 15)) [
      | inl low ↦ rw (to_z_pos w16 n low) (omega arith, omega arith)
      | inr high ↦ rw (read_negative w16 n high) (omega arith, omega arith)
    ]

extended_32 : (n : ℕ) → n < 2 ^ 32 → (cast_unsigned w64 (cast_signed w32 n) % 2 ^ 32 ≡ n) × (cast_unsigned w64 (cast_signed w32 n) < 2 ^ 64)
extended_32 n h =
    elim (cases_lt n (2 ^ 31)) [
      | inl low ↦ rw (to_z_pos w32 n low) (omega arith, omega arith)
      | inr high ↦ rw (read_negative w32 n high) (omega arith, omega arith)
    ]

extended_64 : (n : ℕ) → n < 2 ^ 64 → (cast_unsigned w64 (cast_signed w64 n) % 2 ^ 64 ≡ n) × (cast_unsigned w64 (cast_signed w64 n) < 2 ^ 64)
extended_64 n h =
    elim (cases_lt n (2 ^ 63)) [
      | inl low ↦ rw (to_z_pos w64 n low) (omega arith, omega arith)
      | inr high ↦ rw (read_negative w64 n high) (omega arith, omega arith)
    ]

-- the same, from 32 bits
extended_8_from_32 : (n : ℕ) → n < 2 ^ 8 → (cast_unsigned w64 (cast_signed w32 (modulo 32 (cast_signed w8 n))) % 2 ^ 8 ≡ n) × (cast_unsigned w64 (cast_signed w32 (modulo 32 (cast_signed w8 n))) < 2 ^ 64)
extended_8_from_32 n h =
    elim (cases_lt n (2 ^ 7)) [
      | inl low ↦ rw (to_z_pos w8 n low) (let e = extended_32 (n % 2 ^ 32) (omega arith) in (omega arith, omega arith))
      | inr high ↦ rw (read_negative w8 n high) (let e = extended_32 (2 ^ 32 - suc ((2 ^ 8 - suc n) % 2 ^ 32)) (omega arith) in (omega arith, omega arith))
    ]

extended_16_from_32 : (n : ℕ) → n < 2 ^ 16 → (cast_unsigned w64 (cast_signed w32 (modulo 32 (cast_signed w16 n))) % 2 ^ 16 ≡ n) × (cast_unsigned w64 (cast_signed w32 (modulo 32 (cast_signed w16 n))) < 2 ^ 64)
extended_16_from_32 n h =
    elim (cases_lt n (2 ^ 15)) [
      | inl low ↦ rw (to_z_pos w16 n low) (let e = extended_32 (n % 2 ^ 32) (omega arith) in (omega arith, omega arith))
      | inr high ↦ rw (read_negative w16 n high) (let e = extended_32 (2 ^ 32 - suc ((2 ^ 16 - suc n) % 2 ^ 32)) (omega arith) in (omega arith, omega arith))
    ]

extended_32_from_32 : (n : ℕ) → n < 2 ^ 32 → (cast_unsigned w64 (cast_signed w32 (modulo 32 (cast_signed w32 n))) % 2 ^ 32 ≡ n) × (cast_unsigned w64 (cast_signed w32 (modulo 32 (cast_signed w32 n))) < 2 ^ 64)
extended_32_from_32 n h =
    elim (cases_lt n (2 ^ 31)) [
      | inl low ↦ rw (to_z_pos w32 n low) (let e = extended_32 (n % 2 ^ 32) (omega arith) in (omega arith, omega arith))
      | inr high ↦ rw (read_negative w32 n high) (let e = extended_32 (2 ^ 32 - suc ((2 ^ 32 - suc n) % 2 ^ 32)) (omega arith) in (omega arith, omega arith))
    ]

unsigned_from_32 : (n : ℕ) → n < 2 ^ 32 → (cast_unsigned w64 (cast_signed w32 (n % 2 ^ 32)) % 2 ^ 32 ≡ n) × (cast_unsigned w64 (cast_signed w32 (n % 2 ^ 32)) < 2 ^ 64)
unsigned_from_32 n h =
    let e = extended_32 (n % 2 ^ 32) (omega arith) in (omega arith, omega arith)

-- what the register holds, and its lower bytes
module _ (bs : List ℕ) (small : (k : ℕ) → get_or bs k 0 < 256) where
  -- the lower bytes of a number that is congruent to the one that the bytes make
  low_bytes_of_8 : (m : ℕ) → m % 2 ^ 8 ≡ from_le_bytes w8 bs → length bs ≡ 1 → take 1 (to_le_bytes w64 m) ≡ bs
  low_bytes_of_8 m e l =
      low_bytes_8 m (from_le_bytes w8 bs) e ∙ le_bytes_1 bs (from_le_bytes w8 bs) l small refl

  low_bytes_of_16 : (m : ℕ) → m % 2 ^ 16 ≡ from_le_bytes w16 bs → length bs ≡ 2 → take 2 (to_le_bytes w64 m) ≡ bs
  low_bytes_of_16 m e l =
      low_bytes_16 m (from_le_bytes w16 bs) e ∙ le_bytes_2 bs (from_le_bytes w16 bs) l small refl

  low_bytes_of_32 : (m : ℕ) → m % 2 ^ 32 ≡ from_le_bytes w32 bs → length bs ≡ 4 → take 4 (to_le_bytes w64 m) ≡ bs
  low_bytes_of_32 m e l =
      low_bytes_32 m (from_le_bytes w32 bs) e ∙ le_bytes_4 bs (from_le_bytes w32 bs) l small refl

  low_bytes_of_64 : (m : ℕ) → m < 2 ^ 64 → m % 2 ^ 64 ≡ from_le_bytes w64 bs → length bs ≡ 8 → take 8 (to_le_bytes w64 m) ≡ bs
  low_bytes_of_64 m h e l = le_bytes_8 bs m l small (omega arith)

  -- an unsigned number is its own extension
  whole_8 : (from_le_bytes w8 bs % 2 ^ 8 ≡ from_le_bytes w8 bs) × (from_le_bytes w8 bs < 2 ^ 64)
  whole_8 = let h = from_bytes_below_8 bs small in (omega arith, omega arith)

  whole_16 : (from_le_bytes w16 bs % 2 ^ 16 ≡ from_le_bytes w16 bs) × (from_le_bytes w16 bs < 2 ^ 64)
  whole_16 = let h = from_bytes_below_16 bs small in (omega arith, omega arith)

  whole_32 : (from_le_bytes w32 bs % 2 ^ 32 ≡ from_le_bytes w32 bs) × (from_le_bytes w32 bs < 2 ^ 64)
  whole_32 = let h = from_bytes_below_32 bs small in (omega arith, omega arith)

  whole_64 : (from_le_bytes w64 bs % 2 ^ 64 ≡ from_le_bytes w64 bs) × (from_le_bytes w64 bs < 2 ^ 64)
  whole_64 = let h = from_bytes_below_64 bs small in (omega arith, omega arith)

  -- extended by its sign, a number keeps its lower bits
  pub extended : (s : Scalar) → scalar_size s ≤ 8 → (widened s bs % 2 ^ bit_count (width_of s) ≡ from_le_bytes (width_of s) bs) × (widened s bs < 2 ^ 64)
  extended u8 h = whole_8
  extended s8 h = extended_8 (from_le_bytes w8 bs) (from_bytes_below_8 bs small)
  extended u16 h = whole_16
  extended s16 h = extended_16 (from_le_bytes w16 bs) (from_bytes_below_16 bs small)
  extended u32 h = whole_32
  extended s32 h = extended_32 (from_le_bytes w32 bs) (from_bytes_below_32 bs small)
  extended u64 h = whole_64
  extended s64 h = extended_64 (from_le_bytes w64 bs) (from_bytes_below_64 bs small)
  extended float h = whole_32
  extended double h = whole_64
  extended pointer h = whole_64
  extended _ h = absurd (omega arith)

  unsigned_8_from_32 : (widened_from_32 u8 bs % 2 ^ 8 ≡ from_le_bytes w8 bs) × (widened_from_32 u8 bs < 2 ^ 64)
  unsigned_8_from_32 =
      let h = from_bytes_below_8 bs small in
      let e = unsigned_from_32 (from_le_bytes w8 bs) (omega arith) in
      (omega arith, e.1)

  unsigned_16_from_32 : (widened_from_32 u16 bs % 2 ^ 16 ≡ from_le_bytes w16 bs) × (widened_from_32 u16 bs < 2 ^ 64)
  unsigned_16_from_32 =
      let h = from_bytes_below_16 bs small in
      let e = unsigned_from_32 (from_le_bytes w16 bs) (omega arith) in
      (omega arith, e.1)

  -- the same, where it is extended to 32 bits first
  pub extended_from_32 : (s : Scalar) → scalar_size s ≤ 4 → (widened_from_32 s bs % 2 ^ bit_count (width_of s) ≡ from_le_bytes (width_of s) bs) × (widened_from_32 s bs < 2 ^ 64)
  extended_from_32 u8 h = unsigned_8_from_32
  extended_from_32 s8 h = extended_8_from_32 (from_le_bytes w8 bs) (from_bytes_below_8 bs small)
  extended_from_32 u16 h = unsigned_16_from_32
  extended_from_32 s16 h = extended_16_from_32 (from_le_bytes w16 bs) (from_bytes_below_16 bs small)
  extended_from_32 u32 h = unsigned_from_32 (from_le_bytes w32 bs) (from_bytes_below_32 bs small)
  extended_from_32 s32 h = extended_32_from_32 (from_le_bytes w32 bs) (from_bytes_below_32 bs small)
  extended_from_32 float h = unsigned_from_32 (from_le_bytes w32 bs) (from_bytes_below_32 bs small)
  extended_from_32 _ h = absurd (omega arith)

  -- the lower bytes of what is congruent to the number
  pub low_bytes : (s : Scalar) (m : ℕ) → scalar_size s ≤ 8 → (m % 2 ^ bit_count (width_of s) ≡ from_le_bytes (width_of s) bs) × (m < 2 ^ 64) → length bs ≡ scalar_size s → take (scalar_size s) (to_le_bytes w64 m) ≡ bs
  low_bytes u8 m h e l = low_bytes_of_8 m e.0 l
  low_bytes s8 m h e l = low_bytes_of_8 m e.0 l
  low_bytes u16 m h e l = low_bytes_of_16 m e.0 l
  low_bytes s16 m h e l = low_bytes_of_16 m e.0 l
  low_bytes u32 m h e l = low_bytes_of_32 m e.0 l
  low_bytes s32 m h e l = low_bytes_of_32 m e.0 l
  low_bytes u128 m h e l = absurd (omega arith)
  low_bytes s128 m h e l = absurd (omega arith)
  low_bytes float m h e l = low_bytes_of_32 m e.0 l
  low_bytes x87 m h e l = absurd (omega arith)
  low_bytes binary128 m h e l = absurd (omega arith)
  low_bytes _ m h e l = low_bytes_of_64 m e.1 e.0 l

  pub widened-below : (s : Scalar) → scalar_size s ≤ 8 → widened s bs < 2 ^ 64
  widened-below s few = (extended s few).1

  pub take-widened : (s : Scalar) → scalar_size s ≤ 8 → length bs ≡ scalar_size s → take (scalar_size s) (to_le_bytes w64 (widened s bs)) ≡ bs
  take-widened s few l = low_bytes s (widened s bs) few (extended s few) l

  pub byte-widened : (s : Scalar) (k : ℕ) → scalar_size s ≤ 8 → length bs ≡ scalar_size s → k < scalar_size s → get_or (to_le_bytes w64 (widened s bs)) k 0 ≡ get_or bs k 0
  byte-widened s k few l h =
      sym (get_or-take (scalar_size s) (to_le_bytes w64 (widened s bs)) k 0 h) ∙ ap (λ xs. get_or xs k 0) (take-widened s few l)

  pub widened_from_32-below : (s : Scalar) → scalar_size s ≤ 4 → widened_from_32 s bs < 2 ^ 64
  widened_from_32-below s narrow = (extended_from_32 s narrow).1

  pub take-widened_from_32 : (s : Scalar) → scalar_size s ≤ 4 → length bs ≡ scalar_size s → take (scalar_size s) (to_le_bytes w64 (widened_from_32 s bs)) ≡ bs
  take-widened_from_32 s narrow l =
      low_bytes s (widened_from_32 s bs) (omega arith) (extended_from_32 s narrow) l

  pub byte-widened_from_32 : (s : Scalar) (k : ℕ) → scalar_size s ≤ 4 → length bs ≡ scalar_size s → k < scalar_size s → get_or (to_le_bytes w64 (widened_from_32 s bs)) k 0 ≡ get_or bs k 0
  byte-widened_from_32 s k narrow l h =
      sym (get_or-take (scalar_size s) (to_le_bytes w64 (widened_from_32 s bs)) k 0 h) ∙ ap (λ xs. get_or xs k 0) (take-widened_from_32 s narrow l)

-- ---- the bytes of a number

byte_below : (i n : ℕ) → byte_at i n < 256
byte_below zero n = omega arith
byte_below (suc i) n = omega arith

low_first_below : (i count n k : ℕ) → get_or (bytes_low_first i count n) k 0 < 256
low_first_below i zero n k = omega arith
low_first_below i (suc count) n zero = byte_below i n
low_first_below i (suc count) n (suc k) = low_first_below (suc i) count n k

pub to_le_bytes-below : (w : Width) (n k : ℕ) → get_or (to_le_bytes w n) k 0 < 256
to_le_bytes-below w n k = low_first_below 0 (byte_len w) n k

pub bytes_of_number-below : (s : Scalar) (z : ℤ) (k : ℕ) → get_or (bytes_of_number s z) k 0 < 256
bytes_of_number-below s z k =
    to_le_bytes-below (width_of s) (modulo (bit_count (width_of s)) z) k

pub All-to_le_bytes : (w : Width) (n : ℕ) → All (λ b. b < 256) (to_le_bytes w n)
All-to_le_bytes w n =
    All-from_get_or (λ b. b < 256) (to_le_bytes w n) 0 (λ k h. to_le_bytes-below w n k)

pub All-bytes_of_number : (s : Scalar) (z : ℤ) → All (λ b. b < 256) (bytes_of_number s z)
All-bytes_of_number s z =
    All-to_le_bytes (width_of s) (modulo (bit_count (width_of s)) z)

pub length-bytes_of_number : (s : Scalar) (z : ℤ) → is_number s ≡ true → length (bytes_of_number s z) ≡ scalar_size s
length-bytes_of_number float z h = cc
length-bytes_of_number double z h = cc
length-bytes_of_number x87 z h = cc
length-bytes_of_number binary128 z h = cc
length-bytes_of_number _ z h = refl
