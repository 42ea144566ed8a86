-- A place's word and its eight bytes, and what fills the rest of a place.
use Rattle.std.specs.Prelude.{◌/◌, ◌%◌, ◌^◌, ◌-◌, ◌*◌, cond, nat_lt}
use Rattle.std.proofs.Common.{◌≡◌, ℕ, ◌+◌, ◌<◌, ◌≤◌, true, false, List, [], ◌∷◌, map, get_or, refl, ap, sym, ◌∙◌, inl, inr, arith}
use Rattle.std.specs.List.{range_with_len}
use Rattle.std.specs.Int.{w64, to_le_bytes, from_le_bytes}
use Rattle.std.proofs.lemmas.Bool.{cases_lt}
use Rattle.std.proofs.lemmas.Bool.Decides.{nat_tests}
use Rattle.std.proofs.lemmas.Nat.{le_bytes_8, from_le_bytes-to_le_bytes_8}
use Rattle.std.proofs.lemmas.List.{get_or-take, get_or_past}
use Rattle.std.proofs.lemmas.List.FromFn.{length-map-range_with_len, get_or-map-range_with_len}
use Rattle.ffi3_type_spec.specs.Tree.{Tree, scalar}
use Rattle.ffi3_type_spec.specs.Value.{ValueTree, leaf_value}
use Rattle.ffi3_type_spec.proofs.Widened.{low_bytes_32, to_le_bytes-below}
use Rattle.ffi3_place_spec.specs.declared.Loc.{Loc}
use Rattle.ffi3_place_spec.specs.declared.Loc.TheVariants.{G, F, S}
use Rattle.ffi3_place_spec.specs.declared.Ext.{Ext}
use Rattle.ffi3_place_spec.specs.declared.Ext.TheVariants.{Widen, Riscv, Boxed}
use Rattle.ffi3_place_spec.specs.Image.{Image, byte_at, word_at}
use Rattle.ffi3_place_spec.specs.Locs.{place_size}
use Rattle.ffi3_place_spec.specs.Holds.{FillsAs}
use Rattle.ffi3_place_spec.proofs.Tests.{each_of_eight}
use Rattle.ffi3_explain_spec.specs.Explain.{place_byte, eight, extended}
use Rattle.ffi3_explain_spec.specs.Laws.{HasWords}

pub index_eight : (f : ℕ → ℕ) (k : ℕ) → k < 8 → get_or (eight f) k 0 ≡ f k
index_eight f = each_of_eight (λ k. get_or (eight f) k 0 ≡ f k) refl refl refl refl refl refl refl refl

pub same_eight : (f g : ℕ → ℕ) → ((k : ℕ) → k < 8 → f k ≡ g k) → eight f ≡ eight g
same_eight f g h =
    λ i. h 0 (omega arith) i ∷ h 1 (omega arith) i ∷ h 2 (omega arith) i ∷ h 3 (omega arith) i ∷ h 4 (omega arith) i ∷ h 5 (omega arith) i ∷ h 6 (omega arith) i ∷ h 7 (omega arith) i ∷ []

small_eight : (f : ℕ → ℕ) → ((k : ℕ) → f k < 256) → (k : ℕ) → get_or (eight f) k 0 < 256
small_eight f h k =
    elim (cases_lt k 8) [
      | inl below ↦ each_of_eight (λ n. get_or (eight f) n 0 < 256) (h 0) (h 1) (h 2) (h 3) (h 4) (h 5) (h 6) (h 7) k below
      | inr past ↦ omega (arith, get_or_past (eight f) k 0 past)
    ]

pub bytes_of_eight : (f : ℕ → ℕ) → ((k : ℕ) → f k < 256) → to_le_bytes w64 (from_le_bytes w64 (eight f)) ≡ eight f
bytes_of_eight f h = le_bytes_8 (eight f) (from_le_bytes w64 (eight f)) refl (small_eight f h) refl

-- lists with the same first eight bytes make the same number
same_number : (xs ys : List ℕ) → ((k : ℕ) → k < 8 → get_or xs k 0 ≡ get_or ys k 0) → from_le_bytes w64 xs ≡ from_le_bytes w64 ys
same_number xs ys h = ap (from_le_bytes w64) (same_eight (λ k. get_or xs k 0) (λ k. get_or ys k 0) h)

-- a byte within the place, and one behind its end
pub place_byte_is : (m : Image) (base : ℕ) (at : Loc) (k : ℕ) → k < place_size at → place_byte m base at k ≡ byte_at m base at k
place_byte_is m base at k h =
    let within : nat_lt k (place_size at) ≡ true = grind (arith, nat_tests, h) in
    ap (λ b. cond b (byte_at m base at k) 0) within

pub place_byte_behind : (m : Image) (base : ℕ) (at : Loc) (k : ℕ) → place_size at ≤ k → place_byte m base at k ≡ 0
place_byte_behind m base at k h =
    let behind : nat_lt k (place_size at) ≡ false = grind (arith, nat_tests, h) in
    ap (λ b. cond b (byte_at m base at k) 0) behind

module _ (m : Image) (base : ℕ) (has : HasWords m) where
  pub byte_small : (at : Loc) (k : ℕ) → byte_at m base at k < 256
  byte_small (G r) k = to_le_bytes-below w64 (get_or m.general r 0) k
  byte_small (F r) k = to_le_bytes-below w64 (get_or m.floating r 0) k
  byte_small (S n w) k = has.bytes (base + n + k)

  pub place_byte_small : (at : Loc) (k : ℕ) → place_byte m base at k < 256
  place_byte_small at k =
      elim (nat_lt k (place_size at)) as (λ b. cond b (byte_at m base at k) 0 < 256) [ true ↦ byte_small at k | false ↦ omega arith ]

  stack_byte : (n w k : ℕ) → k < 8 → get_or (map (byte_at m base (S n w)) (range_with_len 0 w)) k 0 ≡ get_or (eight (place_byte m base (S n w))) k 0
  stack_byte n w k h =
      let of_place = index_eight (place_byte m base (S n w)) k h in
      elim (cases_lt k w) [
        | inl within ↦ get_or-map-range_with_len (byte_at m base (S n w)) 0 w k k 0 within (omega arith) ∙ sym (place_byte_is m base (S n w) k within) ∙ sym of_place
        | inr past ↦ get_or_past (map (byte_at m base (S n w)) (range_with_len 0 w)) k 0 (omega (arith, past, length-map-range_with_len (byte_at m base (S n w)) 0 w)) ∙ sym (place_byte_behind m base (S n w) k past) ∙ sym of_place
      ]

  pub word_of_bytes : (at : Loc) → word_at m base at ≡ from_le_bytes w64 (eight (place_byte m base at))
  word_of_bytes (G r) = sym (from_le_bytes-to_le_bytes_8 (get_or m.general r 0) (has.general r))
  word_of_bytes (F r) = sym (from_le_bytes-to_le_bytes_8 (get_or m.floating r 0) (has.floating r))
  word_of_bytes (S n w) =
      same_number (map (byte_at m base (S n w)) (range_with_len 0 w)) (eight (place_byte m base (S n w))) (stack_byte n w)

  pub bytes_of_word : (at : Loc) → to_le_bytes w64 (word_at m base at) ≡ eight (place_byte m base at)
  bytes_of_word at =
      ap (to_le_bytes w64) (word_of_bytes at) ∙ bytes_of_eight (place_byte m base at) (place_byte_small at)

  -- the byte of a place is that of its word
  pub byte_of_word : (at : Loc) (k : ℕ) → k < 8 → place_byte m base at k ≡ get_or (to_le_bytes w64 (word_at m base at)) k 0
  byte_of_word at k h =
      sym (index_eight (place_byte m base at) k h) ∙ ap (λ xs. get_or xs k 0) (sym (bytes_of_word at))

-- numbers that agree in their lower half have the same first four bytes
pub low_half : (a b k : ℕ) → k < 4 → a % 2 ^ 32 ≡ b % 2 ^ 32 → get_or (to_le_bytes w64 a) k 0 ≡ get_or (to_le_bytes w64 b) k 0
low_half a b k h e =
    let same = low_bytes_32 a (b % 2 ^ 32) e ∙ sym (low_bytes_32 b (b % 2 ^ 32) refl) in
    sym (get_or-take 4 (to_le_bytes w64 a) k 0 h) ∙ ap (λ xs. get_or xs k 0) same ∙ get_or-take 4 (to_le_bytes w64 b) k 0 h

pub boxed_half : (a b : ℕ) → a ≡ (2 ^ 32 - 1) * 2 ^ 32 + b % 2 ^ 32 → (a / 2 ^ 32 ≡ 2 ^ 32 - 1) × (a % 2 ^ 32 ≡ b % 2 ^ 32)
boxed_half a b e = (omega (arith, e), omega (arith, e))

boxed_whole : (a b : ℕ) → a ≡ b → a / 2 ^ 32 ≡ 2 ^ 32 - 1 → a ≡ (2 ^ 32 - 1) * 2 ^ 32 + b % 2 ^ 32
boxed_whole a b e ones = omega (arith, e, ones)

-- what is wanted of a word fills it as the standard says
pub fills : (e : Ext) (t : Tree) (v : ValueTree) (word low : ℕ) → word ≡ extended e t v low → FillsAs e word t v
fills Boxed t v word low is = (boxed_half word low is).0
fills Widen (scalar s) (leaf_value bytes) word low is = is
fills Riscv (scalar s) (leaf_value bytes) word low is = is
fills _ _ _ word low is = tt

-- and the other way round, where the bytes are as they are wanted
pub extends : (e : Ext) (t : Tree) (v : ValueTree) (word low : ℕ) → word ≡ low → FillsAs e word t v → word ≡ extended e t v low
extends Boxed t v word low is f = boxed_whole word low is f
extends Widen (scalar s) (leaf_value bytes) word low is f = f
extends Riscv (scalar s) (leaf_value bytes) word low is f = f
extends _ _ _ word low is f = is
