-- The bytes of a scalar's value, among those that the scalar takes.
use Rattle.std.proofs.Common.{◌≡◌, ℕ, List, length, take, sym, ap, ◌∙◌, subst, arith, refl}
use Rattle.std.proofs.Math.Seq.{take-length}
use Rattle.std.proofs.lemmas.List.{length-take-le}
use Rattle.ffi3_type_spec.specs.Tree.{Scalar, u8, s8, u16, s16, u32, s32, u128, s128, float, x87, binary128}
use Rattle.ffi3_type_spec.specs.Layout.{scalar_size, scalar_room}
use Rattle.ffi3_type_spec.specs.Value.{significant}
use Rattle.ffi3_type_spec.proofs.Layouts.{scalar_size-room}

-- all of them
all_taken : (n : ℕ) (bytes : List ℕ) → length bytes ≡ n → bytes ≡ take n bytes
all_taken n bytes h = subst (λ k. bytes ≡ take k bytes) h (sym (take-length bytes))

-- they are the first, as many as the value has
pub significant_first : (s : Scalar) (bytes : List ℕ) → length bytes ≡ scalar_room s → significant s bytes ≡ take (scalar_size s) bytes
significant_first u8 bytes h = all_taken 1 bytes h
significant_first s8 bytes h = all_taken 1 bytes h
significant_first u16 bytes h = all_taken 2 bytes h
significant_first s16 bytes h = all_taken 2 bytes h
significant_first u32 bytes h = all_taken 4 bytes h
significant_first s32 bytes h = all_taken 4 bytes h
significant_first u128 bytes h = all_taken 16 bytes h
significant_first s128 bytes h = all_taken 16 bytes h
significant_first float bytes h = all_taken 4 bytes h
significant_first x87 bytes h = refl
significant_first binary128 bytes h = all_taken 16 bytes h
significant_first _ bytes h = all_taken 8 bytes h

pub length-significant : (s : Scalar) (bytes : List ℕ) → length bytes ≡ scalar_room s → length (significant s bytes) ≡ scalar_size s
length-significant s bytes h =
    ap length (significant_first s bytes h)
    ∙ length-take-le (scalar_size s) bytes (omega (arith, h, scalar_size-room s))
