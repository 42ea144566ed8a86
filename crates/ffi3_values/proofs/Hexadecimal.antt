-- What the crate `hex` writes of bytes is their hexadecimal text.
use Rattle.std.proofs.Common.{◌≡◌, ℕ, zero, suc, ◌/◌, ◌%◌, ◌<◌, false, List, [], ◌∷◌, slice_index, refl, ap₂, arith}
use Rattle.std.specs.Fmt.{digit_glyph}
use Rattle.hex.specs.Hex.{encode_with, encode_lower, lower_digits}
use Rattle.ffi3_type_spec.specs.ValueText.{hexadecimal}

digit_is : (n : ℕ) → n < 16 → slice_index lower_digits n ≡ digit_glyph false n
digit_is zero below = refl
digit_is (suc zero) below = refl
digit_is (suc (suc zero)) below = refl
digit_is (suc (suc (suc zero))) below = refl
digit_is (suc (suc (suc (suc zero)))) below = refl
digit_is (suc (suc (suc (suc (suc zero))))) below = refl
digit_is (suc (suc (suc (suc (suc (suc zero)))))) below = refl
digit_is (suc (suc (suc (suc (suc (suc (suc zero))))))) below = refl
digit_is (suc (suc (suc (suc (suc (suc (suc (suc zero)))))))) below = refl
digit_is (suc (suc (suc (suc (suc (suc (suc (suc (suc zero))))))))) below = refl
digit_is (suc (suc (suc (suc (suc (suc (suc (suc (suc (suc zero)))))))))) below = refl
digit_is (suc (suc (suc (suc (suc (suc (suc (suc (suc (suc (suc zero))))))))))) below = refl
digit_is (suc (suc (suc (suc (suc (suc (suc (suc (suc (suc (suc (suc zero)))))))))))) below = refl
digit_is (suc (suc (suc (suc (suc (suc (suc (suc (suc (suc (suc (suc (suc zero))))))))))))) below = refl
digit_is (suc (suc (suc (suc (suc (suc (suc (suc (suc (suc (suc (suc (suc (suc zero)))))))))))))) below = refl
digit_is (suc (suc (suc (suc (suc (suc (suc (suc (suc (suc (suc (suc (suc (suc (suc zero))))))))))))))) below = refl
digit_is (suc (suc (suc (suc (suc (suc (suc (suc (suc (suc (suc (suc (suc (suc (suc (suc n)))))))))))))))) below = absurd (omega arith)

pub encoded : (bytes : List ℕ) → ((i : ℕ) → slice_index bytes i < 256) → encode_lower bytes ≡ hexadecimal bytes
unfolding encode_with
encoded [] small = refl
encoded (b ∷ bytes) small =
    let here : b < 256 = small 0 in
    let rest = encoded bytes (λ i. small (suc i)) in
    let high = digit_is (b / 16) (omega arith) in
    let low = digit_is (b % 16) (omega arith) in
    ap₂ (λ (x : ℕ) (xs : List ℕ). x ∷ xs) high (ap₂ (λ (x : ℕ) (xs : List ℕ). x ∷ xs) low rest)
