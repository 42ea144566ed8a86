-- The eight bytes of a move that fills a place.
use Rattle.std.specs.Prelude.{◌^◌}
use Rattle.std.proofs.Common.{◌≡◌, ℕ, ◌-◌, ◌<◌, ◌≤◌, inl, inr, List, length, get_or, refl, sym, ◌∙◌, subst, arith}
use Rattle.std.specs.Prelude.{replicate}
use Rattle.std.specs.Int.{w64, to_le_bytes, from_le_bytes}
use Rattle.std.proofs.lemmas.Bool.{cases_lt}
use Rattle.std.proofs.lemmas.Nat.{le_bytes_8}
use Rattle.std.proofs.lemmas.List.{get_or_append_left, get_or-append_right, get_or-replicate, get_or_past, length-append, length-replicate}
use Rattle.ffi3_type_spec.specs.Value.{part}
use Rattle.ffi3_moves.specs.declared.Kind.{Kind}
use Rattle.ffi3_moves.specs.declared.Kind.TheVariants.{Zero, Sign}
use Rattle.ffi3_moves.specs.Play.{moved, sign_of, to_eight}
use Rattle.ffi3_moves.specs.Exchange.{AreBytes}
use Rattle.ffi3_moves.proofs.Extended.{IsFilledBy}

module _ (bytes : List ℕ) (few : length bytes ≤ 8) (above : ℕ) where
  pub eight_long : length (to_eight above bytes) ≡ 8
  eight_long = omega (arith, few, length-append bytes (replicate (8 - length bytes) above), length-replicate {A = ℕ} (8 - length bytes) above)

  pub eight_low : (k : ℕ) → k < length bytes → get_or (to_eight above bytes) k 0 ≡ get_or bytes k 0
  eight_low k h = get_or_append_left bytes (replicate (8 - length bytes) above) 0 k h

  pub eight_high : (k : ℕ) → length bytes ≤ k → k < 8 → get_or (to_eight above bytes) k 0 ≡ above
  eight_high k from h =
      get_or-append_right bytes (replicate (8 - length bytes) above) (length bytes) k 0 refl from ∙ get_or-replicate (8 - length bytes) (k - length bytes) above 0 (omega (arith, from, h))

  pub eight_are : above < 256 → AreBytes bytes → AreBytes (to_eight above bytes)
  eight_are small are k =
      elim (cases_lt k (length bytes)) [
        | inl low ↦ subst (λ b. b < 256) (sym (eight_low k low)) (are k)
        | inr from ↦
            elim (cases_lt k 8) [
              | inl below ↦ subst (λ b. b < 256) (sym (eight_high k from below)) small
              | inr past ↦
                  let none = get_or_past (to_eight above bytes) k 0 (omega (arith, past, eight_long)) in
                  subst (λ b. b < 256) (sym none) (omega arith)
            ]
      ]

pub sign_small : (bytes : List ℕ) → AreBytes bytes → sign_of bytes < 256
sign_small bytes are = omega (arith, are (length bytes - 1))

-- eight bytes that are the number of a place
pub record AreWord (bytes : List ℕ) (n : ℕ) : Type 0 where
  pub long : length bytes ≡ 8
  pub are : AreBytes bytes
  pub small : n < 2 ^ 64
  pub is : bytes ≡ to_le_bytes w64 n

pub eight_word : (bytes : List ℕ) (n : ℕ) → length bytes ≡ 8 → AreBytes bytes → from_le_bytes w64 bytes ≡ n → AreWord bytes n
eight_word bytes n long are is = record {
  long = long;
  are = are;
  small = omega (arith, sym is, are 0, are 1, are 2, are 3, are 4, are 5, are 6, are 7);
  is = sym (le_bytes_8 bytes n long are (sym is));
}

pub filled_word : (frame : ℕ) (source : List ℕ) (from len : ℕ) (k : Kind) (n : ℕ) → length (part source from len) ≤ 8 → AreBytes (part source from len) → IsFilledBy (part source from len) k n → AreWord (moved k frame source from len) n
filled_word frame source from len Zero n few are is =
    let bytes = part source from len in
    eight_word (to_eight 0 (part source from len)) n (eight_long (part source from len) few 0) (eight_are (part source from len) few 0 (omega arith) are) is
filled_word frame source from len Sign n few are is =
    let above = sign_of (part source from len) in
    eight_word (to_eight (sign_of (part source from len)) (part source from len)) n (eight_long (part source from len) few above) (eight_are (part source from len) few above (sign_small (part source from len) are) are) is
filled_word frame source from len _ n few are is = absurd is
