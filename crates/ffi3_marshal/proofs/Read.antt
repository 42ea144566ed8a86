-- What is read from a place.
use Rattle.std.proofs.Common.{◌≡◌, ℕ, ◌+◌, ◌-◌, ◌<◌, ◌≤◌, inl, inr, List, ◌++◌, map, replicate, take, drop, get_or, length, ap, sym, ◌∙◌, arith}
use Rattle.std.specs.Int.{w64, to_le_bytes, from_le_bytes}
use Rattle.std.specs.List.{replace_range, range_with_len}
use Rattle.std.proofs.lemmas.List.FromFn.{get_or-map-range_with_len, length-map-range_with_len}
use Rattle.std.proofs.lemmas.Bool.{cases_lt}
use Rattle.std.proofs.lemmas.List.{get_or-take, get_or-drop, get_or_append_left, get_or-append_right, get_or_past, get_or-replicate, length-take-le}
use Rattle.ffi3_type_spec.specs.Value.{part}
use Rattle.ffi3_type_spec.proofs.Parts.{index_part, length_part}
use Rattle.ffi3_place_spec.specs.declared.Loc.{Loc}
use Rattle.ffi3_place_spec.specs.declared.Loc.TheVariants.{S}
use Rattle.ffi3_place_spec.specs.declared.Piece.{Piece}
use Rattle.ffi3_place_spec.specs.Image.{Image, byte_at, word_at}
use Rattle.ffi3_place_spec.specs.Sound.{IsWithin, place_size}
use Rattle.ffi3_place_spec.proofs.Words.{same_number}
use Rattle.ffi3_marshal.specs.Read.{AreBytesOf, IsPieceRead}
use Rattle.ffi3_marshal.proofs.Ranges.{in_range, below_range, above_range, range_length}

abbrev pub zeros : List ℕ
zeros = replicate 8 0

is_zero : (k : ℕ) → get_or zeros k 0 ≡ 0
is_zero k =
    elim (cases_lt k 8) [
      | inl inside ↦ get_or-replicate 8 k 0 0 inside
      | inr past ↦ get_or_past zeros k 0 past
    ]

-- the bytes that the stack has from an offset on, and zeros behind them
pub stack_bytes : (base n w : ℕ) (m : Image) (bytes here : List ℕ) → base + n + w ≤ length m.stack → here ≡ part m.stack (base + n) w → bytes ≡ here ++ drop w zeros → AreBytesOf base m (S n w) bytes
stack_bytes base n w m bytes here fits is made =
    let many : length here ≡ w = ap length is ∙ length_part m.stack (base + n) w fits in
    record {
      here = λ k h. ap (λ b. get_or b k 0) made ∙ get_or_append_left here (drop w zeros) 0 k (omega (arith, h, many)) ∙ ap (λ b. get_or b k 0) is ∙ index_part m.stack (base + n) w k h;
      behind = λ k h. ap (λ b. get_or b k 0) made ∙ get_or-append_right here (drop w zeros) w k 0 many h ∙ get_or-drop w zeros (k - w) 0 ∙ is_zero (w + (k - w));
    }

-- a register's bytes
pub word_bytes : (base : ℕ) (m : Image) (l : Loc) (v : ℕ) (bytes : List ℕ) → place_size l ≡ 8 → ((k : ℕ) → byte_at m base l k ≡ get_or (to_le_bytes w64 v) k 0) → bytes ≡ to_le_bytes w64 v → AreBytesOf base m l bytes
word_bytes base m l v bytes eight there is = record {
  here = λ k h. ap (λ b. get_or b k 0) is ∙ sym (there k);
  behind = λ k h. ap (λ b. get_or b k 0) is ∙ get_or_past (to_le_bytes w64 v) k 0 (omega (arith, h, eight));
}

-- the number that a place's bytes make
pub stack_word : (base n w : ℕ) (m : Image) (bytes : List ℕ) → AreBytesOf base m (S n w) bytes → from_le_bytes w64 bytes ≡ word_at m base (S n w)
stack_word base n w m bytes are =
    same_number bytes (map (byte_at m base (S n w)) (range_with_len 0 w)) (λ k.
    elim (cases_lt k w) [
      | inl inside ↦ are.here k inside ∙ sym (get_or-map-range_with_len (byte_at m base (S n w)) 0 w k k 0 inside (omega arith))
      | inr past ↦ are.behind k past ∙ sym (get_or_past (map (byte_at m base (S n w)) (range_with_len 0 w)) k 0 (omega (arith, past, length-map-range_with_len (byte_at m base (S n w)) 0 w)))
    ])

pub piece_read : (base : ℕ) (m : Image) (p : Piece) (bytes old : List ℕ) → AreBytesOf base m p.loc bytes → length bytes ≡ 8 → IsWithin (length old) p → IsPieceRead base m p old (replace_range old p.off (p.off + p.len) (take p.len bytes))
piece_read base m p bytes old are eight within =
    let counted : p.off + length (take p.len bytes) ≡ p.off + p.len = ap (λ n. p.off + n) (length-take-le p.len bytes (omega (arith, eight, within.0))) in
    let room : p.off + p.len ≤ length old = within.1 in
    record {
      sized = range_length old (take p.len bytes) p.off (p.off + p.len) counted room;
      here = λ o c. let k : o - p.off < p.len = omega (arith, c.0, c.1) in
          in_range old (take p.len bytes) p.off (p.off + p.len) counted room o c.0 c.1 ∙ get_or-take p.len bytes (o - p.off) 0 k ∙ are.here (o - p.off) (omega (arith, k, within.2));
      others = λ o. elim (cases_lt o p.off) [
        | inl below ↦ inr (below_range old (take p.len bytes) p.off (p.off + p.len) counted room o below)
        | inr from ↦
            elim (cases_lt o (p.off + p.len)) [
              | inl to ↦ inl (from, to)
              | inr beyond ↦ inr (above_range old (take p.len bytes) p.off (p.off + p.len) counted room o beyond)
            ]
      ];
    }
