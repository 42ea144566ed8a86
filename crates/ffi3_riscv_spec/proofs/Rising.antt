-- The pieces of one argument that stand on the stack rise.
use Rattle.std.proofs.Common.{◌≡◌, ℕ, ◌+◌, ◌-◌, ◌*◌, ◌≤◌, Bool, true, false, cond, ltb, List, [], ◌∷◌, refl, arith}
use Rattle.std.specs.Prelude.{Option}
use Rattle.std.specs.List.{AllByRecursion}
use Rattle.std.proofs.lemmas.Bool.{ltb-false}
use Rattle.ffi3_type_spec.specs.Tree.{Tree}
use Rattle.ffi3_type_spec.specs.Layout.{leaf_at, size_of}
use Rattle.ffi3_place_spec.specs.declared.Loc.{Loc}
use Rattle.ffi3_place_spec.specs.declared.Loc.TheVariants.{G, S}
use Rattle.ffi3_place_spec.specs.declared.Piece.{Piece}
use Rattle.ffi3_place_spec.specs.Standard.{place_at, places_from, copy_end}
use Rattle.ffi3_place_spec.specs.Sound.{AreRising, PlaceRises}
use Rattle.ffi3_place_spec.proofs.Rising.{PlacesRise, register_rises, general_not_stack, floating_not_stack, stack_at, doublewords_rise}
use Rattle.ffi3_riscv_spec.specs.declared.Shape.{Shape}
use Rattle.ffi3_riscv_spec.specs.declared.Shape.TheVariants.{OneF, TwoF, FI, IF, Words, ByRef}
use Rattle.ffi3_riscv_spec.specs.declared.TakenWords.{TakenWords}
use Rattle.ffi3_riscv_spec.specs.Riscv.{integer_register, floating_register, floating_piece, integer_piece, word, word_pieces, extension, spot_of, is_fixed, taken_at_start, shape_after, spot_after, taken_with, spots_after}

-- ---- the stream of words

word_at_if : (w at size : ℕ) (b : Bool) → ltb w 8 ≡ b → cond {A = Loc} b (G (integer_register w)) (S (8 * (w - 8)) 8) ≡ S at size → (8 ≤ w) × (8 * (w - 8) ≡ at)
word_at_if w at size true e there = absurd (general_not_stack (integer_register w) at size there)
word_at_if w at size false e there = (ltb-false w 8 e, stack_at (8 * (w - 8)) 8 at size there)

word_at : (w at size : ℕ) → word w ≡ S at size → (8 ≤ w) × (8 * (w - 8) ≡ at)
word_at w at size there = word_at_if w at size (ltb w 8) refl there

words_rise : (w : ℕ) (t : Tree) (count : ℕ) → AreRising (word_pieces w t count)
words_rise w t count =
    doublewords_rise (λ j. word (w + j)) (size_of t) (extension t) rise 0 count
  where
    rise : PlacesRise (λ j. word (w + j))
    rise j k low v high u h at there =
        let first : 8 * (w + j - 8) ≡ low = (word_at (w + j) low v at).1 in
        let second : 8 * (w + k - 8) ≡ high = (word_at (w + k) high u there).1 in
        omega (arith, h, (word_at (w + j) low v at).0, first, second)

-- ---- by shapes

pair_rises : (p q : Piece) → ((at w : ℕ) → p.loc ≡ S at w → ⊥) → AreRising (p ∷ q ∷ [])
pair_rises p q none = (register_rises p none (q ∷ []), (tt, tt))

spot_rises : (start : ℕ → Tree → ℕ) (copies : ℕ) (before : TakenWords) (t : Tree) (shape : Shape) → PlaceRises (place_at start copies t (spot_of before t shape))
spot_rises start copies before t OneF = (tt, tt)
spot_rises start copies before t TwoF =
    pair_rises (floating_piece before.floats (leaf_at t 0)) (floating_piece (before.floats + 1) (leaf_at t 1)) (floating_not_stack (floating_register before.floats))
spot_rises start copies before t FI =
    pair_rises (floating_piece before.floats (leaf_at t 0)) (integer_piece before.words (leaf_at t 1)) (floating_not_stack (floating_register before.floats))
spot_rises start copies before t IF =
    pair_rises (integer_piece before.words (leaf_at t 0)) (floating_piece before.floats (leaf_at t 1)) (general_not_stack (integer_register before.words))
spot_rises start copies before t (Words n) = words_rise before.words t n
spot_rises start copies before t ByRef = tt

pub arguments_rise : (start : ℕ → Tree → ℕ) (copies : ℕ) (fixed : Option ℕ) (end : TakenWords) (i : ℕ) (ts : List Tree) → AllByRecursion PlaceRises (places_from start copies ts (spots_after fixed end i ts))
arguments_rise start copies fixed end i [] = tt
arguments_rise start copies fixed end i (t ∷ ts) =
    let named = is_fixed fixed i in
    (spot_rises start copies (taken_at_start end named t) t (shape_after end named t), arguments_rise start (copy_end start copies t (spot_after end named t)) fixed (taken_with end named t) (i + 1) ts)
