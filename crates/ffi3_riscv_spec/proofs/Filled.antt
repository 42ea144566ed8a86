-- What fills the rest of each place is what the standard says: a lone narrow integer is extended, a float in a floating register is NaN-boxed.
use Rattle.std.proofs.Common.{◌≡◌, ℕ, ◌+◌, ◌-◌, ◌*◌, Bool, true, false, cond, ltb, List, [], ◌∷◌, length, refl, arith}
use Rattle.std.specs.Prelude.{Option}
use Rattle.ffi3_type_spec.specs.Tree.{Tree, scalar, Scalar, u8, float, double}
use Rattle.ffi3_type_spec.specs.Layout.{Leaf, leaves_of, leaf_at, size_of, scalar_size}
use Rattle.ffi3_type_spec.specs.Integer.{is_floating, is_integer}
use Rattle.ffi3_place_spec.specs.declared.Loc.{Loc}
use Rattle.ffi3_place_spec.specs.declared.Loc.TheVariants.{G, F, S}
use Rattle.ffi3_place_spec.specs.declared.Ext.TheVariants.{Boxed}
use Rattle.ffi3_place_spec.specs.Standard.{copy_end, place_at, places_from}
use Rattle.ffi3_place_spec.specs.Sound.{is_narrow_integer, is_floating_place, IsFilled, IsWhole, PlaceIsFilled, PlacesAreFilled}
use Rattle.ffi3_place_spec.proofs.Tests.{and_left}
use Rattle.ffi3_place_spec.proofs.Filled.{doublewords_filled, no_narrow_place}
use Rattle.ffi3_riscv_spec.specs.declared.Shape.{Shape}
use Rattle.ffi3_riscv_spec.specs.declared.Shape.TheVariants.{OneF, TwoF, FI, IF, Words, ByRef}
use Rattle.ffi3_riscv_spec.specs.declared.TakenWords.{TakenWords}
use Rattle.ffi3_riscv_spec.specs.Riscv.{riscv, integer_register, floating_register, word, boxing, floating_piece, integer_piece, spot_of, is_fixed, taken_at_start, shape_after, spot_after, taken_with, spots_after}
use Rattle.ffi3_riscv_spec.proofs.Shapes.{Suits, HasFloats, passed_suits, passed_floats}

-- ---- values that are no lone narrow integer

no_integer : (s : Scalar) → is_floating s ≡ true → is_integer s ≡ true → ⊥
no_integer u8 f i = cc
no_integer _ f i = cc

first_floats : (t : Tree) → is_floating (leaf_at t 0).kind ≡ true → is_narrow_integer t ≡ true → ⊥
first_floats (scalar s) f n = no_integer s f (and_left (is_integer s) _ n)
first_floats _ f n = cc

has_two : (t : Tree) → length (leaves_of t) ≡ 2 → is_narrow_integer t ≡ true → ⊥
has_two (scalar s) e n = absurd (omega (arith, e))
has_two _ e n = cc

-- ---- pieces

float_boxed : (s : Scalar) → is_floating s ≡ true → scalar_size s ≡ 4 → boxing s ≡ Boxed
float_boxed float f e = refl
float_boxed double f e = absurd (omega (arith, e))
float_boxed _ f e = cc

module _ (t : Tree) (wide : is_narrow_integer t ≡ true → ⊥) where
  floating_filled : (f : ℕ) (l : Leaf) → is_floating l.kind ≡ true → IsFilled riscv t (floating_piece f l)
  floating_filled f l floats = record { narrow = λ n _. absurd (wide n); single = λ _ e. float_boxed l.kind floats e; narrow_place = no_narrow_place (F (floating_register f)) refl }

  integer_filled : (w : ℕ) (l : Leaf) → IsFilled riscv t (integer_piece w l)
  integer_filled w l = record { narrow = λ n _. absurd (wide n); single = λ h e. absurd (in_general h); narrow_place = no_narrow_place (G (integer_register w)) refl }
    where
      in_general : is_floating_place (G (integer_register w)) ≡ true → ⊥
      in_general h = cc

word_if : (w : ℕ) (b : Bool) → is_floating_place (cond {A = Loc} b (G (integer_register w)) (S (8 * (w - 8)) 8)) ≡ false
word_if w true = refl
word_if w false = refl

word_not_floating : (w : ℕ) → is_floating_place (word w) ≡ false
word_not_floating w = word_if w (ltb w 8)

whole_if : (w : ℕ) (b : Bool) → IsWhole (cond {A = Loc} b (G (integer_register w)) (S (8 * (w - 8)) 8))
whole_if w true = refl
whole_if w false = refl

word_whole : (w : ℕ) → IsWhole (word w)
word_whole w = whole_if w (ltb w 8)

-- ---- by shapes

pub spot_filled : (start : ℕ → Tree → ℕ) (copies : ℕ) (before : TakenWords) (t : Tree) (shape : Shape) → Suits (size_of t) (leaves_of t) shape → HasFloats (leaves_of t) shape → PlaceIsFilled riscv t (place_at start copies t (spot_of before t shape))
spot_filled start copies before t OneF h f =
    (floating_filled t (first_floats t f) before.floats (leaf_at t 0) f, tt)
spot_filled start copies before t TwoF h f =
    (floating_filled t (has_two t h) before.floats (leaf_at t 0) f.0, (floating_filled t (has_two t h) (before.floats + 1) (leaf_at t 1) f.1, tt))
spot_filled start copies before t FI h f =
    (floating_filled t (has_two t h) before.floats (leaf_at t 0) f, (integer_filled t (has_two t h) before.words (leaf_at t 1), tt))
spot_filled start copies before t IF h f =
    (integer_filled t (has_two t h) before.words (leaf_at t 0), (floating_filled t (has_two t h) before.floats (leaf_at t 1) f, tt))
spot_filled start copies before t (Words n) h f =
    doublewords_filled riscv t (λ j. word (before.words + j)) (λ j. word_not_floating (before.words + j)) (λ j. word_whole (before.words + j)) 0 n
spot_filled start copies before t ByRef h f = tt

pub arguments_filled : (start : ℕ → Tree → ℕ) (copies : ℕ) (fixed : Option ℕ) (end : TakenWords) (i : ℕ) (ts : List Tree) → PlacesAreFilled riscv ts (places_from start copies ts (spots_after fixed end i ts))
arguments_filled start copies fixed end i [] = tt
arguments_filled start copies fixed end i (t ∷ ts) =
    let named = is_fixed fixed i in
    let before = taken_at_start end named t in
    (spot_filled start copies before t (shape_after end named t) (passed_suits before named t) (passed_floats before named t), arguments_filled start (copy_end start copies t (spot_after end named t)) fixed (taken_with end named t) (i + 1) ts)
