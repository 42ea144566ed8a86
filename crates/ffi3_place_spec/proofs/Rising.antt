-- Pieces of which those on the stack rise: doublewords at rising places, and pieces in registers.
use Rattle.std.proofs.Common.{◌≡◌, ℕ, zero, suc, ◌+◌, ◌*◌, ◌<◌, ◌≤◌, List, [], ◌∷◌, arith}
use Rattle.std.specs.List.{AllByRecursion}
use Rattle.ffi3_type_spec.specs.Tree.{Tree}
use Rattle.ffi3_type_spec.specs.Layout.{size_of}
use Rattle.ffi3_place_spec.specs.declared.Loc.{Loc}
use Rattle.ffi3_place_spec.specs.declared.Loc.TheVariants.{G, F, S}
use Rattle.ffi3_place_spec.specs.declared.Ext.{Ext}
use Rattle.ffi3_place_spec.specs.declared.Piece.{Piece}
use Rattle.ffi3_place_spec.specs.Standard.{doubleword}
use Rattle.ffi3_place_spec.specs.Doublewords.{doublewords, widening, doublewords_at, stack_pieces}
use Rattle.ffi3_place_spec.specs.Sound.{RisesTo, AreRising}

-- a piece that is not on the stack says nothing of those after it
pub register_rises : (p : Piece) → ((at w : ℕ) → p.loc ≡ S at w → ⊥) → (ps : List Piece) → AllByRecursion (RisesTo p) ps
register_rises p none [] = tt
register_rises p none (q ∷ qs) = ((λ low v high w at there. absurd (none low v at)), register_rises p none qs)

pub general_not_stack : (r at w : ℕ) → G r ≡ S at w → ⊥
general_not_stack r at w e = cc

pub floating_not_stack : (r at w : ℕ) → F r ≡ S at w → ⊥
floating_not_stack r at w e = cc

-- of these places, those on the stack rise by eight bytes at least
abbrev pub PlacesRise : (ℕ → Loc) → Type 0
PlacesRise place =
    (j k low v high w : ℕ) → j < k → place j ≡ S low v → place k ≡ S high w → low + 8 ≤ high

module _ (place : ℕ → Loc) (size : ℕ) (e : Ext) (rise : PlacesRise place) where
  doubleword_rises : (j k : ℕ) → j < k → RisesTo (doubleword (place j) j size e) (doubleword (place k) k size e)
  doubleword_rises j k h low v high w at there =
      let above : low + 8 ≤ high = rise j k low v high w h at there in
      (omega (arith, above), omega (arith, h))

  doubleword_below : (j k count : ℕ) → j < k → AllByRecursion (RisesTo (doubleword (place j) j size e)) (doublewords_at place size e k count)
  doubleword_below j k zero h = tt
  doubleword_below j k (suc count) h =
      (doubleword_rises j k h, doubleword_below j (k + 1) count (omega (arith, h)))

  pub doublewords_rise : (j count : ℕ) → AreRising (doublewords_at place size e j count)
  doublewords_rise j zero = tt
  doublewords_rise j (suc count) =
      (doubleword_below j (j + 1) count (omega arith), doublewords_rise (j + 1) count)

pub stack_at : (low v high w : ℕ) → S low v ≡ S high w → low ≡ high
stack_at low v high w e = cc

pub stack_rises : (start : ℕ) (t : Tree) → AreRising (stack_pieces start t)
stack_rises start t =
    doublewords_rise (λ j. S (start + 8 * j) 8) (size_of t) (widening t) rise 0 (doublewords t)
  where
    rise : PlacesRise (λ j. S (start + 8 * j) 8)
    rise j k low v high w h at there =
        omega (arith, h, stack_at (start + 8 * j) 8 low v at, stack_at (start + 8 * k) 8 high w there)

pub generals_rise : (g size : ℕ) (e : Ext) (j count : ℕ) → AreRising (doublewords_at (λ k. G (g + k)) size e j count)
generals_rise g size e j count =
    doublewords_rise (λ k. G (g + k)) size e (λ i k low v high w h at there. absurd (general_not_stack (g + i) low v at)) j count
