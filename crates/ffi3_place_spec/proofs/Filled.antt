-- Pieces that are filled as the standard says: doublewords of one value, and references.
use Rattle.std.proofs.Common.{◌≡◌, ℕ, zero, suc, ◌+◌, ◌<◌, true, false, refl, arith}
use Rattle.std.specs.List.{AllByRecursion}
use Rattle.ffi3_type_spec.specs.Tree.{Tree, scalar, u8, s8, u16, s16, u32, s32}
use Rattle.ffi3_type_spec.specs.Layout.{size_of}
use Rattle.ffi3_place_spec.specs.declared.Loc.{Loc}
use Rattle.ffi3_place_spec.specs.declared.Ext.{Ext}
use Rattle.ffi3_place_spec.specs.Standard.{Standard}
use Rattle.ffi3_place_spec.specs.Doublewords.{doublewords_at, filling}
use Rattle.ffi3_place_spec.specs.Sound.{is_narrow_integer, is_floating_place, IsFilled, IsWhole, place_size}

-- a lone narrow integer's filling is the one given
pub narrow_filling : (e : Ext) (t : Tree) → is_narrow_integer t ≡ true → filling e t ≡ e
narrow_filling e (scalar u8) h = refl
narrow_filling e (scalar s8) h = refl
narrow_filling e (scalar u16) h = refl
narrow_filling e (scalar s16) h = refl
narrow_filling e (scalar u32) h = refl
narrow_filling e (scalar s32) h = refl
narrow_filling e _ h = cc

-- a place of eight bytes is no narrower one
pub no_narrow_place : {n : ℕ} (l : Loc) → IsWhole l → place_size l < 8 → n ≡ place_size l
no_narrow_place l whole h = absurd (omega (arith, whole, h))

-- doublewords in places of eight bytes, none of which is a floating register
pub doublewords_filled : (std : Standard) (t : Tree) (place : ℕ → Loc) → ((j : ℕ) → is_floating_place (place j) ≡ false) → ((j : ℕ) → IsWhole (place j)) → (j count : ℕ) → AllByRecursion (IsFilled std t) (doublewords_at place (size_of t) (filling std.narrow t) j count)
doublewords_filled std t place none whole j zero = tt
doublewords_filled std t place none whole j (suc count) =
    (record { narrow = λ is_narrow _. narrow_filling std.narrow t is_narrow; single = λ is_floating. absurd (differ (place j) is_floating (none j)); narrow_place = no_narrow_place (place j) (whole j) }, doublewords_filled std t place none whole (j + 1) count)
  where
    differ : (l : Loc) → is_floating_place l ≡ true → is_floating_place l ≡ false → ⊥
    differ l a b = cc
