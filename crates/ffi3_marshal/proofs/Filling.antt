-- What fills the rest of a lone piece's place.
use Rattle.std.specs.Prelude.{true, ◌/◌, ◌^◌, ◌-◌}
use Rattle.std.proofs.Common.{◌≡◌, ℕ, ◌+◌, ◌<◌, ◌≤◌, List, get_or, length, refl, ap, sym, ◌∙◌, subst, arith}
use Rattle.std.specs.Int.{w64, to_le_bytes}
use Rattle.ffi3_type_spec.specs.Tree.{Tree, scalar, Scalar, u8, s8, u16, s16, u32, s32}
use Rattle.ffi3_type_spec.specs.Layout.{size_of, scalar_size, scalar_room}
use Rattle.ffi3_type_spec.specs.Integer.{is_number_type, scalar_of, widened, widened_from_32}
use Rattle.ffi3_type_spec.specs.Value.{value_in, significant}
use Rattle.ffi3_type_spec.proofs.Widened.{byte-widened, byte-widened_from_32}
use Rattle.ffi3_place_spec.specs.declared.Ext.TheVariants.{Free, Widen, Riscv, Boxed}
use Rattle.ffi3_place_spec.specs.declared.Piece.{Piece}
use Rattle.ffi3_place_spec.specs.Image.{Image, word_at}
use Rattle.ffi3_place_spec.specs.Holds.{FillsAs}
use Rattle.ffi3_place_spec.specs.Sound.{is_narrow_integer, IsExtended}
use Rattle.ffi3_marshal.specs.Stored.{IsSet, IsStored, IsWordPut}

-- a narrow integer is a number of four bytes at most; it takes the bytes of its value and no more, and all of them are its value
narrow : (s : Scalar) → is_narrow_integer (scalar s) ≡ true → (is_number_type (scalar s) ≡ true) × (scalar_size s ≤ 4) × (scalar_room s ≡ scalar_size s) × ((bytes : List ℕ) → bytes ≡ significant s bytes)
narrow u8 h = (refl, omega arith, refl, λ bytes. refl)
narrow s8 h = (refl, omega arith, refl, λ bytes. refl)
narrow u16 h = (refl, omega arith, refl, λ bytes. refl)
narrow s16 h = (refl, omega arith, refl, λ bytes. refl)
narrow u32 h = (refl, omega arith, refl, λ bytes. refl)
narrow s32 h = (refl, omega arith, refl, λ bytes. refl)
narrow _ h = cc

pub narrow_number : (t : Tree) → is_narrow_integer t ≡ true → is_number_type t ≡ true
narrow_number (scalar s) h = (narrow s h).0
narrow_number _ h = cc

pub narrow_small : (t : Tree) → is_narrow_integer t ≡ true → size_of t ≤ 8
narrow_small (scalar s) h = omega (arith, (narrow s h).1, (narrow s h).2)
narrow_small _ h = cc

-- ---- a place whose rest is filled is not left free

module _ (base : ℕ) (bytes : List ℕ) (p : Piece) (old new : Image) where
  pub free_stored : (t : Tree) → p.ext ≡ Free → IsSet base p bytes old new → IsStored base t bytes p old new
  free_stored t ext is = record {
    stands = record {
      held = is.held;
      filled = subst (λ e. FillsAs e (word_at new base p.loc) t (value_in t bytes)) (sym ext) tt;
    };
    kept = λ free. is.kept;
    stays = is.stays;
  }

  pub boxed_stored : (t : Tree) (w : ℕ) → p.ext ≡ Boxed → p.len ≡ 4 → ((k : ℕ) → k < 4 → get_or (to_le_bytes w64 w) k 0 ≡ get_or bytes (p.off + k) 0) → w / 2 ^ 32 ≡ 2 ^ 32 - 1 → IsWordPut base p.loc w old new → IsStored base t bytes p old new
  boxed_stored t w ext four low ones is = record {
    stands = record {
      held = λ k h. is.here k (omega (arith, h, four)) ∙ low k (omega (arith, h, four));
      filled = subst (λ e. FillsAs e (word_at new base p.loc) t (value_in t bytes)) (sym ext) (ap (λ n. n / 2 ^ 32) is.word ∙ ones);
    };
    kept = λ free. cc;
    stays = is.stays;
  }

  module _ (small : (k : ℕ) → get_or bytes k 0 < 256) where
    -- a number that fills the place of a whole narrow integer
    number_stored : (s : Scalar) (w : ℕ) → is_narrow_integer (scalar s) ≡ true → p.off ≡ 0 → p.len ≡ scalar_room s → (p.ext ≡ Free → ⊥) → ((k : ℕ) → k < scalar_size s → get_or (to_le_bytes w64 w) k 0 ≡ get_or bytes k 0) → FillsAs p.ext (word_at new base p.loc) (scalar s) (value_in (scalar s) bytes) → IsWordPut base p.loc w old new → IsStored base (scalar s) bytes p old new
    number_stored s w h start all filled low fills is =
        let few = narrow s h in record {
          stands = record {
            held = λ k below.
                let at : k ≡ p.off + k = omega (arith, start) in
                is.here k (omega (arith, below, all, few.1, few.2)) ∙ low k (omega (arith, below, all, few.2)) ∙ ap (λ n. get_or bytes n 0) at;
            filled = fills;
          };
          kept = λ free. absurd (filled free);
          stays = is.stays;
        }

    pub widened_stored : (t : Tree) (w : ℕ) → p.ext ≡ Widen → IsExtended t p Widen → length bytes ≡ size_of t → w ≡ widened (scalar_of t) bytes → IsWordPut base p.loc w old new → IsStored base t bytes p old new
    widened_stored (scalar s) w ext e sized word is =
        let few = narrow s e.0 in
        number_stored s w e.0 e.1 e.2 (λ free. cc) (λ k h. ap (λ n. get_or (to_le_bytes w64 n) k 0) word ∙ byte-widened bytes small s k (omega (arith, few.1)) (sized ∙ few.2) h) (subst (λ x. FillsAs x (word_at new base p.loc) (scalar s) (value_in (scalar s) bytes)) (sym ext) (is.word ∙ word ∙ ap (widened s) (few.3 bytes))) is
    widened_stored _ w ext e sized word is = cc (e.0)

    pub from_32_stored : (t : Tree) (w : ℕ) → p.ext ≡ Riscv → IsExtended t p Riscv → length bytes ≡ size_of t → w ≡ widened_from_32 (scalar_of t) bytes → IsWordPut base p.loc w old new → IsStored base t bytes p old new
    from_32_stored (scalar s) w ext e sized word is =
        let few = narrow s e.0 in
        number_stored s w e.0 e.1 e.2 (λ free. cc) (λ k h. ap (λ n. get_or (to_le_bytes w64 n) k 0) word ∙ byte-widened_from_32 bytes small s k few.1 (sized ∙ few.2) h) (subst (λ x. FillsAs x (word_at new base p.loc) (scalar s) (value_in (scalar s) bytes)) (sym ext) (is.word ∙ word ∙ ap (widened_from_32 s) (few.3 bytes))) is
    from_32_stored _ w ext e sized word is = cc (e.0)
