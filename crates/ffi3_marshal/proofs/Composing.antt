-- Stores one after another.
use Rattle.std.proofs.Common.{◌≡◌, inl, inr, ⊎_elim, ℕ, ◌<◌, List, [], ◌∷◌, ◌++◌, get_or, sym, ◌∙◌, ap, refl, arith}
use Rattle.std.specs.Int.{w64, to_le_bytes, from_le_bytes}
use Rattle.ffi3_place_spec.specs.declared.Loc.{Loc}
use Rattle.ffi3_place_spec.specs.declared.Loc.TheVariants.{G, F, S}
use Rattle.ffi3_place_spec.specs.Image.{Image, byte_at, word_at}
use Rattle.ffi3_place_spec.specs.Sound.{place_size, IsWhole, Apart, IsNoneOf}
use Rattle.ffi3_place_spec.proofs.Words.{same_bytes}
use Rattle.ffi3_marshal.specs.Stored.{IsPlace, SameAt, Stays}

pub apart_sym : (a b : Loc) → Apart a b → Apart b a
apart_sym (G a) (G b) h = λ e. h (sym e)
apart_sym (F a) (F b) h = λ e. h (sym e)
apart_sym (S a v) (S b w) h = ⊎_elim (λ x. inr x) (λ x. inl x) h
apart_sym _ _ h = tt

pub none_append : (ls ks : List Loc) (l : Loc) → IsNoneOf (ls ++ ks) l → IsNoneOf ls l × IsNoneOf ks l
none_append [] ks l h = (tt, h)
none_append (x ∷ ls) ks l h = let rest = none_append ls ks l h.1 in ((h.0, rest.0), rest.1)

-- a register has eight bytes
pub register_is_whole : (l : Loc) → IsPlace 0 l → IsWhole l
register_is_whole (S n w) lies = absurd (omega (arith, lies.0, lies.1))
register_is_whole _ lies = refl

-- ---- the same at a place

pub same_itself : (base : ℕ) (l : Loc) (m : Image) → SameAt base l m m
same_itself base (S n w) m = λ k h. refl
same_itself base _ m = refl

pub same_then : (base : ℕ) (l : Loc) (a b c : Image) → SameAt base l a b → SameAt base l b c → SameAt base l a c
same_then base (S n w) a b c s t = λ k h. t k h ∙ s k h
same_then base _ a b c s t = t ∙ s

pub same_byte : (base : ℕ) (l : Loc) (a b : Image) → SameAt base l a b → (k : ℕ) → k < place_size l → byte_at b base l k ≡ byte_at a base l k
same_byte base (S n w) a b s k h = s k h
same_byte base _ a b s k h = ap (λ n. get_or (to_le_bytes w64 n) k 0) s

pub same_word_at : (base : ℕ) (l : Loc) (a b : Image) → SameAt base l a b → word_at b base l ≡ word_at a base l
same_word_at base (S n w) a b s =
    ap (from_le_bytes w64) (same_bytes (byte_at b base (S n w)) (byte_at a base (S n w)) w s)
same_word_at base _ a b s = s

pub stays_none : (base : ℕ) (m : Image) → Stays base [] m m
stays_none base m = record { sp = refl; size = refl; below = λ i h. refl; others = λ l none. same_itself base l m }

-- first the places ls, then ks
pub stays_then : (base : ℕ) (ls ks : List Loc) (a b c : Image) → Stays base ls a b → Stays base ks b c → Stays base (ks ++ ls) a c
stays_then base ls ks a b c s t = record {
  sp = t.sp ∙ s.sp;
  size = t.size ∙ s.size;
  below = λ i h. t.below i h ∙ s.below i h;
  others = λ l none. let parts = none_append ks ls l none in same_then base l a b c (s.others l parts.1) (t.others l parts.0);
}
