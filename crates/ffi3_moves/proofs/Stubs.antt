-- Where stubs keep addresses an exchange stays, but for words of the floating file that are among the places of a call.
use Rattle.std.specs.Prelude.{◌/◌, ◌%◌, ⊤}
use Rattle.std.proofs.Common.{◌≡◌, ℕ, ◌+◌, ◌-◌, ◌*◌, ◌<◌, ◌≤◌, List, [], ◌∷◌, length, get_or, ap, sym, ◌∙◌, subst, arith}
use Rattle.std.specs.Int.{w64, to_le_bytes}
use Rattle.std.specs.List.{AllByRecursion}
use Rattle.ffi3_type_spec.specs.declared.Isa.{Isa}
use Rattle.ffi3_type_spec.specs.declared.Isa.TheVariants.{Amd64}
use Rattle.ffi3_type_spec.specs.Signature.{Signature, HasNoLongDouble}
use Rattle.ffi3_place_spec.specs.declared.Loc.{Loc}
use Rattle.ffi3_place_spec.specs.declared.Loc.TheVariants.{G, F, S}
use Rattle.ffi3_place_spec.specs.Sound.{Apart, IsNoneOf, LiesIn}
use Rattle.ffi3_marshal.specs.Stored.{Stays}
use Rattle.ffi3_moves.specs.Play.{frame_at, word_from}
use Rattle.ffi3_moves.specs.Exchange.{AreBytes, image_at, words_from}
use Rattle.ffi3_moves.specs.Laws.{KeepsStubs}
use Rattle.ffi3_moves.proofs.Bytes.{word_byte, words_read}
use Rattle.ffi3_moves.proofs.Storing.{StaysLong}

-- ---- places that have no words where stubs keep addresses

abbrev pub IsLow : Loc → Type 0
IsLow (F r) = r < 32
IsLow (G r) = ⊤
IsLow (S n w) = ⊤

low : (isa : Isa) (n : ℕ) (l : Loc) → LiesIn isa n l → IsLow l
low Amd64 n (F r) h = omega (arith, h)
low _ n (F r) h = omega (arith, h)
low isa n _ h = tt

pub all_low : (isa : Isa) (n : ℕ) (ls : List Loc) → AllByRecursion (LiesIn isa n) ls → AllByRecursion IsLow ls
all_low isa n [] h = tt
all_low isa n (l ∷ ls) h = (low isa n l h.0, all_low isa n ls h.1)

low_apart : (r : ℕ) (l : Loc) → 32 ≤ r → IsLow l → Apart (F r) l
low_apart r (F a) h below = λ e. omega (arith, e, h, below)
low_apart r _ h below = tt

none_of_low : (r : ℕ) (ls : List Loc) → 32 ≤ r → AllByRecursion IsLow ls → IsNoneOf ls (F r)
none_of_low r [] h all = tt
none_of_low r (l ∷ ls) h all = (low_apart r l h all.0, none_of_low r ls h all.1)

-- ---- bytes

module _ (sp base : ℕ) (link x y : List ℕ) (long : frame_at ≤ length x) (are : AreBytes x) (keeps : StaysLong x y) where
  -- those of a word that stays
  byte_stays : (r : ℕ) → r < 40 → get_or (words_from 40 256 y) r 0 ≡ get_or (words_from 40 256 x) r 0 → (k : ℕ) → k < 8 → get_or y (256 + 8 * r + k) 0 ≡ get_or x (256 + 8 * r + k) 0
  byte_stays r below same k few =
      let word : word_from y (256 + 8 * r) ≡ word_from x (256 + 8 * r) = sym (words_read 40 256 r y below) ∙ same ∙ words_read 40 256 r x below in
      let fits : 256 + 8 * r + 8 ≤ length x = omega (arith, below, long) in
      let fits_then : 256 + 8 * r + 8 ≤ length y = omega (arith, fits, keeps.size) in
      sym (word_byte y (256 + 8 * r) fits_then keeps.are k few) ∙ ap (λ n. get_or (to_le_bytes w64 n) k 0) word ∙ word_byte x (256 + 8 * r) fits are k few

  module _ (locs : List Loc) (stays : Stays base locs (image_at sp link x) (image_at sp link y)) where
    other_stays : (k : ℕ) → 512 ≤ k → k < frame_at → IsNoneOf locs (F ((k - 256) / 8)) → get_or y k 0 ≡ get_or x k 0
    other_stays k from to none =
        let there : 256 + 8 * ((k - 256) / 8) + (k - 256) % 8 ≡ k = omega (arith, from) in
        let below : (k - 256) / 8 < 40 = omega (arith, to) in
        let few : (k - 256) % 8 < 8 = omega arith in
        subst (λ i. get_or y i 0 ≡ get_or x i 0) there (byte_stays ((k - 256) / 8) below (stays.others (F ((k - 256) / 8)) none) ((k - 256) % 8) few)

    pub stubs_kept : (s : Signature) → (HasNoLongDouble s → AllByRecursion IsLow locs) → KeepsStubs s locs x y
    stubs_kept s all = record {
      size = keeps.size;
      are = keeps.are;
      stubs = λ plain k from to. other_stays k from to (none_of_low ((k - 256) / 8) locs (omega (arith, from)) (all plain));
      others = other_stays;
    }
