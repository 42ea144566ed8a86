-- The moves of a value store it at its places, in the image that an exchange is.
use Rattle.std.specs.Prelude.{true, ◌/◌, ◌^◌}
use Rattle.std.proofs.Common.{◌≡◌, ℕ, ◌+◌, ◌-◌, ◌*◌, ◌<◌, ◌≤◌, List, [], ◌∷◌, ◌++◌, length, get_or, refl, ap, sym, ◌∙◌, subst, arith}
use Rattle.std.specs.Int.{w64, to_le_bytes, from_le_bytes}
use Rattle.std.specs.List.{AllByRecursion}
use Rattle.ffi3_type_spec.specs.Tree.{Tree, Scalar, scalar}
use Rattle.ffi3_type_spec.specs.Layout.{scalar_size, size_of}
use Rattle.ffi3_type_spec.specs.Integer.{scalar_of, widened, widened_from_32}
use Rattle.ffi3_type_spec.specs.Value.{part}
use Rattle.ffi3_type_spec.proofs.Parts.{index_part, length_part}
use Rattle.ffi3_place_spec.specs.declared.Loc.{Loc}
use Rattle.ffi3_place_spec.specs.declared.Loc.TheVariants.{F}
use Rattle.ffi3_place_spec.specs.declared.Ext.{Ext}
use Rattle.ffi3_place_spec.specs.declared.Ext.TheVariants.{Free, Widen, Riscv, Boxed}
use Rattle.ffi3_place_spec.specs.declared.Piece.{Piece}
use Rattle.ffi3_place_spec.specs.Image.{Image}
use Rattle.ffi3_place_spec.specs.Sound.{place_size, IsWhole, AreApart, IsExtended, IsPieceOf, is_floating_place, is_narrow_integer, piece_locs}
use Rattle.ffi3_marshal.specs.Standing.{PiecesStand}
use Rattle.ffi3_marshal.specs.Stored.{IsPut, IsStored, IsWordPut, KeepsAbove, Stays}
use Rattle.ffi3_marshal.proofs.Composing.{none_append, same_then, stays_none}
use Rattle.ffi3_marshal.proofs.Filling.{boxed_stored, free_stored, from_32_stored, widened_stored}
use Rattle.ffi3_marshal.proofs.Puts.{piece_set, word_put}
use Rattle.ffi3_marshal.proofs.Stepping.{none_of_one, all_keep, all_since, all_stand_stays}
use Rattle.ffi3_transfer.specs.Places.{IsPlace}
use Rattle.ffi3_moves.specs.Play.{frame_at, moved, play, play_one, to_eight, written_over}
use Rattle.ffi3_moves.specs.Moves.{exchange_at, filling, piece_in, pieces_in}
use Rattle.ffi3_moves.specs.Exchange.{AreBytes, image_at}
use Rattle.ffi3_moves.proofs.Bytes.{part_bytes, part_part, over_size, over_bytes}
use Rattle.ffi3_moves.proofs.Places.{place_fits, put_there}
use Rattle.ffi3_moves.proofs.Extended.{IsFilledBy, eight_of_4, narrow_room, widen_filled, riscv_filled}
use Rattle.ffi3_moves.proofs.Filled.{AreWord, eight_word, filled_word, eight_long, eight_low, eight_are}

-- ---- one after another

pub stays_both : (base : ℕ) (ls ks : List Loc) (a b c : Image) → Stays base ls a b → Stays base ks b c → Stays base (ls ++ ks) a c
stays_both base ls ks a b c s t = record {
  sp = t.sp ∙ s.sp;
  size = t.size ∙ s.size;
  below = λ i h. t.below i h ∙ s.below i h;
  others = λ l none. let parts = none_append ls ks l none in same_then base l a b c (s.others l parts.0) (t.others l parts.1);
}

-- an exchange stays as long as it is
pub record StaysLong (old new : List ℕ) : Type 0 where
  pub size : length new ≡ length old
  pub are : AreBytes new

pub keeps_none : (x : List ℕ) → AreBytes x → StaysLong x x
keeps_none x are = record { size = refl; are = are }

pub keeps_both : (x y z : List ℕ) → StaysLong x y → StaysLong y z → StaysLong x z
keeps_both x y z a b = record { size = b.size ∙ a.size; are = b.are }

pub keeps_over : (x bytes : List ℕ) (l : Loc) → frame_at ≤ length x → AreBytes x → IsPlace (length x - frame_at) l → length bytes ≤ place_size l → AreBytes bytes → StaysLong x (written_over (exchange_at l) bytes x)
keeps_over x bytes l long are lies few bytes_are =
    let fits : exchange_at l + length bytes ≤ length x = omega (arith, place_fits l (length x) long lies, few) in
    record {
      size = over_size (exchange_at l) bytes x fits;
      are = over_bytes (exchange_at l) bytes x fits bytes_are are;
    }

-- ---- a float with ones above it

ones_high : (bytes : List ℕ) → length bytes ≡ 4 → ((k : ℕ) → get_or bytes k 0 < 256) → from_le_bytes w64 (to_eight 255 bytes) / 2 ^ 32 ≡ 2 ^ 32 - 1
ones_high (a ∷ b ∷ c ∷ d ∷ []) l small =
    let s0 : a < 256 = small 0 in
    let s1 : b < 256 = small 1 in
    let s2 : c < 256 = small 2 in
    let s3 : d < 256 = small 3 in
    let all : from_le_bytes w64 (to_eight 255 (a ∷ b ∷ c ∷ d ∷ [])) ≡ a + 256 * b + 65536 * c + 16777216 * d + 72340172821233664 * 255 = eight_of_4 a b c d 255 in
    omega (arith, all, s0, s1, s2, s3)
ones_high _ l small = absurd (omega arith)

-- ---- pieces

-- a floating register has eight bytes
floating_whole : (l : Loc) → is_floating_place l ≡ true → IsWhole l
floating_whole (F r) h = refl
floating_whole _ h = cc

scalar_is : (t : Tree) → is_narrow_integer t ≡ true → t ≡ scalar (scalar_of t)
scalar_is (scalar s) narrow = refl
scalar_is _ narrow = cc

module _ (sp base : ℕ) (link : List ℕ) (linked : length link ≡ base) (frame : ℕ) (values : List ℕ) (values_are : AreBytes values) (i at : ℕ) (t : Tree) (room : at + size_of t ≤ length values) where
  abbrev value : List ℕ
  value = part values at (size_of t)

  sized : length value ≡ size_of t
  sized = length_part values at (size_of t) room

  -- the exchange has registers, stubs' words and, for a place on the stack, the frame
  module _ (x : List ℕ) (long : frame_at ≤ length x) (are : AreBytes x) (p : Piece) (of : IsPieceOf t p) (lies : IsPlace (length x - frame_at) p.loc) where
    abbrev source : List ℕ
    source = part values (at + p.off) p.len

    abbrev bytes : List ℕ
    bytes = moved (filling p.ext (scalar_of t)) frame values (at + p.off) p.len

    abbrev after : List ℕ
    after = written_over (exchange_at p.loc) bytes x

    source_long : length source ≡ p.len
    source_long = length_part values (at + p.off) p.len (omega (arith, room, of.within))

    source_are : AreBytes source
    source_are = part_bytes values (at + p.off) p.len (omega (arith, room, of.within)) values_are

    source_is : source ≡ part value p.off p.len
    source_is = part_part values at (size_of t) p.off p.len room of.within

    value_are : AreBytes value
    value_are = part_bytes values at (size_of t) room values_are

    -- the piece is stored
    pub record IsMoved : Type 0 where
      pub stored : IsStored base t value p (image_at sp link x) (image_at sp link after)
      pub keeps : StaysLong x after

    put_bytes : length bytes ≤ place_size p.loc → AreBytes bytes → IsPut base p.loc bytes (image_at sp link x) (image_at sp link after) × StaysLong x after
    put_bytes few bytes_are =
        let keeps = keeps_over x bytes p.loc long are lies few bytes_are in
        (put_there sp base link linked x long are p.loc lies bytes few keeps.are, keeps)

    free_moved : p.ext ≡ Free → IsMoved
    free_moved ext =
        let is : bytes ≡ source = ap (λ e. moved (filling e (scalar_of t)) frame values (at + p.off) p.len) ext in
        let put = put_bytes (omega (arith, ap length is, source_long, of.fits)) (subst AreBytes (sym is) source_are) in
        let within : p.off + p.len ≤ length value = omega (arith, of.within, sized) in
        let set = piece_set base p value (image_at sp link x) (image_at sp link after) (of.short, within, of.fits) (subst (λ z. IsPut base p.loc z (image_at sp link x) (image_at sp link after)) (is ∙ source_is) put.0) in
        record { stored = free_stored base value p (image_at sp link x) (image_at sp link after) t ext set; keeps = put.1 }

    word_moved : IsWhole p.loc → (n : ℕ) → AreWord bytes n → IsPut base p.loc bytes (image_at sp link x) (image_at sp link after) × StaysLong x after
    word_moved wide n word = put_bytes (omega (arith, word.long, wide)) word.are

    boxed_moved : p.ext ≡ Boxed → IsExtended t p Boxed → IsMoved
    boxed_moved ext e =
        let is : bytes ≡ to_eight 255 source = ap (λ e. moved (filling e (scalar_of t)) frame values (at + p.off) p.len) ext in
        let few : length source ≤ 8 = omega (arith, source_long, of.short) in
        let n = from_le_bytes w64 (to_eight 255 source) in
        let eight = eight_word (to_eight 255 source) (from_le_bytes w64 (to_eight 255 source)) (eight_long source few 255) (eight_are source few 255 (omega arith) source_are) refl in
        let word = subst (λ z. AreWord z (from_le_bytes w64 (to_eight 255 source))) (sym is) eight in
        let wide = floating_whole p.loc e.0 in
        let put = word_moved wide n word in
        let put_word = word_put base p.loc n bytes (image_at sp link x) (image_at sp link after) wide word.small word.is put.0 in
        let low : (k : ℕ) → k < 4 → get_or (to_le_bytes w64 (from_le_bytes w64 (to_eight 255 source))) k 0 ≡ get_or value (p.off + k) 0 = λ k h.
        let there : k < length source = omega (arith, h, source_long, e.1) in
        let here : k < p.len = omega (arith, h, e.1) in
        ap (λ xs. get_or xs k 0) (sym eight.is) ∙ eight_low source few 255 k there ∙ ap (λ xs. get_or xs k 0) source_is ∙ index_part value p.off p.len k here in
        record {
          stored = boxed_stored base value p (image_at sp link x) (image_at sp link after) t n ext e.1 low (ones_high source (source_long ∙ e.1) source_are) put_word;
          keeps = put.1;
        }

    -- a lone narrow integer is its piece
    whole : p.off ≡ 0 → p.len ≡ size_of t → source ≡ value
    whole start all =
        let there : at + p.off ≡ at = omega (arith, start) in
        ap (λ k. part values k p.len) there ∙ ap (part values at) all

    few : length source ≤ 8
    few = omega (arith, source_long, of.short)

    -- a number that it is extended to is moved
    number_moved : (e : Ext) (f : Scalar → List ℕ → ℕ) → p.ext ≡ e → (is_narrow_integer t ≡ true) × (p.off ≡ 0) × (p.len ≡ size_of t) × IsWhole p.loc → ((s : Scalar) → is_narrow_integer (scalar s) ≡ true → length source ≡ scalar_size s → IsFilledBy source (filling e s) (f s source)) → ((w : ℕ) → w ≡ f (scalar_of t) value → IsWordPut base p.loc w (image_at sp link x) (image_at sp link after) → IsStored base t value p (image_at sp link x) (image_at sp link after)) → IsMoved
    number_moved e f ext lone filled store =
        let is : bytes ≡ moved (filling e (scalar_of t)) frame values (at + p.off) p.len = ap (λ e. moved (filling e (scalar_of t)) frame values (at + p.off) p.len) ext in
        let alone = scalar_is t lone.0 in
        let narrow = subst (λ u. is_narrow_integer u ≡ true) alone lone.0 in
        let many = sized ∙ ap size_of alone ∙ narrow_room (scalar_of t) narrow in
        let same = whole lone.1 lone.2 in
        let fills = subst (λ z. IsFilledBy source (filling e (scalar_of t)) (f (scalar_of t) z)) same (filled (scalar_of t) narrow (ap length same ∙ many)) in
        let word = subst (λ z. AreWord z (f (scalar_of t) value)) (sym is) (filled_word frame values (at + p.off) p.len (filling e (scalar_of t)) (f (scalar_of t) value) few source_are fills) in
        let put = word_moved lone.3 (f (scalar_of t) value) word in
        record {
          stored = store (f (scalar_of t) value) refl (word_put base p.loc (f (scalar_of t) value) bytes (image_at sp link x) (image_at sp link after) lone.3 word.small word.is put.0);
          keeps = put.1;
        }

    by_ext : (e : Ext) → p.ext ≡ e → IsExtended t p e → IsMoved
    by_ext Free ext e = free_moved ext
    by_ext Boxed ext e = boxed_moved ext e
    by_ext Widen ext e = number_moved Widen widened ext e (widen_filled source source_are) (λ w is put. widened_stored base value p (image_at sp link x) (image_at sp link after) value_are t w ext e sized is put)
    by_ext Riscv ext e = number_moved Riscv widened_from_32 ext e (riscv_filled source source_are) (λ w is put. from_32_stored base value p (image_at sp link x) (image_at sp link after) value_are t w ext e sized is put)

    pub piece_moved : IsMoved
    piece_moved = by_ext p.ext refl of.extended

  -- all its pieces
  pub record ArePlayed (ps : List Piece) (x y : List ℕ) : Type 0 where
    pub stand : PiecesStand base (image_at sp link y) t value ps
    pub kept : AllByRecursion (KeepsAbove base (image_at sp link x) (image_at sp link y)) ps
    pub stays : Stays base (piece_locs ps) (image_at sp link x) (image_at sp link y)
    pub keeps : StaysLong x y

  pub pieces_played : (ps : List Piece) (x : List ℕ) → frame_at ≤ length x → AreBytes x → AllByRecursion (IsPieceOf t) ps → AllByRecursion (IsPlace (length x - frame_at)) (piece_locs ps) → AreApart (piece_locs ps) → ArePlayed ps x (play frame (pieces_in i at t ps) values x)
  pieces_played [] x long are parts lie apart = record { stand = tt; kept = tt; stays = stays_none base (image_at sp link x); keeps = keeps_none x are }
  pieces_played (p ∷ ps) x long are parts lie apart =
      let first = piece_moved x long are p parts.0 lie.0 in
      let y = play_one frame (piece_in i at t p) values x in
      let z = play frame (pieces_in i at t ps) values (play_one frame (piece_in i at t p) values x) in
      let still : AllByRecursion (IsPlace (length (play_one frame (piece_in i at t p) values x) - frame_at)) (piece_locs ps) = subst (λ n. AllByRecursion (IsPlace (n - frame_at)) (piece_locs ps)) (sym first.keeps.size) lie.1 in
      let rest = pieces_played ps y (omega (arith, first.keeps.size, long)) first.keeps.are parts.1 still apart.1 in
      let stands = all_stand_stays base t value (piece_locs ps) (image_at sp link y) (image_at sp link z) (p ∷ []) (parts.0, tt) (apart.0, tt) rest.stays (first.stored.stands, tt) in
      let above = all_keep base (piece_locs ps) (image_at sp link x) (image_at sp link y) (image_at sp link z) (p ∷ []) (apart.0, tt) rest.stays (first.stored.kept, tt) in
      let since = all_since base (p.loc ∷ []) (image_at sp link x) (image_at sp link y) (image_at sp link z) ps (none_of_one p.loc (piece_locs ps) apart.0) first.stored.stays rest.kept in
      record {
        stand = (stands.0, rest.stand);
        kept = (above.0, since);
        stays = stays_both base (p.loc ∷ []) (piece_locs ps) (image_at sp link x) (image_at sp link y) (image_at sp link z) first.stored.stays rest.stays;
        keeps = keeps_both x y z first.keeps rest.keeps;
      }
