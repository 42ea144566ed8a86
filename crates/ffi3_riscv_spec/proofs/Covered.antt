-- The pieces of a value have every byte of its leaves.
use Rattle.std.proofs.Common.{◌≡◌, ℕ, ◌+◌, ◌-◌, ◌*◌, ◌≤◌, Bool, true, false, cond, ltb, List, [], ◌∷◌, length, subst, sym, refl, arith}
use Rattle.std.specs.List.{AllByRecursion}
use Rattle.std.specs.Prelude.{Option}
use Rattle.ffi3_type_spec.specs.Tree.{Tree, Scalar, float}
use Rattle.ffi3_type_spec.specs.Layout.{Leaf, leaves_of, size_of, scalar_size}
use Rattle.ffi3_place_spec.specs.declared.Loc.{Loc}
use Rattle.ffi3_place_spec.specs.declared.Loc.TheVariants.{G, F, S}
use Rattle.ffi3_place_spec.specs.declared.Ext.TheVariants.{Free, Riscv}
use Rattle.ffi3_place_spec.specs.declared.Piece.{Piece}
use Rattle.ffi3_place_spec.specs.Standard.{copy_end, place_at, places_from}
use Rattle.ffi3_place_spec.specs.Doublewords.{doublewords, leaf_piece}
use Rattle.ffi3_place_spec.specs.Sound.{IsWhole, IsPieceOf, IsExtended, CoversLeaf, HaveAll, PlaceHasAll, PlacesHaveAll}
use Rattle.ffi3_place_spec.proofs.Covered.{EndsIn, leaves_end}
use Rattle.ffi3_place_spec.proofs.Doublewords.{filling_suits, whole_pieces, leaf_is_piece, doublewords_have_all}
use Rattle.ffi3_riscv_spec.specs.declared.Shape.{Shape}
use Rattle.ffi3_riscv_spec.specs.declared.Shape.TheVariants.{OneF, TwoF, FI, IF, Words, ByRef}
use Rattle.ffi3_riscv_spec.specs.declared.TakenWords.{TakenWords}
use Rattle.ffi3_riscv_spec.specs.Riscv.{word, extension, boxing, integer_register, floating_register, floating_piece, integer_piece, word_pieces, spot_of, is_fixed, taken_at_start, shape_after, spot_after, taken_with, spots_after}
use Rattle.ffi3_riscv_spec.proofs.Shapes.{Suits, HasSmall, leaf, passed_suits, passed_small}

-- ---- doublewords

word_is_whole_if : (w : ℕ) (b : Bool) → IsWhole (cond {A = Loc} b (G (integer_register w)) (S (8 * (w - 8)) 8))
word_is_whole_if w true = refl
word_is_whole_if w false = refl

word_is_whole : (w : ℕ) → IsWhole (word w)
word_is_whole w = word_is_whole_if w (ltb w 8)

words_have_all : (w : ℕ) (t : Tree) (count : ℕ) → count ≡ doublewords t → HaveAll t (word_pieces w t count)
words_have_all w t count e =
    let place : ℕ → Loc = λ j. word (w + j) in
    subst (λ n. HaveAll t (word_pieces w t n)) (sym e) (doublewords_have_all place t (extension t) (whole_pieces place t (extension t) (filling_suits Riscv (λ u p h. h) t) (λ j. word_is_whole (w + j))))

-- ---- leaves

boxes : (t : Tree) (r o : ℕ) (s : Scalar) → IsExtended t (leaf_piece (F r) (boxing s) (record { at = o; kind = s })) (boxing s)
boxes t r o float = (refl, refl)
boxes t r o _ = tt

floating_piece_of : (t : Tree) (f : ℕ) (l : Leaf) → scalar_size l.kind ≤ 8 → EndsIn (size_of t) l → IsPieceOf t (floating_piece f l)
floating_piece_of t f l small h =
    leaf_is_piece t (F (floating_register f)) (boxing l.kind) l refl small h (boxes t (floating_register f) l.at l.kind)

integer_piece_of : (t : Tree) (w : ℕ) (l : Leaf) → scalar_size l.kind ≤ 8 → EndsIn (size_of t) l → IsPieceOf t (integer_piece w l)
integer_piece_of t w l small h =
    leaf_is_piece t (G (integer_register w)) Free l refl small h tt

-- the piece has the bytes of the leaf
abbrev HasLeaf : Leaf → Piece → Type 0
HasLeaf l p = (p.off ≡ l.at) × (p.len ≡ scalar_size l.kind)

covers_first : (l : Leaf) (p : Piece) (ps : List Piece) → HasLeaf l p → CoversLeaf (p ∷ ps) l
covers_first l p ps e k h = (0, p, omega arith, refl, (omega (arith, e.0), omega (arith, e.0, e.1, h)))

covers_second : (l : Leaf) (p q : Piece) → HasLeaf l q → CoversLeaf (p ∷ q ∷ []) l
covers_second l p q e k h =
    (1, q, omega arith, refl, (omega (arith, e.0), omega (arith, e.0, e.1, h)))

-- all pieces are of the value, and have these leaves
abbrev HaveLeaves : Tree → List Leaf → List Piece → Type 0
HaveLeaves t ls ps =
    AllByRecursion (IsPieceOf t) ps × AllByRecursion (CoversLeaf ps) ls

one_leaf : (t : Tree) (ls : List Leaf) (p : Leaf → Piece) → ((l : Leaf) → scalar_size l.kind ≤ 8 → EndsIn (size_of t) l → IsPieceOf t (p l)) → ((l : Leaf) → HasLeaf l (p l)) → length ls ≡ 1 → scalar_size (leaf ls 0).kind ≤ 8 → AllByRecursion (EndsIn (size_of t)) ls → HaveLeaves t ls (p (leaf ls 0) ∷ [])
one_leaf t [] p are have e small ends = absurd (omega (arith, e))
one_leaf t (a ∷ []) p are have e small ends =
    ((are a small ends.0, tt), (covers_first a (p a) [] (have a), tt))
one_leaf t (a ∷ b ∷ ls) p are have e small ends = absurd (omega (arith, e))

two_leaves : (t : Tree) (ls : List Leaf) (p q : Leaf → Piece) → ((l : Leaf) → scalar_size l.kind ≤ 8 → EndsIn (size_of t) l → IsPieceOf t (p l)) → ((l : Leaf) → HasLeaf l (p l)) → ((l : Leaf) → scalar_size l.kind ≤ 8 → EndsIn (size_of t) l → IsPieceOf t (q l)) → ((l : Leaf) → HasLeaf l (q l)) → length ls ≡ 2 → (scalar_size (leaf ls 0).kind ≤ 8) × (scalar_size (leaf ls 1).kind ≤ 8) → AllByRecursion (EndsIn (size_of t)) ls → HaveLeaves t ls (p (leaf ls 0) ∷ q (leaf ls 1) ∷ [])
two_leaves t (a ∷ b ∷ []) p q are have are_too have_too e small ends =
    ((are a small.0 ends.0, (are_too b small.1 ends.1.0, tt)), (covers_first a (p a) (q b ∷ []) (have a), (covers_second b (p a) (q b) (have_too b), tt)))
two_leaves t _ p q are have are_too have_too e small ends = absurd (omega (arith, e))

have_all : (t : Tree) (ps : List Piece) → HaveLeaves t (leaves_of t) ps → HaveAll t ps
have_all t ps h = record { each = h.0; covered = h.1 }

-- ---- by shapes

pub spot_has_all : (start : ℕ → Tree → ℕ) (copies : ℕ) (before : TakenWords) (t : Tree) (shape : Shape) → Suits (size_of t) (leaves_of t) shape → HasSmall (leaves_of t) shape → PlaceHasAll t (place_at start copies t (spot_of before t shape))
spot_has_all start copies before t OneF h small =
    have_all t _ (one_leaf t (leaves_of t) (floating_piece before.floats) (floating_piece_of t before.floats) (λ l. (refl, refl)) h small (leaves_end t))
spot_has_all start copies before t TwoF h small =
    have_all t _ (two_leaves t (leaves_of t) (floating_piece before.floats) (floating_piece (before.floats + 1)) (floating_piece_of t before.floats) (λ l. (refl, refl)) (floating_piece_of t (before.floats + 1)) (λ l. (refl, refl)) h small (leaves_end t))
spot_has_all start copies before t FI h small =
    have_all t _ (two_leaves t (leaves_of t) (floating_piece before.floats) (integer_piece before.words) (floating_piece_of t before.floats) (λ l. (refl, refl)) (integer_piece_of t before.words) (λ l. (refl, refl)) h small (leaves_end t))
spot_has_all start copies before t IF h small =
    have_all t _ (two_leaves t (leaves_of t) (integer_piece before.words) (floating_piece before.floats) (integer_piece_of t before.words) (λ l. (refl, refl)) (floating_piece_of t before.floats) (λ l. (refl, refl)) h small (leaves_end t))
spot_has_all start copies before t (Words n) h small = words_have_all before.words t n h.0
spot_has_all start copies before t ByRef h small = word_is_whole before.words

pub arguments_have_all : (start : ℕ → Tree → ℕ) (copies : ℕ) (fixed : Option ℕ) (end : TakenWords) (i : ℕ) (ts : List Tree) → PlacesHaveAll ts (places_from start copies ts (spots_after fixed end i ts))
arguments_have_all start copies fixed end i [] = tt
arguments_have_all start copies fixed end i (t ∷ ts) =
    let named = is_fixed fixed i in
    let before = taken_at_start end named t in
    (spot_has_all start copies before t (shape_after end named t) (passed_suits before named t) (passed_small before named t), arguments_have_all start (copy_end start copies t (spot_after end named t)) fixed (taken_with end named t) (i + 1) ts)
