-- What the loops over pieces keep.
use Rattle.std.specs.Prelude.{cond, slice_index_or, Some, None, ◌==◌}
use Rattle.std.proofs.Common.{◌≡◌, ℕ, zero, suc, ◌+◌, ◌-◌, ◌<◌, ◌≤◌, inl, inr, Bool, true, false, List, [], ◌∷◌, ◌++◌, take, drop, replicate, get_or, length, refl, ap, sym, ◌∙◌, arith}
use Rattle.std.specs.List.{AllByRecursion, replace_range}
use Rattle.std.proofs.lemmas.Bool.{cases_lt}
use Rattle.std.proofs.lemmas.Bool.Decides.{nat_tests}
use Rattle.std.proofs.lemmas.List.{drop_all, length-replicate, ext_get_or, get_or-take, get_or-drop, get_or_append_left, get_or-append_right, length-append, length-take-le, length-drop}
use Rattle.ffi3_type_spec.specs.Tree.{Tree}
use Rattle.ffi3_type_spec.specs.Layout.{size_of}
use Rattle.ffi3_place_spec.specs.declared.Piece.{Piece}
use Rattle.ffi3_place_spec.specs.Image.{Image, byte_at}
use Rattle.ffi3_place_spec.specs.Sound.{IsPieceOf, IsWithin}
use Rattle.ffi3_place_spec.proofs.Elements.{drop_read}
use Rattle.ffi3_place_spec.proofs.Tests.{each_at}
use Rattle.ffi3_explain_spec.specs.declared.Check.{Check}
use Rattle.ffi3_explain_spec.specs.Explain.{carries, place_byte, eight, first_byte, first_bytes, check_of_piece, checks_of_pieces, first_broken}
use Rattle.ffi3_explain_spec.proofs.Pieces.{carries_is, is_carried, first_bytes-length, first_bytes-index}
use Rattle.ffi3_explain_spec.proofs.Words.{index_eight, place_byte_is}
use Rattle.ffi3_explain.specs.Places.{IsPieceRead}

-- ---- a range that is replaced

module _ (xs ys : List ℕ) (i j : ℕ) (counted : i + length ys ≡ j) (fits : j ≤ length xs) where
  before_length : length (take i xs) ≡ i
  before_length = length-take-le i xs (omega arith)

  both_length : length (take i xs ++ ys) ≡ j
  both_length = length-append (take i xs) ys ∙ ap (λ n. n + length ys) before_length ∙ counted

  in_range : (o : ℕ) → i ≤ o → o < j → get_or (replace_range xs i j ys) o 0 ≡ get_or ys (o - i) 0
  in_range o from to =
      get_or_append_left (take i xs ++ ys) (drop j xs) 0 o (omega (arith, both_length)) ∙ get_or-append_right (take i xs) ys i o 0 before_length from

  below_range : (o : ℕ) → o < i → get_or (replace_range xs i j ys) o 0 ≡ get_or xs o 0
  below_range o to =
      get_or_append_left (take i xs ++ ys) (drop j xs) 0 o (omega (arith, both_length)) ∙ get_or_append_left (take i xs) ys 0 o (omega (arith, before_length)) ∙ get_or-take i xs o 0 to

  above_range : (o : ℕ) → j ≤ o → get_or (replace_range xs i j ys) o 0 ≡ get_or xs o 0
  above_range o from =
      let back : j + (o - j) ≡ o = omega arith in
      get_or-append_right (take i xs ++ ys) (drop j xs) j o 0 both_length from ∙ get_or-drop j xs (o - j) 0 ∙ ap (λ n. get_or xs n 0) back

  range_length : length (replace_range xs i j ys) ≡ length xs
  range_length =
      omega (arith, length-append (take i xs ++ ys) (drop j xs), both_length, length-drop j xs, fits)

pub piece_read : (m : Image) (base : ℕ) (p : Piece) (bytes old : List ℕ) → bytes ≡ eight (place_byte m base p.loc) → IsWithin (length old) p → IsPieceRead m base p old (replace_range old p.off (p.off + p.len) (take p.len bytes))
piece_read m base p bytes old is within =
    let eight : length bytes ≡ 8 = ap length is in
    let counted : p.off + length (take p.len bytes) ≡ p.off + p.len = ap (λ n. p.off + n) (length-take-le p.len bytes (omega (arith, eight, within.0))) in
    let room : p.off + p.len ≤ length old = within.1 in
    record {
      sized = range_length old (take p.len bytes) p.off (p.off + p.len) counted room;
      here = λ o c. let k : o - p.off < p.len = omega (arith, c.0, c.1) in
          in_range old (take p.len bytes) p.off (p.off + p.len) counted room o c.0 c.1 ∙ get_or-take p.len bytes (o - p.off) 0 k ∙ ap (λ xs. get_or xs (o - p.off) 0) is ∙ index_eight (place_byte m base p.loc) (o - p.off) (omega (arith, k, within.0)) ∙ place_byte_is m base p.loc (o - p.off) (omega (arith, k, within.2));
      others = λ o. elim (cases_lt o p.off) [
        | inl below ↦ inr (below_range old (take p.len bytes) p.off (p.off + p.len) counted room o below)
        | inr from ↦
            elim (cases_lt o (p.off + p.len)) [
              | inl to ↦ inl (from, to)
              | inr beyond ↦ inr (above_range old (take p.len bytes) p.off (p.off + p.len) counted room o beyond)
            ]
      ];
    }

abbrev pub zeros : ℕ → List ℕ
zeros n = replicate n 0

pub zeros_all : (n o : ℕ) → get_or (zeros n) o 0 ≡ 0
zeros_all (suc n) (suc o) = zeros_all n o
zeros_all _ _ = refl

-- a part of a value lies within it
pub all_within : (t : Tree) (size : ℕ) (ps : List Piece) → size ≡ size_of t → AllByRecursion (IsPieceOf t) ps → AllByRecursion (IsWithin size) ps
all_within t size [] sized of = tt
all_within t size (p ∷ ps) sized of = ((of.0.short, omega (arith, of.0.within, sized), of.0.fits), all_within t size ps sized of.1)

-- ---- bytes of pieces, read from the last piece to the first

-- the bytes of the pieces from number j on are read
pub record ArePiecesRead (m : Image) (base : ℕ) (pieces : List Piece) (size j : ℕ) (out : List ℕ) : Type 0 where
  pub sized : length out ≡ size
  pub few : j ≤ length pieces
  pub same : (o : ℕ) → get_or out o 0 ≡ first_byte m base (drop j pieces) o

pub none_read : (m : Image) (base : ℕ) (pieces : List Piece) (size j : ℕ) (out : List ℕ) → out ≡ zeros size → j ≡ length pieces → ArePiecesRead m base pieces size j out
none_read m base pieces size j out is last = record {
  sized = ap length is ∙ length-replicate {A = ℕ} size 0;
  few = omega (arith, last);
  same = λ o. ap (λ xs. get_or xs o 0) is ∙ zeros_all size o ∙ ap (λ ps. first_byte m base ps o) (sym (drop_all j pieces (omega (arith, last))));
}

-- what holds of each item holds of item i
pub each_from : {X : Type 0} (P : X → Type 0) (xs : List X) (i : ℕ) (x : X) → i < length xs → x ≡ slice_index_or xs i x → AllByRecursion P xs → P x
each_from P xs i x h e all = each_at P xs i x h (sym e) all

module _ (m : Image) (base : ℕ) (pieces : List Piece) (size j : ℕ) (out new : List ℕ) (p : Piece) (below : j < length pieces) (at : p ≡ slice_index_or pieces j p) (left : ArePiecesRead m base pieces size (j + 1) out) (read : IsPieceRead m base p out new) where
  carried_here : (o : ℕ) (b : Bool) → carries o p ≡ b → get_or new o 0 ≡ cond b (byte_at m base p.loc (o - p.off)) (first_byte m base (drop (j + 1) pieces) o)
  carried_here o true e = read.here o (is_carried o p e)
  carried_here o false e =
      elim (read.others o) [
        | inl c ↦ let yes = carries_is o p c in cc
        | inr old ↦ old ∙ left.same o
      ]

  pub one_more_read : ArePiecesRead m base pieces size j new
  one_more_read = record {
    sized = read.sized ∙ left.sized;
    few = omega (arith, below);
    same = λ o. carried_here o (carries o p) refl ∙ ap (λ ps. first_byte m base ps o) (sym (drop_read pieces j p below at));
  }

-- bytes that are each the first piece's
all_bytes : (m : Image) (base : ℕ) (pieces : List Piece) (out : List ℕ) (n : ℕ) → length out ≡ n → ((k : ℕ) → k < n → get_or out k 0 ≡ first_byte m base pieces k) → out ≡ first_bytes m base pieces 0 n
all_bytes m base pieces out n sized each =
    ext_get_or 0 out (first_bytes m base pieces 0 n) (sized ∙ sym (first_bytes-length m base pieces 0 n)) (λ k h. let e : k ≡ 0 + k = omega arith in
    each k (omega (arith, h, sized)) ∙ ap (first_byte m base pieces) e ∙ sym (first_bytes-index m base pieces 0 n k (omega (arith, h, sized))))

pub all_read : (m : Image) (base : ℕ) (pieces : List Piece) (size j : ℕ) (out : List ℕ) → j ≤ 0 → ArePiecesRead m base pieces size j out → out ≡ first_bytes m base pieces 0 size
all_read m base pieces size j out last read =
    let none : j ≡ 0 = omega (arith, last) in
    all_bytes m base pieces out size read.sized (λ k h. read.same k ∙ ap (λ n. first_byte m base (drop n pieces) k) none)

-- ---- pieces, checked from the first to the last

-- item i is there
item_there : {X : Type 0} (xs : List X) (i : ℕ) → i < length xs → (x : X) × (x ≡ slice_index_or xs i x)
item_there [] i h = absurd (omega (arith, h))
item_there (y ∷ ys) zero h = (y, refl)
item_there (y ∷ ys) (suc i) h = item_there ys i (omega (arith, h))

-- and it is the only one
pub same_item : {X : Type 0} (xs : List X) (i : ℕ) (x y : X) → i < length xs → x ≡ slice_index_or xs i x → y ≡ slice_index_or xs i y → x ≡ y
same_item [] i x y h e f = absurd (omega (arith, h))
same_item (z ∷ zs) zero x y h e f = e ∙ sym f
same_item (z ∷ zs) (suc i) x y h e f = same_item zs i x y (omega (arith, h)) e f

-- numbers and their test
same_number : (a b : ℕ) → (a == b) ≡ true → a ≡ b
same_number a b e = grind (arith, nat_tests, e)

pub is_same : (a b : ℕ) → a ≡ b → (a == b) ≡ true
is_same a b e = grind (arith, nat_tests, e)

by_test : (a b : ℕ) → (a ≡ b → ⊥) → (x : Bool) → (a == b) ≡ x → (a == b) ≡ false
by_test a b other true e = absurd (other (same_number a b e))
by_test a b other false e = e

pub is_other : (a b : ℕ) → (a ≡ b → ⊥) → (a == b) ≡ false
is_other a b other = by_test a b other (a == b) refl

-- what is said of piece j
abbrev pub IsCheckOf : Image → ℕ → ℕ → Tree → List Piece → ℕ → Check → Type 0
IsCheckOf m base i t pieces j c =
    (p : Piece) → p ≡ slice_index_or pieces j p → c ≡ check_of_piece m base i t pieces p

-- the pieces from number j on are still to be checked
pub record IsLeftToCheck (m : Image) (base i : ℕ) (t : Tree) (pieces : List Piece) (j : ℕ) : Type 0 where
  pub same : first_broken (checks_of_pieces m base i t pieces pieces) ≡ first_broken (checks_of_pieces m base i t pieces (drop j pieces))

module _ (m : Image) (base i : ℕ) (t : Tree) (pieces : List Piece) (j : ℕ) (below : j < length pieces) (left : IsLeftToCheck m base i t pieces j) (c : Check) (is : IsCheckOf m base i t pieces j c) where
  checked : first_broken (checks_of_pieces m base i t pieces pieces) ≡ cond (c.found == c.wants) (first_broken (checks_of_pieces m base i t pieces (drop (j + 1) pieces))) (Some c)
  checked =
      let item = item_there pieces j below in
      left.same ∙ ap (λ ps. first_broken (checks_of_pieces m base i t pieces ps)) (drop_read pieces j item.0 below item.1) ∙ ap (λ (d : Check). cond (d.found == d.wants) (first_broken (checks_of_pieces m base i t pieces (drop (j + 1) pieces))) (Some d)) (sym (is item.0 item.1))

  pub broken_here : (c.found == c.wants) ≡ false → Some c ≡ first_broken (checks_of_pieces m base i t pieces pieces)
  broken_here differs =
      sym (checked ∙ ap (λ b. cond b (first_broken (checks_of_pieces m base i t pieces (drop (j + 1) pieces))) (Some c)) differs)

  pub check_further : (c.found == c.wants) ≡ true → IsLeftToCheck m base i t pieces (j + 1)
  check_further equal = record {
    same = checked ∙ ap (λ b. cond b (first_broken (checks_of_pieces m base i t pieces (drop (j + 1) pieces))) (Some c)) equal;
  }

pub none_left : (m : Image) (base i : ℕ) (t : Tree) (pieces : List Piece) (j : ℕ) → length pieces ≤ j → IsLeftToCheck m base i t pieces j → None ≡ first_broken (checks_of_pieces m base i t pieces pieces)
none_left m base i t pieces j end left =
    sym (left.same ∙ ap (λ ps. first_broken (checks_of_pieces m base i t pieces ps)) (drop_all j pieces end))
