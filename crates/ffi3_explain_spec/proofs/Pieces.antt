-- A value in pieces: where each piece's place is as it is wanted, the value that is read stands in the pieces, and the other way round.
use Rattle.std.specs.Prelude.{nat_le, nat_lt, cond, ◌&&◌, ◌||◌, ◌-◌}
use Rattle.std.proofs.Common.{◌≡◌, ℕ, zero, suc, ◌+◌, ◌<◌, ◌≤◌, ◌⊎◌, inl, inr, Bool, true, false, List, [], ◌∷◌, get_or, length, refl, ap, sym, ◌∙◌, subst, arith}
use Rattle.std.specs.List.{AllByRecursion}
use Rattle.std.specs.Int.{w64, to_le_bytes, from_le_bytes}
use Rattle.std.proofs.lemmas.Bool.Decides.{nat_tests}
use Rattle.ffi3_type_spec.specs.Tree.{Tree, scalar, Scalar, u8, s8, u16, s16, u32, s32}
use Rattle.ffi3_type_spec.specs.Layout.{Leaf, leaves_of, size_of, scalar_size, scalar_room}
use Rattle.ffi3_type_spec.specs.Integer.{widened, widened_from_32}
use Rattle.ffi3_type_spec.specs.Value.{ValueTree, value_in, fits, significant}
use Rattle.ffi3_type_spec.proofs.Tests.{and_left, and_right, both}
use Rattle.ffi3_type_spec.proofs.Widened.{byte-widened, byte-widened_from_32}
use Rattle.ffi3_place_spec.specs.declared.Ext.{Ext}
use Rattle.ffi3_place_spec.specs.declared.Ext.TheVariants.{Free, Widen, Riscv, Boxed}
use Rattle.ffi3_place_spec.specs.declared.Piece.{Piece}
use Rattle.ffi3_place_spec.specs.Image.{Image, byte_at, word_at}
use Rattle.ffi3_place_spec.specs.Locs.{place_size}
use Rattle.ffi3_place_spec.specs.Holds.{Carries, LeavesStand, FillsAs, FillPieces, leaf_bytes}
use Rattle.ffi3_place_spec.specs.Sound.{CoversLeaf, HaveAll, IsPieceOf, IsExtended, is_narrow_integer}
use Rattle.ffi3_place_spec.proofs.Covered.{EndsIn, leaves_end}
use Rattle.ffi3_place_spec.proofs.Tests.{each_at}
use Rattle.ffi3_explain_spec.specs.Explain.{carries, first_byte, first_bytes, value_in_pieces, in_leaf, place_byte, wanted_byte, wanted_word, wanted, extended}
use Rattle.ffi3_explain_spec.specs.Laws.{HasWords}
use Rattle.ffi3_place_spec.proofs.Reading.{LeavesRead, leaves_read, reads}
use Rattle.ffi3_explain_spec.proofs.Words.{index_eight, same_eight, bytes_of_eight, place_byte_is, byte_small, place_byte_small, word_of_bytes, byte_of_word, low_half, boxed_half, fills, extends}

-- ---- tests that compute

pub carries_is : (o : ℕ) (p : Piece) → Carries o p → carries o p ≡ true
carries_is o p c = grind (arith, nat_tests, c.0, c.1)

pub is_carried : (o : ℕ) (p : Piece) → carries o p ≡ true → Carries o p
is_carried o p e = (
  grind (arith, nat_tests, and_left (nat_le p.off o) (nat_lt o (p.off + p.len)) e),
  grind (arith, nat_tests, and_right (nat_le p.off o) (nat_lt o (p.off + p.len)) e),
)

or_first : (a b : Bool) → a ≡ true → (a || b) ≡ true
or_first true b h = refl
or_first false b h = cc

or_second : (a b : Bool) → b ≡ true → (a || b) ≡ true
or_second true b h = refl
or_second false b h = h

pub or_cases : (a b : Bool) → (a || b) ≡ true → (a ≡ true) ⊎ (b ≡ true)
or_cases true b h = inl refl
or_cases false b h = inr h

leaf_here : (l : Leaf) (k : ℕ) → k < scalar_size l.kind → (nat_le l.at (l.at + k) && nat_lt (l.at + k) (l.at + scalar_size l.kind)) ≡ true
leaf_here l k h =
    both (nat_le l.at (l.at + k)) (nat_lt (l.at + k) (l.at + scalar_size l.kind)) (grind (arith, nat_tests)) (grind (arith, nat_tests, h))

pub lt_is : (a b : ℕ) → a < b → nat_lt a b ≡ true
lt_is a b h = grind (arith, nat_tests, h)

pub is_lt : (a b : ℕ) → nat_lt a b ≡ true → a < b
is_lt a b h = grind (arith, nat_tests, h)

pub is_le : (a b : ℕ) → nat_le a b ≡ true → a ≤ b
is_le a b h = grind (arith, nat_tests, h)

-- what holds at each place of a list holds of each
pub each_of : {X : Type 0} (P : X → Type 0) (xs : List X) → ((i : ℕ) (x : X) → i < length xs → get_or xs i x ≡ x → P x) → AllByRecursion P xs
each_of P [] f = tt
each_of P (x ∷ xs) f = (f 0 x (omega arith) refl, each_of P xs (λ i y h e. f (suc i) y (omega (arith, h)) e))

-- ---- bytes by the first piece

module _ (m : Image) (base : ℕ) where
  pub first_bytes-length : (ps : List Piece) (o n : ℕ) → length (first_bytes m base ps o n) ≡ n
  first_bytes-length ps o zero = refl
  first_bytes-length ps o (suc n) = ap suc (first_bytes-length ps (suc o) n)

  pub first_bytes-index : (ps : List Piece) (o n k : ℕ) → k < n → get_or (first_bytes m base ps o n) k 0 ≡ first_byte m base ps (o + k)
  first_bytes-index ps o zero k h = absurd (omega (arith, h))
  first_bytes-index ps o (suc n) zero h =
      let e : o ≡ o + 0 = omega arith in
      ap (first_byte m base ps) e
  first_bytes-index ps o (suc n) (suc k) h =
      let e : suc o + k ≡ o + suc k = omega arith in
      first_bytes-index ps (suc o) n k (omega (arith, h)) ∙ ap (first_byte m base ps) e

  -- where all pieces that have the byte agree, so does the first
  pub first_agrees : (ps : List Piece) (o x : ℕ) → AllByRecursion (λ p. Carries o p → byte_at m base p.loc (o - p.off) ≡ x) ps → (i : ℕ) (a : Piece) → i < length ps → get_or ps i a ≡ a → Carries o a → first_byte m base ps o ≡ x
  first_agrees [] o x all i a h e c = absurd (omega (arith, h))
  first_agrees (p ∷ ps) o x all zero a h e c =
      ap (λ b. cond b (byte_at m base p.loc (o - p.off)) (first_byte m base ps o)) (carries_is o p (subst (Carries o) (sym e) c)) ∙ all.0 (subst (Carries o) (sym e) c)
  first_agrees (p ∷ ps) o x all (suc i) a h e c =
      let later = first_agrees ps o x all.1 i a (omega (arith, h)) e c in
      let by_case : (b : Bool) → (b ≡ true → Carries o p) → cond b (byte_at m base p.loc (o - p.off)) (first_byte m base ps o) ≡ x = λ b. elim b as (λ d. (d ≡ true → Carries o p) → cond d (byte_at m base p.loc (o - p.off)) (first_byte m base ps o) ≡ x) [ true ↦ λ f. all.0 (f refl) | false ↦ λ f. later ] in
      by_case (carries o p) (is_carried o p)

-- ---- a value that stands in the pieces is the one that is read

module _ (m : Image) (base : ℕ) (t : Tree) (all : List Piece) where
  abbrev whole : List ℕ
  whole = first_bytes m base all 0 (size_of t)

  whole_byte : (o : ℕ) → o < size_of t → get_or whole o 0 ≡ first_byte m base all o
  whole_byte o h =
      let e : 0 + o ≡ o = omega arith in
      first_bytes-index m base all 0 (size_of t) o h ∙ ap (first_byte m base all) e

  stood_read : (ls : List Leaf) (bs : List (List ℕ)) → AllByRecursion (EndsIn (size_of t)) ls → AllByRecursion (CoversLeaf all) ls → LeavesStand m base all ls bs → LeavesRead whole ls bs
  stood_read [] [] ends covers stand = tt
  stood_read (l ∷ ls) (b ∷ bs) ends covers stand = (
    λ k h. let a = covers.0 k h in
        whole_byte (l.at + k) (omega (arith, ends.0, h)) ∙ first_agrees m base all (l.at + k) (get_or b k 0) (stand.0 k h) a.0 a.1 a.2 a.3 a.4,
    stood_read ls bs ends.1 covers.1 stand.1,
  )
  stood_read _ _ ends covers stand = absurd stand

  pub stood_is_read : (v : ValueTree) → HaveAll t all → fits t v ≡ true → LeavesStand m base all (leaves_of t) (leaf_bytes v) → value_in_pieces m base t all ≡ v
  stood_is_read v have fit stand =
      reads t v whole fit (first_bytes-length m base all 0 (size_of t)) (stood_read (leaves_of t) (leaf_bytes v) (leaves_end t) have.covered stand)

-- ---- places that are as they are wanted

-- a narrow integer takes the bytes of its value, four at most, and no more, and all of them are its value
narrow : (s : Scalar) → is_narrow_integer (scalar s) ≡ true → (scalar_size s ≤ 4) × (scalar_room s ≡ scalar_size s) × ((bytes : List ℕ) → significant s bytes ≡ bytes)
narrow u8 h = (omega arith, refl, λ bytes. refl)
narrow s8 h = (omega arith, refl, λ bytes. refl)
narrow u16 h = (omega arith, refl, λ bytes. refl)
narrow s16 h = (omega arith, refl, λ bytes. refl)
narrow u32 h = (omega arith, refl, λ bytes. refl)
narrow s32 h = (omega arith, refl, λ bytes. refl)
narrow _ h = cc

module _ (m : Image) (base : ℕ) (has : HasWords m) (t : Tree) (all : List Piece) where
  abbrev out : List ℕ
  out = first_bytes m base all 0 (size_of t)

  first_small : (ps : List Piece) (o : ℕ) → first_byte m base ps o < 256
  first_small [] o = omega arith
  first_small (p ∷ ps) o =
      elim (carries o p) as (λ b. cond b (byte_at m base p.loc (o - p.off)) (first_byte m base ps o) < 256) [
        | true ↦ byte_small m base has p.loc (o - p.off)
        | false ↦ first_small ps o
      ]

  out_small : (n o k : ℕ) → get_or (first_bytes m base all o n) k 0 < 256
  out_small zero o k = omega arith
  out_small (suc n) o zero = first_small all o
  out_small (suc n) o (suc k) = out_small n (suc o) k

  wanted_small : (p : Piece) (k : ℕ) → wanted_byte m base t all p k < 256
  wanted_small p k =
      elim (nat_lt k p.len && in_leaf (leaves_of t) (p.off + k)) as (λ b. cond b (first_byte m base all (p.off + k)) (place_byte m base p.loc k) < 256) [
        | true ↦ first_small all (p.off + k)
        | false ↦ place_byte_small m base has p.loc k
      ]

  -- the bytes of the word without its extension
  wanted_bytes : (p : Piece) (k : ℕ) → k < 8 → get_or (to_le_bytes w64 (wanted_word m base t all p)) k 0 ≡ wanted_byte m base t all p k
  wanted_bytes p k h =
      ap (λ xs. get_or xs k 0) (bytes_of_eight (wanted_byte m base t all p) (wanted_small p)) ∙ index_eight (wanted_byte m base t all p) k h

  leaf_byte_wanted : (p : Piece) (k : ℕ) → k < p.len → in_leaf (leaves_of t) (p.off + k) ≡ true → wanted_byte m base t all p k ≡ first_byte m base all (p.off + k)
  leaf_byte_wanted p k h leaf =
      ap (λ b. cond b (first_byte m base all (p.off + k)) (place_byte m base p.loc k)) (both _ _ (lt_is k p.len h) leaf)

  -- ---- a place that is as it is wanted has the leaf's byte

  byte_from : (p : Piece) (k word : ℕ) → k < p.len → k < 8 → in_leaf (leaves_of t) (p.off + k) ≡ true → get_or (to_le_bytes w64 word) k 0 ≡ get_or (to_le_bytes w64 (wanted_word m base t all p)) k 0 → get_or (to_le_bytes w64 word) k 0 ≡ first_byte m base all (p.off + k)
  byte_from p k word h few leaf e = e ∙ wanted_bytes p k few ∙ leaf_byte_wanted p k h leaf

  -- a byte of a whole narrow integer
  narrow_byte : (p : Piece) (s : Scalar) (k x : ℕ) → scalar s ≡ t → scalar_room s ≡ scalar_size s → p.off ≡ 0 → k < scalar_size s → (length out ≡ scalar_size s → x ≡ get_or out k 0) → x ≡ first_byte m base all (p.off + k)
  narrow_byte p s k x same room start h e =
      let sized : size_of t ≡ scalar_size s = ap size_of (sym same) ∙ room in
      let at : 0 + k ≡ p.off + k = omega (arith, start) in
      e (first_bytes-length m base all 0 (size_of t) ∙ sized) ∙ first_bytes-index m base all 0 (size_of t) k (omega (arith, h, sized)) ∙ ap (first_byte m base all) at

  extended_byte : (p : Piece) (e : Ext) (u : Tree) → u ≡ t → IsExtended u p e → p.len ≤ 8 → (k word : ℕ) → k < p.len → in_leaf (leaves_of t) (p.off + k) ≡ true → word ≡ extended e u (value_in u out) (wanted_word m base t all p) → get_or (to_le_bytes w64 word) k 0 ≡ first_byte m base all (p.off + k)
  extended_byte p Free u same ext short k word h leaf is =
      byte_from p k word h (omega (arith, h, short)) leaf (ap (λ w. get_or (to_le_bytes w64 w) k 0) is)
  extended_byte p Boxed u same ext short k word h leaf is =
      byte_from p k word h (omega (arith, h, short)) leaf (low_half word (wanted_word m base t all p) k (omega (arith, h, ext.1)) (boxed_half word (wanted_word m base t all p) is).1)
  extended_byte p Widen (scalar s) same ext short k word h leaf is =
      let small = narrow s ext.0 in
      let below : k < scalar_size s = omega (arith, h, ext.2, small.1) in
      narrow_byte p s k (get_or (to_le_bytes w64 word) k 0) same small.1 ext.1 below (λ long. ap (λ w. get_or (to_le_bytes w64 w) k 0) (is ∙ ap (widened s) (small.2 out)) ∙ byte-widened out (out_small (size_of t) 0) s k (omega (arith, small.0)) long below)
  extended_byte p Riscv (scalar s) same ext short k word h leaf is =
      let small = narrow s ext.0 in
      let below : k < scalar_size s = omega (arith, h, ext.2, small.1) in
      narrow_byte p s k (get_or (to_le_bytes w64 word) k 0) same small.1 ext.1 below (λ long. ap (λ w. get_or (to_le_bytes w64 w) k 0) (is ∙ ap (widened_from_32 s) (small.2 out)) ∙ byte-widened_from_32 out (out_small (size_of t) 0) s k small.0 long below)
  extended_byte p _ _ same ext short k word h leaf is = cc (ext.0)

  -- a place that is as it is wanted
  abbrev pub IsAsWanted : Piece → Type 0
  IsAsWanted p = word_at m base p.loc ≡ wanted m base t all p

  piece_byte : (p : Piece) → IsPieceOf t p → IsAsWanted p → (o : ℕ) → Carries o p → in_leaf (leaves_of t) o ≡ true → byte_at m base p.loc (o - p.off) ≡ first_byte m base all o
  piece_byte p of is o c leaf =
      let k = o - p.off in
      let back : p.off + (o - p.off) ≡ o = omega (arith, c.0) in
      let below : o - p.off < p.len = omega (arith, c.0, c.1) in
      let there : in_leaf (leaves_of t) (p.off + (o - p.off)) ≡ true = subst (λ n. in_leaf (leaves_of t) n ≡ true) (sym back) leaf in
      sym (place_byte_is m base p.loc (o - p.off) (omega (arith, below, of.fits))) ∙ byte_of_word m base has p.loc (o - p.off) (omega (arith, below, of.short)) ∙ extended_byte p p.ext t refl of.extended of.short (o - p.off) (word_at m base p.loc) below there is ∙ ap (first_byte m base all) back

  pieces_byte : (ps : List Piece) → AllByRecursion (IsPieceOf t) ps → AllByRecursion IsAsWanted ps → (o : ℕ) → in_leaf (leaves_of t) o ≡ true → (x : ℕ) → first_byte m base all o ≡ x → AllByRecursion (λ p. Carries o p → byte_at m base p.loc (o - p.off) ≡ x) ps
  pieces_byte [] of is o leaf x e = tt
  pieces_byte (p ∷ ps) of is o leaf x e = (
    λ c. piece_byte p of.0 is.0 o c leaf ∙ e,
    pieces_byte ps of.1 is.1 o leaf x e,
  )

  leaves_stand : AllByRecursion (IsPieceOf t) all → AllByRecursion IsAsWanted all → (ls : List Leaf) (bs : List (List ℕ)) → AllByRecursion (EndsIn (size_of t)) ls → ((o : ℕ) → in_leaf ls o ≡ true → in_leaf (leaves_of t) o ≡ true) → LeavesRead out ls bs → LeavesStand m base all ls bs
  leaves_stand of is [] [] ends inside r = tt
  leaves_stand of is (l ∷ ls) (b ∷ bs) ends inside r = (
    λ k h. pieces_byte all of is (l.at + k) (inside (l.at + k) (or_first (nat_le l.at (l.at + k) && nat_lt (l.at + k) (l.at + scalar_size l.kind)) (in_leaf ls (l.at + k)) (leaf_here l k h))) (get_or b k 0) (sym (whole_byte m base t all (l.at + k) (omega (arith, ends.0, h))) ∙ r.0 k h),
    leaves_stand of is ls bs ends.1 (λ o e. inside o (or_second (nat_le l.at o && nat_lt o (l.at + scalar_size l.kind)) (in_leaf ls o) e)) r.1,
  )
  leaves_stand of is _ _ ends inside r = absurd r

  -- THE VALUE THAT IS READ STANDS IN THE PIECES, where each place is as it is wanted
  pub read_stands : HaveAll t all → AllByRecursion IsAsWanted all → LeavesStand m base all (leaves_of t) (leaf_bytes (value_in_pieces m base t all))
  read_stands have is =
      leaves_stand have.each is (leaves_of t) (leaf_bytes (value_in_pieces m base t all)) (leaves_end t) (λ o e. e) (leaves_read t out)

  pub read_fills : (ps : List Piece) → AllByRecursion IsAsWanted ps → FillPieces m base t ps (value_in_pieces m base t all)
  read_fills [] is = tt
  read_fills (p ∷ ps) is = (
    fills p.ext t (value_in_pieces m base t all) (word_at m base p.loc) (wanted_word m base t all p) is.0,
    read_fills ps is.1,
  )

  -- the pieces that have a leaf's byte agree on it
  leaf_agrees : (ls : List Leaf) (bs : List (List ℕ)) (o : ℕ) → in_leaf ls o ≡ true → LeavesStand m base all ls bs → (x : ℕ) × AllByRecursion (λ p. Carries o p → byte_at m base p.loc (o - p.off) ≡ x) all
  leaf_agrees [] bs o e stand = cc
  leaf_agrees (l ∷ ls) [] o e stand = absurd stand
  leaf_agrees (l ∷ ls) (b ∷ bs) o e stand =
      elim (or_cases (nat_le l.at o && nat_lt o (l.at + scalar_size l.kind)) (in_leaf ls o) e) [
        | inl here ↦ let low = is_le l.at o (and_left (nat_le l.at o) (nat_lt o (l.at + scalar_size l.kind)) here) in
            let high = is_lt o (l.at + scalar_size l.kind) (and_right (nat_le l.at o) (nat_lt o (l.at + scalar_size l.kind)) here) in
            let back : l.at + (o - l.at) ≡ o = omega (arith, low) in
            (get_or b (o - l.at) 0, subst (λ n. AllByRecursion (λ p. Carries n p → byte_at m base p.loc (n - p.off) ≡ get_or b (o - l.at) 0) all) back (stand.0 (o - l.at) (omega (arith, low, high))))
        | inr later ↦ leaf_agrees ls bs o later stand.1
      ]

  module _ (bs : List (List ℕ)) (stand : LeavesStand m base all (leaves_of t) bs) (i : ℕ) (p : Piece) (room : p.len ≤ place_size p.loc) (below : i < length all) (at : get_or all i p ≡ p) where
    found_byte : (k : ℕ) (b : Bool) → (b ≡ true → (k < p.len) × (in_leaf (leaves_of t) (p.off + k) ≡ true)) → place_byte m base p.loc k ≡ cond b (first_byte m base all (p.off + k)) (place_byte m base p.loc k)
    found_byte k false f = refl
    found_byte k true f =
        let o = p.off + k in
        let c : Carries (p.off + k) p = (omega arith, omega (arith, (f refl).0)) in
        let agreed = leaf_agrees (leaves_of t) bs (p.off + k) (f refl).1 stand in
        let same : p.off + k - p.off ≡ k = omega arith in
        place_byte_is m base p.loc k (omega (arith, (f refl).0, room)) ∙ ap (byte_at m base p.loc) (sym same) ∙ each_at (λ (q : Piece). Carries (p.off + k) q → byte_at m base q.loc (p.off + k - q.off) ≡ agreed.0) all i p below at agreed.1 c ∙ sym (first_agrees m base all (p.off + k) agreed.0 agreed.1 i p below at c)

    found_word : word_at m base p.loc ≡ wanted_word m base t all p
    found_word =
        word_of_bytes m base has p.loc ∙ ap (from_le_bytes w64) (same_eight (place_byte m base p.loc) (wanted_byte m base t all p) (λ k h. found_byte k (nat_lt k p.len && in_leaf (leaves_of t) (p.off + k)) (λ e. (is_lt k p.len (and_left (nat_lt k p.len) (in_leaf (leaves_of t) (p.off + k)) e), and_right (nat_lt k p.len) (in_leaf (leaves_of t) (p.off + k)) e))))

  pub stood_is_wanted : (v : ValueTree) → HaveAll t all → fits t v ≡ true → LeavesStand m base all (leaves_of t) (leaf_bytes v) → FillPieces m base t all v → AllByRecursion IsAsWanted all
  stood_is_wanted v have fit stand filled =
      each_of IsAsWanted all (λ i p h e. let same = stood_is_read m base t all v have fit stand in
      let fill = each_at (λ (q : Piece). FillsAs q.ext (word_at m base q.loc) t v) all i p h e filled in
      extends p.ext t (value_in_pieces m base t all) (word_at m base p.loc) (wanted_word m base t all p) (found_word (leaf_bytes v) stand i p (each_at (IsPieceOf t) all i p h e have.each).fits h e) (subst (FillsAs p.ext (word_at m base p.loc) t) (sym same) fill))
