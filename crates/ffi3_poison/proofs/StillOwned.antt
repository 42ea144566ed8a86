-- An image in which each byte that carries something is the same still owns what it owned.
use Rattle.std.specs.Prelude.{◌==◌, nat_lt, Bool, true, false, not, ◌&&◌, ◌||◌, Some, None}
use Rattle.std.proofs.Common.{◌≡◌, ℕ, ◌+◌, ◌-◌, ◌<◌, ◌≤◌, List, [], ◌∷◌, take, drop, get_or, length, refl, ap, sym, ◌∙◌, subst, arith, eq-eqb}
use Rattle.std.specs.List.{AllByRecursion, list_any}
use Rattle.std.specs.Int.{w64, from_le_bytes}
use Rattle.std.proofs.lemmas.Bool.Decides.{nat_tests}
use Rattle.ffi3_type_spec.specs.declared.Target.{Target}
use Rattle.ffi3_type_spec.specs.Tree.{Tree}
use Rattle.ffi3_type_spec.specs.Layout.{Leaf, leaves_of, scalar_size, size_of}
use Rattle.ffi3_type_spec.specs.Value.{ValueTree, fits, value_in}
use Rattle.ffi3_type_spec.proofs.Parts.{index_part, length_part}
use Rattle.ffi3_type_spec.proofs.Tests.{both, if_true, if_false}
use Rattle.ffi3_place_spec.specs.declared.Loc.{Loc}
use Rattle.ffi3_place_spec.specs.declared.Loc.TheVariants.{G, F, S}
use Rattle.ffi3_place_spec.specs.declared.Piece.{Piece}
use Rattle.ffi3_place_spec.specs.declared.Place.{Place}
use Rattle.ffi3_place_spec.specs.declared.Place.TheVariants.{Direct, ByRef}
use Rattle.ffi3_place_spec.specs.declared.Res.{Res}
use Rattle.ffi3_place_spec.specs.declared.Res.TheVariants.{Nothing, Direct as DirectRes, Hidden}
use Rattle.ffi3_place_spec.specs.Image.{Image, byte_at, word_at}
use Rattle.ffi3_place_spec.specs.Holds.{leaf_bytes, Carries, LeavesStand, OwnsArgument, OwnsArguments, OwnsHidden}
use Rattle.ffi3_place_spec.specs.Sound.{IsPieceOf, hidden_locs, piece_locs, place_size}
use Rattle.ffi3_place_spec.proofs.Words.{same_bytes}
use Rattle.ffi3_place_spec.proofs.Covered.{EndsIn, leaves_end}
use Rattle.ffi3_machine_transfer.specs.Stored.{IsPlace}
use Rattle.ffi3_machine_transfer.specs.Standing.{AreReady, IsReady}
use Rattle.ffi3_place_spec.proofs.Reading.{LeavesRead, leaves_read, reads}
use Rattle.ffi3_poison.specs.Poison.{address_has, byte_number, copy_has, hidden_has, is_leaf_byte, leaf_has, passes, piece_has, place_has, places_have}

-- ---- tests

pub or_left : (a b : Bool) → a ≡ true → (a || b) ≡ true
or_left true b h = refl
or_left false b h = cc

pub or_right : (a b : Bool) → b ≡ true → (a || b) ≡ true
or_right true b h = refl
or_right false b h = h

less : (a b : ℕ) → a < b → nat_lt a b ≡ true
less a b h = grind (arith, nat_tests, h)

not_less : (a b : ℕ) → b ≤ a → nat_lt a b ≡ false
not_less a b h = grind (arith, nat_tests, h)

-- ---- byte k of a place: of a register that byte, of the stack the first of the place that begins there

abbrev pub At : (Loc → ℕ → Type 0) → Loc → ℕ → Type 0
At P (G r) k = P (G r) k
At P (F r) k = P (F r) k
At P (S n w) k = P (S (n + k) 1) 0

at_map : (P Q : Loc → ℕ → Type 0) → ((m : Loc) (j : ℕ) → P m j → Q m j) → (l : Loc) (k : ℕ) → At P l k → At Q l k
at_map P Q f (G r) k h = f (G r) k h
at_map P Q f (F r) k h = f (F r) k h
at_map P Q f (S n w) k h = f (S (n + k) 1) 0 h

number_at : (l : Loc) (k : ℕ) → At (λ m j. byte_number m j l ≡ Some k) l k
number_at (G r) k = if_true (r == r) (Some k) None (eq-eqb r r refl)
number_at (F r) k = if_true (r == r) (Some k) None (eq-eqb r r refl)
number_at (S n w) k =
    let back : n + k + 0 - n ≡ k = omega arith in
    if_false (nat_lt (n + k + 0) n) None (Some (n + k + 0 - n)) (not_less (n + k + 0) n (omega arith)) ∙ ap Some back

-- ---- what carries something is found there

piece_at : (t : Tree) (p : Piece) (k : ℕ) → k < p.len → is_leaf_byte t (p.off + k) ≡ true → At (λ m j. piece_has t m j p ≡ true) p.loc k
piece_at t p k h leaf =
    at_map (λ m j. byte_number m j p.loc ≡ Some k) (λ m j. piece_has t m j p ≡ true) (λ m j is. ap (passes (λ i. nat_lt i p.len && is_leaf_byte t (p.off + i))) is ∙ both (nat_lt k p.len) (is_leaf_byte t (p.off + k)) (less k p.len h) leaf) p.loc k (number_at p.loc k)

address_at : (at : Loc) (k : ℕ) → k < 8 → At (λ m j. address_has m j at ≡ true) at k
address_at at k h =
    at_map (λ m j. byte_number m j at ≡ Some k) (λ m j. address_has m j at ≡ true) (λ m j is. ap (passes (λ i. nat_lt i 8)) is ∙ less k 8 h) at k (number_at at k)

copy_at : (t : Tree) (copy k : ℕ) → is_leaf_byte t k ≡ true → copy_has t (S (copy + k) 1) 0 copy ≡ true
copy_at t copy k leaf = ap (passes (is_leaf_byte t)) (number_at (S copy 8) k) ∙ leaf

leaf_here : (l : Leaf) (k : ℕ) → k < scalar_size l.kind → leaf_has (l.at + k) l ≡ true
leaf_here l k h =
    both (not (nat_lt (l.at + k) l.at)) (nat_lt (l.at + k) (l.at + scalar_size l.kind)) (ap not (not_less (l.at + k) l.at (omega arith))) (less (l.at + k) (l.at + scalar_size l.kind) (omega (arith, h)))

-- ---- the images

-- both have the same in each byte that passes: of a register, or of so many bytes of the stack from `base` on
pub record AgreeWhere (base room : ℕ) (test : Loc → ℕ → Bool) (old new : Image) : Type 0 where
  pub bytes : (l : Loc) (k : ℕ) → IsPlace 0 l → k < 8 → test l k ≡ true → byte_at new base l k ≡ byte_at old base l k
  pub words : (l : Loc) → IsPlace 0 l → ((k : ℕ) → k < 8 → test l k ≡ true) → word_at new base l ≡ word_at old base l
  pub stack : (n : ℕ) → n < room → test (S n 1) 0 ≡ true → get_or new.stack (base + n) 0 ≡ get_or old.stack (base + n) 0
  pub sp : new.sp ≡ old.sp
  pub reaches : base + room ≤ length new.stack

module _ (base room : ℕ) (test : Loc → ℕ → Bool) (old new : Image) (agree : AgreeWhere base room test old new) where
  abbrev Tested : Loc → ℕ → Type 0
  Tested m j = test m j ≡ true

  same_byte : (l : Loc) (k : ℕ) → IsPlace room l → k < place_size l → At Tested l k → byte_at new base l k ≡ byte_at old base l k
  same_byte (G r) k lies h is = agree.bytes (G r) k lies h is
  same_byte (F r) k lies h is = agree.bytes (F r) k lies h is
  same_byte (S n w) k lies h is =
      let there : base + (n + k) ≡ base + n + k = omega arith in
      ap (λ i. get_or new.stack i 0) (sym there) ∙ agree.stack (n + k) (omega (arith, lies.0, h)) is ∙ ap (λ i. get_or old.stack i 0) there

  same_word : (l : Loc) → IsPlace room l → ((k : ℕ) → k < place_size l → At Tested l k) → word_at new base l ≡ word_at old base l
  same_word (G r) lies is = agree.words (G r) lies is
  same_word (F r) lies is = agree.words (F r) lies is
  same_word (S n w) lies is =
      ap (from_le_bytes w64) (same_bytes (byte_at new base (S n w)) (byte_at old base (S n w)) w (λ k h. same_byte (S n w) k lies h (is k h)))

  place_small : (l : Loc) → IsPlace room l → place_size l ≤ 8
  place_small (G r) lies = omega arith
  place_small (F r) lies = omega arith
  place_small (S n w) lies = lies.2

  -- ---- pieces

  module _ (t : Tree) where
    -- each byte of a leaf that the piece has passes
    abbrev LeavesTested : Piece → Type 0
    LeavesTested p = (k : ℕ) → k < p.len → is_leaf_byte t (p.off + k) ≡ true → At Tested p.loc k

    each_tested : (pieces : List Piece) → ((m : Loc) (j : ℕ) → list_any (piece_has t m j) pieces ≡ true → test m j ≡ true) → AllByRecursion LeavesTested pieces
    each_tested [] f = tt
    each_tested (p ∷ ps) f = (
      λ k h leaf. at_map (λ m j. piece_has t m j p ≡ true) Tested (λ m j has. f m j (or_left (piece_has t m j p) (list_any (piece_has t m j) ps) has)) p.loc k (piece_at t p k h leaf),
      each_tested ps (λ m j has. f m j (or_right (piece_has t m j p) (list_any (piece_has t m j) ps) has)),
    )

    pieces_same : (o x : ℕ) → is_leaf_byte t o ≡ true → (pieces : List Piece) → AllByRecursion (IsPieceOf t) pieces → AllByRecursion (IsPlace room) (piece_locs pieces) → AllByRecursion LeavesTested pieces → AllByRecursion (λ p. Carries o p → byte_at old base p.loc (o - p.off) ≡ x) pieces → AllByRecursion (λ p. Carries o p → byte_at new base p.loc (o - p.off) ≡ x) pieces
    pieces_same o x leaf [] parts lie tested h = tt
    pieces_same o x leaf (p ∷ ps) parts lie tested h = (one, pieces_same o x leaf ps parts.1 lie.1 tested.1 h.1)
      where
        one : Carries o p → byte_at new base p.loc (o - p.off) ≡ x
        one c =
            let index : o ≡ p.off + (o - p.off) = omega (arith, c.0) in
            let fits = parts.0.fits in
            same_byte p.loc (o - p.off) lie.0 (omega (arith, c.0, c.1, fits)) (tested.0 (o - p.off) (omega (arith, c.0, c.1)) (subst (λ n. is_leaf_byte t n ≡ true) index leaf)) ∙ h.0 c

    leaves_same : (pieces : List Piece) → AllByRecursion (IsPieceOf t) pieces → AllByRecursion (IsPlace room) (piece_locs pieces) → AllByRecursion LeavesTested pieces → (ls : List Leaf) (bs : List (List ℕ)) → ((o : ℕ) → list_any (leaf_has o) ls ≡ true → is_leaf_byte t o ≡ true) → LeavesStand old base pieces ls bs → LeavesStand new base pieces ls bs
    leaves_same pieces parts lie tested [] [] f h = tt
    leaves_same pieces parts lie tested [] (b ∷ bs) f h = absurd h
    leaves_same pieces parts lie tested (l ∷ ls) [] f h = absurd h
    leaves_same pieces parts lie tested (l ∷ ls) (b ∷ bs) f h = (
      λ k below. pieces_same (l.at + k) (get_or b k 0) (f (l.at + k) (or_left (leaf_has (l.at + k) l) (list_any (leaf_has (l.at + k)) ls) (leaf_here l k below))) pieces parts lie tested (h.0 k below),
      leaves_same pieces parts lie tested ls bs (λ o has. f o (or_right (leaf_has o l) (list_any (leaf_has o) ls) has)) h.1,
    )

    -- ---- copies

    copy_read : (copy : ℕ) → copy + size_of t ≤ room → ((k : ℕ) → is_leaf_byte t k ≡ true → test (S (copy + k) 1) 0 ≡ true) → (ls : List Leaf) (bs : List (List ℕ)) → AllByRecursion (EndsIn (size_of t)) ls → ((o : ℕ) → list_any (leaf_has o) ls ≡ true → is_leaf_byte t o ≡ true) → LeavesRead (take (size_of t) (drop (base + copy) old.stack)) ls bs → LeavesRead (take (size_of t) (drop (base + copy) new.stack)) ls bs
    copy_read copy fit g [] [] ends f h = tt
    copy_read copy fit g [] (b ∷ bs) ends f h = absurd h
    copy_read copy fit g (l ∷ ls) [] ends f h = absurd h
    copy_read copy fit g (l ∷ ls) (b ∷ bs) ends f h =
        (one, copy_read copy fit g ls bs ends.1 (λ o has. f o (or_right (leaf_has o l) (list_any (leaf_has o) ls) has)) h.1)
      where
        one : (k : ℕ) → k < scalar_size l.kind → get_or (take (size_of t) (drop (base + copy) new.stack)) (l.at + k) 0 ≡ get_or b k 0
        one k below =
            let inside : l.at + k < size_of t = omega (arith, ends.0, below) in
            let leaf = f (l.at + k) (or_left (leaf_has (l.at + k) l) (list_any (leaf_has (l.at + k)) ls) (leaf_here l k below)) in
            let there : base + (copy + (l.at + k)) ≡ base + copy + (l.at + k) = omega arith in
            index_part new.stack (base + copy) (size_of t) (l.at + k) inside ∙ ap (λ i. get_or new.stack i 0) (sym there) ∙ agree.stack (copy + (l.at + k)) (omega (arith, inside, fit)) (g (l.at + k) leaf) ∙ ap (λ i. get_or old.stack i 0) there ∙ sym (index_part old.stack (base + copy) (size_of t) (l.at + k) inside) ∙ h.0 k below

    copy_same : (v : ValueTree) (copy : ℕ) → fits t v ≡ true → copy + size_of t ≤ room → ((k : ℕ) → is_leaf_byte t k ≡ true → test (S (copy + k) 1) 0 ≡ true) → value_in t (take (size_of t) (drop (base + copy) old.stack)) ≡ v → value_in t (take (size_of t) (drop (base + copy) new.stack)) ≡ v
    copy_same v copy fit room_is g is =
        let before = subst (λ w. LeavesRead (take (size_of t) (drop (base + copy) old.stack)) (leaves_of t) (leaf_bytes w)) is (leaves_read t (take (size_of t) (drop (base + copy) old.stack))) in
        reads t v (take (size_of t) (drop (base + copy) new.stack)) fit (length_part new.stack (base + copy) (size_of t) (omega (arith, room_is, agree.reaches))) (copy_read copy room_is g (leaves_of t) (leaf_bytes v) (leaves_end t) (λ o has. has) before)

  -- ---- arguments

  argument_same : (target : Target) (t : Tree) (p : Place) (v : ValueTree) → IsReady target room t p → ((m : Loc) (j : ℕ) → place_has t m j p ≡ true → test m j ≡ true) → OwnsArgument old base t p v → OwnsArgument new base t p v
  argument_same target t (Direct pieces) v ready f own =
      (own.0, leaves_same t pieces ready.has_all.each ready.lies (each_tested t pieces f) (leaves_of t) (leaf_bytes v) (λ o has. has) own.1)
  argument_same target t (ByRef at copy) v ready f own =
      let address : old.sp + base + copy ≡ new.sp + base + copy = ap (λ n. n + base + copy) (sym agree.sp) in (
        own.0,
        same_word at ready.lies.0 (λ k h. at_map (λ m j. address_has m j at ≡ true) Tested (λ m j has. f m j (or_left (address_has m j at) (copy_has t m j copy) has)) at k (address_at at k (omega (arith, h, place_small at ready.lies.0)))) ∙ own.1 ∙ address,
        copy_same t v copy own.0 ready.lies.1 (λ k leaf. f (S (copy + k) 1) 0 (or_right (address_has (S (copy + k) 1) 0 at) (copy_has t (S (copy + k) 1) 0 copy) (copy_at t copy k leaf))) own.2,
      )

  pub arguments_same : (target : Target) (ts : List Tree) (ps : List Place) (vs : List ValueTree) → AreReady target room ts ps → ((m : Loc) (j : ℕ) → places_have m j ts ps ≡ true → test m j ≡ true) → OwnsArguments old base ts ps vs → OwnsArguments new base ts ps vs
  arguments_same target [] [] [] ready f own = tt
  arguments_same target [] [] (v ∷ vs) ready f own = absurd own
  arguments_same target [] (p ∷ ps) vs ready f own = absurd ready
  arguments_same target (t ∷ ts) [] vs ready f own = absurd ready
  arguments_same target (t ∷ ts) (p ∷ ps) [] ready f own = absurd own
  arguments_same target (t ∷ ts) (p ∷ ps) (v ∷ vs) ready f own = (
    argument_same target t p v ready.0 (λ m j has. f m j (or_left (place_has t m j p) (places_have m j ts ps) has)) own.0,
    arguments_same target ts ps vs ready.1 (λ m j has. f m j (or_right (place_has t m j p) (places_have m j ts ps) has)) own.1,
  )

  pub hidden_same : (r : Res) → AllByRecursion (IsPlace room) (hidden_locs r) → ((m : Loc) (j : ℕ) → hidden_has m j r ≡ true → test m j ≡ true) → OwnsHidden old base r → OwnsHidden new base r
  hidden_same Nothing lie f own = tt
  hidden_same (DirectRes pieces) lie f own = tt
  hidden_same (Hidden at buffer) lie f own =
      let address : old.sp + base + buffer ≡ new.sp + base + buffer = ap (λ n. n + base + buffer) (sym agree.sp) in
      same_word at lie.0 (λ k h. at_map (λ m j. address_has m j at ≡ true) Tested (λ m j has. f m j has) at k (address_at at k (omega (arith, h, place_small at lie.0)))) ∙ own ∙ address
