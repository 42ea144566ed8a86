-- Arguments that stand at their places in a machine are owned by its image.
use Rattle.std.specs.Prelude.{true}
use Rattle.std.proofs.Common.{◌≡◌, ℕ, ◌+◌, ◌-◌, ◌<◌, ◌≤◌, List, [], ◌∷◌, take, drop, get_or, length, refl, ap, sym, ◌∙◌, subst, arith}
use Rattle.std.specs.List.{AllByRecursion}
use Rattle.std.specs.Int.{w64, from_le_bytes}
use Rattle.std.proofs.lemmas.List.{drop-drop, drop-take, take-take, get_or-take, get_or-drop}
use Rattle.ffi3_type_spec.specs.declared.Target.{Target}
use Rattle.ffi3_type_spec.specs.Tree.{Tree, trees_of}
use Rattle.ffi3_type_spec.specs.Layout.{Leaf, leaves_of, scalar_size, size_of}
use Rattle.ffi3_type_spec.specs.Value.{ValueTree, value_in, values_of, fits, all_fit}
use Rattle.ffi3_place_spec.specs.declared.Loc.{Loc}
use Rattle.ffi3_place_spec.specs.declared.Loc.TheVariants.{G, F, S}
use Rattle.ffi3_place_spec.specs.declared.Piece.{Piece}
use Rattle.ffi3_place_spec.specs.declared.Place.{Place}
use Rattle.ffi3_place_spec.specs.declared.Place.TheVariants.{Direct, ByRef}
use Rattle.ffi3_place_spec.specs.Image.{byte_at, word_at}
use Rattle.ffi3_place_spec.specs.Holds.{leaf_bytes, Carries, LeavesStand, OwnsArgument, OwnsArguments, FillsAs, FillPieces, FillsArgument, FillArguments}
use Rattle.ffi3_place_spec.specs.Sound.{IsPieceOf, piece_locs, place_size}
use Rattle.ffi3_place_spec.proofs.Words.{same_bytes}
use Rattle.ffi3_place_spec.proofs.Tests.{and_left, and_right}
use Rattle.ffi3_type_spec.specs.declared.limits.TheConstants.{STACK}
use Rattle.ffi3_machine_spec.specs.State.{State, image_of, stack_at}
use Rattle.ffi3_machine_transfer.specs.Stored.{IsByteOf, IsPlace, byte_of, word_in, PieceStands}
use Rattle.ffi3_machine_transfer.specs.Standing.{CopyStands, PlaceStands, AllStand, IsReady, AreReady}
use Rattle.ffi3_place_spec.proofs.Reading.{counted}
use Rattle.ffi3_marshal.proofs.Lawful.{each_map}

pub part_of_frame : (xs : List ℕ) (n at size : ℕ) → at + size ≤ n → take size (drop at (take n xs)) ≡ take size (drop at xs)
part_of_frame xs n at size room =
    let whole : n ≡ at + (n - at) = omega (arith, room) in
    ap (λ k. take size (drop at (take k xs))) whole ∙ ap (take size) (drop-take at (n - at) xs) ∙ take-take size (n - at) (drop at xs) (omega (arith, room))

module _ (m : State) (len : ℕ) (low : STACK ≤ m.sp) where
  pub image_byte : (l : Loc) (k : ℕ) → IsPlace len l → k < place_size l → byte_at (image_of len m) 0 l k ≡ byte_of m.sp m l k
  image_byte (G r) k lies h = refl
  image_byte (F r) k lies h = refl
  image_byte (S n w) k lies h =
      let there : m.sp - STACK + (0 + n + k) ≡ m.sp + n + k - STACK = omega (arith, low) in
      get_or-take len (drop (m.sp - STACK) m.stack) (0 + n + k) 0 (omega (arith, lies.0, h)) ∙ get_or-drop (m.sp - STACK) m.stack (0 + n + k) 0 ∙ ap (λ i. get_or m.stack i 0) there

  pub image_word : (l : Loc) → IsPlace len l → word_at (image_of len m) 0 l ≡ word_in m.sp m l
  image_word (G r) lies = refl
  image_word (F r) lies = refl
  image_word (S n w) lies =
      ap (from_le_bytes w64) (same_bytes (byte_at (image_of len m) 0 (S n w)) (byte_of m.sp m (S n w)) w (λ k h. image_byte (S n w) k lies h))

  -- ---- pieces

  -- the piece has the bytes of these leaves
  abbrev HasEach : List Leaf → List (List ℕ) → Piece → Type 0
  HasEach ls bs p = (k : ℕ) → k < p.len → IsByteOf ls bs (p.off + k) (byte_of m.sp m p.loc k)

  module _ (t : Tree) where
    owned_byte : (l : Leaf) (b : List ℕ) (ls : List Leaf) (bs : List (List ℕ)) (pieces : List Piece) (k : ℕ) → k < scalar_size l.kind → AllByRecursion (IsPieceOf t) pieces → AllByRecursion (IsPlace len) (piece_locs pieces) → AllByRecursion (HasEach (l ∷ ls) (b ∷ bs)) pieces →
        AllByRecursion (λ p. Carries (l.at + k) p → byte_at (image_of len m) 0 p.loc (l.at + k - p.off) ≡ get_or b k 0) pieces
    owned_byte l b ls bs [] k h parts lie stand = tt
    owned_byte l b ls bs (p ∷ pieces) k h parts lie stand = (one, owned_byte l b ls bs pieces k h parts.1 lie.1 stand.1)
      where
        one : Carries (l.at + k) p → byte_at (image_of len m) 0 p.loc (l.at + k - p.off) ≡ get_or b k 0
        one c =
            let index : l.at + k ≡ p.off + (l.at + k - p.off) = omega (arith, c.0) in
            let fits = parts.0.fits in
            image_byte p.loc (l.at + k - p.off) lie.0 (omega (arith, c.0, c.1, fits)) ∙ (stand.0 (l.at + k - p.off) (omega (arith, c.0, c.1))).0 k h index

    owned_leaves : (pieces : List Piece) (ls : List Leaf) (bs : List (List ℕ)) → length bs ≡ length ls → AllByRecursion (IsPieceOf t) pieces → AllByRecursion (IsPlace len) (piece_locs pieces) → AllByRecursion (HasEach ls bs) pieces → LeavesStand (image_of len m) 0 pieces ls bs
    owned_leaves pieces [] [] n parts lie stand = tt
    owned_leaves pieces (l ∷ ls) (b ∷ bs) n parts lie stand =
        (λ k h. owned_byte l b ls bs pieces k h parts lie stand, owned_leaves pieces ls bs (omega (arith, n)) parts lie (each_map (HasEach (l ∷ ls) (b ∷ bs)) (HasEach ls bs) (λ p has k h. (has k h).1) pieces stand))
    owned_leaves pieces _ _ n parts lie stand = absurd (omega (arith, n))

  module _ (t : Tree) (v : ValueTree) where
    filled_pieces : (pieces : List Piece) → AllByRecursion (IsPlace len) (piece_locs pieces) → AllByRecursion (PieceStands m.sp m t v) pieces → FillPieces (image_of len m) 0 t pieces v
    filled_pieces [] lie stand = tt
    filled_pieces (p ∷ pieces) lie stand =
        (subst (λ w. FillsAs p.ext w t v) (sym (image_word p.loc lie.0)) stand.0.1, filled_pieces pieces lie.1 stand.1)

  -- ---- one argument

  copy_owned : (t : Tree) (v : ValueTree) (at : Loc) (copy : ℕ) → IsPlace len at → copy + size_of t ≤ len → fits t v ≡ true → CopyStands m.sp m t v at copy → OwnsArgument (image_of len m) 0 t (ByRef at copy) v
  copy_owned t v at copy lies ends fit stands =
      let address : m.sp + copy ≡ m.sp + 0 + copy = omega arith in
      let none : 0 + copy ≡ copy = omega arith in
      let there : m.sp - STACK + copy ≡ m.sp + copy - STACK = omega (arith, low) in
      let same : take (size_of t) (drop (0 + copy) (take len (drop (m.sp - STACK) m.stack))) ≡ stack_at (m.sp + copy) (size_of t) m = ap (λ n. take (size_of t) (drop n (take len (drop (m.sp - STACK) m.stack)))) none ∙ part_of_frame (drop (m.sp - STACK) m.stack) len copy (size_of t) ends ∙ ap (take (size_of t)) (drop-drop copy (m.sp - STACK) m.stack ∙ ap (λ n. drop n m.stack) there) in
      (fit, image_word at lies ∙ stands.address ∙ address, ap (value_in t) same ∙ stands.reads)

  argument_owned : (target : Target) (t : Tree) (v : ValueTree) (p : Place) → IsReady target len t p → fits t v ≡ true → PlaceStands m.sp m t v p → OwnsArgument (image_of len m) 0 t p v
  argument_owned target t v (Direct pieces) ready fit stands =
      (fit, owned_leaves t pieces (leaves_of t) (leaf_bytes v) (counted t v fit) ready.has_all.each ready.lies (each_map (PieceStands m.sp m t v) (HasEach (leaves_of t) (leaf_bytes v)) (λ p has. has.0) pieces stands))
  argument_owned target t v (ByRef at copy) ready fit stands = copy_owned t v at copy ready.lies.0 ready.lies.1 fit stands

  argument_filled : (target : Target) (t : Tree) (v : ValueTree) (p : Place) → IsReady target len t p → PlaceStands m.sp m t v p → FillsArgument (image_of len m) 0 t p v
  argument_filled target t v (Direct pieces) ready stands = filled_pieces t v pieces ready.lies stands
  argument_filled target t v (ByRef at copy) ready stands = tt

  -- ---- all arguments

  pub owned : (target : Target) (ts : List Tree) (ps : List Place) (vs : List ValueTree) → AreReady target len ts ps → all_fit (trees_of ts) (values_of vs) ≡ true → AllStand m.sp m ts ps vs → OwnsArguments (image_of len m) 0 ts ps vs
  owned target [] [] [] ready fit stand = tt
  owned target (t ∷ ts) (p ∷ ps) (v ∷ vs) ready fit stand =
      (argument_owned target t v p ready.0 (and_left (fits t v) (all_fit (trees_of ts) (values_of vs)) fit) stand.0, owned target ts ps vs ready.1 (and_right (fits t v) (all_fit (trees_of ts) (values_of vs)) fit) stand.1)
  owned target _ _ _ ready fit stand = absurd stand

  pub filled : (target : Target) (ts : List Tree) (ps : List Place) (vs : List ValueTree) → AreReady target len ts ps → AllStand m.sp m ts ps vs → FillArguments (image_of len m) 0 ts ps vs
  filled target [] [] [] ready stand = tt
  filled target (t ∷ ts) (p ∷ ps) (v ∷ vs) ready stand =
      (argument_filled target t v p ready.0 stand.0, filled target ts ps vs ready.1 stand.1)
  filled target _ _ _ ready stand = absurd stand
