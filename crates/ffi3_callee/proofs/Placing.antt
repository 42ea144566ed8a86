-- What is read from a place has the value that an image owns there.
use Rattle.std.proofs.Common.{◌≡◌, ℕ, ◌+◌, ◌-◌, ◌≤◌, List, [], ◌∷◌, take, drop, get_or, length, ap, sym, ◌∙◌, arith}
use Rattle.std.specs.List.{AllByRecursion}
use Rattle.std.proofs.lemmas.List.{drop-drop, drop-take, take-take}
use Rattle.ffi3_type_spec.specs.Tree.{Tree}
use Rattle.ffi3_type_spec.specs.Layout.{Leaf, size_of, leaves_of}
use Rattle.ffi3_type_spec.specs.Value.{value_in}
use Rattle.ffi3_place_spec.specs.declared.Loc.{Loc}
use Rattle.ffi3_place_spec.specs.declared.Piece.{Piece}
use Rattle.ffi3_place_spec.specs.declared.Place.TheVariants.{Direct, ByRef}
use Rattle.ffi3_place_spec.specs.Image.{byte_at}
use Rattle.ffi3_place_spec.specs.Holds.{leaf_bytes, Carries, StandsInPieces, LeavesStand}
use Rattle.ffi3_place_spec.specs.Sound.{CoversLeaf, HaveAll, IsPieceOf, piece_locs, IsWithin}
use Rattle.ffi3_place_spec.proofs.Tests.{each_weaker}
use Rattle.ffi3_type_spec.specs.declared.limits.TheConstants.{STACK}
use Rattle.ffi3_machine_spec.specs.State.{State, stack_at, with_sp}
use Rattle.ffi3_machine_transfer.specs.Stored.{IsPlace, word_in}
use Rattle.ffi3_machine_transfer.proofs.Owning.{image_byte, part_of_frame}
use Rattle.ffi3_place_spec.proofs.Reading.{LeavesRead, ReadsLeaf, reads}
use Rattle.ffi3_callee.specs.Loaded.{AreLoaded, HaveByte, IsRead, image_from}

pub parts_within : (t : Tree) (pieces : List Piece) (size : ℕ) → size ≡ size_of t → HaveAll t pieces → AllByRecursion (IsWithin size) pieces
parts_within t pieces size is all =
    each_weaker (IsPieceOf t) (IsWithin size) (λ p h. (h.short, omega (arith, is, h.within), h.fits)) pieces all.each

module _ (base room : ℕ) (m : State) (low : STACK ≤ base) where
  have_byte : (t : Tree) (o x : ℕ) (pieces : List Piece) → AllByRecursion (IsPieceOf t) pieces → AllByRecursion (IsPlace room) (piece_locs pieces) → AllByRecursion (λ p. Carries o p → byte_at (image_from base room m) 0 p.loc (o - p.off) ≡ x) pieces → HaveByte base m o x pieces
  have_byte t o x [] parts lie each = tt
  have_byte t o x (p ∷ ps) parts lie each =
      (λ c. let fits = parts.0.fits in sym (image_byte (with_sp base m) room low p.loc (o - p.off) lie.0 (omega (arith, c.0, c.1, fits))) ∙ each.0 c, have_byte t o x ps parts.1 lie.1 each.1)

  leaf_loaded : (t : Tree) (pieces : List Piece) (out : List ℕ) (l : Leaf) (b : List ℕ) → AllByRecursion (IsPieceOf t) pieces → AllByRecursion (IsPlace room) (piece_locs pieces) → AreLoaded base m pieces out → CoversLeaf pieces l → StandsInPieces (image_from base room m) 0 pieces l b → ReadsLeaf out l b
  leaf_loaded t pieces out l b parts lie loaded covers stands k h =
      loaded (l.at + k) (get_or b k 0) (have_byte t (l.at + k) (get_or b k 0) pieces parts lie (stands k h)) (covers k h)

  leaves_loaded : (t : Tree) (pieces : List Piece) (out : List ℕ) (ls : List Leaf) (bs : List (List ℕ)) → AllByRecursion (IsPieceOf t) pieces → AllByRecursion (IsPlace room) (piece_locs pieces) → AreLoaded base m pieces out → AllByRecursion (CoversLeaf pieces) ls → LeavesStand (image_from base room m) 0 pieces ls bs → LeavesRead out ls bs
  leaves_loaded t pieces out [] [] parts lie loaded covers stand = tt
  leaves_loaded t pieces out (l ∷ ls) (b ∷ bs) parts lie loaded covers stand =
      (leaf_loaded t pieces out l b parts lie loaded covers.0 stand.0, leaves_loaded t pieces out ls bs parts lie loaded covers.1 stand.1)
  leaves_loaded t pieces out _ _ parts lie loaded covers stand = absurd stand

pub pieces_read : (base : ℕ) (m : State) (t : Tree) (pieces : List Piece) (out : List ℕ) → STACK ≤ base → HaveAll t pieces → length out ≡ size_of t → AreLoaded base m pieces out → IsRead base m t (Direct pieces) out
pieces_read base m t pieces out low all sized loaded = λ room lies top v own.
    reads t v out own.0 sized (leaves_loaded base room m low t pieces out (leaves_of t) (leaf_bytes v) all.each lies loaded all.covered own.1)

-- a stretch inside a stretch of the stack
pub stack_inside : (base room at size : ℕ) (m : State) → STACK ≤ base → at + size ≤ room → take size (drop at (stack_at base room m)) ≡ stack_at (base + at) size m
stack_inside base room at size m low ends =
    let there : base - STACK + at ≡ base + at - STACK = omega (arith, low) in
    part_of_frame (drop (base - STACK) m.stack) room at size ends ∙ ap (take size) (drop-drop at (base - STACK) m.stack ∙ ap (λ n. drop n m.stack) there)

pub copy_read : (base : ℕ) (m : State) (t : Tree) (at : Loc) (copy start : ℕ) (out : List ℕ) → STACK ≤ base → start ≡ word_in base m at → word_in base m at ≡ base + copy → out ≡ stack_at start (size_of t) m → IsRead base m t (ByRef at copy) out
copy_read base m t at copy start out low starts found is = λ room lies top v own.
    let none : 0 + copy ≡ copy = omega arith in
    let same : take (size_of t) (drop (0 + copy) (stack_at base room m)) ≡ stack_at start (size_of t) m = ap (λ n. take (size_of t) (drop n (stack_at base room m))) none ∙ stack_inside base room copy (size_of t) m low lies.1 ∙ ap (λ n. stack_at n (size_of t) m) (sym found ∙ sym starts) in
    ap (value_in t) (is ∙ sym same) ∙ own.2
