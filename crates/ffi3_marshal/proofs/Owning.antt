-- An argument that stands at its place is owned by the image, and what fills the rest of the place is right.
use Rattle.std.specs.Prelude.{true}
use Rattle.std.proofs.Common.{◌≡◌, ℕ, ◌+◌, ◌-◌, ◌<◌, List, [], ◌∷◌, get_or, ap, ◌∙◌, arith}
use Rattle.std.specs.List.{AllByRecursion}
use Rattle.ffi3_type_spec.specs.Tree.{Tree}
use Rattle.ffi3_type_spec.specs.Layout.{Leaf, leaves_of, scalar_size}
use Rattle.ffi3_type_spec.specs.Value.{value_in, fits}
use Rattle.ffi3_place_spec.specs.declared.Piece.{Piece}
use Rattle.ffi3_place_spec.specs.declared.Place.{Place}
use Rattle.ffi3_place_spec.specs.declared.Place.TheVariants.{Direct, ByRef}
use Rattle.ffi3_place_spec.specs.Image.{Image, byte_at}
use Rattle.ffi3_place_spec.specs.Holds.{leaf_bytes, Carries, LeavesStand, OwnsArgument, FillPieces, FillsArgument}
use Rattle.ffi3_place_spec.proofs.Reading.{LeavesRead, ReadsLeaf, leaves_read}
use Rattle.ffi3_marshal.specs.Stored.{PieceStands}
use Rattle.ffi3_marshal.specs.Standing.{PlaceStands}

module _ (base : ℕ) (m : Image) where
  leaf_stands : (t : Tree) (bytes : List ℕ) (l : Leaf) (b : List ℕ) (pieces : List Piece) (k : ℕ) → k < scalar_size l.kind → ReadsLeaf bytes l b → AllByRecursion (PieceStands base m t bytes) pieces → AllByRecursion (λ p. Carries (l.at + k) p → byte_at m base p.loc (l.at + k - p.off) ≡ get_or b k 0) pieces
  leaf_stands t bytes l b [] k h reads stand = tt
  leaf_stands t bytes l b (p ∷ pieces) k h reads stand = (one, leaf_stands t bytes l b pieces k h reads stand.1)
    where
      one : Carries (l.at + k) p → byte_at m base p.loc (l.at + k - p.off) ≡ get_or b k 0
      one c =
          let there : p.off + (l.at + k - p.off) ≡ l.at + k = omega (arith, c.0) in
          stand.0.held (l.at + k - p.off) (omega (arith, c.0, c.1)) ∙ ap (λ n. get_or bytes n 0) there ∙ reads k h

  leaves_stand : (t : Tree) (bytes : List ℕ) (pieces : List Piece) (ls : List Leaf) (bs : List (List ℕ)) → LeavesRead bytes ls bs → AllByRecursion (PieceStands base m t bytes) pieces → LeavesStand m base pieces ls bs
  leaves_stand t bytes pieces [] [] reads stand = tt
  leaves_stand t bytes pieces (l ∷ ls) (b ∷ bs) reads stand =
      (λ k h. leaf_stands t bytes l b pieces k h reads.0 stand, leaves_stand t bytes pieces ls bs reads.1 stand)
  leaves_stand t bytes pieces _ _ reads stand = absurd reads

  -- the pieces of bytes have the value that these have
  pub pieces_stand : (t : Tree) (bytes : List ℕ) (pieces : List Piece) → AllByRecursion (PieceStands base m t bytes) pieces → LeavesStand m base pieces (leaves_of t) (leaf_bytes (value_in t bytes))
  pieces_stand t bytes pieces stand =
      leaves_stand t bytes pieces (leaves_of t) (leaf_bytes (value_in t bytes)) (leaves_read t bytes) stand

  pub pieces_filled : (t : Tree) (bytes : List ℕ) (pieces : List Piece) → AllByRecursion (PieceStands base m t bytes) pieces → FillPieces m base t pieces (value_in t bytes)
  pieces_filled t bytes [] stand = tt
  pieces_filled t bytes (p ∷ pieces) stand = (stand.0.filled, pieces_filled t bytes pieces stand.1)

  pub argument_owned : (t : Tree) (bytes : List ℕ) (p : Place) → fits t (value_in t bytes) ≡ true → PlaceStands base m t bytes p → OwnsArgument m base t p (value_in t bytes)
  argument_owned t bytes (Direct pieces) fit stands = (fit, pieces_stand t bytes pieces stands)
  argument_owned t bytes (ByRef at copy) fit stands = (fit, stands.address, ap (value_in t) stands.has)

  pub argument_filled : (t : Tree) (bytes : List ℕ) (p : Place) → PlaceStands base m t bytes p → FillsArgument m base t p (value_in t bytes)
  argument_filled t bytes (Direct pieces) stands = pieces_filled t bytes pieces stands
  argument_filled t bytes (ByRef at copy) stands = tt
