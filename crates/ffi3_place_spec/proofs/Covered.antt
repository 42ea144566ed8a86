-- Pieces that have each byte of a value have each byte of its leaves.
use Rattle.std.proofs.Common.{ℕ, suc, ◌+◌, ◌<◌, ◌≤◌, List, ◌∷◌, arith}
use Rattle.std.specs.List.{AllByRecursion, Any}
use Rattle.std.proofs.lemmas.List.Elements.{recursion_from_All}
use Rattle.ffi3_type_spec.specs.Tree.{Tree}
use Rattle.ffi3_type_spec.specs.Layout.{Leaf, leaves_of, size_of, scalar_size}
use Rattle.ffi3_type_spec.proofs.LayoutLaws.{rising-inside, tree_well}
use Rattle.ffi3_place_spec.specs.declared.Piece.{Piece}
use Rattle.ffi3_place_spec.specs.Holds.{Carries}
use Rattle.ffi3_place_spec.specs.Sound.{CoversLeaf}
use Rattle.ffi3_place_spec.proofs.Tests.{each_weaker}

-- the leaf ends within so many bytes
abbrev pub EndsIn : ℕ → Leaf → Type 0
EndsIn n l = l.at + scalar_size l.kind ≤ n

pub leaves_end : (t : Tree) → AllByRecursion (EndsIn (size_of t)) (leaves_of t)
leaves_end t =
    recursion_from_All (EndsIn (size_of t)) (leaves_of t) (λ i d below. (rising-inside 0 (leaves_of t) (size_of t) i d below (tree_well t).rising).1)

-- where each byte of the value stands in a piece, so does each byte of its leaves
pub covers_leaves : (t : Tree) (pieces : List Piece) → ((o : ℕ) → o < size_of t → Any (Carries o) pieces) → AllByRecursion (CoversLeaf pieces) (leaves_of t)
covers_leaves t pieces carried =
    each_weaker (EndsIn (size_of t)) (CoversLeaf pieces) (λ l h k in_leaf. carried (l.at + k) (omega (arith, h, in_leaf))) (leaves_of t) (leaves_end t)

pub any_later : {X : Type 0} (P : X → Type 0) (x : X) (xs : List X) → Any P xs → Any P (x ∷ xs)
any_later P x xs a = (suc a.0, a.1, omega (arith, a.2), a.3, a.4)
