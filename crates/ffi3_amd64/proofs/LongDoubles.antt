-- Long doubles of x87's format: what one more adds, and where a value is one.
use Rattle.std.proofs.Common.{◌≡◌, ◌≢◌, ℕ, ◌+◌, ◌<◌, false, List, [], ◌∷◌, ◌++◌, drop, length, ap, ◌∙◌, refl, arith, subst, append_assoc}
use Rattle.std.specs.Prelude.{slice_index_or}
use Rattle.ffi3_type_spec.specs.Tree.{Tree}
use Rattle.ffi3_type_spec.specs.Layout.{Leaf, leaves_of, leaf_at}
use Rattle.ffi3_place_spec.specs.declared.Piece.{Piece}
use Rattle.ffi3_place_spec.proofs.Elements.{leaf_read}
use Rattle.ffi3_amd64_spec.specs.Amd64.{is_x87_scalar, is_one_x87, x87_pieces}

-- ---- leaves

pub one_leaf : (ls : List Leaf) (d : Leaf) → length ls ≡ 1 → is_one_x87 ls ≡ is_x87_scalar (slice_index_or ls 0 d).kind
one_leaf [] d h = absurd (omega (arith, h))
one_leaf (l ∷ []) d h = refl
one_leaf (l ∷ m ∷ ls) d h = absurd (omega (arith, h))

pub not_one_leaf : (ls : List Leaf) → length ls ≢ 1 → is_one_x87 ls ≡ false
not_one_leaf [] h = refl
not_one_leaf (l ∷ []) h = absurd (h refl)
not_one_leaf (l ∷ m ∷ ls) h = refl

-- ---- pieces

pub x87_turn : (t : Tree) (k : ℕ) (out new whole : List Piece) → k < length (leaves_of t) → new ≡ out ++ x87_pieces k (leaf_at t k ∷ []) → out ++ x87_pieces k (drop k (leaves_of t)) ≡ whole → new ++ x87_pieces (k + 1) (drop (k + 1) (leaves_of t)) ≡ whole
x87_turn t k out new whole h pushed before =
    let opened = subst (λ ls. out ++ x87_pieces k ls ≡ whole) (leaf_read t k h) before in
    ap (λ ps. ps ++ x87_pieces (k + 1) (drop (k + 1) (leaves_of t))) pushed ∙ append_assoc out (x87_pieces k (leaf_at t k ∷ [])) (x87_pieces (k + 1) (drop (k + 1) (leaves_of t))) ∙ opened
