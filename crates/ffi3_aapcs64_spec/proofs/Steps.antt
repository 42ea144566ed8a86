-- What one more member adds.
use Rattle.std.proofs.Common.{◌≡◌, ℕ, ◌+◌, ◌<◌, List, ◌++◌, drop, length, ap, ◌∙◌, arith, subst, append_assoc}
use Rattle.ffi3_type_spec.specs.Tree.{Tree}
use Rattle.ffi3_type_spec.specs.Layout.{leaves_of, leaf_at}
use Rattle.ffi3_place_spec.specs.declared.Piece.{Piece}
use Rattle.ffi3_place_spec.proofs.Elements.{leaf_read}
use Rattle.ffi3_aapcs64_spec.specs.Aapcs64.{member_in, member_pieces}

-- one more member, where the new list and its last pieces are known by equations
pub member_turn : (t : Tree) (v i : ℕ) (out new whole pieces : List Piece) → i < length (leaves_of t) → pieces ≡ member_in (v + i) (leaf_at t i) → new ≡ out ++ pieces → out ++ member_pieces (v + i) (drop i (leaves_of t)) ≡ whole → new ++ member_pieces (v + (i + 1)) (drop (i + 1) (leaves_of t)) ≡ whole
member_turn t v i out new whole pieces h are pushed before =
    let here : List Piece = member_in (v + i) (leaf_at t i) in
    let rest : List Piece = member_pieces (v + (i + 1)) (drop (i + 1) (leaves_of t)) in
    let opened = subst (λ ls. out ++ member_pieces (v + i) ls ≡ whole) (leaf_read t i h) before in
    let index : v + i + 1 ≡ v + (i + 1) = omega arith in
    let next = subst (λ n. out ++ (here ++ member_pieces n (drop (i + 1) (leaves_of t))) ≡ whole) index opened in
    ap (λ ps. ps ++ rest) (pushed ∙ ap (λ ps. out ++ ps) are) ∙ append_assoc out here rest ∙ next
