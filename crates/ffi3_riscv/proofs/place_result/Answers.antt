use Rattle.std.proofs.Common.{◌≡◌, ℕ, List, ap, sym, ◌∙◌, refl}
use Rattle.ffi3_type_spec.specs.Tree.{Tree, void}
use Rattle.ffi3_types.specs.declared.FfiType.{FfiType}
use Rattle.ffi3_types.specs.declared.FfiType.TheVariants.{Void}
use Rattle.ffi3_types.specs.TreeOf.{tree_of}
use Rattle.ffi3_place_spec.specs.declared.Loc.{Loc}
use Rattle.ffi3_place_spec.specs.declared.Piece.{Piece}
use Rattle.ffi3_place_spec.specs.declared.Place.TheVariants.{Direct, ByRef}
use Rattle.ffi3_place_spec.specs.declared.Res.TheVariants.{Direct as DirectRes, Hidden}
use Rattle.ffi3_place_spec.specs.Standard.{Spot, in_pieces, by_reference, start, result_at}
use Rattle.ffi3_place.specs.WithoutCopy.{without_copy}
use Rattle.ffi3_riscv_spec.specs.Riscv.{untouched, spot_of, result_shape, result_from, result_spot_of}
use Rattle.ffi3_riscv.proofs.place_result.Goals as goal

not_void : (ty : FfiType) → ¬ (ty ≡ Void) → ¬ (tree_of ty ≡ void)
not_void Void some e = some refl
not_void _ some e = cc

-- a result that is there is placed as a first argument
as_argument : (t : Tree) → ¬ (t ≡ void) → result_from (spot_of untouched t (result_shape t)) ≡ result_spot_of t
as_argument void some = absurd (some refl)
as_argument _ some = refl

module _ (end : ℕ) (t : Tree) where
  in_registers : (spot : Spot) (pieces : List Piece) → Direct pieces ≡ without_copy spot → DirectRes pieces ≡ result_at start end t (result_from spot)
  in_registers (in_pieces ps) pieces e = cc
  in_registers (by_reference l) pieces e = cc

  in_a_buffer : (spot : Spot) (at : Loc) (copy : ℕ) → ByRef at copy ≡ without_copy spot → Hidden at (start end t) ≡ result_at start end t (result_from spot)
  in_a_buffer (in_pieces ps) at copy e = cc
  in_a_buffer (by_reference l) at copy e =
      let same : at ≡ l = cc in
      ap (λ a. Hidden a (start end t)) same

pub returns-in-Direct : goal.returns-in-Direct
returns-in-Direct c =
    let t = c.args.sig.now.result_type in
    let some : ¬ (t ≡ void) = λ e. not_void c.as_type.result.now c.in_default.not-Void (c.as_type.ensures.value ∙ c.ret.ensures ∙ e) in
    let stands = sym c.in-Direct.is ∙ c.in_ok-pieces.ensures ∙ ap (λ u. without_copy (spot_of untouched u c.args.shape)) c.ret-2.ensures ∙ ap (λ x. without_copy (spot_of untouched t x)) c.requires.shape in
    in_registers c.args.end t (spot_of untouched t (result_shape t)) c.in-Direct.pieces stands ∙ ap (λ spot. result_at start c.args.end t spot) (as_argument t some)

pub returns-in-ByRef : goal.returns-in-ByRef
returns-in-ByRef c =
    let t = c.args.sig.now.result_type in
    let some : ¬ (t ≡ void) = λ e. not_void c.as_type.result.now c.in_default.not-Void (c.as_type.ensures.value ∙ c.ret.ensures ∙ e) in
    let stands = sym c.in-ByRef.is ∙ c.in_ok-pieces.ensures ∙ ap (λ u. without_copy (spot_of untouched u c.args.shape)) c.ret-2.ensures ∙ ap (λ x. without_copy (spot_of untouched t x)) c.requires.shape in
    ap (λ n. Hidden c.in-ByRef.at n) (c.start.ensures.value ∙ ap (λ u. start c.args.end u) c.ret-in-ByRef.ensures) ∙ in_a_buffer c.args.end t (spot_of untouched t (result_shape t)) c.in-ByRef.at c.in-ByRef.copy stands ∙ ap (λ spot. result_at start c.args.end t spot) (as_argument t some)
