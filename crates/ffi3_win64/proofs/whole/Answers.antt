use Rattle.std.proofs.Common.{ℕ, ap, ◌∙◌}
use Rattle.ffi3_type_spec.specs.Layout.{size_of}
use Rattle.ffi3_place_spec.specs.Doublewords.{widening}
use Rattle.ffi3_place_spec.specs.declared.Ext.{Ext}
use Rattle.ffi3_place_spec.specs.declared.Piece.{Piece}
use Rattle.ffi3_win64.proofs.whole.Goals as goal

pub returns : goal.returns
returns c =
    let piece : ℕ → Ext → Piece = λ n e. record { loc = c.args.loc; off = 0; len = n; ext = e } in
    ap (λ n. piece n c.widening.result) c.size.ensures.value ∙ ap (piece (size_of c.args.ty.now)) (c.widening.ensures ∙ ap widening c.as_type.ensures.value)
