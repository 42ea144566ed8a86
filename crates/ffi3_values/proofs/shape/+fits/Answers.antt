use Rattle.std.proofs.Common.{◌<◌, inl, inr, length, ap, sym, ◌∙◌, arith}
use Rattle.ffi3_type_spec.proofs.Members.{made_nodes}
use Rattle.ffi3_types.specs.TreeOf.{tree_of}
use Rattle.ffi3_type_spec.proofs.Values.{all_fit-lengths}
use Rattle.ffi3_values.proofs.shape.+fits.Goals as goal

pub all_fit-returns-then-len : goal.all_fit-returns-then-len
all_fit-returns-then-len t c =
    elim (all_fit-lengths c.args.fields.now c.args.values.now) [
      | inl same ↦ absurd (c.if-len.true (c.len.ensures.count ∙ same ∙ sym c.len-2.ensures.count))
      | inr not ↦ sym not
    ]

pub fits-all_fit-requires-in-List-value : goal.fits-all_fit-requires-in-List-value
fits-all_fit-requires-in-List-value t c =
    let some : 0 < length c.in-Array.fields = omega (arith, c.len.ensures.count, c.if-len-eq0.false) in
    let fewer = made_nodes (tree_of c.args.ty.now) c.in-Array.fields c.in-Array.count (ap tree_of c.in-Array.is) c.of_array.result c.of_array.ensures some in
    (omega (arith, fewer), tt)
