use Rattle.std.proofs.Common.{◌≡◌, ap, ◌∙◌, subst, arith}
use Rattle.ffi3_type_spec.specs.Layout.{leaf_at, scalar_size}
use Rattle.ffi3_type_spec.specs.Fault.{IsLaidOut}
use Rattle.ffi3_type_spec.specs.declared.Role.TheVariants.{Anywhere}
use Rattle.ffi3_type_spec.proofs.Faults.{right_is_small}
use Rattle.ffi3_types.specs.ScalarSize.{value_size_of}
use Rattle.ffi3_place_spec.proofs.Elements.{leaf_ends}
use Rattle.ffi3_poison.proofs.is_leaf_byte.Goals as goal

pub overflow_add-leaf : goal.overflow_add-leaf
overflow_add-leaf c =
    let t = c.args.ty.now in
    let right : IsLaidOut t = subst IsLaidOut c.as_type-type.ensures.value c.as_type-type.ensures.right in
    let size_is : c.value_size.result ≡ scalar_size (leaf_at c.args.ty.now c.loop-i.i).kind = c.value_size.ensures ∙ ap value_size_of c.leaf-leaf.ensures.kind in
    omega (arith, size_is, c.leaf-leaf.ensures.at, leaf_ends t c.loop-i.i (omega (arith, c.loop-i-test.true, c.leaf_count-i-end.ensures)), right_is_small 0 Anywhere t right)
