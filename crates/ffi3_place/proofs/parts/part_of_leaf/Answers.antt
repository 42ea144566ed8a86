use Rattle.std.proofs.Common.{◌<◌, length, sym, subst, arith}
use Rattle.ffi3_type_spec.specs.declared.Role.TheVariants.{Anywhere}
use Rattle.ffi3_type_spec.specs.Layout.{leaves_of}
use Rattle.ffi3_type_spec.proofs.Faults.{right_is_small}
use Rattle.ffi3_types.specs.TreeOf.{tree_of}
use Rattle.ffi3_place_spec.proofs.Elements.{leaf_ends}
use Rattle.ffi3_place.proofs.parts.part_of_leaf.Goals as goal

pub overflow_cast-result : goal.overflow_cast-result
overflow_cast-result c =
    let below = subst (λ t. c.args.i < length (leaves_of t)) (sym c.as_type-plain.ensures.value) c.requires.in_range in
    omega (arith, c.leaf-leaf.ensures.at, leaf_ends (tree_of c.as_type-plain.result.now) c.args.i below, right_is_small 0 Anywhere (tree_of c.as_type-plain.result.now) c.as_type-plain.ensures.right)

pub overflow_add-result : goal.overflow_add-result
overflow_add-result c =
    let below = subst (λ t. c.args.i < length (leaves_of t)) (sym c.as_type-plain.ensures.value) c.requires.in_range in
    omega (arith, c.leaf-leaf.ensures.at, leaf_ends (tree_of c.as_type-plain.result.now) c.args.i below, right_is_small 0 Anywhere (tree_of c.as_type-plain.result.now) c.as_type-plain.ensures.right)
