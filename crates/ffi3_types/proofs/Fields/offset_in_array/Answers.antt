use Rattle.std.proofs.Common.{◌*◌, ap, sym, ◌∙◌, arith}
use Rattle.ffi3_type_spec.specs.declared.Role.TheVariants.{Anywhere}
use Rattle.ffi3_type_spec.specs.Tree.{array, trees_of}
use Rattle.ffi3_type_spec.specs.Layout.{size_of}
use Rattle.ffi3_type_spec.proofs.Faults.{right_is_small}
use Rattle.ffi3_type_spec.proofs.ArrayPlaces.{array_is_shaped, array_element_is_right, element_in_array, array_offset_is}
use Rattle.ffi3_types.proofs.Fields.offset_in_array.Goals as goal

pub get-requires : goal.get-requires
get-requires c =
    omega (arith, (array_is_shaped 0 Anywhere c.args.self.now c.args.count c.requires.right).0)

pub extent-requires : goal.extent-requires
extent-requires c =
    rw c.get.ensures.element (array_element_is_right Anywhere c.args.self.now c.args.count c.requires.right)

pub overflow_mul-result : goal.overflow_mul-result
overflow_mul-result c =
    let size = c.extent.ensures.size ∙ ap size_of c.get.ensures.element in
    let within = element_in_array c.args.self.now c.args.count c.args.i (c.extent.result.size) size c.requires.in_range in
    omega (arith, within, right_is_small 0 Anywhere (array (trees_of c.args.self.now) c.args.count) c.requires.right)

pub returns-clause-start : goal.returns-clause-start
returns-clause-start c =
    let size = c.extent.ensures.size ∙ ap size_of c.get.ensures.element in
    ap (λ s. c.args.i * s) size ∙ sym (array_offset_is c.args.self.now c.args.count c.args.i)

pub returns-clause-within : goal.returns-clause-within
returns-clause-within c =
    let size = c.extent.ensures.size ∙ ap size_of c.get.ensures.element in
    let within = element_in_array c.args.self.now c.args.count c.args.i (c.extent.result.size) size c.requires.in_range in
    omega (arith, within, size)
