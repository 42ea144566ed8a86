use Rattle.std.proofs.Common.{Some, ap, sym, ◌∙◌}
use Rattle.ffi3_types.specs.TreeOf.{tree_of}
use Rattle.ffi3_script_body.specs.ListTypes.{element_types}
use Rattle.ffi3_script_body.proofs.ListTypes.{of_a_struct}
use Rattle.ffi3_script_body.proofs.expr.element_types.Goals as goal

pub returns-in-Struct : goal.returns-in-Struct
returns-in-Struct c =
    ap Some c.of_struct.ensures ∙ of_a_struct c.in-Struct.fields ∙ ap (λ y. element_types (tree_of y)) (sym c.in-Struct.is)
