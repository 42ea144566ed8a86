use Rattle.std.proofs.Common.{get_or, sym, ap, ◌∙◌}
use Rattle.ffi3_type_spec.specs.Tree.{parts_of, list_of-trees_of}
use Rattle.ffi3_types.specs.TreeOf.{tree_of}
use Rattle.ffi3_json.proofs.signature.part_of.Goals as goal

pub returns-in-Struct : goal.returns-in-Struct
returns-in-Struct c =
    c.type_in.ensures ∙ ap (λ ts. get_or ts c.args.number (tree_of c.args.none.now)) (sym (list_of-trees_of c.in-Struct.fields) ∙ ap (λ y. parts_of (tree_of y)) (sym c.in-Struct.is))

pub returns-in-Array : goal.returns-in-Array
returns-in-Array c =
    c.type_in-in-Array.ensures ∙ ap (λ ts. get_or ts c.args.number (tree_of c.args.none.now)) (sym (list_of-trees_of c.in-Array.fields) ∙ ap (λ y. parts_of (tree_of y)) (sym c.in-Array.is))
