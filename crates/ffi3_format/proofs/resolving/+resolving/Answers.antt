use Rattle.std.proofs.Common.{◌∙◌, ap, sym}
use Rattle.ffi3_type_spec.specs.Tree.{structure, array, trees_of}
use Rattle.ffi3_types.specs.TreeOf.{tree_of}
use Rattle.ffi3_format_spec.specs.Format.{resolved}
use Rattle.ffi3_format.proofs.Resolves.{of_list}
use Rattle.ffi3_format.proofs.resolving.+resolving.Goals as goal

pub resolved-returns-in_ok-all_resolved-in-Struct : goal.resolved-returns-in_ok-all_resolved-in-Struct
resolved-returns-in_ok-all_resolved-in-Struct t c =
    ap (λ us. structure (trees_of us)) c.in_ok-all_resolved-in-Struct.ensures ∙ ap structure (of_list c.args.format c.in-Struct.fields) ∙ ap (λ x. resolved c.args.format (tree_of x)) (sym c.in-Struct.is)

pub resolved-returns-in_ok-all_resolved-in-Array : goal.resolved-returns-in_ok-all_resolved-in-Array
resolved-returns-in_ok-all_resolved-in-Array t c =
    ap (λ us. array (trees_of us) c.in-Array.count) c.in_ok-all_resolved-in-Array.ensures ∙ ap (λ us. array us c.in-Array.count) (of_list c.args.format c.in-Array.fields) ∙ ap (λ x. resolved c.args.format (tree_of x)) (sym c.in-Array.is)
