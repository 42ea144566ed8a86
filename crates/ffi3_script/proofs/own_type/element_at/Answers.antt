use Rattle.std.proofs.Common.{Some, sym, ap, ◌∙◌, arith}
use Rattle.ffi3_types.specs.TreeOf.{tree_of}
use Rattle.ffi3_script.specs.OwnTypeOf.{element_at}
use Rattle.ffi3_script.proofs.OwnTypes.{struct_element, no_struct_element, array_element, no_array_element}
use Rattle.ffi3_script.proofs.own_type.element_at.Goals as goal

pub returns-then-i-len-clause-value : goal.returns-then-i-len-clause-value
returns-then-i-len-clause-value c =
    no_struct_element c.in-Struct.fields c.args.i (omega (arith, c.if-i-len.true, c.len.ensures.count)) ∙ ap (λ y. element_at (tree_of y) c.args.i) (sym c.in-Struct.is)

pub returns-else-i-len-clause-value : goal.returns-else-i-len-clause-value
returns-else-i-len-clause-value c =
    ap Some c.get.ensures.element ∙ struct_element c.in-Struct.fields c.args.i (omega (arith, c.if-i-len.false, c.len.ensures.count)) ∙ ap (λ y. element_at (tree_of y) c.args.i) (sym c.in-Struct.is)

pub returns-then-i-count-clause-value : goal.returns-then-i-count-clause-value
returns-then-i-count-clause-value c =
    no_array_element c.in-Array.fields c.in-Array.count c.args.i (omega (arith, c.if-len-eq0.false, c.len-in-Array.ensures.count)) c.if-i-count.true ∙ ap (λ y. element_at (tree_of y) c.args.i) (sym c.in-Array.is)

pub returns-else-i-count-clause-value : goal.returns-else-i-count-clause-value
returns-else-i-count-clause-value c =
    ap Some c.get-in-Array.ensures.element ∙ array_element c.in-Array.fields c.in-Array.count c.args.i (omega (arith, c.if-len-eq0.false, c.len-in-Array.ensures.count)) (omega (arith, c.if-i-count.false)) ∙ ap (λ y. element_at (tree_of y) c.args.i) (sym c.in-Array.is)
