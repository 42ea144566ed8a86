use Rattle.std.proofs.Common.{ap, ◌∙◌, subst, sym}
use Rattle.ffi3_values.specs.ValueOf.{value_of}
use Rattle.ffi3_script_body.specs.ExprOf.{expression_of}
use Rattle.ffi3_script_body.specs.PartOf.{IsPart, part_of}
use Rattle.ffi3_script_body.proofs.Evaluated.{element_is}
use Rattle.ffi3_script_body.proofs.PartOf.{part_there}
use Rattle.ffi3_script_body.proofs.eval.+part_of.Goals as goal

pub get-requires : goal.get-requires
get-requires t c =
    let w = value_of c.args.whole.now in
    let is = sym (ap value_of c.in-List.is) ∙ c.part_of.ensures ∙ ap (λ x. part_of (expression_of x) w) c.deref.ensures in
    let here = subst (λ x. IsPart (expression_of x) w) c.in-Element.is c.requires in
    part_there c.in-List.values c.in-Element.i (part_of (expression_of c.in-Element.inner.value) w) is here.1

pub returns-in-List : goal.returns-in-List
returns-in-List t c =
    let w = value_of c.args.whole.now in
    let is = sym (ap value_of c.in-List.is) ∙ c.part_of.ensures ∙ ap (λ x. part_of (expression_of x) w) c.deref.ensures in
    c.get.ensures.element ∙ element_is (part_of (expression_of c.in-Element.inner.value) w) c.in-List.values c.in-Element.i is ∙ ap (λ x. part_of (expression_of x) w) (sym c.in-Element.is)
