use Rattle.std.proofs.Common.{true, false, sym, ap, ◌∙◌}
use Rattle.ffi3_types.specs.TreeOf.{tree_of}
use Rattle.ffi3_script_spec.specs.Language.{wrong_type}
use Rattle.ffi3_script_spec.specs.Values.{typed, against}
use Rattle.ffi3_json.proofs.Tellings.{tells_made}
use Rattle.ffi3_script_body.specs.ExprOf.{expression_of}
use Rattle.ffi3_script.specs.OwnTypeOf.{typed_value_of}
use Rattle.ffi3_script.proofs.ReadTypes.{against-is}
use Rattle.ffi3_script.proofs.plain.against.Goals as goal

pub returns-then-same_type-clause-ok : goal.returns-then-same_type-clause-ok
returns-then-same_type-clause-ok c =
    let e = expression_of c.args.value.value in
    ap (λ t. against (tree_of c.args.ty.now) c.args.at.now (typed t e)) (sym c.as_type.ensures)
    ∙ against-is c.as_type.result.now c.args.ty.now c.args.at.now e c.same_type.result true c.same_type.ensures c.if-same_type.true

pub returns-clause-err : goal.returns-clause-err
returns-clause-err c =
    let e = expression_of c.args.value.value in
    tells_made (against (tree_of c.args.ty.now) c.args.at.now (typed_value_of c.args.value)) c.args.at.now wrong_type
    (ap (λ t. against (tree_of c.args.ty.now) c.args.at.now (typed t e)) (sym c.as_type.ensures)
    ∙ against-is c.as_type.result.now c.args.ty.now c.args.at.now e c.same_type.result false c.same_type.ensures c.if-same_type.false)
    c.bad.result c.bad.ensures
