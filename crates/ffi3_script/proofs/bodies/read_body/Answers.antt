use Rattle.std.proofs.Common.{[], true, false, sym, ap, ◌∙◌}
use Rattle.ffi3_script_spec.specs.Language.{under, value_under, no_return_at_the_end}
use Rattle.ffi3_script_spec.specs.Bodies.{read_body, read_moves, items_at, ends}
use Rattle.ffi3_json.proofs.Tellings.{tells_made, part_handed_on}
use Rattle.ffi3_script_body.specs.ExprOf.{script_moves_of}
use Rattle.ffi3_script.specs.ScopeOf.{surroundings_in}
use Rattle.ffi3_script.proofs.BodyParts.{body-refused, moves-refused, body-ended}
use Rattle.ffi3_script.proofs.bodies.read_body.Goals as goal

pub returns-in_err-items-clause-err : goal.returns-in_err-items-clause-err
returns-in_err-items-clause-err c =
    let s = surroundings_in c.args.globals.now c.args.own.now in
    let d = value_under c.args.name.now c.args.value.now in
    let path = c.key-place.result in
    part_handed_on (read_body s d (under c.args.at.now c.args.name.now)) (items_at d path) (λ p r e. ap (read_body s d) (sym c.key-place.ensures) ∙ body-refused s d path p r e)
    c.from_residual.result c.in_err-items.field-0.0 c.from_residual.ensures.1 c.in_err-items.ensures.err

pub returns-in_err-moves-clause-err : goal.returns-in_err-moves-clause-err
returns-in_err-moves-clause-err c =
    let s = surroundings_in c.args.globals.now c.args.own.now in
    let d = value_under c.args.name.now c.args.value.now in
    let path = c.key-place.result in
    let ds = c.in_ok-items.items in
    part_handed_on (read_body s d (under c.args.at.now c.args.name.now)) (read_moves s [] ds path 0) (λ p r e. ap (read_body s d) (sym c.key-place.ensures) ∙ moves-refused s d path ds c.in_ok-items.ensures.ok p r e)
    c.from_residual-in_err-moves.result c.in_err-moves.field-0.0 c.from_residual-in_err-moves.ensures.1 c.in_err-moves.ensures.err

pub returns-then-not-ends-clause-err : goal.returns-then-not-ends-clause-err
returns-then-not-ends-clause-err c =
    let s = surroundings_in c.args.globals.now c.args.own.now in
    let d = value_under c.args.name.now c.args.value.now in
    let path = c.key-place.result in
    let ds = c.in_ok-items.items in
    tells_made (read_body s d (under c.args.at.now c.args.name.now)) path no_return_at_the_end
    (ap (read_body s d) (sym c.key-place.ensures) ∙ body-ended s d path ds c.in_ok-items.ensures.ok (script_moves_of c.in_ok-moves.moves.items) c.in_ok-moves.ensures.ok false (ap (λ ms. ends (script_moves_of ms)) (sym c.deref.ensures.value) ∙ sym c.ends.ensures ∙ c.if-not-ends.true)) c.bad.result c.bad.ensures

pub returns-clause-ok : goal.returns-clause-ok
returns-clause-ok c =
    let s = surroundings_in c.args.globals.now c.args.own.now in
    let d = value_under c.args.name.now c.args.value.now in
    let path = c.key-place.result in
    let ds = c.in_ok-items.items in
    ap (read_body s d) (sym c.key-place.ensures) ∙ body-ended s d path ds c.in_ok-items.ensures.ok (script_moves_of c.in_ok-moves.moves.items) c.in_ok-moves.ensures.ok true (ap (λ ms. ends (script_moves_of ms)) (sym c.deref.ensures.value) ∙ sym c.ends.ensures ∙ c.if-not-ends.false)
