use Rattle.std.proofs.Common.{None, option_map}
use Rattle.ffi3_script_spec.specs.Bodies.{read_act, read_move}
use Rattle.ffi3_json.proofs.Tellings.{part_handed_on}
use Rattle.ffi3_script_body.specs.ExprOf.{typed_of}
use Rattle.ffi3_script.specs.ScopeOf.{scope_of, given_in, surroundings_of}
use Rattle.ffi3_script.specs.Kinds.{kind_from}
use Rattle.ffi3_script.specs.NamedActs.{move_by}
use Rattle.ffi3_script.proofs.Conditions.{move-read, move-refused}
use Rattle.ffi3_script.proofs.acts.read_move.Goals as goal

pub returns-clause-ok : goal.returns-clause-ok
returns-clause-ok c =
    move-read (surroundings_of c.args.globals.now c.args.scope.now) (given_in c.args.scope.now) c.args.value.now c.args.at.now (kind_from c.in-Some.kind) (option_map typed_of c.in_ok-condition.condition)
    c.in-Some.ensures c.in_ok-check_keys.ensures.ok c.in_ok-condition.ensures.ok (move_by None c.in_ok-act.field-0) c.in_ok-act.ensures.ok

pub returns-in_err-act-clause-err : goal.returns-in_err-act-clause-err
returns-in_err-act-clause-err c =
    let s = surroundings_of c.args.globals.now c.args.scope.now in
    let given = given_in c.args.scope.now in
    let d = c.args.value.now in
    let path = c.args.at.now in
    let kind = kind_from c.in-Some.kind in
    part_handed_on (read_move s given d path) (read_act s given (scope_of c.args.scope.now) kind d path None)
    (move-refused s given d path kind (option_map typed_of c.in_ok-condition.condition) c.in-Some.ensures c.in_ok-check_keys.ensures.ok c.in_ok-condition.ensures.ok)
    c.from_residual-in_err-act.result c.in_err-act.field-0.0 c.from_residual-in_err-act.ensures.1 c.in_err-act.ensures.err
