use Rattle.std.proofs.Common.{codes, string_bytes, sym, ap, ◌∙◌}
use Rattle.serde_json.specs.Find.{get, as_str}
use Rattle.ffi3_types.specs.TreeOf.{tree_of}
use Rattle.ffi3_script_spec.specs.Language.{under, void_result}
use Rattle.ffi3_script_spec.specs.Bodies.{new_name, read_name}
use Rattle.ffi3_json.proofs.Tellings.{tells_made, part_handed_on}
use Rattle.ffi3_script.specs.Taken.{is_taken}
use Rattle.ffi3_script.specs.ScopeOf.{given_in}
use Rattle.ffi3_script.proofs.Given.{name-fault, name-void, name-read, void-is, void-is_not}
use Rattle.ffi3_script.proofs.fields.read_name.Goals as goal

pub returns-in_err-name-clause-err : goal.returns-in_err-name-clause-err
returns-in_err-name-clause-err c =
    let s = c.args.scope.now in
    let t = tree_of c.args.ty.now in
    let d = c.args.value.now in
    let named = c.in-Some.named in
    part_handed_on (read_name (given_in s) t (get (codes "as") d) (under c.args.at.now (codes "as"))) (new_name (is_taken s.names.now) (as_str named) c.key-place.result)
    (λ p r e. ap (read_name (given_in s) t (get (codes "as") d)) (sym c.key-place.ensures) ∙ name-fault s.names.now s.types.now c.requires.even t d named c.key-place.result c.in-Some.ensures.value p r e)
    c.from_residual.result c.in_err-name.field-0.0 c.from_residual.ensures.1 c.in_err-name.ensures.err

pub returns-in-Void-clause-err : goal.returns-in-Void-clause-err
returns-in-Void-clause-err c =
    let s = c.args.scope.now in
    let t = tree_of c.args.ty.now in
    let d = c.args.value.now in
    tells_made (read_name (given_in s) t (get (codes "as") d) (under c.args.at.now (codes "as"))) c.key-place.result void_result
    (ap (read_name (given_in s) t (get (codes "as") d)) (sym c.key-place.ensures) ∙ name-void s.names.now s.types.now c.requires.even t d c.in-Some.named c.key-place.result c.in-Some.ensures.value (string_bytes c.in_ok-name.name) c.in_ok-name.ensures.ok (void-is c.args.ty.now c.in-Void.is)) c.bad.result c.bad.ensures

pub returns-clause-ok : goal.returns-clause-ok
returns-clause-ok c =
    let s = c.args.scope.now in
    let t = tree_of c.args.ty.now in
    let d = c.args.value.now in
    ap (read_name (given_in s) t (get (codes "as") d)) (sym c.key-place.ensures) ∙ name-read s.names.now s.types.now c.requires.even t d c.in-Some.named c.key-place.result c.in-Some.ensures.value (string_bytes c.in_ok-name.name) c.in_ok-name.ensures.ok (void-is_not c.args.ty.now c.in_default-ty.not-Void)
