use Rattle.std.proofs.Common.{sym, ap, ◌∙◌, arith}
use Rattle.serde_json.specs.Find.{as_str}
use Rattle.ffi3_script_spec.specs.Language.{read, no_such_result}
use Rattle.ffi3_script_spec.specs.Script.{outcome}
use Rattle.ffi3_script_spec.specs.Values.{result_of, typed}
use Rattle.ffi3_json.proofs.Tellings.{tells_made}
use Rattle.ffi3_script.specs.ScopeOf.{given_of}
use Rattle.ffi3_script.proofs.ReadResults.{no_result, a_result, below}
use Rattle.ffi3_script.proofs.plain.result_of.Goals as goal

pub returns-in_default-find-clause-err : goal.returns-in_default-find-clause-err
returns-in_default-find-clause-err c =
    let names = c.args.scope.now.names.now in
    let types = c.args.scope.now.types.now in
    let none = no_result c.in-Some.name.now names types c.args.at.now c.requires (sym c.in_default-find.ensures) in
    tells_made (result_of (given_of names types) (as_str c.args.value.now) c.args.at.now) c.args.at.now no_such_result
    (ap (λ o. result_of (given_of names types) o c.args.at.now) (sym c.in-Some.ensures) ∙ none)
    c.bad-in_default-find.result c.bad-in_default-find.ensures

pub overflow_cast-result : goal.overflow_cast-result
overflow_cast-result c =
    omega (arith, below c.in-Some.name.now c.args.scope.now.names.now c.args.scope.now.types.now c.args.at.now c.requires c.in-Some-find.i (sym c.in-Some-find.ensures))

pub returns-clause-ok : goal.returns-clause-ok
returns-clause-ok c =
    let names = c.args.scope.now.names.now in
    let types = c.args.scope.now.types.now in
    let some = a_result c.in-Some.name.now names types c.args.at.now c.requires c.in-Some-find.i (sym c.in-Some-find.ensures) in
    let same = sym c.get.ensures.element in
    ap (λ o. result_of (given_of names types) o c.args.at.now) (sym c.in-Some.ensures) ∙ some ∙ ap (λ t. read (typed t (outcome c.in-Some-find.i))) same

pub get-requires : goal.get-requires
get-requires c =
    below c.in-Some.name.now c.args.scope.now.names.now c.args.scope.now.types.now c.args.at.now c.requires c.in-Some-find.i (sym c.in-Some-find.ensures)
