use Rattle.std.proofs.Common.{codes, sym, ap, ◌∙◌}
use Rattle.serde_json.specs.Find.{as_str}
use Rattle.ffi3_script_spec.specs.Language.{under, value_under}
use Rattle.ffi3_script_spec.specs.Bodies.{is_one_of, new_name}
use Rattle.ffi3_json.proofs.Tellings.{tells_part}
use Rattle.ffi3_script.specs.Taken.{is_taken}
use Rattle.ffi3_script.proofs.ReadValues.{ok_by, err_by}
use Rattle.ffi3_script.proofs.FunctionParts.{name-is}
use Rattle.ffi3_script.proofs.functions.read_function_name.Goals as goal

pub returns-clause-ok : goal.returns-clause-ok
returns-clause-ok c =
    let d = c.args.value.now in
    let same = name-is c.args.earlier.now c.index.result.now d c.in-Some.named (under c.args.at.now (codes "name")) c.index.ensures c.in-Some.ensures.value in
    ok_by (λ name is. same ∙ ap (new_name (is_taken c.index.result.now) (as_str c.in-Some.named)) (sym c.key-place.ensures) ∙ is) c.new_name.result c.new_name.ensures.ok

pub returns-clause-err : goal.returns-clause-err
returns-clause-err c =
    let d = c.args.value.now in
    let name = as_str c.in-Some.named in
    let same = name-is c.args.earlier.now c.index.result.now d c.in-Some.named (under c.args.at.now (codes "name")) c.index.ensures c.in-Some.ensures.value in
    err_by (λ f told. tells_part (new_name (is_one_of c.args.earlier.now) (as_str (value_under (codes "name") d)) (under c.args.at.now (codes "name"))) (new_name (is_taken c.index.result.now) name c.key-place.result)
    (λ p r is. same ∙ ap (new_name (is_taken c.index.result.now) name) (sym c.key-place.ensures) ∙ is) f told) c.new_name.result c.new_name.ensures.err
