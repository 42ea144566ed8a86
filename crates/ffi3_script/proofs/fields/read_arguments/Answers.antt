use Rattle.std.proofs.Common.{◌≡◌, length, codes, sym, ap, ◌∙◌}
use Rattle.serde_json.specs.Events.{items_len}
use Rattle.ffi3_script_spec.specs.Language.{under, value_under, wrong_count}
use Rattle.ffi3_script_spec.specs.Values.{read_values}
use Rattle.ffi3_script_spec.specs.Bodies.{read_arguments, items_at}
use Rattle.ffi3_json.proofs.Tellings.{tells_made, tells_part, part_handed_on}
use Rattle.ffi3_script.specs.ScopeOf.{scope_of}
use Rattle.ffi3_script.proofs.ReadValues.{ok_by, err_by}
use Rattle.ffi3_script.proofs.Arguments.{arguments-refused, arguments-miscounted, arguments-counted}
use Rattle.ffi3_script.proofs.fields.read_arguments.Goals as goal

pub returns-in_err-items-clause-err : goal.returns-in_err-items-clause-err
returns-in_err-items-clause-err c =
    let path = c.key-place.result in
    let d = value_under (codes "args") c.args.value.now in
    let scope = scope_of c.args.scope.now in
    part_handed_on (read_arguments scope c.args.types.now d (under c.args.at.now (codes "args"))) (items_at d path)
    (λ p r e. ap (read_arguments scope c.args.types.now d) (sym c.key-place.ensures) ∙ arguments-refused scope c.args.types.now d path p r e)
    c.from_residual.result c.in_err-items.field-0.0 c.from_residual.ensures.1 c.in_err-items.ensures.err

pub returns-then-len-clause-err : goal.returns-then-len-clause-err
returns-then-len-clause-err c =
    let path = c.key-place.result in
    let ds = c.in_ok-items.items in
    let d = value_under (codes "args") c.args.value.now in
    let scope = scope_of c.args.scope.now in
    let ts = c.args.types.now in
    let differ : items_len ds ≡ length ts → ⊥ = λ e. c.if-len.true (c.len.ensures.count ∙ e ∙ sym c.len-2.ensures.count) in
    tells_made (read_arguments scope ts d (under c.args.at.now (codes "args"))) path wrong_count
    (ap (read_arguments scope ts d) (sym c.key-place.ensures) ∙ arguments-miscounted scope ts d path ds c.in_ok-items.ensures.ok differ) c.bad.result c.bad.ensures

pub returns-clause-err : goal.returns-clause-err
returns-clause-err c =
    let path = c.key-place.result in
    let ds = c.in_ok-items.items in
    let d = value_under (codes "args") c.args.value.now in
    let scope = scope_of c.args.scope.now in
    let ts = c.args.types.now in
    let same : items_len ds ≡ length ts = sym c.len.ensures.count ∙ c.if-len.false ∙ c.len-2.ensures.count in
    err_by (λ f told. tells_part (read_arguments scope ts d (under c.args.at.now (codes "args"))) (read_values scope ts ds path 0)
    (λ p r is. ap (read_arguments scope ts d) (sym c.key-place.ensures) ∙ arguments-counted scope ts d path ds c.in_ok-items.ensures.ok same ∙ is) f told)
    c.read_values.result c.read_values.ensures.err

pub returns-clause-ok : goal.returns-clause-ok
returns-clause-ok c =
    let path = c.key-place.result in
    let ds = c.in_ok-items.items in
    let d = value_under (codes "args") c.args.value.now in
    let scope = scope_of c.args.scope.now in
    let ts = c.args.types.now in
    let same : items_len ds ≡ length ts = sym c.len.ensures.count ∙ c.if-len.false ∙ c.len-2.ensures.count in
    ok_by (λ es is. ap (read_arguments scope ts d) (sym c.key-place.ensures) ∙ arguments-counted scope ts d path ds c.in_ok-items.ensures.ok same ∙ is)
    c.read_values.result c.read_values.ensures.ok
