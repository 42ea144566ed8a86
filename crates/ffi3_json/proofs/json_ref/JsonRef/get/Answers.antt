use Rattle.std.proofs.Common.{sym, ap, ◌∙◌, subst}
use Rattle.json.specs.Value.{value_view}
use Rattle.serde_json.specs.Find.{get}
use Rattle.ffi3_json.specs.RefOf.{data_of, IsInRange}
use Rattle.ffi3_json.proofs.InTexts.{get_read, get_none}
use Rattle.ffi3_json.proofs.json_ref.JsonRef.get.Goals as goal

pub returns-in-Some-get-clause-value : goal.returns-in-Some-get-clause-value
returns-in-Some-get-clause-value c =
    let name = c.args.name.now in
    let numbers = subst IsInRange c.in-Borrowed.is c.requires in
    (get_read name (value_view c.in-Borrowed.value.now) (value_view c.in-Some-get.inside.now) numbers (sym c.in-Some-get.ensures)).1 ∙ ap (λ r. get name (data_of r)) (sym c.in-Borrowed.is)

pub returns-in-Some-get-clause-range : goal.returns-in-Some-get-clause-range
returns-in-Some-get-clause-range c =
    (get_read c.args.name.now (value_view c.in-Borrowed.value.now) (value_view c.in-Some-get.inside.now) (subst IsInRange c.in-Borrowed.is c.requires) (sym c.in-Some-get.ensures)).0

pub returns-in-None-get-clause-value : goal.returns-in-None-get-clause-value
returns-in-None-get-clause-value c =
    let name = c.args.name.now in
    get_none name (value_view c.in-Borrowed.value.now) (subst IsInRange c.in-Borrowed.is c.requires) (sym c.in-None-get.ensures) ∙ ap (λ r. get name (data_of r)) (sym c.in-Borrowed.is)
