use Rattle.std.proofs.Common.{map, Some, option_map, sym, ap, ◌∙◌, subst}
use Rattle.json.specs.Value.{value_view, members_view}
use Rattle.serde_json.specs.Find.{as_object}
use Rattle.ffi3_json.specs.InText.{members_in}
use Rattle.ffi3_json.specs.KeyOf.{key_of}
use Rattle.ffi3_script_spec.specs.Language.{has_only}
use Rattle.ffi3_json.specs.RefOf.{data_of, IsInRange}
use Rattle.ffi3_json.proofs.InTexts.{members_read, only_read}
use Rattle.ffi3_json.proofs.json_ref.JsonRef.has_only.Goals as goal

pub returns-in-Some-members_of : goal.returns-in-Some-members_of
returns-in-Some-members_of c =
    let keys = map key_of c.args.keys.now in
    let ms = members_view c.in-Some-members_of.members.now.items in
    let h = members_read (value_view c.in-Borrowed.value.now) ms (subst IsInRange c.in-Borrowed.is c.requires) c.in-Some-members_of.ensures in
    ap Some (c.borrowed_have_only.ensures ∙ only_read keys ms (members_in ms) h.1)
    ∙ ap (λ d. option_map (has_only keys) (as_object d)) (sym h.0)
    ∙ ap (λ r. option_map (has_only keys) (as_object (data_of r))) (sym c.in-Borrowed.is)
