use Rattle.std.proofs.Common.{◌≡◌, sym, ap, ◌∙◌, ◌∷◌, []}
use Rattle.json.specs.Value.{value_view, members_view}
use Rattle.ffi3_json.specs.InText.{each_is_key}
use Rattle.ffi3_script_spec.specs.Language.{required}
use Rattle.ffi3_json.proofs.InTexts.{get_read, only_one, not_only_one}
use Rattle.ffi3_json.proofs.borrowed.only_member.Goals as goal

pub returns-then-not-borrowed_have_only-clause-value : goal.returns-then-not-borrowed_have_only-clause-value
returns-then-not-borrowed_have_only-clause-value c =
    let ms = members_view c.in-Some.members.now.items in
    let name = c.index.result.now.0.now in
    let keys : c.borrowed_have_only.result ≡ each_is_key (required name ∷ []) ms = c.borrowed_have_only.ensures ∙ ap (λ k. each_is_key (k ∷ []) ms) c.required.ensures in
    not_only_one (value_view c.args.value.now) ms name (value_view c.in-Some-get.inside.now) c.requires c.in-Some.ensures c.in-Some-get.ensures (sym c.if-not-borrowed_have_only.true ∙ keys)

pub returns-clause-value : goal.returns-clause-value
returns-clause-value c =
    let ms = members_view c.in-Some.members.now.items in
    let name = c.index.result.now.0.now in
    let keys : c.borrowed_have_only.result ≡ each_is_key (required name ∷ []) ms = c.borrowed_have_only.ensures ∙ ap (λ k. each_is_key (k ∷ []) ms) c.required.ensures in
    only_one (value_view c.args.value.now) ms name (value_view c.in-Some-get.inside.now) c.requires c.in-Some.ensures c.in-Some-get.ensures (sym c.if-not-borrowed_have_only.false ∙ keys)

pub returns-clause-numbers : goal.returns-clause-numbers
returns-clause-numbers c =
    (get_read c.index.result.now.0.now (value_view c.args.value.now) (value_view c.in-Some-get.inside.now) c.requires (sym c.in-Some-get.ensures)).0
