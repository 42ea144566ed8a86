use Rattle.std.proofs.Common.{◌≡◌, map, string_bytes, sym, ap, ◌∙◌}
use Rattle.serde_json.specs.View.{members_view}
use Rattle.serde_json.proofs.Views.{Entry}
use Rattle.ffi3_json.specs.KeyOf.{key_of}
use Rattle.ffi3_script_spec.specs.Language.{is_key_of}
use Rattle.ffi3_json.proofs.Objects.{member_later, member_unknown, members_end}
use Rattle.ffi3_json.proofs.members.owned_have_only.Goals as goal

pub returns-then-not-is_key_of : goal.returns-then-not-is_key_of
returns-then-not-is_key_of c =
    let e : Entry = (c.in-Some.name.now, c.in-Some._member.now) in
    let keys = map key_of c.args.keys.now in
    let known : is_key_of keys (string_bytes e.0) ≡ c.is_key_of.result = ap (is_key_of keys) (sym c.as_str.ensures.value) ∙ sym c.is_key_of.ensures in
    member_unknown keys (members_view c.args.members.now.entries) _ c.next.new.self e c.loop-name.invariant c.in-Some.ensures.steps (known ∙ c.if-not-is_key_of.true)

pub loop-name-preserved : goal.loop-name-preserved
loop-name-preserved c =
    let e : Entry = (c.in-Some.name.now, c.in-Some._member.now) in
    let keys = map key_of c.args.keys.now in
    let known : is_key_of keys (string_bytes e.0) ≡ c.is_key_of.result = ap (is_key_of keys) (sym c.as_str.ensures.value) ∙ sym c.is_key_of.ensures in
    member_later keys (members_view c.args.members.now.entries) _ c.next.new.self e c.loop-name.invariant c.in-Some.ensures.steps (known ∙ c.if-not-is_key_of.false)

pub returns : goal.returns
returns c =
    members_end (map key_of c.args.keys.now) (members_view c.args.members.now.entries) _ c.loop-name.invariant c.in-None.ensures.steps.0
