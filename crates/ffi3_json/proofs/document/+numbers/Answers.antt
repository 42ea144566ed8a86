use Rattle.std.proofs.Common.{◌≡◌, ◌+◌, drop, true, is_some, sym, ap, ◌∙◌, arith}
use Rattle.json.specs.Value.{value_view, members_view}
use Rattle.serde_json.specs.Data.{no_members}
use Rattle.serde_json.specs.Read.{of_json, of_members}
use Rattle.ffi3_json.proofs.Objects.{next}
use Rattle.ffi3_json.proofs.InTexts.{member_goes_on}
use Rattle.ffi3_json.proofs.document.+numbers.Goals as goal

pub members_have_numbers-loop-member-preserved : goal.members_have_numbers-loop-member-preserved
members_have_numbers-loop-member-preserved t c =
    let all = c.deref-member-items.result.now in
    let i = c.loop-member.member-index in
    let m = c.member-item.result in
    let known : is_some (of_json (value_view m.1)) ≡ true = sym c.has_numbers.ensures ∙ c.if-not-has_numbers.false in
    c.loop-member.invariant ∙ ap (λ ms. is_some (of_members (members_view ms) no_members)) (next all i m (omega arith) c.member-item.is) ∙ member_goes_on m.0.now (value_view m.1) (members_view (drop (i + 1) all)) known
