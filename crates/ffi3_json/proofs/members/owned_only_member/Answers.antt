use Rattle.std.proofs.Common.{sym, ◌∙◌}
use Rattle.serde_json.specs.View.{members_view}
use Rattle.serde_json.proofs.Views.{members_len-members_view}
use Rattle.ffi3_json.proofs.Objects.{not_one}
use Rattle.ffi3_json.proofs.members.owned_only_member.Goals as goal

pub returns-then-len-ne1 : goal.returns-then-len-ne1
returns-then-len-ne1 c =
    let es = c.args.members.now.entries in
    not_one (members_view es) (λ one. c.if-len-ne1.true (c.len.ensures.len ∙ sym (members_len-members_view es) ∙ one))
