use Rattle.std.proofs.Common.{◌≡◌, drop, is_some}
use Rattle.json.specs.Value.{items_view, members_view}
use Rattle.serde_json.specs.Data.{no_members}
use Rattle.serde_json.specs.Read.{of_items, of_members}
use Rattle.ffi3_json.proofs.document.+numbers.Given as goal

abbrev pub invariant-items_have_numbers-loop-item : goal.invariant-items_have_numbers-loop-item
invariant-items_have_numbers-loop-item l =
    is_some (of_items (items_view l.item-items)) ≡ is_some (of_items (items_view (drop l.item-index l.item-items)))

abbrev pub invariant-members_have_numbers-loop-member : goal.invariant-members_have_numbers-loop-member
invariant-members_have_numbers-loop-member l =
    is_some (of_members (members_view l.member-items) no_members) ≡ is_some (of_members (members_view (drop l.member-index l.member-items)) no_members)
