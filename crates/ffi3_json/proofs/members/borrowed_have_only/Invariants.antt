use Rattle.std.proofs.Common.{◌≡◌, drop, map}
use Rattle.json.specs.Value.{members_view}
use Rattle.ffi3_json.specs.InText.{each_is_key}
use Rattle.ffi3_json.specs.KeyOf.{key_of}
use Rattle.ffi3_json.proofs.members.borrowed_have_only.Given as goal

abbrev pub invariant-loop-member : goal.invariant-loop-member
invariant-loop-member l = each_is_key (map key_of l.keys) (members_view l.member-items) ≡ each_is_key (map key_of l.keys) (members_view (drop l.member-index l.member-items))
