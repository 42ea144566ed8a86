use Rattle.std.proofs.Common.{◌≡◌, map}
use Rattle.serde_json.specs.View.{members_view}
use Rattle.ffi3_json.specs.KeyOf.{key_of}
use Rattle.ffi3_script_spec.specs.Language.{has_only}
use Rattle.ffi3_json.proofs.members.owned_have_only.Given as goal

abbrev pub invariant-loop-name : goal.invariant-loop-name
invariant-loop-name l = has_only (map key_of l.keys) (members_view l.members.entries) ≡ has_only (map key_of l.keys) (members_view l.name-iterator)
