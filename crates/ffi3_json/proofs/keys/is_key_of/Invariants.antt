use Rattle.std.proofs.Common.{◌≡◌, map, drop}
use Rattle.ffi3_script_spec.specs.Language.{is_key_of}
use Rattle.ffi3_json.specs.KeyOf.{key_of}
use Rattle.ffi3_json.proofs.keys.is_key_of.Given as goal

abbrev pub invariant-loop-key : goal.invariant-loop-key
invariant-loop-key l = is_key_of (map key_of l.keys) l.name ≡ is_key_of (map key_of (drop l.key-index l.keys)) l.name
