use Rattle.std.proofs.Common.{◌≡◌, map, drop}
use Rattle.ffi3_script_spec.specs.Language.{first_missing}
use Rattle.ffi3_json.specs.KeyOf.{key_of}
use Rattle.ffi3_json.specs.RefOf.{data_of}
use Rattle.ffi3_json.proofs.keys.first_missing.Given as goal

abbrev pub invariant-loop-key : goal.invariant-loop-key
invariant-loop-key l = first_missing (map key_of l.keys) (data_of l.value) ≡ first_missing (map key_of (drop l.key-index l.keys)) (data_of l.value)
