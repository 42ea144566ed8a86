-- The key that each Rust key stands for.
use Rattle.ffi3_script_spec.specs.Language as language
use Rattle.ffi3_json.specs.declared.keys.Key.{Key}

abbrev pub key_of : Key → language.Key
key_of k = record { name = k.name.now; optional = k.optional }
