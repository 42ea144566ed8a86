-- The fault, place and reason that a Rust error reports.
use Rattle.std.specs.Prelude.{ℕ, ◌<◌, List, length}
use Rattle.ffi3_script_spec.specs.Language.{JsonPath, Reason}
use Rattle.ffi3_script_spec.specs.Reading.{max_length, IsNotJson}
use Rattle.ffi3_json.specs.ReasonOf.{reason_of}
use Rattle.ffi3_json.specs.declared.fault.ScriptFault.{ScriptFault}
use Rattle.ffi3_json.specs.declared.fault.ScriptFault.TheVariants.{TooLong, BadJson, BadScript, NoMemory}

-- The fault is that of a value, and its place and reason are as said. Memory alone is free.
abbrev pub Reports : (JsonPath → Reason → Type 0) → ScriptFault → Type 0
Reports says TooLong = ⊥
Reports says BadJson = ⊥
Reports says (BadScript path why) = says path (reason_of why)
Reports says NoMemory = Unit {0}

-- The fault is that of a text which is too long or no JSON. Memory alone is free.
abbrev pub IsCauseOf : List ℕ → ScriptFault → Type 0
IsCauseOf bytes TooLong = max_length < length bytes
IsCauseOf bytes BadJson = IsNotJson bytes
IsCauseOf bytes (BadScript path why) = ⊥
IsCauseOf bytes NoMemory = Unit {0}
