-- Why bytes are not read as a script.
use Rattle.std.specs.Prelude.{ℕ, List, ⊤}
use Rattle.ffi3_script_spec.specs.Reading.{IsTheReading, too_long, not_json, bad_script}
use Rattle.ffi3_json.specs.ReasonOf.{reason_of}
use Rattle.ffi3_json.specs.declared.fault.ScriptFault.{ScriptFault}
use Rattle.ffi3_json.specs.declared.fault.ScriptFault.TheVariants.{TooLong, BadJson, BadScript, NoMemory}

-- Beside natives of these names the bytes are read as what the fault tells. Memory alone is free.
abbrev pub IsScriptRefusal : List (List ℕ) → List ℕ → ScriptFault → Type 0
IsScriptRefusal natives bytes TooLong = IsTheReading natives bytes too_long
IsScriptRefusal natives bytes BadJson = IsTheReading natives bytes not_json
IsScriptRefusal natives bytes (BadScript path why) =
    IsTheReading natives bytes (bad_script path (reason_of why))
IsScriptRefusal natives bytes NoMemory = ⊤
