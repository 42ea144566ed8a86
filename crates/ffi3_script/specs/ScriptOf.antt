-- The script that each Rust one stands for.
use Rattle.std.specs.Prelude.{ℕ, [], slice_index_or, Option, option_map, slice_get}
use Rattle.ffi3_script_spec.specs.Script.{ScriptFunction, Script as RulesScript}
use Rattle.ffi3_script_body.specs.declared.body.ScriptBody.{ScriptBody}
use Rattle.ffi3_script.specs.FunctionOf.{script_from}
use Rattle.ffi3_script.specs.declared.script.Script.{Script}

abbrev pub script_of : Script → RulesScript
script_of s = script_from s.version s.sigs.value s.functions.items s.main

-- beside how many natives it stands
abbrev pub natives_of : Script → ℕ
natives_of s = s.natives

-- function i of a script
abbrev pub function_at : RulesScript → ℕ → ScriptFunction
function_at script i =
    slice_index_or script.functions i (record { name = []; signature = 0; body = [] })

-- the body of main, in which a cursor stands
abbrev pub main_body : Script → ScriptBody
main_body s = s.main

-- and that of function i
abbrev pub body_at : Script → ℕ → Option ScriptBody
body_at s i = option_map (λ f. f.body) (slice_get s.functions.items i)
