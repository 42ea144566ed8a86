-- The move that does a thing under a condition.
use Rattle.std.specs.Prelude.{Option, option_map, string_bytes}
use Rattle.ffi3_script_spec.specs.Script.{Typed, ScriptMove}
use Rattle.ffi3_script_body.specs.ExprOf.{act_of}
use Rattle.ffi3_script.specs.declared.acts.NamedAct.{NamedAct}

abbrev pub move_by : Option Typed → NamedAct → ScriptMove
move_by condition d =
    record { condition = condition; act = act_of d.act; name = option_map string_bytes d.name }
