-- Moves that are always done.
use Rattle.std.specs.Prelude.{Bool, is_none}
use Rattle.ffi3_script_body.specs.declared.moves.ScriptMove.{ScriptMove}

abbrev pub is_unconditional : ScriptMove → Bool
is_unconditional m = is_none m.condition
