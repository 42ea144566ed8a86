-- What a body of the code is: its moves, and what they stand in.
use Rattle.std.specs.Prelude.{ℕ, List}
use Rattle.ffi3_type_spec.specs.Signature.{Signature}
use Rattle.ffi3_semantics_spec.specs.Move.{Behaviour}
use Rattle.ffi3_script_spec.specs.Script.{ScriptMove}
use Rattle.ffi3_script_spec.specs.Meaning.{behaviour_of}
use Rattle.ffi3_script_spec.specs.Typed.{Setting}
use Rattle.ffi3_script_body.specs.ExprOf.{script_moves_of}
use Rattle.ffi3_script_body.specs.Own.{own_of}
use Rattle.ffi3_script_body.specs.declared.body.ScriptBody.{ScriptBody}

abbrev pub moves_of : ScriptBody → List ScriptMove
moves_of b = script_moves_of b.moves.items

-- the script's signatures
abbrev pub signatures_of : ScriptBody → List Signature
signatures_of b = b.sigs.value

-- how many functions there are that it can make closures of
abbrev pub functions_of : ScriptBody → ℕ
functions_of b = b.functions

-- its own signature
abbrev pub signature_of : ScriptBody → Signature
signature_of b = own_of b.sigs.value b.own

-- what it is typed in
abbrev pub setting_of : ScriptBody → Setting
setting_of b =
    record { signatures = b.sigs.value; functions = b.functions; result_type = (own_of b.sigs.value b.own).result_type }

-- what it does
abbrev pub meaning_of : ScriptBody → Behaviour
meaning_of b = behaviour_of b.sigs.value (script_moves_of b.moves.items)
