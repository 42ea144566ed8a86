-- Of which kind a move is.
use Rattle.std.specs.Prelude.{ℕ, List, None, slice_index_or}
use Rattle.ffi3_script_spec.specs.Script.{Act, call, make, free, print, return, return_void, ScriptMove}
use Rattle.ffi3_script_body.specs.declared.body.MoveKind.{MoveKind}
use Rattle.ffi3_script_body.specs.declared.body.MoveKind.TheVariants.{Call, Make, Free, Print, Return}

abbrev pub kind_of_act : Act → MoveKind
kind_of_act (call pointer signature arguments) = Call
kind_of_act (make function user) = Make
kind_of_act (free pointer) = Free
kind_of_act (print v) = Print
kind_of_act (return e) = Return
kind_of_act return_void = Return

-- what move i of a body does
abbrev pub act_at : List ScriptMove → ℕ → Act
act_at ms i =
    (slice_index_or ms i (record { condition = None; act = return_void; name = None })).act
