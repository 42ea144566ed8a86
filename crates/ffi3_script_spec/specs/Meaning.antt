-- What a script means: its values computed from what an activation has seen, its bodies as moves, the whole as a program.
use Rattle.std.specs.Prelude.{ℕ, List, [], ◌∷◌, ◌++◌, map, Option, Some, None, Bool, true, false, not, ◌==◌}
use Rattle.std.specs.Prelude.{slice_index_or, ℤ, pos, ◌-ℤ◌}
use Rattle.std.specs.Int.{w64, from_le_bytes}
use Rattle.ffi3_type_spec.specs.Tree.{Scalar}
use Rattle.ffi3_type_spec.specs.Signature.{Signature}
use Rattle.ffi3_type_spec.specs.Integer.{bytes_of_number, number_of, scalar_of, sum_of}
use Rattle.ffi3_type_spec.specs.Value.{ValueTree, ValueTrees, no_values, value, void_value, leaf_value, struct_value}
use Rattle.ffi3_type_spec.specs.Value.{bytes_of, elements_of, list_of_values, zero_value}
use Rattle.ffi3_place_spec.specs.Standard.{Standard, need_of}
use Rattle.ffi3_semantics_spec.specs.Move.{Move, Behaviour}
use Rattle.ffi3_semantics_spec.specs.Move as run
use Rattle.ffi3_semantics_spec.specs.Meaning.{Function, Program, pointer_value}
use Rattle.ffi3_script_spec.specs.Script.{Expression, constant, composed, argument, outcome, user_data, element}
use Rattle.ffi3_script_spec.specs.Script.{typed_as, sum, difference, cast, Expressions, no_expressions, expression}
use Rattle.ffi3_script_spec.specs.Script.{Typed, Act, call, make, free, print, return, return_void, ScriptMove}
use Rattle.ffi3_script_spec.specs.Script.{ScriptFunction, Script}
use Rattle.ffi3_script_spec.specs.Bodies.{type_of_act}

-- ---- values

-- what a body's values are computed from: its arguments and user data, and one value for each of its moves so far
pub record Known : Type 0 where
  pub arguments : List ValueTree
  pub user : ℕ
  pub outcomes : List ValueTree

-- the bytes of the difference of two numbers, modulo two to the type's number of bits
abbrev pub difference_of : Scalar → List ℕ → List ℕ → List ℕ
difference_of s a b = bytes_of_number s (number_of s a -ℤ number_of s b)

abbrev pub element_value : ValueTree → ℕ → ValueTree
element_value v i = slice_index_or (list_of_values (elements_of v)) i void_value

abbrev mutual
  pub value_of : Known → Expression → ValueTree
  value_of k (constant bytes) = leaf_value bytes
  value_of k (composed es) = struct_value (values_of k es)
  value_of k (argument i) = slice_index_or k.arguments i void_value
  value_of k (outcome i) = slice_index_or k.outcomes i void_value
  value_of k user_data = pointer_value k.user
  value_of k (element e i) = element_value (value_of k e) i
  value_of k (typed_as t e) = value_of k e
  value_of k (sum s e f) =
      leaf_value (sum_of s (bytes_of (value_of k e)) (bytes_of (value_of k f)))
  value_of k (difference s e f) =
      leaf_value (difference_of s (bytes_of (value_of k e)) (bytes_of (value_of k f)))
  value_of k (cast from to e) =
      leaf_value (bytes_of_number to (number_of from (bytes_of (value_of k e))))

  pub values_of : Known → Expressions → ValueTrees
  values_of k no_expressions = no_values
  values_of k (expression e es) = value (value_of k e) (values_of k es)

-- the address that a pointer is
abbrev pub address_of : Known → Expression → ℕ
address_of k e = from_le_bytes w64 (bytes_of (value_of k e))

-- ---- moves

abbrev pub is_zero : ℤ → Bool
is_zero (pos n) = n == 0
is_zero _ = false

-- a move with a condition is done where that is not 0
abbrev pub is_done : Known → Option Typed → Bool
is_done k None = true
is_done k (Some c) =
    not (is_zero (number_of (scalar_of c.type) (bytes_of (value_of k c.value))))

abbrev pub move_of : Known → Act → Move
move_of k (call to sig arguments) =
    run.call (address_of k to) sig (list_of_values (values_of k arguments))
move_of k (make function user) = run.make function (address_of k user)
move_of k (free to) = run.free (address_of k to)
move_of k (print v) = run.print v.type (value_of k v.value)
move_of k (return e) = run.return (value_of k e)
move_of k return_void = run.return void_value

abbrev pub knows_too : Known → ValueTree → Known
knows_too k v = record k { outcomes = k.outcomes ++ v ∷ [] }

-- one move: it is next, or its result is there, or it is not done and its value is zero; and then the moves after it, from that value and the results that are left
abbrev pub next_by : Bool → Move → (zero : ValueTree) → (after : ValueTree → List ValueTree → Move)
    → List ValueTree → Move
next_by true this zero after [] = this
next_by true this zero after (r ∷ results) = after r results
next_by false this zero after results = after zero results

-- THE NEXT MOVE, after moves that gave these results: the first that is done and has none yet. The value of a move that is not done is the zero of its type. (A body ends with a return.)
abbrev pub next_of : List Signature → List ScriptMove → Known → List ValueTree → Move
next_of signatures [] k results = run.return void_value
next_of signatures (m ∷ ms) k results =
    next_by (is_done k m.condition) (move_of k m.act)
    (zero_value (type_of_act signatures m.act))
    (λ v rest. next_of signatures ms (knows_too k v) rest) results

abbrev pub known : List ValueTree → ℕ → Known
known arguments user = record { arguments = arguments; user = user; outcomes = [] }

abbrev pub behaviour_of : List Signature → List ScriptMove → Behaviour
behaviour_of signatures moves arguments user results =
    next_of signatures moves (known arguments user) results

-- ---- the whole

abbrev pub function_of : List Signature → ScriptFunction → Function
function_of signatures f =
    record { behaviour = behaviour_of signatures f.body; signature = f.signature }

-- THE PROGRAM OF A SCRIPT, by a calling standard
abbrev pub program_of : Standard → Script → Program
program_of standard script = record {
  signatures = script.signatures;
  functions = map (function_of script.signatures) script.functions;
  main = behaviour_of script.signatures script.main;
  need = need_of standard;
}
