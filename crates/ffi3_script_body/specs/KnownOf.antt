-- What a body knows at one of its moves.
use Rattle.std.specs.Prelude.{ℕ, ◌+◌, ◌&&◌, List, [], ◌∷◌, ◌++◌, map, Bool, true, Option, Some, None, nat_lt}
use Rattle.std.specs.Prelude.{slice_index_or}
use Rattle.ffi3_type_spec.specs.Tree.{Tree}
use Rattle.ffi3_type_spec.specs.Signature.{Signature}
use Rattle.ffi3_type_spec.specs.Value.{ValueTree, void_value, zero_value}
use Rattle.ffi3_semantics_spec.specs.SeenActivation.{SeenActivation, arguments_of}
use Rattle.ffi3_script_spec.specs.Script.{Act, call, ScriptMove}
use Rattle.ffi3_script_spec.specs.Bodies.{type_of_act}
use Rattle.ffi3_script_spec.specs.Meaning as meaning
use Rattle.ffi3_script_spec.specs.Typed.{Kinds}
use Rattle.ffi3_script_body.specs.ExprOf.{act_of, script_moves_of}
use Rattle.ffi3_script_body.specs.Own.{is_below}
use Rattle.ffi3_script_body.specs.declared.known.Outcome.{Outcome}
use Rattle.ffi3_script_body.specs.declared.moves.ScriptMove as code

-- the value of a move of a type: its result, or zero where it was not done
abbrev pub value_by : Tree → List ValueTree → Option ℕ → ValueTree
value_by t results (Some r) = slice_index_or results r void_value
value_by t results None = zero_value t

-- a move before the next one: what it does, and the number of its result, or none where it was not done
pub record Past : Type 0 where
  pub act : Act
  pub result : Option ℕ

abbrev pub past_of : Outcome → Past
past_of o = record { act = act_of o.act.now; result = o.result }

-- moves, of which the first have these numbers of results, or none where one was not done
abbrev pub marked : List (Option ℕ) → List ScriptMove → List Past
marked [] ms = []
marked (r ∷ marks) [] = []
marked (r ∷ marks) (m ∷ ms) = record { act = m.act; result = r } ∷ marked marks ms

-- moves that were all done, of which the first has result i
abbrev pub done_from : ℕ → List ScriptMove → List Past
done_from i [] = []
done_from i (m ∷ ms) = record { act = m.act; result = Some i } ∷ done_from (i + 1) ms

-- the first moves, which were all done, and those after them
abbrev pub pasts_of : List code.ScriptMove → List code.ScriptMove → List (Option ℕ) → List Past
pasts_of done later marks =
    done_from 0 (script_moves_of done) ++ marked marks (script_moves_of later)

abbrev pub past_type : List Signature → Past → Tree
past_type signatures p = type_of_act signatures p.act

abbrev pub past_value : List Signature → List ValueTree → Past → ValueTree
past_value signatures results p = value_by (past_type signatures p) results p.result

-- the signature of a call is one of so many
abbrev pub calls_below : ℕ → Act → Bool
calls_below count (call pointer signature arguments) = nat_lt signature count
calls_below count _ = true

-- its numbers lie in their lists
abbrev pub is_there : ℕ → ℕ → Past → Bool
is_there signatures results p = is_below results p.result && calls_below signatures p.act

abbrev pub kinds_from : List Signature → SeenActivation → List Past → Kinds
kinds_from signatures a pasts =
    record { arguments = a.signature.arguments; outcomes = map (past_type signatures) pasts }

abbrev pub known_from : List Signature → SeenActivation → List Past → meaning.Known
known_from signatures a pasts = record {
  arguments = arguments_of a;
  user = a.user;
  outcomes = map (past_value signatures a.results) pasts;
}
