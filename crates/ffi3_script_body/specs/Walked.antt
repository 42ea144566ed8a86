-- A walk along the moves of a body, as far as some of them.
use Rattle.std.specs.Prelude.{◌≡◌, ℕ, ◌≤◌, List, ◌++◌, length, map, take, true}
use Rattle.std.specs.List.{list_all}
use Rattle.ffi3_type_spec.specs.Tree.{trees_of}
use Rattle.ffi3_type_spec.specs.Value.{ValueTree, all_fit, values_of}
use Rattle.ffi3_semantics_spec.specs.Move.{Move}
use Rattle.ffi3_semantics_spec.specs.SeenActivation.{SeenActivation}
use Rattle.ffi3_script_spec.specs.Script.{ScriptMove}
use Rattle.ffi3_script_spec.specs.Bodies.{ends}
use Rattle.ffi3_script_spec.specs.Meaning.{next_of}
use Rattle.ffi3_script_spec.specs.Typed.{Setting, moves_are_typed}
use Rattle.ffi3_script_body.specs.KnownOf.{Past, past_type, past_value, is_there, kinds_from, known_from}

-- After these moves, which took so many results, these moves are left: whatever results follow those taken, the next move is the one that the moves left give.
pub record Walked (s : Setting) (a : SeenActivation) (next : List ValueTree → Move) (pasts : List Past) (taken : ℕ)
    (ms : List ScriptMove) : Type 0 where
  pub typed : moves_are_typed s (kinds_from s.signatures a pasts) ms ≡ true
  pub ended : ends ms ≡ true
  pub there : list_all (is_there (length s.signatures) (length a.results)) pasts ≡ true
  pub fit :
      all_fit
      (trees_of (map (past_type s.signatures) pasts))
      (values_of (map (past_value s.signatures a.results) pasts))
      ≡ true
  pub within : taken ≤ length a.results
  pub left : (rest : List ValueTree)
      → next (take taken a.results ++ rest) ≡ next_of s.signatures ms (known_from s.signatures a pasts) rest
