-- That a cursor of a body agrees with what an activation has seen.
use Rattle.std.specs.Prelude.{◌≡◌, Bool, true, ℕ, ◌+◌, ◌<◌, List, [], ◌∷◌, ◌++◌, length, take, drop}
use Rattle.ffi3_type_spec.specs.Value.{ValueTree}
use Rattle.ffi3_semantics_spec.specs.SeenActivation.{SeenActivation, arguments_of}
use Rattle.ffi3_script_spec.specs.Script.{ScriptMove}
use Rattle.ffi3_script_spec.specs.Meaning.{Known, is_done}
use Rattle.ffi3_script_spec.specs.Typed.{Kinds}
use Rattle.ffi3_script_body.specs.BodyOf.{moves_of, setting_of, meaning_of}
use Rattle.ffi3_script_body.specs.KnownOf.{Past, pasts_of, kinds_from, known_from}
use Rattle.ffi3_script_body.specs.Walked.{Walked}
use Rattle.ffi3_script_body.specs.declared.body.ScriptBody.{ScriptBody}
use Rattle.ffi3_script_body.specs.declared.cursor.Cursor.{Cursor}

-- how many moves it has passed
abbrev pub passed : Cursor → ℕ
passed c = c.first + length c.marks.items

-- how many results these took
abbrev pub taken_by : Cursor → ℕ
taken_by c = c.taken

-- the first of these moves is done
abbrev pub first_is_done : Known → List ScriptMove → Bool
first_is_done k [] = true
first_is_done k (m ∷ ms) = is_done k m.condition

-- the moves that it has passed
abbrev pub pasts_at : ScriptBody → Cursor → List Past
pasts_at b c =
    pasts_of (take c.first b.moves.items) (drop c.first b.moves.items) c.marks.items

-- what the body knows where it stands
abbrev pub known_at : ScriptBody → SeenActivation → Cursor → Known
known_at b a c = known_from b.sigs.value a (pasts_at b c)

-- the types of this
abbrev pub kinds_at : ScriptBody → SeenActivation → Cursor → Kinds
kinds_at b a c = kinds_from b.sigs.value a (pasts_at b c)

-- THE CURSOR AGREES with the activation: the moves that it has passed took the first of the results seen, those that it marks and no others, and the meaning of the body after these results is that of the moves left.
pub record Agrees (b : ScriptBody) (a : SeenActivation) (c : Cursor) : Type 0 where
  pub below : c.first + length c.marks.items < length b.moves.items
  -- what it knows of the move at which it stands
  pub ready : c.ready ≡ true
      → first_is_done (known_at b a c) (drop (c.first + length c.marks.items) (moves_of b)) ≡ true
  pub walked :
      Walked (setting_of b) a (meaning_of b (arguments_of a) a.user) (pasts_at b c) c.taken
      (drop (c.first + length c.marks.items) (moves_of b))

-- the activation after one result more
abbrev pub one_more : SeenActivation → ValueTree → SeenActivation
one_more a r = record a { results = a.results ++ r ∷ [] }
