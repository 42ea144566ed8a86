-- What the bytes of an input are read as, for a question.
use Rattle.std.specs.Prelude.{◌≡◌, ◌<◌, ℕ, List, length}
use Rattle.serde_json.specs.Data.{Data}
use Rattle.ffi3_explain_spec.specs.Standards.{standard_of}
use Rattle.ffi3_script_spec.specs.Language.{JsonPath}
use Rattle.ffi3_script_spec.specs.Reading.{max_length, IsJson, IsNotJson}
use Rattle.ffi3_image_spec.specs.declared.Question.{Question}
use Rattle.ffi3_image_spec.specs.Object.{Read, Reason, Snapshot, read, fault, and_then, read_map, read_snapshot}
use Rattle.ffi3_image_spec.specs.Room.{check_room_for}

-- an image that has room for the question
abbrev pub with_room : Question → Snapshot → Read Snapshot
with_room question s =
    read_map (λ enough. s) (check_room_for question (standard_of s.target) s.signature s.image)

-- the whole object for a question: what it is read as, and then its room
abbrev pub read_for : Question → Data → Read Snapshot
read_for question d = and_then (with_room question) (read_snapshot d)

pub data Input : Type 0 where
  too_long : Input
  not_json : Input
  faulty : JsonPath → Reason → Input
  described : Snapshot → Input

-- WHAT BYTES ARE READ AS. The length is judged first, and of the object the first fault in the order of reading.
abbrev pub IsReadAs : Question → List ℕ → Input → Type 0
IsReadAs question bytes too_long = max_length < length bytes
IsReadAs question bytes not_json = IsNotJson bytes
IsReadAs question bytes (faulty path reason) =
    (d : Data) × IsJson bytes d × (read_for question d ≡ fault path reason)
IsReadAs question bytes (described s) =
    (d : Data) × IsJson bytes d × (read_for question d ≡ read s)
