-- What the bytes of a script are read as.
use Rattle.std.specs.Prelude.{◌≡◌, ℕ, ◌<◌, ◌≤◌, List, length, Some, None, IsUtf8}
use Rattle.serde_json.specs.Data.{Data}
use Rattle.serde_json.specs.Read.{read}
use Rattle.ffi3_type_spec.specs.declared.limits.TheConstants.{LONGEST_SCRIPT}
use Rattle.ffi3_script_spec.specs.Language as language
use Rattle.ffi3_script_spec.specs.Language.{JsonPath, Reason}
use Rattle.ffi3_script_spec.specs.Script.{Script}
use Rattle.ffi3_script_spec.specs.Bodies.{read_script}

pub data Reading : Type 0 where
  too_long : Reading
  not_json : Reading
  bad_script : JsonPath → Reason → Reading
  script : Script → Reading

-- in bytes
abbrev pub max_length : ℕ
max_length = LONGEST_SCRIPT

-- The bytes are a JSON text in UTF-8 (RFC 8259, 8.1) of this value.
pub record IsJson (bytes : List ℕ) (d : Data) : Type 0 where
  pub short : length bytes ≤ max_length
  pub text : IsUtf8 bytes
  pub value : read bytes ≡ Some d

abbrev pub IsNotJson : List ℕ → Type 0
IsNotJson bytes = (length bytes ≤ max_length) × (IsUtf8 bytes → read bytes ≡ None)

-- beside natives of these names
abbrev pub IsReading : List (List ℕ) → List ℕ → Reading → Type 0
IsReading natives bytes too_long = max_length < length bytes
IsReading natives bytes not_json = IsNotJson bytes
IsReading natives bytes (bad_script path reason) =
    (d : Data) × IsJson bytes d × (read_script natives d ≡ language.fault path reason)
IsReading natives bytes (script s) =
    (d : Data) × IsJson bytes d × (read_script natives d ≡ language.read s)

-- The bytes are read in no other way.
abbrev pub IsTheReading : List (List ℕ) → List ℕ → Reading → Type 0
IsTheReading natives bytes r =
    IsReading natives bytes r × ((other : Reading) → IsReading natives bytes other → other ≡ r)
