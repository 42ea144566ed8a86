-- What a refusal of the code tells of the bytes.
use Rattle.std.specs.Prelude.{◌≡◌, ◌<◌, ℕ, List, length}
use Rattle.serde_json.specs.Data.{Data}
use Rattle.ffi3_script_spec.specs.Language.{JsonPath}
use Rattle.ffi3_script_spec.specs.Reading.{max_length, IsJson, IsNotJson}
use Rattle.ffi3_image_spec.specs.Object.{Reason, fault, read_snapshot}
use Rattle.ffi3_image.specs.FaultOf.{reason_of}
use Rattle.ffi3_image.specs.declared.fault.ImageFault.{ImageFault}
use Rattle.ffi3_image.specs.declared.fault.ImageFault.TheVariants.{TooLong, BadJson, BadImage, NoMemory}

-- The fault is that of a value, and its place and reason are as said. Memory alone is free.
abbrev pub Tells : (JsonPath → Reason → Type 0) → ImageFault → Type 0
Tells says TooLong = ⊥
Tells says BadJson = ⊥
Tells says (BadImage path why) = says path (reason_of why)
Tells says NoMemory = Unit {0}

-- The bytes describe no image, for this cause. Memory alone is free.
abbrev pub IsNoSnapshot : List ℕ → ImageFault → Type 0
IsNoSnapshot bytes TooLong = max_length < length bytes
IsNoSnapshot bytes BadJson = IsNotJson bytes
IsNoSnapshot bytes (BadImage path why) =
    (d : Data) × IsJson bytes d × (read_snapshot d ≡ fault path (reason_of why))
IsNoSnapshot bytes NoMemory = Unit {0}
