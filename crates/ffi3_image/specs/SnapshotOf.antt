-- The snapshot that each Rust one stands for, and the bytes that describe it.
use Rattle.std.specs.Prelude.{◌≡◌, ℕ, List}
use Rattle.serde_json.specs.Data.{Data}
use Rattle.ffi3_script_spec.specs.Reading.{IsJson}
use Rattle.ffi3_explain.specs.ImageOf.{image_of}
use Rattle.ffi3_image_spec.specs.Object.{Snapshot, read, read_snapshot}
use Rattle.ffi3_image.specs.declared.object.Snapshot.{Snapshot as CodeSnapshot}

abbrev pub snapshot_of : CodeSnapshot → Snapshot
snapshot_of s =
    record { target = s.target; signature = s.sig; image = image_of s.image }

-- The bytes are a JSON text of an object that is read as this.
abbrev pub Describe : List ℕ → Snapshot → Type 0
Describe bytes s = (d : Data) × IsJson bytes d × (read_snapshot d ≡ read s)
