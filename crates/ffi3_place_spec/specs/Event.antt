-- What a machine's journal records: an entry or a return, with the machine's image at that moment. (This library's; what stands in it is the standard's, by `Holds`.)
use Rattle.std.specs.Prelude.{ℕ}
use Rattle.ffi3_place_spec.specs.Image.{Image}

pub data EventKind : Type 0 where
  enters : EventKind
  leaves : EventKind

-- `closure` is the address of the closure that is entered, and 0 at a return
pub record Event : Type 0 where
  pub kind : EventKind
  pub closure : ℕ
  pub image : Image
