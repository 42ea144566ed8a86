-- Sources and sinks over std's readers and writers, as their callers see them.
use Rattle.std.specs.Prelude.{◌≡◌, ℕ, ◌<◌, List, [], Option, Some, None}
use Rattle.std.specs.Io.KnownBytes.{Consumes, IsAtEnd, Keeps}

-- the reader or writer, and the count of faults
pub record AdapterState (T : Type 0) : Type 0 where
  pub inner : T
  pub faults : ℕ

-- a read gives the first bytes that the reader has left, where those are known, and none only at the end; at an error they stay
abbrev pub ReaderGives : Option (List ℕ) → ℕ → Option (List ℕ) → Option (List ℕ) → Type 0
ReaderGives before room (Some piece) after =
    Consumes before after piece × (piece ≡ [] → 0 < room → IsAtEnd after)
ReaderGives before room None after = Keeps before after
