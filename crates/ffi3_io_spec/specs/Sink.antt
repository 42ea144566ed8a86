-- What a write takes, where the sink tells it. Bytes taken are `None` where the sink does not tell them.
use Rattle.std.specs.Prelude.{◌≡◌, ℕ, ◌<◌, List, ◌++◌, take, length, Option, Some}
pub use Rattle.ffi3_io_spec.specs.Count.{Rose}

-- A SINK: the bytes that it took, where it tells them, and its count of faults
pub record SinkState : Type 0 where
  pub taken : Option (List ℕ)
  pub faults : ℕ

-- what tells after told before, and has these bytes added
abbrev pub Adds : Option (List ℕ) → List ℕ → Option (List ℕ) → Type 0
Adds before bytes after =
    (all : List ℕ) → after ≡ Some all → (some : List ℕ) × (before ≡ Some some) × (all ≡ some ++ bytes)

-- with a first part of these bytes added, and not all
abbrev pub AddsSome : Option (List ℕ) → List ℕ → Option (List ℕ) → Type 0
AddsSome before bytes after = (n : ℕ) × (n < length bytes) × Adds before (take n bytes) after
