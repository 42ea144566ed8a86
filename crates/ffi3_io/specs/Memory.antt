-- Sources and sinks in memory, as their callers see them.
use Rattle.std.specs.Prelude.{◌≡◌, ℕ, ◌+◌, List, ◌++◌, length, take, drop, min, Contains, Option, None, Some}
use Rattle.std.specs.Prelude.{if◌then◌else◌, nat_le}
use Rattle.ffi3_io_spec.specs.Count.{next_count}

-- the bytes left, the most of them that one read gives, the calls that fail, the number of the last
-- call and the count of faults
pub record MemSourceState : Type 0 where
  pub left : List ℕ
  pub chunk : ℕ
  pub fails : List ℕ
  pub calls : ℕ
  pub faults : ℕ

-- the bytes taken, the room for them, the most that one write takes, the calls that fail, the number
-- of the last call and the count of faults
pub record MemSinkState : Type 0 where
  pub taken : List ℕ
  pub room : ℕ
  pub chunk : ℕ
  pub fails : List ℕ
  pub calls : ℕ
  pub faults : ℕ

-- the bytes left
pub record SureSourceState : Type 0 where
  pub left : List ℕ

-- the bytes taken, while all that was handed in fits the room
pub record SureSinkState : Type 0 where
  pub taken : Option (List ℕ)
  pub room : ℕ

-- the bytes taken with a piece added, while all of it fits the room
abbrev pub fitting : ℕ → Option (List ℕ) → List ℕ → Option (List ℕ)
fitting room None piece = None
fitting room (Some all) piece =
    (if nat_le (length all + length piece) room then Some (all ++ piece) else None)

-- one more read was called
abbrev pub IsNextRead : MemSourceState → MemSourceState → Type 0
IsNextRead before after =
    (after.calls ≡ next_count before.calls) × (after.fails ≡ before.fails) × (after.chunk ≡ before.chunk)

-- a read gives as many of the bytes left as there is room for, and no more than its chunk, and fails where the number of its call is one of those that fail
abbrev pub MemoryGives : MemSourceState → ℕ → Option (List ℕ) → MemSourceState → Type 0
MemoryGives before room (Some piece) after =
    IsNextRead before after
    × (¬ Contains before.fails after.calls)
    × (piece ≡ take (min room before.chunk) before.left)
    × (after.left ≡ drop (min room before.chunk) before.left)
MemoryGives before room None after =
    IsNextRead before after × Contains before.fails after.calls × (after.left ≡ before.left)

-- the same, and it never fails
abbrev pub SureGives : SureSourceState → ℕ → Option (List ℕ) → SureSourceState → Type 0
SureGives before room (Some piece) after =
    (piece ≡ take room before.left) × (after.left ≡ drop room before.left)
SureGives before room None after = ⊥
