-- What reads give, and where they end. Bytes left are `None` where the source does not tell them.
use Rattle.std.specs.Prelude.{◌≡◌, ℕ, ◌+◌, ◌<◌, ◌≤◌, ◌↔◌, List, [], ◌++◌, take, drop, length, Option, Some, None}
pub use Rattle.ffi3_io_spec.specs.Count.{Rose}

-- A SOURCE: the bytes that it has left, where it tells them, and its count of faults
pub record SourceState : Type 0 where
  pub left : Option (List ℕ)
  pub faults : ℕ

-- what tells before tells after: these bytes stood first, and the others are left
abbrev pub Gives : Option (List ℕ) → List ℕ → Option (List ℕ) → Type 0
Gives before bytes after =
    (all : List ℕ) → before ≡ Some all → (rest : List ℕ) × (after ≡ Some rest) × (all ≡ bytes ++ rest)

-- a read into room for some bytes gave n, and gives 0 exactly where no byte is left
abbrev pub IsEndAtZero : Option (List ℕ) → ℕ → Type 0
IsEndAtZero before n = (all : List ℕ) → before ≡ Some all → (n ≡ 0) ↔ (all ≡ [])

-- what tells before tells after: these are the first bytes up to a limit, and the others are left
abbrev pub GivesFirst : ℕ → Option (List ℕ) → List ℕ → Option (List ℕ) → Type 0
GivesFirst limit before bytes after =
    (all : List ℕ) → before ≡ Some all → (bytes ≡ take limit all) × (after ≡ Some (drop limit all))

-- what tells before tells after: some first bytes up to a limit are gone, and the others are left
abbrev pub LosesSome : ℕ → Option (List ℕ) → Option (List ℕ) → Type 0
LosesSome limit before after =
    (n : ℕ) × (n ≤ limit) × ((all : List ℕ) → before ≡ Some all → after ≡ Some (drop n all))

-- what tells before tells after: n bytes stood first, which now stand after those read before, and
-- the others are left
abbrev pub GivesAfter : ℕ → Option (List ℕ) → List ℕ → List ℕ → Option (List ℕ) → Type 0
GivesAfter n before old new after =
    (piece : List ℕ) × (length piece ≡ n) × (new ≡ old ++ piece) × Gives before piece after

-- what the reads of a source give: from one state of it, into room for so many bytes, these bytes or a failure, and its state after that. All this is up to a limit, from the source's first state.
module _ {S : Type 0} (gives : S → ℕ → Option (List ℕ) → S → Type 0) (limit : ℕ) (from : S) where
  -- THE READS SO FAR, each of which took at least one byte, and none of which had room for more than is wanted: all their bytes, and the source after them
  pub data HasRead : List ℕ → S → Type 0 where
    not_yet : HasRead [] from
    one_more : {bytes piece : List ℕ} {s t : S} {room : ℕ}
        → HasRead bytes s → length bytes + room ≤ limit → gives s room (Some piece) t → 0 < length piece
        → HasRead (bytes ++ piece) t

  -- WHERE READING ENDS: where as many bytes were taken as the limit, or at a read that had room and gave no byte
  pub data HasReadAll : List ℕ → S → Type 0 where
    at_limit : {bytes : List ℕ} {t : S} → HasRead bytes t → length bytes ≡ limit → HasReadAll bytes t
    at_end : {bytes : List ℕ} {s t : S} {room : ℕ}
        → HasRead bytes s → 0 < room → length bytes + room ≤ limit → gives s room (Some []) t
        → HasReadAll bytes t

  -- WHERE READING FAILS: at a read that had room and failed
  pub data HasFailed : S → Type 0 where
    at_fault : {bytes : List ℕ} {s t : S} {room : ℕ}
        → HasRead bytes s → 0 < room → length bytes + room ≤ limit → gives s room None t
        → HasFailed t

  -- a read with room for no more than is wanted gave n bytes, put after those read before
  pub record HasOneMore (before : List ℕ) (n : ℕ) (after : List ℕ) (to : S) : Type 0 where
    pub room : ℕ
    pub piece : List ℕ
    pub some_room : 0 < room
    pub within : length before + room ≤ limit
    pub count : length piece ≡ n
    pub added : after ≡ before ++ piece
    pub gave : gives from room (Some piece) to

  -- a read with room for no more than is wanted failed
  pub record FailsNext (before : List ℕ) (to : S) : Type 0 where
    pub room : ℕ
    pub some_room : 0 < room
    pub within : length before + room ≤ limit
    pub gave : gives from room None to
