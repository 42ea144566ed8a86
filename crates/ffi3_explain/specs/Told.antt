-- What an error says of an explanation, and of arguments.
use Rattle.std.specs.Prelude.{◌≡◌, ⊤, Option, Some}
use Rattle.ffi3_explain_spec.specs.declared.Check.{Check}
use Rattle.ffi3_explain_spec.specs.declared.Outside.{Outside}
use Rattle.ffi3_explain_spec.specs.Explain.{Explanation, is_broken_at}
use Rattle.ffi3_explain_spec.specs.Arguments.{Arguments, points_outside}
use Rattle.ffi3_explain.specs.declared.Unexplained.{Unexplained}
use Rattle.ffi3_explain.specs.declared.Unexplained.TheVariants.{NotHeld, NoMemory}
use Rattle.ffi3_explain.specs.declared.reading.Unread.{Unread}
use Rattle.ffi3_explain.specs.declared.reading.Unread.TheVariants.{PointsOutside, NoMemory as NoRoom}

-- a place that is told is the one that the explanation names; want of memory says nothing
abbrev pub Tells : Explanation → Unexplained → Type 0
Tells e (NotHeld c) = e ≡ is_broken_at c
Tells e NoMemory = ⊤

-- the same of the first place of a list that is not held
abbrev pub TellsFirst : Option Check → Unexplained → Type 0
TellsFirst o (NotHeld c) = o ≡ Some c
TellsFirst o NoMemory = ⊤

-- an address that is told is the one that points outside; want of memory says nothing
abbrev pub TellsOutside : Arguments → Unread → Type 0
TellsOutside a (PointsOutside o) = a ≡ points_outside o
TellsOutside a NoRoom = ⊤

-- the same of the first that points there
abbrev pub TellsFirstOutside : Option Outside → Unread → Type 0
TellsFirstOutside x (PointsOutside o) = x ≡ Some o
TellsFirstOutside x NoRoom = ⊤
