-- What came of a text that was handed to a sink, in one piece or in several.
use Rattle.std.specs.Prelude.{◌≡◌, ℕ, ◌≤◌, List, take, length, Result, Ok, Err}
use Rattle.ffi3_io_spec.specs.Sink.{Adds, AddsSome, Rose, SinkState}
use Rattle.ffi3_io_spec.specs.declared.IoError.{IoError}
use Rattle.ffi3_io_spec.specs.declared.IoError.TheVariants.{NoMemory, Failed}

-- the text was taken whole, and no fault counted
pub record TookText (text : List ℕ) (before after : SinkState) : Type 0 where
  pub added : Adds before.taken text after.taken
  pub count : after.faults ≡ before.faults

-- where memory was refused no fault was counted
abbrev pub IsCause : IoError → ℕ → ℕ → Type 0
IsCause NoMemory before after = after ≡ before
IsCause Failed before after = Rose before after × (before ≤ after)

-- a first part of the text was taken
pub record Interrupted (text : List ℕ) (before after : SinkState) (end : IoError) : Type 0 where
  pub part : ℕ
  pub within : part ≤ length text
  pub written : Adds before.taken (take part text) after.taken
  pub cause : IsCause end before.faults after.faults

-- THE TEXT WAS WRITTEN, or a first part of it where writing ended before
abbrev pub Wrote : {A : Type 0} → List ℕ → SinkState → SinkState → Result A IoError → Type 0
Wrote text before after (Ok done) = TookText text before after
Wrote text before after (Err end) = Interrupted text before after end

-- a first part of the line was taken, and not all of it, and a fault was counted
pub record LineFailed (line : List ℕ) (before after : SinkState) : Type 0 where
  pub part : AddsSome before.taken line after.taken
  pub rose : Rose before.faults after.faults
  pub never_falls : before.faults ≤ after.faults

-- why the line was not written: for want of memory, and then nothing was handed in, or because a write failed
abbrev pub LineInterrupted : List ℕ → SinkState → SinkState → IoError → Type 0
LineInterrupted line before after NoMemory = after ≡ before
LineInterrupted line before after Failed = LineFailed line before after

-- THE LINE WAS WRITTEN, or why not
abbrev pub WroteLine : {A : Type 0} → List ℕ → SinkState → SinkState → Result A IoError → Type 0
WroteLine line before after (Ok done) = TookText line before after
WroteLine line before after (Err end) = LineInterrupted line before after end
