-- What reading the words answers: a request with its numbers in range, or why the words are refused.
use Rattle.std.specs.Prelude.{◌≡◌, ◌≤◌, List, Result, Ok, Err}
use Rattle.clap.specs.Words.{Text, kind_of}
use Rattle.clap.specs.declared.error.Error.{Error}
use Rattle.clap.specs.declared.error.kind.ErrorKind.TheVariants.{OutOfMemory}
use Rattle.ffi3_type_spec.specs.declared.limits.TheConstants.{MOST_CALLS}
use Rattle.ffi3_cli_spec.specs.declared.words.Request.{Request}
use Rattle.ffi3_cli_spec.specs.declared.words.Request.TheVariants.{OnInput, Bench}
use Rattle.ffi3_cli.specs.declared.words.WordsFault.{WordsFault}
use Rattle.ffi3_cli.specs.declared.words.WordsFault.TheVariants.{Refused, NoMemory}
use Rattle.ffi3_cli_spec.specs.Words.{IsRefused, IsStated, Takes}

-- the numbers that are asked for lie in their ranges: a seed has 32 bits by its type
abbrev pub IsInRange : Request → Type 0
IsInRange (OnInput command) = Unit {0}
IsInRange (Bench seed calls) = (1 ≤ calls) × (calls ≤ MOST_CALLS)

abbrev pub IsWordsRefusal : List Text → WordsFault → Type 0
IsWordsRefusal words (Refused text) = IsRefused words × ((r : Request) → IsStated words r → ⊥)
IsWordsRefusal words NoMemory = Unit {0}

-- an error of clap is told as this: its text, where it is not want of memory
abbrev pub IsToldAs : Error → WordsFault → Type 0
IsToldAs e (Refused text) = kind_of e ≡ OutOfMemory → ⊥
IsToldAs e NoMemory = Unit {0}

-- WHAT THE READING ANSWERS: what clap takes the words as, or that they are refused, or that memory was refused
abbrev pub IsAnswered : List Text → Result Request WordsFault → Type 0
IsAnswered words (Ok r) = Takes words r × IsInRange r
IsAnswered words (Err (Refused text)) = IsRefused words
IsAnswered words (Err NoMemory) = Unit {0}
