-- What each status of the top call says, with its cause.
use Rattle.std.specs.Prelude.{◌≡◌, ℕ, true, false, ◌+◌, List, [], drop, Some}
use Rattle.ffi3_io_spec.specs.Sink.{Rose, SinkState}
use Rattle.ffi3_io_spec.specs.Source.{LosesSome, SourceState}
use Rattle.ffi3_app_spec.specs.FaultLines.{read_fault_line, write_fault_line, no_memory_line, ReportsFault}
use Rattle.ffi3_script_spec.specs.Reading.{max_length}
use Rattle.ffi3_script_spec.specs.Natives.{NamedNative}
use Rattle.ffi3_machine_spec.specs.State.{State}
use Rattle.ffi3_cli_spec.specs.declared.words.InputCommand.{InputCommand}
use Rattle.ffi3_cli_spec.specs.declared.words.Request.{Request}
use Rattle.ffi3_cli_spec.specs.declared.words.Request.TheVariants.{OnInput, Bench}
use Rattle.ffi3_cli_spec.specs.Words.{Takes, IsRefused}
use Rattle.ffi3_app_spec.specs.Outcome.{Outcome, refuses, tells, runs, benches, IsOutcome, reads_input, IsDone, IsDoneInPart}

-- ---- what the world around shows, before the call and after it

-- a source that tells had these bytes left
abbrev pub HadBytes : SourceState → List ℕ → Type 0
HadBytes input bytes = (all : List ℕ) → input.left ≡ Some all → bytes ≡ all

-- WHAT IS ASKED FOR COMES TO THIS of the input: of the bytes that it had left, where it told them, and else of some
abbrev pub ComesTo : Request → List NamedNative → SourceState → Outcome → Type 0
ComesTo request natives input o =
    (bytes : List ℕ) × HadBytes input bytes × IsOutcome request natives bytes o

-- a source that tells has no byte left
abbrev pub IsAtEnd : SourceState → SourceState → Type 0
IsAtEnd before after = (all : List ℕ) → before.left ≡ Some all → after.left ≡ Some []

-- a source that tells gave all that it had, as far as one byte more than a script may have
abbrev pub IsRead : SourceState → SourceState → Type 0
IsRead before after =
    (all : List ℕ) → before.left ≡ Some all → after.left ≡ Some (drop (max_length + 1) all)

-- no more than that was read
abbrev pub IsReadInPart : SourceState → SourceState → Type 0
IsReadInPart before after = LosesSome (max_length + 1) before.left after.left

-- what was asked for left the input so: a command on the input read it, to its end where it is not refused, and no read failed; `bench` did not touch it
abbrev pub LeftInput : Request → Outcome → SourceState → SourceState → Type 0
LeftInput (Bench seed calls) o input input' = input' ≡ input
LeftInput (OnInput command) (refuses line) input input' =
    IsRead input input' × (input'.faults ≡ input.faults)
LeftInput (OnInput command) (tells text) input input' =
    IsRead input input' × IsAtEnd input input' × (input'.faults ≡ input.faults)
LeftInput (OnInput command) (runs trace std program) input input' =
    IsRead input input' × IsAtEnd input input' × (input'.faults ≡ input.faults)
LeftInput (OnInput command) (benches seed calls) input input' =
    IsRead input input' × IsAtEnd input input' × (input'.faults ≡ input.faults)

-- ---- statuses

-- WHAT GOES WRONG, with the status and the line that tell it: its cause, what was written, and what stayed as it was
pub data Fails (words : List (List ℕ)) (natives : List NamedNative) (input input' : SourceState)
    (output output' : SinkState) (machine machine' : State) : ℕ → List ℕ → Type 0 where
  refused : {request : Request}
      → Takes words request → {line : List ℕ} → ComesTo request natives input (refuses line)
      → LeftInput request (refuses line) input input' → output' ≡ output → machine' ≡ machine
      → Fails words natives input input' output output' machine machine' 1 line
  bad_words : {line : List ℕ} → IsRefused words → input' ≡ input → output' ≡ output → machine' ≡ machine
      → Fails words natives input input' output output' machine machine' 2 line
  read_failed : {command : InputCommand}
      → Takes words (OnInput command) → Rose input.faults input'.faults → IsReadInPart input input' → output' ≡ output → machine' ≡ machine
      → Fails words natives input input' output output' machine machine' 3 read_fault_line
  write_failed : {request : Request}
      → Takes words request → (o : Outcome) → ComesTo request natives input o
      → LeftInput request o input input' → IsDoneInPart true o output output' machine machine'
      → Rose output.faults output'.faults
      → Fails words natives input input' output output' machine machine' 4 write_fault_line
  no_memory_for_words : input' ≡ input → output' ≡ output → machine' ≡ machine
      → Fails words natives input input' output output' machine machine' 5 no_memory_line
  no_memory_to_begin : {request : Request}
      → Takes words request → IsReadInPart input input' → input'.faults ≡ input.faults
      → (reads_input request ≡ false → input' ≡ input) → output' ≡ output → machine' ≡ machine
      → Fails words natives input input' output output' machine machine' 5 no_memory_line
  no_memory_to_end : {request : Request}
      → Takes words request → (o : Outcome) → ComesTo request natives input o
      → LeftInput request o input input' → IsDoneInPart false o output output' machine machine'
      → output'.faults ≡ output.faults
      → Fails words natives input input' output output' machine machine' 5 no_memory_line

-- WHAT EACH STATUS SAYS: the work is done whole, or what goes wrong is told, and then 4 in place of its status where that failed
pub data Says (words : List (List ℕ)) (natives : List NamedNative) (input input' : SourceState)
    (output output' told told' : SinkState) (machine machine' : State) : ℕ → Type 0 where
  done : {request : Request} {status : ℕ}
      → Takes words request → (o : Outcome) → ComesTo request natives input o
      → LeftInput request o input input' → IsDone o output output' machine machine' status → told' ≡ told
      → Says words natives input input' output output' told told' machine machine' status
  failed : {status : ℕ} {line : List ℕ} {answer : ℕ}
      → Fails words natives input input' output output' machine machine' status line
      → ReportsFault line status told told' answer
      → Says words natives input input' output output' told told' machine machine' answer
