-- What each command does to its input, and what is done of it: one definition for all commands.
use Rattle.std.specs.Prelude.{◌≡◌, ℕ, Bool, true, false, ◌++◌, List, [], take, codes}
use Rattle.ffi3_place_spec.specs.Standard.{Standard}
use Rattle.ffi3_semantics_spec.specs.Closures.{Closures}
use Rattle.ffi3_semantics_spec.specs.Meaning.{End, Program, returned, stopped, meaning_of}
use Rattle.ffi3_semantics_spec.specs.Lines.{a_line}
use Rattle.ffi3_small_step_spec.specs.MainTracing.{main_tracing}
use Rattle.ffi3_script_spec.specs.Language.{JsonPath, reason_of_fault}
use Rattle.ffi3_script_spec.specs.ReasonText.{text_of_path, text_of_reason}
use Rattle.ffi3_script_spec.specs.Script.{Script}
use Rattle.ffi3_script_spec.specs.Meaning.{program_of}
use Rattle.ffi3_script_spec.specs.Made.{made}
use Rattle.ffi3_script_spec.specs.Reading.{Reading, too_long, not_json, bad_script, script, IsReading}
use Rattle.ffi3_script_spec.specs.Natives.{NamedNative, names_of, program_beside}
use Rattle.ffi3_riscv_spec.specs.Riscv.{riscv}
use Rattle.ffi3_app_spec.specs.BenchText.{HasWholeJournal, bench_text}
use Rattle.ffi3_machine_spec.specs.State.{State}
use Rattle.ffi3_run_spec.specs.RunMatches.{RunMatches, WrotePart}
use Rattle.ffi3_run_spec.specs.RunInterrupted.{RunWasInterrupted}
use Rattle.ffi3_io_spec.specs.Sink.{Adds, SinkState}
use Rattle.ffi3_io_spec.specs.Written.{TookText}
use Rattle.ffi3_cli_spec.specs.declared.words.InputCommand.{InputCommand}
use Rattle.ffi3_cli_spec.specs.declared.words.InputCommand.TheVariants.{Layout, Place, Run, Cdecl, Cplace, Explain, Arguments}
use Rattle.ffi3_cli_spec.specs.declared.words.Request.{Request}
use Rattle.ffi3_cli_spec.specs.declared.words.Request.TheVariants.{OnInput, Bench}
use Rattle.ffi3_cdecl_spec.specs.Grammar.{Declaration}
use Rattle.ffi3_cdecl_spec.specs.Prototype.{read_as, sign_unsaid}
use Rattle.ffi3_cdecl_spec.specs.Reading as declaration
use Rattle.ffi3_cdecl_spec.specs.Tokens.{signed}
use Rattle.ffi3_names_spec.specs.Names.{AreNames}
use Rattle.ffi3_image_spec.specs.declared.Question.{Question}
use Rattle.ffi3_image_spec.specs.declared.Question.TheVariants.{Explained, ByStandard}
use Rattle.ffi3_image_spec.specs.Answer as image
use Rattle.ffi3_image_spec.specs.Answer.{Answer, IsAnswer}
use Rattle.ffi3_explain_spec.specs.Standards.{standard_of}
use Rattle.ffi3_app_spec.specs.Commands.{layout_text, place_text}
use Rattle.ffi3_app_spec.specs.Declarations.{Input, too_many_bytes, not_utf8, a_text, IsReadAs, IsReadWidely, offset_line}
use Rattle.ffi3_app_spec.specs.Declarations.{reason_line, marked_line, unexpected_line, fault_line, sign_line}
use Rattle.ffi3_app_spec.specs.Declarations.{cdecl_text, cplace_text}

-- WHAT A COMMAND COMES TO: its input is refused with a line; or a text is told; or a program is run by a standard, traced or not, and told; or the bench of a seed and a number of calls is run and told
pub data Outcome : Type 0 where
  refuses : List ℕ → Outcome
  tells : List ℕ → Outcome
  runs : Bool → Standard → Program → Outcome
  benches : ℕ → ℕ → Outcome

-- ---- commands that work on a script

-- the line of a place of a script, and of what is told of it
abbrev pub located_line : JsonPath → List ℕ → List ℕ
located_line path words = a_line (codes "ffi3: " ++ text_of_path path ++ codes ": " ++ words)

-- what is read as no script is refused; of a script, a command has an outcome
abbrev pub outcome_of : (Script → Outcome) → Reading → Outcome
outcome_of outcome too_long = refuses (a_line (codes "ffi3: script too long"))
outcome_of outcome not_json = refuses (a_line (codes "ffi3: not JSON"))
outcome_of outcome (bad_script path reason) = refuses (located_line path (text_of_reason reason))
outcome_of outcome (script s) = outcome s

-- bytes come to this, read as a script beside natives of these names
abbrev pub IsOfScript : (names : List (List ℕ)) → (Script → Outcome) → List ℕ → Outcome → Type 0
IsOfScript names outcome bytes o =
    (r : Reading) × IsReading names bytes r × (o ≡ outcome_of outcome r)

-- ---- commands that work on a declaration or a prototype

-- what is read as no declaration is refused; of a declaration, a command has an outcome
abbrev pub outcome_of_input : (Declaration → Outcome) → Input → Outcome
outcome_of_input outcome too_many_bytes = refuses (a_line (codes "ffi3: input too long"))
outcome_of_input outcome not_utf8 = refuses (a_line (codes "ffi3: not UTF-8"))
outcome_of_input outcome (a_text (read_as (declaration.bad_token at))) =
    refuses (offset_line at (codes "bad token"))
outcome_of_input outcome (a_text (read_as (declaration.unexpected at))) =
    refuses (offset_line at (codes "unexpected"))
outcome_of_input outcome (a_text (read_as (declaration.bad_number at))) =
    refuses (offset_line at (codes "bad number"))
outcome_of_input outcome (a_text (read_as (declaration.bad_signature f))) =
    refuses (reason_line (text_of_reason (reason_of_fault f)))
outcome_of_input outcome (a_text (read_as (declaration.reads d))) = outcome d
outcome_of_input outcome (a_text (sign_unsaid position)) =
    refuses (sign_line position)

-- Of a prototype the same, but a fault that has a place in these bytes is told with their line, and one that a value has with the name of it.
abbrev pub outcome_of_prototype : List ℕ → (Declaration → Outcome) → Input → Outcome
outcome_of_prototype bytes outcome too_many_bytes = outcome_of_input outcome too_many_bytes
outcome_of_prototype bytes outcome not_utf8 = outcome_of_input outcome not_utf8
outcome_of_prototype bytes outcome (a_text (read_as (declaration.bad_token at))) =
    refuses (marked_line bytes at (codes "bad token"))
outcome_of_prototype bytes outcome (a_text (read_as (declaration.unexpected at))) =
    refuses (unexpected_line bytes at)
outcome_of_prototype bytes outcome (a_text (read_as (declaration.bad_number at))) =
    refuses (marked_line bytes at (codes "bad number"))
outcome_of_prototype bytes outcome (a_text (read_as (declaration.bad_signature f))) =
    refuses (fault_line f)
outcome_of_prototype bytes outcome (a_text (read_as (declaration.reads d))) = outcome d
outcome_of_prototype bytes outcome (a_text (sign_unsaid position)) =
    refuses (sign_line position)

-- bytes come to this, read as one declaration
abbrev pub IsOfDeclaration : (Declaration → Outcome) → List ℕ → Outcome → Type 0
IsOfDeclaration outcome bytes o =
    (i : Input) × IsReadAs bytes i × (o ≡ outcome_of_input outcome i)

-- the names that a prototype's text gives its parameters, the same wherever a `char` is signed or not (`name_laws`); of another input there are none
abbrev pub HasNames : List ℕ → Input → List (List ℕ) → Type 0
HasNames bytes (a_text (read_as (declaration.reads d))) names = AreNames signed bytes d names
HasNames bytes i names = names ≡ []

-- bytes come to this, read as one prototype, of which and of its parameters' names a command has an outcome
abbrev pub IsOfPrototype : (List (List ℕ) → Declaration → Outcome) → List ℕ → Outcome → Type 0
IsOfPrototype outcome bytes o =
    (i : Input) × IsReadWidely bytes i × (names : List (List ℕ)) × HasNames bytes i names
    × (o ≡ outcome_of_prototype bytes (outcome names) i)

-- ---- commands that answer a question about an image

-- a refusal is told as one, and a text is told
abbrev pub outcome_of_answer : Answer → Outcome
outcome_of_answer (image.text lines) = tells lines
outcome_of_answer (image.refusal line) = refuses line

-- bytes come to this, read as the description of an image, which is asked a question
abbrev pub IsOfImage : Question → List ℕ → Outcome → Type 0
IsOfImage question bytes o =
    (a : Answer) × IsAnswer question bytes a × (o ≡ outcome_of_answer a)

-- ---- all commands

-- A COMMAND ON THE INPUT COMES TO THIS, with these bytes as its input, beside natives
abbrev pub IsOutcomeOn : InputCommand → List NamedNative → List ℕ → Outcome → Type 0
IsOutcomeOn Layout natives bytes o =
    IsOfScript (names_of natives) (λ s. tells (layout_text s)) bytes o
IsOutcomeOn (Place t) natives bytes o =
    IsOfScript (names_of natives) (λ s. tells (place_text (standard_of t) s)) bytes o
IsOutcomeOn (Run t trace) natives bytes o =
    IsOfScript (names_of natives) (λ s. runs trace (standard_of t) (program_beside (standard_of t) natives s)) bytes o
IsOutcomeOn Cdecl natives bytes o = IsOfDeclaration (λ d. tells (cdecl_text d)) bytes o
IsOutcomeOn Cplace natives bytes o = IsOfPrototype (λ names d. tells (cplace_text names d)) bytes o
IsOutcomeOn Explain natives bytes o = IsOfImage Explained bytes o
IsOutcomeOn Arguments natives bytes o = IsOfImage ByStandard bytes o

-- WHAT IS ASKED FOR COMES TO THIS, with these bytes as its input, beside natives
abbrev pub IsOutcome : Request → List NamedNative → List ℕ → Outcome → Type 0
IsOutcome (OnInput command) natives bytes o = IsOutcomeOn command natives bytes o
IsOutcome (Bench seed calls) natives bytes o = o ≡ benches seed calls

-- each command but `bench` reads the input
abbrev pub reads_input : Request → Bool
reads_input (OnInput command) = true
reads_input (Bench seed calls) = false

-- ---- what comes of it

-- the status of a run that ended
abbrev pub status_of : End → ℕ
status_of (returned v) = 0
status_of (stopped stop) = 6

-- THE STATUS where nothing fails
abbrev pub outcome_status : Outcome → ℕ
outcome_status (refuses line) = 1
outcome_status (tells text) = 0
outcome_status (runs trace std program) = status_of (meaning_of program).end
outcome_status (benches seed calls) = 0

-- A RUN IS DONE: it is told whole, and its status says how it ended
abbrev pub IsRun : (trace : Bool) → Standard → Program → SinkState → SinkState → State → ℕ → Type 0
IsRun trace std program output output' machine' status =
    RunMatches (main_tracing trace std) std program output output' machine'
    × (status ≡ status_of (meaning_of program).end)

-- THE BENCH IS DONE: its lines are written whole, and the machine has the whole journal of the made script's run by the last standard
abbrev pub IsBench : (seed calls : ℕ) → SinkState → SinkState → State → Type 0
IsBench seed calls output output' machine' =
    TookText (bench_text seed calls) output output'
    × HasWholeJournal riscv (program_of riscv (made seed calls)) machine'

-- THE WORK IS DONE, with this status: a text is written whole, and the machine is as it was; or a run or the bench is done. What is refused is not worked on.
abbrev pub IsDone : Outcome → SinkState → SinkState → State → State → ℕ → Type 0
IsDone (refuses line) output output' machine machine' status = ⊥
IsDone (tells text) output output' machine machine' status =
    TookText text output output' × (machine' ≡ machine) × (status ≡ 0)
IsDone (runs trace std program) output output' machine machine' status =
    IsRun trace std program output output' machine' status
IsDone (benches seed calls) output output' machine machine' status =
    IsBench seed calls output output' machine' × (status ≡ 0)

-- a first part of a text is written
abbrev pub WroteFirst : List ℕ → SinkState → SinkState → Type 0
WroteFirst text output output' = (part : ℕ) × Adds output.taken (take part text) output'.taken

-- A RUN IS DONE IN PART, interrupted in a line or elsewhere: a first part of its text is written, and it is told as far as it came, with some closures and moves that were left then
abbrev pub IsRunInPart : (in_line trace : Bool) → Standard → Program → SinkState → SinkState → State → Type 0
IsRunInPart in_line trace std program output output' machine' =
    WrotePart (main_tracing trace std) program output output'
    × (closures : Closures)
    × (moves : ℕ)
    × RunWasInterrupted (main_tracing trace std) std program in_line output output' machine' closures moves

-- THE WORK IS DONE IN PART, interrupted in a line or elsewhere: a first part of the text is written; where nothing runs the machine is as it was
abbrev pub IsDoneInPart : (in_line : Bool) → Outcome → SinkState → SinkState → State → State → Type 0
IsDoneInPart in_line (refuses line) output output' machine machine' = ⊥
IsDoneInPart in_line (tells text) output output' machine machine' =
    WroteFirst text output output' × (machine' ≡ machine)
IsDoneInPart in_line (runs trace std program) output output' machine machine' =
    IsRunInPart in_line trace std program output output' machine'
IsDoneInPart in_line (benches seed calls) output output' machine machine' =
    WroteFirst (bench_text seed calls) output output'
