-- What came of work, why it ended before its end, and how that is told.
use Rattle.std.specs.Prelude.{◌≡◌, ◌⊎◌, ℕ, true, false, List, codes, Result, Ok, Err}
use Rattle.ffi3_cdecl.specs.declared.fault.DeclFault.{DeclFault}
use Rattle.ffi3_cdecl.specs.declared.fault.DeclFault.TheVariants as decl
use Rattle.ffi3_cdecl_spec.specs.Grammar.{Declaration}
use Rattle.ffi3_cdecl_spec.specs.Prototype.{Prototype, first_other}
use Rattle.ffi3_io_spec.specs.Sink.{Rose, SinkState}
use Rattle.ffi3_io_spec.specs.declared.IoError.{IoError}
use Rattle.ffi3_io_spec.specs.declared.IoError.TheVariants as io
use Rattle.ffi3_json.specs.ReasonOf.{reason_of}
use Rattle.ffi3_json.specs.declared.fault.ScriptFault.{ScriptFault}
use Rattle.ffi3_json.specs.declared.fault.ScriptFault.TheVariants as fault
use Rattle.ffi3_machine_spec.specs.State.{State}
use Rattle.ffi3_semantics_spec.specs.Lines.{a_line}
use Rattle.ffi3_script_spec.specs.Language.{reason_of_fault}
use Rattle.ffi3_script_spec.specs.ReasonText.{text_of_reason}
use Rattle.ffi3_script_spec.specs.Natives.{NamedNative, program_beside}
use Rattle.ffi3_script_spec.specs.Script.{Script}
use Rattle.ffi3_place_spec.specs.Standard.{Standard}
use Rattle.ffi3_app_spec.specs.FaultLines.{ReportsFault, no_memory_line, write_fault_line}
use Rattle.ffi3_types.specs.SignatureFaultOf.{signature_fault_of}
use Rattle.ffi3_app_spec.specs.Declarations.{Input, a_text, IsInput, IsReadPlainly, IsPrototypeEverywhere}
use Rattle.ffi3_app_spec.specs.Declarations.{offset_line, reason_line, marked_line}
use Rattle.ffi3_app_spec.specs.Declarations.{unexpected_line, fault_line, sign_line}
use Rattle.ffi3_app.specs.declared.unfinished.Unfinished.{Unfinished}
use Rattle.ffi3_app.specs.declared.unfinished.Unfinished.TheVariants.{Refused, NoMemory, WriteFault}
use Rattle.ffi3_app.specs.declared.work.ScriptTask.{ScriptTask}
use Rattle.ffi3_app.specs.declared.work.ScriptTask.TheVariants.{Place, Run}
use Rattle.ffi3_app_spec.specs.Commands.{place_text}
use Rattle.ffi3_app_spec.specs.Outcome.{Outcome, refuses, tells, runs, located_line, outcome_of_input, outcome_of_prototype, IsOfScript}
use Rattle.ffi3_app_spec.specs.Outcome.{IsDone, IsDoneInPart}

-- WHAT A SCRIPT COMES TO by a calling standard, beside natives
abbrev pub script_outcome : ScriptTask → List NamedNative → Standard → Script → Outcome
script_outcome Place natives std s = tells (place_text std s)
script_outcome (Run trace) natives std s = runs trace std (program_beside std natives s)

-- WHAT CAME OF WORK whose outcomes are these: one of them is done; or the input is refused by one of them; or one is done in part
abbrev pub Works : (Outcome → Type 0) → SinkState → SinkState → State → State → Result ℕ Unfinished → Type 0
Works IsOne output output' machine machine' (Ok status) =
    (o : Outcome) × IsOne o × IsDone o output output' machine machine' status
Works IsOne output output' machine machine' (Err (Refused line)) =
    IsOne (refuses line) × (output' ≡ output) × (machine' ≡ machine)
Works IsOne output output' machine machine' (Err WriteFault) =
    ((o : Outcome) × IsOne o × IsDoneInPart true o output output' machine machine') × Rose output.faults output'.faults
Works IsOne output output' machine machine' (Err NoMemory) =
    (((output' ≡ output) × (machine' ≡ machine))
    ⊎ ((o : Outcome) × IsOne o × IsDoneInPart false o output output' machine machine'))
    × (output'.faults ≡ output.faults)

-- why writing ended before its end is why the work did
abbrev pub unfinished_by : IoError → Unfinished
unfinished_by io.NoMemory = NoMemory
unfinished_by io.Failed = WriteFault

-- what writing came to is what the work came to
abbrev pub work_of_writing : Result Unit IoError → Result ℕ Unfinished
work_of_writing (Ok u) = Ok 0
work_of_writing (Err why) = Err (unfinished_by why)

-- HOW WORK ENDED IS TOLD: nothing where all of it was done, and else the line of why it was not
abbrev pub IsEndTold : Result ℕ Unfinished → SinkState → SinkState → ℕ → Type 0
IsEndTold (Ok status) told told' answer = (answer ≡ status) × (told' ≡ told)
IsEndTold (Err (Refused line)) told told' answer = ReportsFault line 1 told told' answer
IsEndTold (Err NoMemory) told told' answer = ReportsFault no_memory_line 5 told told' answer
IsEndTold (Err WriteFault) told told' answer = ReportsFault write_fault_line 4 told told' answer

-- the input is refused with this line, or there was no memory for it
abbrev pub RefusesWith : List ℕ → Unfinished → Type 0
RefusesWith line (Refused told) = told ≡ line
RefusesWith line NoMemory = Unit {0}
RefusesWith line WriteFault = ⊥

-- A FAULT OF A SCRIPT is told as this: by its line, or as want of memory
abbrev pub IsToldAs : ScriptFault → Unfinished → Type 0
IsToldAs fault.TooLong e = RefusesWith (a_line (codes "ffi3: script too long")) e
IsToldAs fault.BadJson e = RefusesWith (a_line (codes "ffi3: not JSON")) e
IsToldAs (fault.BadScript path why) e =
    RefusesWith (located_line path (text_of_reason (reason_of why))) e
IsToldAs fault.NoMemory e = e ≡ NoMemory

-- bytes are no script beside natives of these names: they are refused, whatever is done with a script; or there was no memory
abbrev pub IsNoScript : (names : List (List ℕ)) → List ℕ → Unfinished → Type 0
IsNoScript names bytes (Refused line) =
    (outcome : Script → Outcome) → IsOfScript names outcome bytes (refuses line)
IsNoScript names bytes NoMemory = Unit {0}
IsNoScript names bytes WriteFault = ⊥

-- A FAULT OF A DECLARATION is told as this: by its line, or as want of memory
abbrev pub IsFaultToldAs : DeclFault → Unfinished → Type 0
IsFaultToldAs (decl.BadToken at) e = RefusesWith (offset_line at (codes "bad token")) e
IsFaultToldAs (decl.Unexpected at) e = RefusesWith (offset_line at (codes "unexpected")) e
IsFaultToldAs (decl.BadNumber at) e = RefusesWith (offset_line at (codes "bad number")) e
IsFaultToldAs (decl.Sig f) e =
    RefusesWith (reason_line (text_of_reason (reason_of_fault (signature_fault_of f)))) e
IsFaultToldAs decl.NoMemory e = e ≡ NoMemory

-- A FAULT OF A PROTOTYPE in this text is told as this: by its lines, or as want of memory
abbrev pub IsPlaceToldAs : List ℕ → DeclFault → Unfinished → Type 0
IsPlaceToldAs text (decl.BadToken at) e =
    RefusesWith (marked_line text at (codes "bad token")) e
IsPlaceToldAs text (decl.Unexpected at) e = RefusesWith (unexpected_line text at) e
IsPlaceToldAs text (decl.BadNumber at) e =
    RefusesWith (marked_line text at (codes "bad number")) e
IsPlaceToldAs text (decl.Sig f) e =
    RefusesWith (fault_line (signature_fault_of f)) e
IsPlaceToldAs text decl.NoMemory e = e ≡ NoMemory

-- By a reading of texts, and what an input comes to by it, bytes are no declaration: they are refused, whatever is done with a declaration; or there was no memory.
abbrev pub IsNoInput : (List ℕ → Prototype → Type 0) → ((Declaration → Outcome) → Input → Outcome) → List ℕ → Unfinished
    → Type 0
IsNoInput IsRead outcome_of bytes (Refused line) =
    (outcome : Declaration → Outcome)
    → (i : Input) × IsInput IsRead bytes i × (refuses line ≡ outcome_of outcome i)
IsNoInput IsRead outcome_of bytes NoMemory = Unit {0}
IsNoInput IsRead outcome_of bytes WriteFault = ⊥

-- no declaration of the plain reading
abbrev pub IsNoDeclaration : List ℕ → Unfinished → Type 0
IsNoDeclaration bytes e = IsNoInput IsReadPlainly outcome_of_input bytes e

-- no prototype for all targets
abbrev pub IsNoPrototype : List ℕ → Unfinished → Type 0
IsNoPrototype bytes e =
    IsNoInput IsPrototypeEverywhere (outcome_of_prototype bytes) bytes e

-- a text is no prototype for all targets, and this line says so; or there was no memory
abbrev pub IsNoText : List ℕ → Unfinished → Type 0
IsNoText text (Refused line) =
    (p : Prototype)
    × IsPrototypeEverywhere text p
    × ((outcome : Declaration → Outcome) → refuses line ≡ outcome_of_prototype text outcome (a_text p))
IsNoText text NoMemory = Unit {0}
IsNoText text WriteFault = ⊥

-- of two declarations that are not the same, this line tells the first type that they do not share; or there was no memory
abbrev pub IsSignUnsaid : Declaration → Declaration → Unfinished → Type 0
IsSignUnsaid d e (Refused line) =
    (d ≡ e → ⊥) × (line ≡ sign_line (first_other d.signature e.signature))
IsSignUnsaid d e NoMemory = Unit {0}
IsSignUnsaid d e WriteFault = ⊥
