-- What bench writes: a line for each target, of the made script's run by its standard.
use Rattle.std.specs.Prelude.{ℕ, ◌-◌, ◌/◌, max, List, [], ◌∷◌, ◌++◌, map, codes}
use Rattle.std.specs.Fmt.{decimal}
use Rattle.ffi3_place_spec.specs.Standard.{Standard}
use Rattle.ffi3_amd64_spec.specs.Amd64.{amd64}
use Rattle.ffi3_aapcs64_spec.specs.Aapcs64.{aapcs64}
use Rattle.ffi3_riscv_spec.specs.Riscv.{riscv}
use Rattle.ffi3_semantics_spec.specs.Journal.{JournalOf, IsWhole, events_in}
use Rattle.ffi3_semantics_spec.specs.Lines.{untraced, text_of_run}
use Rattle.ffi3_semantics_spec.specs.Meaning.{Program, meaning_of, most_moves}
use Rattle.ffi3_semantics_spec.specs.Trace.{trace_of}
use Rattle.ffi3_script_spec.specs.Meaning.{program_of}
use Rattle.ffi3_script_spec.specs.Made.{made}
use Rattle.ffi3_machine_spec.specs.State.{State}

abbrev pub greatest : List ℕ → ℕ
greatest [] = 0
greatest (n ∷ ns) = max n (greatest ns)

-- the calls that a run enters: each is an entry and a return
abbrev pub calls_of : Program → ℕ
calls_of p = events_in (trace_of p) / 2

abbrev pub moves_of : Program → ℕ
moves_of p = most_moves - (meaning_of p).moves

-- the greatest need of its signatures
abbrev pub need_of_all : Program → ℕ
need_of_all p = greatest (map p.need p.signatures)

abbrev pub counts_text : (calls moves need : ℕ) → List ℕ
counts_text calls moves need =
    codes " calls " ++ decimal calls ++ codes " moves " ++ decimal moves ++ codes " need " ++ decimal need
    ++ codes " result "

-- The line of a run that returns. It ends with the run's own line.
abbrev pub line_of : (target : List ℕ) → Program → List ℕ
line_of target p =
    (target ++ counts_text (calls_of p) (moves_of p) (need_of_all p)) ++ text_of_run untraced p

abbrev pub line_by : (target : List ℕ) → Standard → (seed calls : ℕ) → List ℕ
line_by target std seed calls = line_of target (program_of std (made seed calls))

-- THE TEXT OF bench
abbrev pub bench_text : (seed calls : ℕ) → List ℕ
bench_text seed calls =
    line_by (codes "amd64") amd64 seed calls
    ++ (line_by (codes "aapcs64") aapcs64 seed calls
    ++ line_by (codes "riscv") riscv seed calls)

-- a machine ends with the whole journal of a program's run
pub record HasWholeJournal (std : Standard) (p : Program) (m : State) : Type 0 where
  pub journal : JournalOf std p.signatures (trace_of p) m.events
  pub whole : IsWhole (trace_of p) m.events
