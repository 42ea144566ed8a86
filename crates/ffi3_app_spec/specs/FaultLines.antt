-- The lines of faults that a status tells, and what a sink shows where one of them was handed in.
use Rattle.std.specs.Prelude.{ℕ, List, codes}
use Rattle.ffi3_io_spec.specs.Sink.{AddsSome, Rose, SinkState}
use Rattle.ffi3_io_spec.specs.Written.{TookText}
use Rattle.ffi3_semantics_spec.specs.Lines.{a_line}

abbrev pub read_fault_line : List ℕ
read_fault_line = a_line (codes "ffi3: read fault")

abbrev pub write_fault_line : List ℕ
write_fault_line = a_line (codes "ffi3: write fault")

abbrev pub no_memory_line : List ℕ
no_memory_line = a_line (codes "ffi3: out of memory")

-- a line was handed to the sink of faults: it took the line whole, or it failed in it, which is status 4 whatever the status was before
pub data ReportsFault (line : List ℕ) (status : ℕ) (before after : SinkState) : ℕ → Type 0 where
  whole : TookText line before after → ReportsFault line status before after status
  cut : AddsSome before.taken line after.taken → Rose before.faults after.faults
      → ReportsFault line status before after 4
