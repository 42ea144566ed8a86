-- Faults that have a line and a status of their own, whatever was asked for.
use Rattle.std.specs.Prelude.{ℕ, List}
use Rattle.ffi3_app_spec.specs.FaultLines.{read_fault_line, write_fault_line, no_memory_line}
use Rattle.ffi3_status.specs.declared.known.Fault.{Fault}
use Rattle.ffi3_status.specs.declared.known.Fault.TheVariants.{Read, Write, NoMemory}

abbrev pub line_of : Fault → List ℕ
line_of Read = read_fault_line
line_of Write = write_fault_line
line_of NoMemory = no_memory_line

abbrev pub status_of : Fault → ℕ
status_of Read = 3
status_of Write = 4
status_of NoMemory = 5
