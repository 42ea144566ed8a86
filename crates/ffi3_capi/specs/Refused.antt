-- Why C is told nothing, by the number of the answer.
use Rattle.std.specs.Prelude.{ℕ}
use Rattle.ffi3_capi.specs.declared.codes.TheConstants.{NOT_DECLARED, UNKNOWN_TARGET, UNKNOWN_VALUE, OUT_OF_MEMORY}
use Rattle.ffi3_capi.specs.declared.fault.TextFault.{TextFault}
use Rattle.ffi3_capi.specs.declared.fault.FaultKind.TheVariants.{NoFault}
use Rattle.ffi3_capi.specs.declared.status.Refusal.{Refusal}
use Rattle.ffi3_capi.specs.declared.status.Refusal.TheVariants.{NoSuchTarget, NoSuchValue, Fault, NoMemory}
use Rattle.ffi3_capi.specs.Faults.{fault_with}

abbrev pub status_of : Refusal → ℕ
status_of NoSuchTarget = UNKNOWN_TARGET
status_of (NoSuchValue count) = UNKNOWN_VALUE
status_of (Fault f) = NOT_DECLARED
status_of NoMemory = OUT_OF_MEMORY

-- the fault of the text, if that is why
abbrev pub fault_in : Refusal → TextFault
fault_in NoSuchTarget = fault_with NoFault
fault_in (NoSuchValue count) = fault_with NoFault
fault_in (Fault f) = f
fault_in NoMemory = fault_with NoFault

-- how many arguments there are, if that is why
abbrev pub count_in : Refusal → ℕ
count_in NoSuchTarget = 0
count_in (NoSuchValue count) = count
count_in (Fault f) = 0
count_in NoMemory = 0
