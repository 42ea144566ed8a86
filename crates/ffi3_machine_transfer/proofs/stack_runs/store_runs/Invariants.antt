use Rattle.std.specs.Prelude.{◌≡◌, length, drop}
use Rattle.ffi3_type_spec.specs.Layout.{size_of}
use Rattle.ffi3_values.specs.ValueOf.{value_of}
use Rattle.ffi3_machine_transfer.specs.Passing.{passing}
use Rattle.ffi3_machine_transfer.specs.Runs.{AreRunsStored}
use Rattle.ffi3_machine_transfer.proofs.stack_runs.store_runs.Given as goal

abbrev pub invariant-loop-i : goal.invariant-loop-i
invariant-loop-i l = AreRunsStored l.base l.ty (value_of l.value) (drop l.i l.runs) (passing l.initial.machine) (passing l.machine) × (length l.bytes ≡ size_of l.ty)
