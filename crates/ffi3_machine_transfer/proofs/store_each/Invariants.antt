use Rattle.std.specs.Prelude.{◌≡◌, length}
use Rattle.ffi3_type_spec.specs.Layout.{size_of}
use Rattle.ffi3_values.specs.ValueOf.{value_of}
use Rattle.ffi3_machine_transfer.specs.Passing.{passing}
use Rattle.ffi3_machine_transfer.proofs.Stepping.{AreStored}
use Rattle.ffi3_machine_transfer.proofs.store_each.Given as goal

abbrev pub invariant-loop-j : goal.invariant-loop-j
invariant-loop-j l = AreStored l.base l.ty (value_of l.value) l.pieces l.j (passing l.initial.machine) (passing l.machine) × (length l.bytes ≡ size_of l.ty)
