use Rattle.std.proofs.Common.{◌-◌, arith}
use Rattle.ffi3_values.specs.ValueOf.{value_of}
use Rattle.ffi3_place_spec.specs.declared.Place.TheVariants.{Direct}
use Rattle.ffi3_type_spec.specs.declared.limits.TheConstants.{STACK_TOP}
use Rattle.ffi3_machine_transfer.specs.Passing.{passing}
use Rattle.ffi3_marshal.proofs.Arguments.{lies_more}
use Rattle.ffi3_machine_transfer.proofs.RunStoring.{registers_given}
use Rattle.ffi3_machine_transfer.proofs.store_pieces_by.Goals as goal

pub store_each-requires-clause-lie : goal.store_each-requires-clause-lie
store_each-requires-clause-lie c = lies_more 0 (STACK_TOP - c.args.base) c.args.ty.now (Direct c.args.pieces.now) (omega arith) c.requires.registers

pub store_each-requires-clause-given : goal.store_each-requires-clause-given
store_each-requires-clause-given c = registers_given c.args.base c.args.ty.now (value_of c.args.value.now) (passing c.args.machine.now) c.args.pieces.now c.requires.registers
