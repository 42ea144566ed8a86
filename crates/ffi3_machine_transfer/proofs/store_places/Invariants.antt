use Rattle.ffi3_place_spec.specs.Standard.{plan_of, frame_of}
use Rattle.ffi3_machine_transfer.specs.Passing.{passing}
use Rattle.ffi3_machine_transfer.proofs.Arguments.{AllStored}
use Rattle.ffi3_machine_transfer.proofs.store_places.Given as goal

abbrev pub invariant-loop-i : goal.invariant-loop-i
invariant-loop-i g l = AllStored l.base g.A.Abi.standard.target (frame_of g.A.Abi.standard l.cif) l.cif.arguments (plan_of g.A.Abi.standard l.cif).places l.values l.i (passing l.initial.machine) (passing l.machine)
