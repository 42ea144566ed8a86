use Rattle.std.proofs.Common.{◌<◌, length, ◌∙◌, arith}
use Rattle.ffi3_poison.proofs.Poisoning.{no_register_done, one_more_done, is_passing, passing_place, passing_written}
use Rattle.ffi3_poison.proofs.poison_registers.Goals as goal

pub loop-k-init : goal.loop-k-init
loop-k-init g c = no_register_done g.A.Abi.standard c.args.cif.now c.args.base c.args.byte c.args.machine.now

pub poison_register-requires-clause-register : goal.poison_register-requires-clause-register
poison_register-requires-clause-register g c =
    let below : c.loop-k.k < length g.A.Abi.standard.argument_registers = omega (arith, c.loop-k-test.true, c.ARGUMENT_REGISTERS-k-end.ensures, g.met.A.Abi.argument_registers_all) in
    passing_place g.A.Abi.standard g.met.A.Abi.agrees c.loop-k.k c.argument_register-at.result below c.argument_register-at.ensures

pub poison_register-requires-clause-writable : goal.poison_register-requires-clause-writable
poison_register-requires-clause-writable g c =
    let below : c.loop-k.k < length g.A.Abi.standard.argument_registers = omega (arith, c.loop-k-test.true, c.ARGUMENT_REGISTERS-k-end.ensures, g.met.A.Abi.argument_registers_all) in
    passing_written g.A.Abi.standard g.met.A.Abi.agrees c.loop-k.machine.target g.A.Abi.TARGET g.met.A.Abi.target_is (c.loop-k.invariant.keep.within.target ∙ c.requires) c.loop-k.k c.argument_register-at.result below c.argument_register-at.ensures

pub poison_register-requires-clause-passing : goal.poison_register-requires-clause-passing
poison_register-requires-clause-passing g c =
    let below : c.loop-k.k < length g.A.Abi.standard.argument_registers = omega (arith, c.loop-k-test.true, c.ARGUMENT_REGISTERS-k-end.ensures, g.met.A.Abi.argument_registers_all) in
    is_passing g.A.Abi.standard c.loop-k.k c.argument_register-at.result (passing_place g.A.Abi.standard g.met.A.Abi.agrees c.loop-k.k c.argument_register-at.result below c.argument_register-at.ensures) below c.argument_register-at.ensures

pub loop-k-preserved : goal.loop-k-preserved
loop-k-preserved g c =
    let below : c.loop-k.k < length g.A.Abi.standard.argument_registers = omega (arith, c.loop-k-test.true, c.ARGUMENT_REGISTERS-k-end.ensures, g.met.A.Abi.argument_registers_all) in
    one_more_done g.A.Abi.standard c.args.cif.now c.args.base c.args.byte c.loop-k.k c.argument_register-at.result c.args.machine.now c.loop-k.machine c.poison_register.new.machine below c.argument_register-at.ensures c.loop-k.invariant c.poison_register.ensures
