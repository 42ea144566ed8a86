use Rattle.std.proofs.Common.{◌-◌, arith}
use Rattle.ffi3_machine_transfer.specs.Passing.{passing}
use Rattle.ffi3_callee.proofs.Moving.{all_moved, none_moved, one_register}
use Rattle.ffi3_callee.proofs.arguments.copy_registers.Goals as goal

pub loop-i-init : goal.loop-i-init
loop-i-init c = none_moved c.args.base c.args.to c.requires.low c.requires.below c.args.pieces.now (passing c.args.machine.now)

pub loop-i-preserved : goal.loop-i-preserved
loop-i-preserved c =
    one_register c.args.base c.args.to c.requires.low c.requires.below c.args.pieces.now c.loop-i.i (c.args.base - c.args.to) c.get.result.now (passing c.args.machine.now) (passing c.loop-i.machine) (passing c.copy_register.new.machine) (omega (arith, c.loop-i-test.true, c.len-i-end.ensures)) c.get.ensures c.requires.within c.copy_register.ensures c.loop-i.invariant

pub returns : goal.returns
returns c =
    all_moved c.args.base c.args.to c.requires.low c.requires.below c.args.pieces.now c.loop-i.i (passing c.args.machine.now) (passing c.loop-i.machine) (omega (arith, c.loop-i-test.false, c.len-i-end.ensures)) c.loop-i.invariant
