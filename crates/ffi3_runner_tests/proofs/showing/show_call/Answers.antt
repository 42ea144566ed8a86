use Rattle.std.proofs.Common.{sym, ◌∙◌}
use Rattle.ffi3_runner_tests.proofs.Entered.{entered, overwritten, shows}
use Rattle.ffi3_runner_tests.proofs.showing.show_call.Goals as goal

pub returns-clause-shows : goal.returns-clause-shows
returns-clause-shows g c =
    let passed = c.pass_arguments.ensures in
    shows g.A.Abi.standard c.args.cif.now g.met.A.Abi.agrees c.args.values.now _ c.args.ptr c.args.machine.now c.pass_arguments.new.machine c.poison.new.machine (c.requires.target ∙ sym g.met.A.Abi.target_is) passed c.poison.ensures.poisoned c.requires.room c.requires.top (c.poison.ensures.own c.args.values.now passed.holds.own) (c.poison.ensures.return_address passed.return_address) c.requires.events c.requires.bytes

pub returns-clause-closure : goal.returns-clause-closure
returns-clause-closure g c =
    entered g.A.Abi.standard c.args.cif.now g.met.A.Abi.agrees c.args.values.now _ c.args.ptr c.args.machine.now c.pass_arguments.new.machine c.poison.new.machine (c.requires.target ∙ sym g.met.A.Abi.target_is) c.pass_arguments.ensures c.poison.ensures.poisoned

pub returns-clause-overwritten : goal.returns-clause-overwritten
returns-clause-overwritten g c =
    overwritten g.A.Abi.standard c.args.cif.now c.args.byte c.pass_arguments.new.machine c.poison.new.machine c.poison.ensures.poisoned
