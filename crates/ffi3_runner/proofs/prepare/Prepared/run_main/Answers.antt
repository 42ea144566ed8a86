use Rattle.std.proofs.Common.{[], refl}
use Rattle.ffi3_small_step_spec.proofs.TracedCalls.{main_is_traced}
use Rattle.ffi3_runner.specs.Ready.{traced_or_not}
use Rattle.ffi3_runner.proofs.prepare.Prepared.run_main.Goals as goal

pub run_on-requires-clause-standing : goal.run_on-requires-clause-standing
run_on-requires-clause-standing g c = c.start.ensures.standing c.args.machine.now

pub run_on-requires-clause-between : goal.run_on-requires-clause-between
run_on-requires-clause-between g c = (traced_or_not, refl, c.start.ensures.goes_on c.args.machine.now c.requires.begun)

pub returns : goal.returns
returns g c =
    c.run_on.ensures _ _ _ [] [] refl (main_is_traced _ g.A.Abi.standard c.args.trace) (c.start.ensures.between c.args.trace c.args.machine.now (g.O.Sink.state c.args.output.now) c.requires.begun)
