use Rattle.ffi3_machine_spec.specs.State.{begun_stack}
use Rattle.ffi3_machine.proofs.regions.begin_stack.Goals as goal

pub returns : goal.returns
unfolding begun_stack
returns c = c.fill_all.ensures
