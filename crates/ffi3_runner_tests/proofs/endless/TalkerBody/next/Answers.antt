use Rattle.ffi3_type_spec.specs.Tree.{s8}
use Rattle.ffi3_type_spec.proofs.Faults.{scalar_faults}
use Rattle.ffi3_runner_tests.proofs.endless.TalkerBody.next.Goals as goal

pub returns-clause-fits : goal.returns-clause-fits
returns-clause-fits c = (scalar_faults s8, c.in_ok-value.ensures.fits)
