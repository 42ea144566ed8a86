use Rattle.ffi3_place_spec.proofs.Alike.{arrays_as_elements}
use Rattle.ffi3_amd64_spec.specs.Amd64.{amd64}
use Rattle.ffi3_amd64_spec.proofs.Alike.{goes_by_layout}
use Rattle.ffi3_amd64_spec.proofs.Ends.{call_by_ends}
use Rattle.ffi3_amd64.proofs.laws.placement_laws.Goals as goal

pub returns-clause-ends : goal.returns-clause-ends
returns-clause-ends c = call_by_ends c.args._sig.now

pub returns-clause-by_layout : goal.returns-clause-by_layout
returns-clause-by_layout c = goes_by_layout

pub returns-clause-arrays_as_elements : goal.returns-clause-arrays_as_elements
returns-clause-arrays_as_elements c = arrays_as_elements amd64 goes_by_layout
