use Rattle.ffi3_place_spec.proofs.Alike.{arrays_as_elements}
use Rattle.ffi3_win64_spec.specs.Win64.{win64}
use Rattle.ffi3_win64_spec.proofs.Alike.{goes_by_layout}
use Rattle.ffi3_win64_spec.proofs.Positions.{by_position}
use Rattle.ffi3_win64.proofs.laws.placement_laws.Goals as goal

pub returns-clause-positions : goal.returns-clause-positions
returns-clause-positions c = by_position c.args._sig.now

pub returns-clause-by_layout : goal.returns-clause-by_layout
returns-clause-by_layout c = goes_by_layout

pub returns-clause-arrays_as_elements : goal.returns-clause-arrays_as_elements
returns-clause-arrays_as_elements c = arrays_as_elements win64 goes_by_layout
