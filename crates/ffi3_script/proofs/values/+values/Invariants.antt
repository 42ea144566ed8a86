use Rattle.std.proofs.Common.{◌+◌, ◌*◌, map}
use Rattle.serde_json.specs.Data.{depth, items_depth}
use Rattle.ffi3_script_body.specs.ExprOf.{expression_of}
use Rattle.ffi3_script.specs.ScopeOf.{scope_of}
use Rattle.ffi3_script.proofs.ReadValues.{Done}
use Rattle.ffi3_script.proofs.values.+values.Given as goal

abbrev pub decreases-read_value : goal.decreases-read_value
decreases-read_value l = 4 * depth l.value.now

abbrev pub decreases-read_values : goal.decreases-read_values
decreases-read_values l = 4 * items_depth l.items.now + 2

abbrev pub decreases-read_form : goal.decreases-read_form
decreases-read_form l = 4 * depth l.inside.now + 3

abbrev pub decreases-read_terms : goal.decreases-read_terms
decreases-read_terms l = 4 * depth l.inside.now + 2

abbrev pub decreases-read_typed : goal.decreases-read_typed
decreases-read_typed l = 4 * depth l.value.now + 1

abbrev pub decreases-read_own : goal.decreases-read_own
decreases-read_own l = 4 * depth l.inside.now + 2

abbrev pub decreases-read_field : goal.decreases-read_field
decreases-read_field l = 4 * depth l.inside.now + 1

abbrev pub decreases-read_of : goal.decreases-read_of
decreases-read_of l = 4 * depth l.inside.now + 1

abbrev pub invariant-read_values-loop-i : goal.invariant-read_values-loop-i
invariant-read_values-loop-i l = Done (scope_of l.scope) l.types l.items l.at l.i (map expression_of l.values.items)
