use Rattle.std.proofs.Common.{◌≡◌, ◌+◌, ◌*◌, take}
use Rattle.ffi3_type_spec.specs.Value.{value_nodes, all_value_nodes, values_of}
use Rattle.ffi3_values.specs.ValueOf.{value_of}
use Rattle.ffi3_values.proofs.+copy.Given as goal

abbrev pub decreases-Value::copy : goal.decreases-Value::copy
decreases-Value::copy l = 2 * value_nodes (value_of l.self.now)

abbrev pub decreases-Values::copy : goal.decreases-Values::copy
decreases-Values::copy l = 2 * all_value_nodes (values_of l.self.now) + 1

abbrev pub invariant-Values::copy-loop-i : goal.invariant-Values::copy-loop-i
invariant-Values::copy-loop-i l = l.values ≡ take l.i l.self
