use Rattle.serde_json.specs.Data.{depth}
use Rattle.ffi3_json.proofs.Items.{Done}
use Rattle.std.proofs.Common.{◌≡◌, ◌+◌, ◌*◌, length}
use Rattle.ffi3_json.proofs.types.+types.Given as goal

abbrev pub decreases-read_list : goal.decreases-read_list
decreases-read_list l = 2 * depth l.value.now

abbrev pub decreases-read_array : goal.decreases-read_array
decreases-read_array l = 2 * depth l.value.now

abbrev pub decreases-read_type_at : goal.decreases-read_type_at
decreases-read_type_at l = 2 * depth l.value.now + 1

abbrev pub invariant-read_list-loop-i : goal.invariant-read_list-loop-i
invariant-read_list-loop-i l = (length l.types ≡ l.i) × Done l.version l.items l.at l.i l.types
