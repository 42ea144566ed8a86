use Rattle.std.proofs.Common.{length, ◌-◌, ◌≡◌, ◌≤◌, take, true}
use Rattle.std.specs.List.{list_all}
use Rattle.ffi3_script_body.specs.Always.{is_unconditional}
use Rattle.ffi3_script_body.proofs.body.unconditional.Given as goal

abbrev pub invariant-loop-count : goal.invariant-loop-count
invariant-loop-count l =
    (l.count ≤ length l.moves) × (list_all is_unconditional (take l.count l.moves) ≡ true)

abbrev pub decreases-loop-count : goal.decreases-loop-count
decreases-loop-count l = length l.moves - l.count
