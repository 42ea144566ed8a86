use Rattle.std.proofs.Common.{◌≡◌, ◌+◌, ◌*◌, take}
use Rattle.ffi3_script_body.specs.KnownAt.{known_of}
use Rattle.ffi3_script_body.proofs.Rows.{evaluated}
use Rattle.ffi3_script_body.proofs.Parts.{nodes, nodes_in}
use Rattle.ffi3_script_body.proofs.eval.+eval.Given as goal

abbrev pub decreases-eval : goal.decreases-eval
decreases-eval l = 2 * nodes l.e.now + 1

abbrev pub decreases-eval_all : goal.decreases-eval_all
decreases-eval_all l = 2 * nodes_in l.es.now.items + 2

abbrev pub decreases-eval_own : goal.decreases-eval_own
decreases-eval_own l = 2 * nodes l.e.now

abbrev pub invariant-eval_all-loop-i : goal.invariant-eval_all-loop-i
invariant-eval_all-loop-i l = l.values ≡ evaluated (known_of l.known) (take l.i l.es.items)
