-- The stack that the calls of a call tree take.
use Rattle.std.specs.Prelude.{ℕ, ◌+◌, max}
use Rattle.ffi3_semantics_spec.specs.Meaning.{Program, TreeNode, line, called, stop_line, CallTree, no_nodes, node, need_at}

-- the peak of a call is its need and the peak of the calls inside it; that of several calls is the greatest
abbrev mutual
  pub peak_of : Program → CallTree → ℕ
  peak_of p no_nodes = 0
  peak_of p (node d ds) = max (peak_in p d) (peak_of p ds)

  peak_in : Program → TreeNode → ℕ
  peak_in p (line t v) = 0
  peak_in p (stop_line stop) = 0
  peak_in p (called ptr sig args inside r) = need_at p sig + peak_of p inside
