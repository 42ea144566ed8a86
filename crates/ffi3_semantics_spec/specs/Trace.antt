-- The trace of a run, which is what is seen of it in order: its call tree written out.
use Rattle.std.specs.Prelude.{ℕ, List, [], ◌∷◌, ◌++◌, Option, Some, None}
use Rattle.ffi3_type_spec.specs.Tree.{Tree}
use Rattle.ffi3_type_spec.specs.Value.{ValueTree}
use Rattle.ffi3_semantics_spec.specs.declared.Stop.{Stop}
use Rattle.ffi3_semantics_spec.specs.Meaning.{Program, TreeNode, line, called, stop_line, CallTree, no_nodes, node}
use Rattle.ffi3_semantics_spec.specs.Meaning.{meaning_of}

pub data TraceItem : Type 0 where
  Enter : (pointer signature : ℕ) → (arguments : List ValueTree) → TraceItem
  Line : Tree → ValueTree → TraceItem
  Leave : (signature : ℕ) → (result : ValueTree) → TraceItem
  StopLine : Stop → TraceItem

-- a call that has a result is left with it
abbrev leaving : ℕ → Option ValueTree → List TraceItem
leaving sig None = []
leaving sig (Some r) = Leave sig r ∷ []

abbrev mutual
  pub written_out : CallTree → List TraceItem
  written_out no_nodes = []
  written_out (node d ds) = written_out_one d ++ written_out ds

  pub written_out_one : TreeNode → List TraceItem
  written_out_one (line t v) = Line t v ∷ []
  written_out_one (called ptr sig args inside r) = Enter ptr sig args ∷ (written_out inside ++ leaving sig r)
  written_out_one (stop_line stop) = StopLine stop ∷ []

-- THE TRACE OF A RUN
abbrev pub trace_of : Program → List TraceItem
trace_of p = written_out (meaning_of p).call_tree
