use Rattle.std.proofs.Common.{◌≡◌, drop}
use Rattle.ffi3_types.specs.TreeOf.{tree_of}
use Rattle.ffi3_script_spec.specs.Language.{inside_type}
use Rattle.ffi3_json.proofs.signature.place_inside.Given as goal

abbrev pub invariant-loop-i : goal.invariant-loop-i
invariant-loop-i l =
    inside_type l.at (tree_of l.ty) l.way ≡ inside_type l.place (tree_of l.node) (drop l.i l.way)
