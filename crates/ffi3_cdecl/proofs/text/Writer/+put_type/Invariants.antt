use Rattle.std.proofs.Common.{◌≡◌, ◌+◌, ◌*◌, List, drop}
use Rattle.ffi3_type_spec.specs.Tree.{nodes, all_nodes, trees_of}
use Rattle.ffi3_types.specs.TreeOf.{tree_of}
use Rattle.ffi3_cdecl_spec.specs.Tokens.{Token}
use Rattle.ffi3_cdecl_spec.specs.Canonical.{member_tokens}
use Rattle.ffi3_cdecl.specs.Going.{going}
use Rattle.ffi3_cdecl.proofs.text.Writer.+put_type.Given as goal

abbrev pub decreases-put_type : goal.decreases-put_type
decreases-put_type l = 4 * nodes (tree_of l.ty.now)

abbrev pub decreases-put_first_type : goal.decreases-put_first_type
decreases-put_first_type l = 4 * all_nodes (trees_of l.fields.now) + 1

abbrev pub decreases-put_members : goal.decreases-put_members
decreases-put_members l = 4 * all_nodes (trees_of l.fields.now) + 2

abbrev pub decreases-put_member : goal.decreases-put_member
decreases-put_member l = 4 * nodes (tree_of l.ty.now) + 1

abbrev pub invariant-put_members-loop-i : goal.invariant-put_members-loop-i
invariant-put_members-loop-i l =
    (rest : List Token) → going l.self (member_tokens l.i (trees_of (drop l.i l.fields)) rest) ≡ going l.initial.self (member_tokens 0 (trees_of l.fields) rest)
