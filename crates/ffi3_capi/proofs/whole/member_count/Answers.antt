use Rattle.std.proofs.Common.{length, ap, sym, ◌∙◌}
use Rattle.ffi3_type_spec.specs.Tree.{list_of-trees_of}
use Rattle.ffi3_types.specs.TreeOf.{tree_of}
use Rattle.ffi3_capi.specs.WholeType.{members_of}
use Rattle.ffi3_capi.proofs.whole.member_count.Goals as goal

pub returns-in-Struct : goal.returns-in-Struct
returns-in-Struct c =
    c.len.ensures.count ∙ sym (ap length (list_of-trees_of c.in-Struct.fields)) ∙ sym (ap (λ x. length (members_of (tree_of x))) c.in-Struct.is)
