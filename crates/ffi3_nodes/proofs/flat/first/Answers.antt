use Rattle.std.proofs.Common.{rules, ◌<◌, length}
use Rattle.std.specs.Prelude.{slice_index_or}
use Rattle.ffi3_type_spec.specs.declared.Role.TheVariants.{AsResult}
use Rattle.ffi3_types.specs.TreeOf.{tree_of}
use Rattle.ffi3_nodes.specs.declared.Node.{Node}
use Rattle.ffi3_nodes.specs.declared.TheConstants.{STRUCT}
use Rattle.ffi3_nodes.specs.Nodes.{node}
use Rattle.ffi3_nodes.proofs.FlatTypes.{behind_read, struct_result}
use Rattle.ffi3_nodes.proofs.flat.first.Goals as goal

pub returns-then-head-eq-STRUCT : goal.returns-then-head-eq-STRUCT
returns-then-head-eq-STRUCT c =
    let d : Node = record { kind = 0; count = 0 } in
    let count = (slice_index_or c.args.nodes.now 0 d).count in
    let some : 0 < length c.args.nodes.now = search rules in
    let read = behind_read AsResult c.in_ok-ty.field-0 c.in-Some.ty (node STRUCT count) count 1 c.args.nodes.now c.in-Some.is (c.in_ok-ty.ensures.read AsResult) in
    struct_result (tree_of c.in-Some.ty) c.args.nodes.now d some c.if-head-eq-STRUCT.true read
