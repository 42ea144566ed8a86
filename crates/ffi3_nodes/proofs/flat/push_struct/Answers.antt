use Rattle.std.proofs.Common.{◌+◌, arith}
use Rattle.std.specs.Prelude.{slice_index_or}
use Rattle.ffi3_type_spec.specs.declared.Role.TheVariants.{AsArgument}
use Rattle.ffi3_types.specs.TreeOf.{tree_of}
use Rattle.ffi3_nodes.specs.declared.Node.{Node}
use Rattle.ffi3_nodes.specs.declared.TheConstants.{STRUCT}
use Rattle.ffi3_nodes.specs.Nodes.{node}
use Rattle.ffi3_nodes.proofs.FlatTypes.{behind_read, struct_argument}
use Rattle.ffi3_nodes.proofs.flat.push_struct.Goals as goal

pub returns-clause-read : goal.returns-clause-read
returns-clause-read c = λ ret so_far.
    let d : Node = record { kind = 0; count = 0 } in
    let count = (slice_index_or c.args.nodes.now c.args.at d).count in
    let read = behind_read AsArgument c.in_ok-ty.field-0 c.in-Some.ty (node STRUCT count) count (c.args.at + 1) c.args.nodes.now c.in-Some.is (c.in_ok-ty.ensures.read AsArgument) in
    struct_argument ret (tree_of c.in-Some.ty) c.args.args.now c.push.new.self c.args.nodes.now c.args.at d c.requires (omega (arith, c.if-len-ge-MOST_ARGUMENTS.false, c.len.ensures.count)) c.if-head-ne-STRUCT.false c.in_ok-push.ensures.ok read so_far
