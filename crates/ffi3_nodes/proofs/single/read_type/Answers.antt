use Rattle.std.proofs.Common.{◌≤◌, ◌^◌, length, arith}
use Rattle.ffi3_types.specs.TreeOf.{tree_of}
use Rattle.ffi3_nodes.proofs.Few.{too_long_for_one}
use Rattle.ffi3_nodes.proofs.OneType.{faulty_alone, one_type_alone}
use Rattle.ffi3_nodes.proofs.Shallow.{typeless_nodes}
use Rattle.ffi3_nodes.proofs.single.read_type.Goals as goal

pub returns-in-Ok-check_type-clause-only : goal.returns-in-Ok-check_type-clause-only
returns-in-Ok-check_type-clause-only c =
    λ other is. one_type_alone (tree_of c.in-Ok.ty) other c.args.nodes.now c.in-Ok.ensures.ok is

pub returns-then-nodes-gt4294967295-clause-none : goal.returns-then-nodes-gt4294967295-clause-none
returns-then-nodes-gt4294967295-clause-none c =
    let long : 2 ^ 32 ≤ length c.args.nodes.now = omega (arith, c.if-nodes-gt4294967295.true) in
    too_long_for_one c.args.nodes.now long

pub returns-in-Err-clause-none : goal.returns-in-Err-clause-none
returns-in-Err-clause-none c = typeless_nodes c.args.nodes.now c.in-Err.fault c.in-Err.ensures.err

pub returns-in-Err-check_type-clause-none : goal.returns-in-Err-check_type-clause-none
returns-in-Err-check_type-clause-none c =
    faulty_alone c.args.nodes.now (tree_of c.in-Ok.ty) c.in-Err-check_type.fault c.in-Ok.ensures.ok c.in-Err-check_type.ensures.err
