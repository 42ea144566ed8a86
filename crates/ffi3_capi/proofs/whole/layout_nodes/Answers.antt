use Rattle.std.proofs.Common.{sym, subst}
use Rattle.std.specs.Prelude.{None}
use Rattle.ffi3_type_spec.specs.declared.Role.TheVariants.{AsResult}
use Rattle.ffi3_type_spec.proofs.Faults.{right_anywhere}
use Rattle.ffi3_types.specs.TreeOf.{tree_of}
use Rattle.ffi3_capi.specs.ByNodes.{AreNodesOfType}
use Rattle.ffi3_capi.specs.Laid.{laid_leaves}
use Rattle.ffi3_capi.proofs.Answering.{tells_none}
use Rattle.ffi3_capi.proofs.whole.layout_nodes.Goals as goal

pub of-requires : goal.of-requires
of-requires c =
    right_anywhere 0 AsResult (tree_of c.in-Ok.ty) c.in-Ok.ensures.faultless

pub returns-in-Ok : goal.returns-in-Ok
returns-in-Ok c =
    c.tell_leaves.ensures None c.args.nodes.now (subst (AreNodesOfType c.args.nodes.now) (sym c.of.ensures) c.in-Ok.ensures.ok)

pub returns-in-Err : goal.returns-in-Err
returns-in-Err c =
    tells_none None c.args.nodes.now laid_leaves c.args.leaves.now c.in-Err.refusal c.no_whole_type.result c.fault.result c.status.result c.in-Err.ensures.err c.fault.ensures c.no_whole_type.ensures c.status.ensures
