use Rattle.std.proofs.Common.{rules, ◌≡◌, ap, sym, subst, ◌∙◌}
use Rattle.std.specs.Prelude.{Some, None, IsSome, slice_get}
use Rattle.ffi3_type_spec.specs.Signature.{Signature}
use Rattle.ffi3_capi.specs.declared.fault.FaultKind.TheVariants.{NoFault}
use Rattle.ffi3_capi.specs.ByNodes.{AreNodesOfTypeIn}
use Rattle.ffi3_capi.specs.Faults.{fault_with}
use Rattle.ffi3_capi.specs.Formats.{long_double_on}
use Rattle.ffi3_capi.specs.Laid.{laid_leaves}
use Rattle.ffi3_capi.specs.OnTarget.{known}
use Rattle.ffi3_capi.specs.Placed.{targets}
use Rattle.ffi3_capi.specs.WholeType.{no_whole_type, TellsType}
use Rattle.ffi3_capi.proofs.Answering.{tells_none, on_no_target}
use Rattle.ffi3_capi.proofs.whole.layout_nodes_for.Goals as goal

pub returns-in_default : goal.returns-in_default
returns-in_default c =
    let none : slice_get targets c.args.target ≡ None = search rules in
    on_no_target c.args.target (TellsType (Some (long_double_on c.args.target)) c.args.nodes.now laid_leaves c.args.leaves.now) (no_whole_type (fault_with NoFault)) c.args.leaves.now c.status.result c.no_whole_type.result none c.status.ensures (c.no_whole_type.ensures ∙ ap no_whole_type c.fault.ensures)

pub returns-in-Ok : goal.returns-in-Ok
returns-in-Ok c =
    let some : IsSome (slice_get targets c.args.target) = search rules in
    let same = c.ret.ensures ∙ ap (λ (s : Signature). s.result_type) c.of.ensures in
    known c.tell_leaves.result c.tell_leaves.new.told c.tell_leaves.new.leaves some (c.tell_leaves.ensures (Some (long_double_on c.args.target)) c.args.nodes.now (subst (AreNodesOfTypeIn (long_double_on c.args.target) c.args.nodes.now) (sym same) c.in-Ok.ensures.ok))

pub returns-in-Err : goal.returns-in-Err
returns-in-Err c =
    let some : IsSome (slice_get targets c.args.target) = search rules in
    known c.status-in-Err.result c.no_whole_type-in-Err.result c.args.leaves.now some (tells_none (Some (long_double_on c.args.target)) c.args.nodes.now laid_leaves c.args.leaves.now c.in-Err.refusal c.no_whole_type-in-Err.result c.fault-in-Err.result c.status-in-Err.result c.in-Err.ensures.err c.fault-in-Err.ensures c.no_whole_type-in-Err.ensures c.status-in-Err.ensures)
