use Rattle.std.proofs.Common.{rules, ◌≡◌, ap, sym, subst, ◌∙◌}
use Rattle.std.specs.Prelude.{Some, None, IsSome, slice_get}
use Rattle.ffi3_type_spec.specs.Signature.{Signature}
use Rattle.ffi3_capi.specs.ByNodes.{AreNodesOfTypeIn}
use Rattle.ffi3_capi.specs.Formats.{long_double_on}
use Rattle.ffi3_capi.specs.NaturalLayout.{known}
use Rattle.ffi3_capi.specs.Placed.{targets}
use Rattle.ffi3_capi.proofs.Differing.{checks_none, checks_on_no_target}
use Rattle.ffi3_capi.proofs.natural.check_layout_for.Goals as goal

pub returns-in_default : goal.returns-in_default
returns-in_default c =
    let none : slice_get targets c.args.target ≡ None = search rules in
    checks_on_no_target c.args.target c.args.nodes.now c.args.size c.args.align c.args.offsets.now c.fault.result c.status.result none c.status.ensures c.fault.ensures

pub returns-in-Ok : goal.returns-in-Ok
returns-in-Ok c =
    let some : IsSome (slice_get targets c.args.target) = search rules in
    let same = c.ret.ensures ∙ ap (λ (s : Signature). s.result_type) c.of.ensures in
    known c.tell_otherwise.result c.tell_otherwise.new.fault some (c.tell_otherwise.ensures (Some (long_double_on c.args.target)) c.args.nodes.now (subst (AreNodesOfTypeIn (long_double_on c.args.target) c.args.nodes.now) (sym same) c.in-Ok.ensures.ok))

pub returns-in-Err : goal.returns-in-Err
returns-in-Err c =
    let some : IsSome (slice_get targets c.args.target) = search rules in
    known c.status-in-Err.result c.fault-in-Err.result some (checks_none (Some (long_double_on c.args.target)) c.args.nodes.now c.args.size c.args.align c.args.offsets.now c.in-Err.refusal c.fault-in-Err.result c.status-in-Err.result c.in-Err.ensures.err c.fault-in-Err.ensures c.status-in-Err.ensures)
