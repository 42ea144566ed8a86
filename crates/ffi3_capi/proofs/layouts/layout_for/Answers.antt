use Rattle.std.proofs.Common.{rules, ◌≡◌, ap, ◌∙◌}
use Rattle.std.specs.Prelude.{None, IsSome, slice_get}
use Rattle.ffi3_capi.specs.declared.fault.FaultKind.TheVariants.{NoFault}
use Rattle.ffi3_capi.specs.DeclaredBy.{IsDeclaredOn, IsFaultOn}
use Rattle.ffi3_capi.specs.Faults.{fault_with}
use Rattle.ffi3_capi.specs.Laid.{LaysOut, no_type}
use Rattle.ffi3_capi.specs.OnTarget.{known}
use Rattle.ffi3_capi.specs.Placed.{targets}
use Rattle.ffi3_capi.proofs.Answering.{lays_out, refuses_layout, on_no_target}
use Rattle.ffi3_capi.proofs.layouts.layout_for.Goals as goal

pub returns-in_default : goal.returns-in_default
returns-in_default c =
    let none : slice_get targets c.args.target ≡ None = search rules in
    on_no_target c.args.target (LaysOut (IsDeclaredOn c.args.target c.args.declaration) (IsFaultOn c.args.target c.args.declaration) c.args.value c.args.leaves.now) (no_type 0 (fault_with NoFault)) c.args.leaves.now c.status.result c.no_type.result none c.status.ensures (c.no_type.ensures ∙ ap (no_type 0) c.fault.ensures)

pub returns-in-Ok : goal.returns-in-Ok
returns-in-Ok c =
    let some : IsSome (slice_get targets c.args.target) = search rules in
    known c.room_status.result c.in-Ok.found.layout c.fill.new.array some (lays_out (IsDeclaredOn c.args.target c.args.declaration) (IsFaultOn c.args.target c.args.declaration) c.args.value c.args.leaves.now c.fill.new.array c.in-Ok.found c.fill.result c.room_status.result c.in-Ok.ensures.ok c.fill.ensures.fits c.room_status.ensures c.fill.ensures.written)

pub returns-in-Err : goal.returns-in-Err
returns-in-Err c =
    let some : IsSome (slice_get targets c.args.target) = search rules in
    known c.status-in-Err.result c.no_type-in-Err.result c.args.leaves.now some (refuses_layout (IsDeclaredOn c.args.target c.args.declaration) (IsFaultOn c.args.target c.args.declaration) c.args.value c.args.leaves.now c.in-Err.refusal c.no_type-in-Err.result c.count.result c.fault-in-Err.result c.status-in-Err.result c.in-Err.ensures.err c.count.ensures c.fault-in-Err.ensures c.no_type-in-Err.ensures c.status-in-Err.ensures)
