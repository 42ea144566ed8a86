use Rattle.std.proofs.Common.{◌≡◌, ◌+◌, ◌-◌, ◌≤◌, length, sym, ◌∙◌, arith}
use Rattle.ffi3_type_spec.specs.declared.limits.TheConstants.{STACK}
use Rattle.ffi3_type_spec.specs.TargetIsa.{isa_of}
use Rattle.ffi3_place_spec.specs.MachineRegisters.{pushed_bytes}
use Rattle.ffi3_place_spec.specs.Standard.{frame_of}
use Rattle.ffi3_caller.proofs.Pushing.{call_preserves, call_reserves, holds_after_call, pushed_is}
use Rattle.ffi3_machine_transfer.proofs.Passing.{laws_of}
use Rattle.ffi3_caller.proofs.slot_call.call.Goals as goal

pub call_slot-requires-clause-room : goal.call_slot-requires-clause-room
call_slot-requires-clause-room g c =
    let std = g.A.Abi.standard in
    let m = c.args.machine.now in
    let bytes : std.link ≡ pushed_bytes (isa_of m.target) = pushed_is std g.met.A.Abi.agrees m _ g.met.A.Abi.target_is c.requires.target in
    omega (arith, bytes, c.requires.room)

pub call_slot-requires-clause-top : goal.call_slot-requires-clause-top
call_slot-requires-clause-top g c = omega (arith, c.requires.frame)

pub returns-clause-preserved : goal.returns-clause-preserved
returns-clause-preserved g c =
    let std = g.A.Abi.standard in
    let m = c.args.machine.now in
    let same : std.target ≡ m.target = g.met.A.Abi.target_is ∙ sym c.requires.target in
    call_preserves std g.met.A.Abi.agrees c.args.addr m c.call_slot.new.machine same (λ e. laws_of std m.target g.met.A.Abi.by_stubs same e) c.call_slot.ensures.called

pub returns-clause-reserved : goal.returns-clause-reserved
returns-clause-reserved g c =
    let std = g.A.Abi.standard in
    let m = c.args.machine.now in
    let same : std.target ≡ m.target = g.met.A.Abi.target_is ∙ sym c.requires.target in
    call_reserves std g.met.A.Abi.agrees c.args.addr m c.call_slot.new.machine same c.call_slot.ensures.called

pub returns-clause-holds : goal.returns-clause-holds
returns-clause-holds g c = λ values own fill address count.
    let std = g.A.Abi.standard in
    let s = c.args.cif.now in
    let m = c.args.machine.now in
    let sound = g.met.A.Abi.sound s in
    let same : std.target ≡ m.target = g.met.A.Abi.target_is ∙ sym c.requires.target in
    let fits : m.sp - STACK + frame_of std s ≤ length m.stack = omega (arith, c.requires.room, c.requires.frame, c.facts.ensures.stack) in
    holds_after_call std s sound c.sig-sig.ensures.faultless g.met.A.Abi.agrees c.args.addr m c.call_slot.new.machine same (λ e. laws_of std m.target g.met.A.Abi.by_stubs same e) c.requires.room fits c.call_slot.ensures.called values own fill address count
