use Rattle.std.proofs.Common.{◌≡◌, Bool, true, false, ap, sym, ◌∙◌, arith}
use Rattle.ffi3_type_spec.specs.TargetIsa.{isa_of}
use Rattle.ffi3_machine_spec.specs.State.{State, with_pc}
use Rattle.ffi3_machine_spec.specs.Stubs.{Call, stub_at}
use Rattle.ffi3_stubs.specs.Calls.{after_call}
use Rattle.ffi3_machine_transfer.specs.Passing.{by_exchange}
use Rattle.ffi3_caller.specs.Called.{called_if}
use Rattle.ffi3_caller.proofs.ByStub.{call_at_slot, call_high, call_low, called_by_stub, called_itself}
use Rattle.ffi3_caller.proofs.slot_call.call_slot.Goals as goal

pub run_call-requires-clause-slot : goal.run_call-requires-clause-slot
run_call-requires-clause-slot c =
    call_at_slot c.args.addr c.args.machine.now c.facts.ensures c.requires.slot c.tell.new.machine c.tell.ensures

pub run_call-requires-clause-low : goal.run_call-requires-clause-low
run_call-requires-clause-low c =
    call_low c.args.addr c.args.machine.now c.facts.ensures c.requires.slot c.tell.new.machine c.tell.ensures c.requires.room

pub run_call-requires-clause-high : goal.run_call-requires-clause-high
run_call-requires-clause-high c =
    call_high c.args.addr c.args.machine.now c.facts.ensures c.requires.slot c.tell.new.machine c.tell.ensures c.requires.top

pub call-requires-clause-room : goal.call-requires-clause-room
call-requires-clause-room c = λ some. (omega (arith, c.requires.room), omega (arith, c.requires.room, c.requires.top))

pub returns-then-exchanged-clause-whole : goal.returns-then-exchanged-clause-whole
returns-then-exchanged-clause-whole c =
    let m = c.args.machine.now in
    let e : by_exchange c.args.machine.now.target ≡ true = cc in
    c.run_call.ensures.whole ∙ ap (λ (t : State). after_call (isa_of t.target) (with_pc (stub_at (isa_of t.target) Call) t)) c.tell.ensures ∙ ap (λ (b : Bool). called_if b c.args.addr m) (sym e)

pub returns-then-exchanged-clause-called : goal.returns-then-exchanged-clause-called
returns-then-exchanged-clause-called c =
    let e : by_exchange c.args.machine.now.target ≡ true = cc in
    called_by_stub c.args.addr c.args.machine.now c.tell.new.machine c.run_call.new.machine c.facts.ensures c.requires.slot c.tell.ensures c.requires.room c.requires.top e c.run_call.ensures.says c.run_call.ensures.counted

pub returns-else-exchanged-clause-whole : goal.returns-else-exchanged-clause-whole
returns-else-exchanged-clause-whole c =
    let e : by_exchange c.args.machine.now.target ≡ false = cc in
    c.call.ensures.whole ∙ ap (λ (b : Bool). called_if b c.args.addr c.args.machine.now) (sym e)

pub returns-else-exchanged-clause-called : goal.returns-else-exchanged-clause-called
returns-else-exchanged-clause-called c =
    let e : by_exchange c.args.machine.now.target ≡ false = cc in
    called_itself c.args.addr c.args.machine.now c.call.new.self e c.call.ensures.whole c.call.ensures.return_address
