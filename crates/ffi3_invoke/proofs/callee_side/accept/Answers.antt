use Rattle.std.proofs.Common.{◌≡◌, ◌+◌, length, ap, sym, ◌∙◌, subst, arith}
use Rattle.ffi3_type_spec.specs.TargetIsa.{isa_of}
use Rattle.ffi3_place_spec.specs.Standard.{frame_of}
use Rattle.ffi3_machine_spec.specs.State.{after_enter, scribbled_floating, scribbled_general}
use Rattle.ffi3_callee.specs.Given.{ReservedStay}
use Rattle.ffi3_callee.specs.Received.{IsReceived, OwnsAtEntry}
use Rattle.ffi3_invoke.specs.Calls.{entry_at}
use Rattle.ffi3_invoke.proofs.Accepted.{counted, in_callee, reserved_beside, within_beside}
use Rattle.ffi3_callee.proofs.Keeping.{reserved_there}
use Rattle.ffi3_invoke.proofs.Passed.{same_in}
use Rattle.ffi3_invoke.proofs.callee_side.accept.Goals as goal

pub overflow_add-bytes : goal.overflow_add-bytes
overflow_add-bytes g c = omega (arith, c.LINK.ensures, g.met.A.Abi.link_is, c.frame.ensures, c.requires.frame)

pub enter-requires-clause-stack : goal.enter-requires-clause-stack
enter-requires-clause-stack g c =
    λ some. (omega (arith, c.requires.room), omega (arith, c.LINK.ensures, g.met.A.Abi.link_is, c.frame.ensures, c.requires.frame))

pub enter-requires-clause-bytes : goal.enter-requires-clause-bytes
enter-requires-clause-bytes g c = omega (arith, c.LINK.ensures, g.met.A.Abi.link_is, c.frame.ensures, c.requires.bytes)

pub receive-requires-clause-target : goal.receive-requires-clause-target
receive-requires-clause-target g c = ap (λ x. x.target) c.enter.ensures ∙ c.requires.target

pub receive-requires-clause-entry : goal.receive-requires-clause-entry
receive-requires-clause-entry g c = ap (λ x. x.pc) c.enter.ensures ∙ c.requires.entry

pub receive-requires-clause-room : goal.receive-requires-clause-room
receive-requires-clause-room g c =
    let sp = ap (λ x. x.sp) c.enter.ensures in
    omega (arith, sp, c.requires.room)

pub receive-requires-clause-frame : goal.receive-requires-clause-frame
receive-requires-clause-frame g c =
    let sp = ap (λ x. x.sp) c.enter.ensures in
    omega (arith, sp, c.requires.frame)

pub receive-requires-clause-some : goal.receive-requires-clause-some
receive-requires-clause-some g c =
    let std = g.A.Abi.standard in
    let s = c.args.cif.now in
    let m = c.args.machine.now in
    let sized : c.LINK.result + c.frame.result ≡ std.link + frame_of std s = omega (arith, c.LINK.ensures, g.met.A.Abi.link_is, c.frame.ensures) in
    let e_is = c.enter.ensures ∙ ap (λ k. after_enter k m) sized in
    (c.requires.some.0, subst (λ x. OwnsAtEntry std s x c.requires.some.0) (sym e_is) c.requires.some.1)

pub returns : goal.returns
returns g c =
    let std = g.A.Abi.standard in
    let s = c.args.cif.now in
    let m = c.args.machine.now in
    let sized : c.LINK.result + c.frame.result ≡ std.link + frame_of std s = omega (arith, c.LINK.ensures, g.met.A.Abi.link_is, c.frame.ensures) in
    let e_is = c.enter.ensures ∙ ap (λ k. after_enter k m) sized in
    let received = subst (λ x. IsReceived std s x c.receive.new.machine) e_is c.receive.ensures.received in
    let beside = reserved_beside std s g.met.A.Abi.agrees m c.receive.new.machine received (subst (λ x. ReservedStay std x c.receive.new.machine) e_is c.receive.ensures.reserved) in
    record {
      events = received.events;
      received = received;
      incoming = c.receive.ensures.incoming;
      block = c.receive.ensures.block;
      general = subst (λ x. c.receive.new.machine.general ≡ scribbled_general (isa_of x.target) (length x.events) x.general) e_is c.receive.ensures.general ∙ ap (λ n. scribbled_general (isa_of m.target) n m.general) (counted m.events (entry_at std s m));
      floating = subst (λ x. c.receive.new.machine.floating ≡ scribbled_floating (length x.events)) e_is c.receive.ensures.floating ∙ ap scribbled_floating (counted m.events (entry_at std s m));
      reserved = same_in 0 0 m c.receive.new.machine std.reserved (reserved_there std g.met.A.Abi.agrees) beside;
      sp = received.sp;
      within = within_beside std s g.met.A.Abi.agrees m c.receive.new.machine received;
      spare_events = omega (arith, received.spare_events, c.requires.events);
      spare_bytes = omega (arith, received.spare_bytes, c.requires.bytes);
      steps = received.steps;
      in_callee = λ back events bytes. in_callee std s g.met.A.Abi.agrees m c.receive.new.machine received c.requires.some.0 (g.met.A.Abi.sound s) c.sig-sig.ensures.faultless (c.requires.target ∙ sym g.met.A.Abi.target_is) c.requires.room c.requires.frame c.requires.some.1 beside back events bytes;
    }
