use Rattle.std.proofs.Common.{◌≡◌, ℕ, inl, suc, ◌-◌, ◌++◌, true, List, length, take, drop, reverse, Some, refl, sym, ap, subst, rules, arith}
use Rattle.ffi3_type_spec.specs.declared.limits.TheConstants.{STACK}
use Rattle.std.proofs.lemmas.List.{length-map}
use Rattle.ffi3_type_spec.specs.Signature.{Signature, signature_at}
use Rattle.ffi3_type_spec.specs.Tree.{Tree}
use Rattle.ffi3_type_spec.specs.Value.{void_value, fits}
use Rattle.ffi3_types.specs.TreeOf.{tree_of}
use Rattle.ffi3_values.specs.ValueOf.{value_of}
use Rattle.ffi3_semantics_spec.specs.Move.{call, make, free, print, return}
use Rattle.ffi3_body.specs.MoveOf.{move_of}
use Rattle.ffi3_next_move.specs.declared.standing.Standing.{Standing}
use Rattle.ffi3_run_state.specs.declared.configuration.Configuration.{Configuration}
use Rattle.ffi3_run_state.specs.Between.{run_state}
use Rattle.ffi3_run_state.specs.Activations.{call_inside}
use Rattle.ffi3_semantics_spec.specs.Meaning.{pointer_value}
use Rattle.ffi3_run_state.specs.Going.{and_result}
use Rattle.ffi3_run_state.proofs.Blocks.{blocks_above}
use Rattle.ffi3_run_state.proofs.Moving.{cut_between, looks_as_itself}
use Rattle.ffi3_runner.proofs.Agreed.{went_stands, returned_stands}
use Rattle.ffi3_runner.proofs.Turning.{func_below, after_stands, asks_now, between_of, never_more, returns_type, short_by_few, turned_as, went_on}
use Rattle.ffi3_runner.proofs.prepare.Prepared.one_move.Goals as goal

pub returns-then-configuration-eq0-clause-turned : goal.returns-then-configuration-eq0-clause-turned
returns-then-configuration-eq0-clause-turned g c = λ base all first own events standard tracing h.
    let is : c.args.configuration.now.innermost ≡ Some c.in-Some.current = search rules in
    turned_as _ base all first own 0 c.args.configuration.now.moves c.stop_at_limit.new.self c.args.machine.now (g.O.Sink.state c.stop_at_limit.new.output) c.stop_at_limit.result (sym c.if-configuration-eq0.true) (c.stop_at_limit.ensures.turned _ base all first own events c.args.machine.now (sym c.requires.prepared.are) (between_of _ base all first own events c.args.configuration.now c.in-Some.current c.args.machine.now (g.O.Sink.state c.args.output.now) is h))

pub returns-then-configuration-eq0-clause-standing : goal.returns-then-configuration-eq0-clause-standing
returns-then-configuration-eq0-clause-standing g c = λ more.
    let t = c.requires.between in
    let is : c.args.configuration.now.innermost ≡ Some c.in-Some.current = search rules in
    absurd (never_more _ t.0 t.1 t.2 t.3 c.stop_at_limit.new.self c.args.machine.now (g.O.Sink.state c.stop_at_limit.new.output) c.stop_at_limit.result (c.stop_at_limit.ensures.turned _ t.0 t.1 t.2 t.3 t.4 c.args.machine.now (sym c.requires.prepared.are) (between_of _ t.0 t.1 t.2 t.3 t.4 c.args.configuration.now c.in-Some.current c.args.machine.now (g.O.Sink.state c.args.output.now) is t.7)) more)

pub returns-in_default-asked-clause-turned : goal.returns-in_default-asked-clause-turned
returns-in_default-asked-clause-turned g c = λ base all first own events standard tracing h.
    let is : c.args.configuration.now.innermost ≡ Some c.in-Some.current = search rules in
    cut_between _ base all first own events (run_state _ c.in-Some.current c.args.configuration.now c.args.machine.now (g.O.Sink.state c.args.output.now)) c.args.configuration.now.moves c.args.configuration.now.moves c.args.machine.now (inl refl) (omega arith, omega arith) (omega arith) (looks_as_itself c.args.machine.now) (between_of _ base all first own events c.args.configuration.now c.in-Some.current c.args.machine.now (g.O.Sink.state c.args.output.now) is h)

pub sig_of-sig-requires-clause-below : goal.sig_of-sig-requires-clause-below
sig_of-sig-requires-clause-below g c =
    let is : c.args.configuration.now.innermost ≡ Some c.in-Some.current = search rules in
    let it = asks_now g.A.Abi.standard c.args.self.now.script.now _ c.args.self.now.cifs c.requires.prepared c.args.configuration.now c.args.machine.now c.in-Some.current c.asked.new.current c.take.new.self is (omega arith) c.requires.standing c.asked.ensures.same c.asked.ensures.who (move_of c.in-Ok.asked) (make c.in-Make.func c.in-Make.user) c.in-Ok.ensures.asked (ap move_of c.in-Make.is) in
    func_below g.A.Abi.standard c.args.self.now.script.now _ (length c.args.self.now.natives.now.items) c.in-Make.func (length-map c.args.self.now.natives.now.items _) it.fits

pub call-requires-clause-asking : goal.call-requires-clause-asking
call-requires-clause-asking g c =
    let t = c.requires.between in
    let is : c.args.configuration.now.innermost ≡ Some c.in-Some.current = search rules in
    let it = asks_now g.A.Abi.standard c.args.self.now.script.now _ c.args.self.now.cifs c.requires.prepared c.args.configuration.now c.args.machine.now c.in-Some.current c.asked.new.current c.take.new.self is (omega arith) c.requires.standing c.asked.ensures.same c.asked.ensures.who (move_of c.in-Ok.asked) (call c.in-Call.ptr c.in-Call.sig c.in-Call.args) c.in-Ok.ensures.asked (ap move_of c.in-Call.is) in
    (t.0, t.1, t.2, t.3, t.4, t.5, it.asks t.0 t.1 t.2 t.3 t.4 (g.O.Sink.state c.args.output.now) t.7)

pub leave-requires-clause-few : goal.leave-requires-clause-few
leave-requires-clause-few g c =
    let t = c.requires.between in
    let is : c.args.configuration.now.innermost ≡ Some c.in-Some.current = search rules in
    short_by_few _ c.args.machine.now c.args.configuration.now.served (reverse c.args.configuration.now.suspended.items) c.args.configuration.now.moves (between_of _ t.0 t.1 t.2 t.3 t.4 c.args.configuration.now c.in-Some.current c.args.machine.now (g.O.Sink.state c.args.output.now) is t.7).others_few

pub returns-in-Print-clause-turned : goal.returns-in-Print-clause-turned
returns-in-Print-clause-turned g c = λ base all first own events standard tracing h.
    let is : c.args.configuration.now.innermost ≡ Some c.in-Some.current = search rules in
    let it = asks_now g.A.Abi.standard c.args.self.now.script.now _ c.args.self.now.cifs c.requires.prepared c.args.configuration.now c.args.machine.now c.in-Some.current c.asked.new.current c.take.new.self is (omega arith) c.requires.standing c.asked.ensures.same c.asked.ensures.who (move_of c.in-Ok.asked) (print (tree_of c.in-Print.ty) (value_of c.in-Print.value)) c.in-Ok.ensures.asked (ap move_of c.in-Print.is) in
    turned_as _ base all first own (suc (c.args.configuration.now.moves - 1)) c.args.configuration.now.moves c.print.new.self c.args.machine.now (g.O.Sink.state c.print.new.output) c.print.result (sym it.counted) (c.print.ensures.turned _ base all first own events c.args.machine.now (it.asks base all first own events (g.O.Sink.state c.args.output.now) h))

pub returns-in-Make-clause-turned : goal.returns-in-Make-clause-turned
returns-in-Make-clause-turned g c = λ base all first own events standard tracing h.
    let is : c.args.configuration.now.innermost ≡ Some c.in-Some.current = search rules in
    let it = asks_now g.A.Abi.standard c.args.self.now.script.now _ c.args.self.now.cifs c.requires.prepared c.args.configuration.now c.args.machine.now c.in-Some.current c.asked.new.current c.take.new.self is (omega arith) c.requires.standing c.asked.ensures.same c.asked.ensures.who (move_of c.in-Ok.asked) (make c.in-Make.func c.in-Make.user) c.in-Ok.ensures.asked (ap move_of c.in-Make.is) in
    turned_as _ base all first own (suc (c.args.configuration.now.moves - 1)) c.args.configuration.now.moves c.make.new.self c.make.new.machine (g.O.Sink.state c.make.new.output) c.make.result (sym it.counted) (c.make.ensures.turned _ base all first own events (sym c.requires.prepared.are) it.fits (c.sig_of-sig.ensures.below g.A.Abi.standard) (c.sig_of-sig.ensures.is g.A.Abi.standard) (it.asks base all first own events (g.O.Sink.state c.args.output.now) h))

pub returns-in-Make-clause-standing : goal.returns-in-Make-clause-standing
returns-in-Make-clause-standing g c = λ more.
    let goes = c.make.ensures.goes more in
    let is : c.args.configuration.now.innermost ≡ Some c.in-Some.current = search rules in
    let it = asks_now g.A.Abi.standard c.args.self.now.script.now _ c.args.self.now.cifs c.requires.prepared c.args.configuration.now c.args.machine.now c.in-Some.current c.asked.new.current c.take.new.self is (omega arith) c.requires.standing c.asked.ensures.same c.asked.ensures.who (move_of c.in-Ok.asked) (make c.in-Make.func c.in-Make.user) c.in-Ok.ensures.asked (ap move_of c.in-Make.is) in
    went_stands _ _ c.args.self.now.cifs c.args.machine.now c.make.new.machine c.args.configuration.now c.make.new.self (and_result c.asked.new.current (pointer_value goes.0)) c.make.ensures.stack (ap (λ (x : Configuration Standing). x.innermost) goes.1) (ap (λ (x : Configuration Standing). x.served) goes.1) (ap (λ (x : Configuration Standing). x.suspended.items) goes.1) (after_stands g.A.Abi.standard c.args.self.now.script.now _ c.args.self.now.cifs c.args.configuration.now c.args.machine.now c.in-Some.current c.asked.new.current c.take.new.self (make c.in-Make.func c.in-Make.user) it (pointer_value goes.0) refl) c.requires.standing.others

pub returns-in-Free-clause-turned : goal.returns-in-Free-clause-turned
returns-in-Free-clause-turned g c = λ base all first own events standard tracing h.
    let is : c.args.configuration.now.innermost ≡ Some c.in-Some.current = search rules in
    let it = asks_now g.A.Abi.standard c.args.self.now.script.now _ c.args.self.now.cifs c.requires.prepared c.args.configuration.now c.args.machine.now c.in-Some.current c.asked.new.current c.take.new.self is (omega arith) c.requires.standing c.asked.ensures.same c.asked.ensures.who (move_of c.in-Ok.asked) (free c.in-Free.ptr) c.in-Ok.ensures.asked (ap move_of c.in-Free.is) in
    turned_as _ base all first own (suc (c.args.configuration.now.moves - 1)) c.args.configuration.now.moves c.free.new.self c.free.new.machine (g.O.Sink.state c.free.new.output) c.free.result (sym it.counted) (c.free.ensures.turned _ base all first own events (sym c.requires.prepared.are) (it.asks base all first own events (g.O.Sink.state c.args.output.now) h))

pub returns-in-Free-clause-standing : goal.returns-in-Free-clause-standing
returns-in-Free-clause-standing g c = λ more.
    let goes = c.free.ensures.goes more in
    let is : c.args.configuration.now.innermost ≡ Some c.in-Some.current = search rules in
    let it = asks_now g.A.Abi.standard c.args.self.now.script.now _ c.args.self.now.cifs c.requires.prepared c.args.configuration.now c.args.machine.now c.in-Some.current c.asked.new.current c.take.new.self is (omega arith) c.requires.standing c.asked.ensures.same c.asked.ensures.who (move_of c.in-Ok.asked) (free c.in-Free.ptr) c.in-Ok.ensures.asked (ap move_of c.in-Free.is) in
    went_stands _ _ c.args.self.now.cifs c.args.machine.now c.free.new.machine c.args.configuration.now c.free.new.self (and_result c.asked.new.current void_value) c.free.ensures.stack (ap (λ (x : Configuration Standing). x.innermost) goes) (ap (λ (x : Configuration Standing). x.served) goes) (ap (λ (x : Configuration Standing). x.suspended.items) goes) (after_stands g.A.Abi.standard c.args.self.now.script.now _ c.args.self.now.cifs c.args.configuration.now c.args.machine.now c.in-Some.current c.asked.new.current c.take.new.self (free c.in-Free.ptr) it void_value refl) c.requires.standing.others

pub returns-in-Call-clause-turned : goal.returns-in-Call-clause-turned
returns-in-Call-clause-turned g c = λ base all first own events standard tracing h.
    let is : c.args.configuration.now.innermost ≡ Some c.in-Some.current = search rules in
    let it = asks_now g.A.Abi.standard c.args.self.now.script.now _ c.args.self.now.cifs c.requires.prepared c.args.configuration.now c.args.machine.now c.in-Some.current c.asked.new.current c.take.new.self is (omega arith) c.requires.standing c.asked.ensures.same c.asked.ensures.who (move_of c.in-Ok.asked) (call c.in-Call.ptr c.in-Call.sig c.in-Call.args) c.in-Ok.ensures.asked (ap move_of c.in-Call.is) in
    turned_as _ base all first own (suc (c.args.configuration.now.moves - 1)) c.args.configuration.now.moves c.call.new.configuration c.call.new.machine (g.O.Sink.state c.call.new.output) c.call.result (sym it.counted) (c.call.ensures.turned base all first own events standard tracing (it.asks base all first own events (g.O.Sink.state c.args.output.now) h))

pub returns-in-Return-clause-turned : goal.returns-in-Return-clause-turned
returns-in-Return-clause-turned g c = λ base all first own events standard tracing h.
    let is : c.args.configuration.now.innermost ≡ Some c.in-Some.current = search rules in
    let it = asks_now g.A.Abi.standard c.args.self.now.script.now _ c.args.self.now.cifs c.requires.prepared c.args.configuration.now c.args.machine.now c.in-Some.current c.asked.new.current c.take.new.self is (omega arith) c.requires.standing c.asked.ensures.same c.asked.ensures.who (move_of c.in-Ok.asked) (return (value_of c.in-Return.value)) c.in-Ok.ensures.asked (ap move_of c.in-Return.is) in
    turned_as _ base all first own (suc (c.args.configuration.now.moves - 1)) c.args.configuration.now.moves c.leave.new.self c.leave.new.machine (g.O.Sink.state c.leave.new.output) c.leave.result (sym it.counted) (c.leave.ensures.turned _ base all first own events c.asked.new.current standard (sym c.requires.prepared.are) tracing (it.asks base all first own events (g.O.Sink.state c.args.output.now) h))

pub returns-in-Return-clause-standing : goal.returns-in-Return-clause-standing
returns-in-Return-clause-standing g c = λ more.
    let b = c.args.configuration.now in
    let v = value_of c.in-Return.value in
    let t = c.requires.between in
    let is : c.args.configuration.now.innermost ≡ Some c.in-Some.current = search rules in
    let it = asks_now g.A.Abi.standard c.args.self.now.script.now _ c.args.self.now.cifs c.requires.prepared c.args.configuration.now c.args.machine.now c.in-Some.current c.asked.new.current c.take.new.self is (omega arith) c.requires.standing c.asked.ensures.same c.asked.ensures.who (move_of c.in-Ok.asked) (return (value_of c.in-Return.value)) c.in-Ok.ensures.asked (ap move_of c.in-Return.is) in
    let turned = c.leave.ensures.turned _ t.0 t.1 t.2 t.3 t.4 c.asked.new.current t.5 (sym c.requires.prepared.are) t.6 (it.asks t.0 t.1 t.2 t.3 t.4 (g.O.Sink.state c.args.output.now) t.7) in
    let went = went_on _ t.0 t.1 t.2 t.3 (suc (b.moves - 1)) c.leave.new.self c.leave.new.machine (g.O.Sink.state c.leave.new.output) c.leave.result turned more in
    let gone = c.leave.ensures.goes more in
    let between = between_of _ t.0 t.1 t.2 (t.3 ++ went.more) went.events c.leave.new.self (and_result gone.waited.activation v) c.leave.new.machine (g.O.Sink.state c.leave.new.output) gone.innermost went.stands in
    let above = blocks_above t.0.standard _ t.0.held t.0.top c.leave.new.machine c.leave.new.machine.sp _ _ c.leave.new.machine.sp (omega arith) between.calls.stand in
    let typed = subst (λ (x : Tree). fits x v ≡ true) (returns_type c.args.self.now.cifs c.args.machine.now (call_inside b.served (reverse b.suspended.items)) c.in-Some.current) it.fits in
    returned_stands _ _ c.args.self.now.cifs c.args.machine.now c.leave.new.machine c.leave.new.machine.sp (c.leave.ensures.above more) (record b { innermost = c.take.new.self; moves = b.moves - 1 }) c.leave.new.self v gone above c.requires.standing.others typed

pub call-requires-clause-will : goal.call-requires-clause-will
call-requires-clause-will g c =
    let is : c.args.configuration.now.innermost ≡ Some c.in-Some.current = search rules in
    let it = asks_now g.A.Abi.standard c.args.self.now.script.now _ c.args.self.now.cifs c.requires.prepared c.args.configuration.now c.args.machine.now c.in-Some.current c.asked.new.current c.take.new.self is (omega arith) c.requires.standing c.asked.ensures.same c.asked.ensures.who (move_of c.in-Ok.asked) (call c.in-Call.ptr c.in-Call.sig c.in-Call.args) c.in-Ok.ensures.asked (ap move_of c.in-Call.is) in
    record { who = it.who; agrees = λ r typed. it.after r (subst (λ (l : List Signature). fits (signature_at l c.in-Call.sig).result_type r ≡ true) c.requires.prepared.are typed) }

pub returns-in-Print-clause-standing : goal.returns-in-Print-clause-standing
returns-in-Print-clause-standing g c = λ more.
    let goes = c.print.ensures.goes more in
    let is : c.args.configuration.now.innermost ≡ Some c.in-Some.current = search rules in
    let it = asks_now g.A.Abi.standard c.args.self.now.script.now _ c.args.self.now.cifs c.requires.prepared c.args.configuration.now c.args.machine.now c.in-Some.current c.asked.new.current c.take.new.self is (omega arith) c.requires.standing c.asked.ensures.same c.asked.ensures.who (move_of c.in-Ok.asked) (print (tree_of c.in-Print.ty) (value_of c.in-Print.value)) c.in-Ok.ensures.asked (ap move_of c.in-Print.is) in
    went_stands _ _ c.args.self.now.cifs c.args.machine.now c.args.machine.now c.args.configuration.now c.print.new.self (and_result c.asked.new.current void_value) refl (ap (λ (x : Configuration Standing). x.innermost) goes) (ap (λ (x : Configuration Standing). x.served) goes) (ap (λ (x : Configuration Standing). x.suspended.items) goes) (after_stands g.A.Abi.standard c.args.self.now.script.now _ c.args.self.now.cifs c.args.configuration.now c.args.machine.now c.in-Some.current c.asked.new.current c.take.new.self (print (tree_of c.in-Print.ty) (value_of c.in-Print.value)) it void_value refl) c.requires.standing.others

-- ---- the stack after a move

pub returns-then-configuration-eq0-clause-stack : goal.returns-then-configuration-eq0-clause-stack
returns-then-configuration-eq0-clause-stack g c = λ more.
    let t = c.requires.between in
    let is : c.args.configuration.now.innermost ≡ Some c.in-Some.current = search rules in
    absurd (never_more _ t.0 t.1 t.2 t.3 c.stop_at_limit.new.self c.args.machine.now (g.O.Sink.state c.stop_at_limit.new.output) c.stop_at_limit.result (c.stop_at_limit.ensures.turned _ t.0 t.1 t.2 t.3 t.4 c.args.machine.now (sym c.requires.prepared.are) (between_of _ t.0 t.1 t.2 t.3 t.4 c.args.configuration.now c.in-Some.current c.args.machine.now (g.O.Sink.state c.args.output.now) is t.7)) more)

pub returns-in-Print-clause-stack : goal.returns-in-Print-clause-stack
returns-in-Print-clause-stack g c = λ more address count before after. refl

pub returns-in-Make-clause-stack : goal.returns-in-Make-clause-stack
returns-in-Make-clause-stack g c = λ more address count before after.
    ap (λ (bytes : List ℕ). take count (drop (address - STACK) bytes)) c.make.ensures.stack

pub returns-in-Free-clause-stack : goal.returns-in-Free-clause-stack
returns-in-Free-clause-stack g c = λ more address count before after.
    ap (λ (bytes : List ℕ). take count (drop (address - STACK) bytes)) c.free.ensures.stack

pub returns-in-Call-clause-stack : goal.returns-in-Call-clause-stack
returns-in-Call-clause-stack g c = λ more address count before after. c.call.ensures.above more address count before

pub returns-in-Return-clause-stack : goal.returns-in-Return-clause-stack
returns-in-Return-clause-stack g c = λ more address count before after. c.leave.ensures.above more address count after

-- ---- closures and moves where a write failed

pub returns-then-configuration-eq0-clause-failed : goal.returns-then-configuration-eq0-clause-failed
returns-then-configuration-eq0-clause-failed g c = λ failed.
    let kept = c.stop_at_limit.ensures.kept in
    (kept.0, omega (arith, kept.1, c.if-configuration-eq0.true))

pub returns-in-Print-clause-failed : goal.returns-in-Print-clause-failed
returns-in-Print-clause-failed g c = λ failed. c.print.ensures.kept failed

pub returns-in-Make-clause-failed : goal.returns-in-Make-clause-failed
returns-in-Make-clause-failed g c = λ failed. c.make.ensures.kept failed

pub returns-in-Free-clause-failed : goal.returns-in-Free-clause-failed
returns-in-Free-clause-failed g c = λ failed. c.free.ensures.kept failed

pub returns-in-Call-clause-failed : goal.returns-in-Call-clause-failed
returns-in-Call-clause-failed g c = λ failed. c.call.ensures.kept failed

pub returns-in-Return-clause-failed : goal.returns-in-Return-clause-failed
returns-in-Return-clause-failed g c = λ failed. c.leave.ensures.kept failed
