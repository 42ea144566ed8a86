use Rattle.std.proofs.Common.{◌≡◌, ◌<◌, List, length, None, Some, Ok, Err, sym, subst, arith, rules}
use Rattle.std.proofs.lemmas.List.{length-map}
use Rattle.ffi3_type_spec.specs.Signature.{Signature, signature_at}
use Rattle.ffi3_semantics_spec.specs.declared.Closure.{Closure}
use Rattle.ffi3_semantics_spec.specs.Closures.{closure_at}
use Rattle.ffi3_semantics_spec.specs.Move.{call}
use Rattle.ffi3_invoke.specs.Calls.{entered_closure}
use Rattle.ffi3_run_state.proofs.Blocks.{blocks_above}
use Rattle.ffi3_run_state.proofs.Closed.{known_at}
use Rattle.ffi3_runner.proofs.Agreed.{entered_stands}
use Rattle.ffi3_runner.proofs.Turning.{does_at, func_below, own_at}
use Rattle.ffi3_runner.proofs.Serving.{one_closure, entered_at, gone_in, none_shown, shown}
use Rattle.ffi3_runner.proofs.prepare.Prepared.call.Goals as goal

pub callee-requires-clause-below : goal.callee-requires-clause-below
callee-requires-clause-below g c = λ k cl is.
    let known = c.requires.asking.6.between.known k cl is in
    subst (λ (l : List Signature). cl.sig < length l) (sym c.requires.prepared.are) known.below

pub returns-in-Err-clause-turned : goal.returns-in-Err-clause-turned
returns-in-Err-clause-turned g c = λ base all first own events standard tracing is.
    let are = sym c.requires.prepared.are in
    c.stop_for.ensures.turned _ base all first own events c.args.machine.now (call c.args.ptr c.args.sig c.args.args.now) are is (does_at g.A.Abi.standard c.args.self.now.script.now _ c.args.self.now.cifs c.requires.prepared c.args.ptr c.args.sig c.args.args.now (Err c.in-Err.why) base all first own events _ _ is c.in-Err.ensures.does)

-- once the arguments are passed, or for want of memory before
pub returns-in_default-clause-turned : goal.returns-in_default-clause-turned
returns-in_default-clause-turned g c = λ base all first own events standard tracing is.
    c.in_default.ensures.refused _ base all first own events c.args.current (g.O.Sink.state c.args.output.now) is

pub unreachable-requires : goal.unreachable-requires
unreachable-requires g c =
    let none : closure_at c.pass.new.self.table (entered_closure c.pass.new.machine) ≡ None = search rules in
    none_shown c.args.configuration.now c.pass.new.self c.pass.new.machine c.args.ptr c.in-Ok.called c.pass.ensures.same c.in-Ok.ensures.entered.live c.in-Ok-pass.ensures.passed.passed.closure none

pub in_function-standing-requires-clause-below : goal.in_function-standing-requires-clause-below
in_function-standing-requires-clause-below g c =
    let live : closure_at c.pass.new.self.table (entered_closure c.pass.new.machine) ≡ Some c.in-Some.closure = search rules in
    let found = shown c.args.configuration.now c.pass.new.self c.pass.new.machine c.args.ptr c.in-Ok.called c.pass.ensures.same c.in-Ok.ensures.entered.live c.in-Ok-pass.ensures.passed.passed.closure c.in-Some.closure live in
    let known = known_at _ c.args.configuration.now.table c.args.ptr c.in-Some.closure c.requires.asking.6.between.known found in
    func_below g.A.Abi.standard c.args.self.now.script.now _ (length c.args.self.now.natives.now.items) c.in-Some.closure.func (length-map c.args.self.now.natives.now.items _) known.function

pub enter-requires-clause-below : goal.enter-requires-clause-below
enter-requires-clause-below g c =
    let live : closure_at c.pass.new.self.table (entered_closure c.pass.new.machine) ≡ Some c.in-Some.closure = search rules in
    let found = shown c.args.configuration.now c.pass.new.self c.pass.new.machine c.args.ptr c.in-Ok.called c.pass.ensures.same c.in-Ok.ensures.entered.live c.in-Ok-pass.ensures.passed.passed.closure c.in-Some.closure live in
    let known = known_at _ c.args.configuration.now.table c.args.ptr c.in-Some.closure c.requires.asking.6.between.known found in
    subst (λ (l : List Signature). c.in-Some.closure.sig < length l) (sym c.requires.prepared.are) known.below

pub enter-requires-clause-same : goal.enter-requires-clause-same
enter-requires-clause-same g c =
    let live : closure_at c.pass.new.self.table (entered_closure c.pass.new.machine) ≡ Some c.in-Some.closure = search rules in
    let found = shown c.args.configuration.now c.pass.new.self c.pass.new.machine c.args.ptr c.in-Ok.called c.pass.ensures.same c.in-Ok.ensures.entered.live c.in-Ok-pass.ensures.passed.passed.closure c.in-Some.closure live in
    let is = one_closure c.args.configuration.now.table c.args.ptr c.in-Ok.called c.in-Some.closure c.in-Ok.ensures.entered.live found in
    subst (λ (z : Closure). signature_at c.args.self.now.cifs c.args.sig ≡ signature_at c.args.self.now.cifs z.sig) is c.in-Ok.ensures.entered.same

pub enter-requires-clause-passed : goal.enter-requires-clause-passed
enter-requires-clause-passed g c =
    (c.args.machine.now, c.args.ptr, c.args.args.now, c.in-Ok-pass.ensures.passed)

pub returns-clause-turned : goal.returns-clause-turned
returns-clause-turned g c = λ base all first own events standard tracing is.
    let are = sym c.requires.prepared.are in
    let b = c.args.configuration.now in
    let b₁ = c.pass.new.self in
    let m = c.args.machine.now in
    let o = g.O.Sink.state c.args.output.now in
    let current = c.args.current in
    let live : closure_at c.pass.new.self.table (entered_closure c.pass.new.machine) ≡ Some c.in-Some.closure = search rules in
    let found = shown b b₁ c.pass.new.machine c.args.ptr c.in-Ok.called c.pass.ensures.same c.in-Ok.ensures.entered.live c.in-Ok-pass.ensures.passed.passed.closure c.in-Some.closure live in
    let same = one_closure b.table c.args.ptr c.in-Ok.called c.in-Some.closure c.in-Ok.ensures.entered.live found in
    let does = does_at g.A.Abi.standard c.args.self.now.script.now _ c.args.self.now.cifs c.requires.prepared c.args.ptr c.args.sig c.args.args.now (Ok c.in-Ok.called) base all first own events _ _ is c.in-Ok.ensures.does in
    entered_at _ base all first own events b b₁ c.enter.new.self current m c.enter.new.machine o (g.O.Sink.state c.enter.new.output) c.args.ptr c.args.sig c.args.args.now c.in-Ok.called c.in-Some.closure c.enter.result c.pass.ensures.same c.pass.ensures.items same is does (λ is₁ does₁. c.enter.ensures.turned _ base all first own events m c.args.ptr c.args.args.now standard are tracing c.in-Ok-pass.ensures.passed is₁ does₁)

pub returns-clause-standing : goal.returns-clause-standing
returns-clause-standing g c = λ more.
    let asking = c.requires.asking.6 in
    let base = c.requires.asking.0 in
    let b = c.args.configuration.now in
    let b₁ = c.pass.new.self in
    let m = c.args.machine.now in
    let closure = c.in-Some.closure in
    let live : closure_at c.pass.new.self.table (entered_closure c.pass.new.machine) ≡ Some c.in-Some.closure = search rules in
    let found = shown b b₁ c.pass.new.machine c.args.ptr c.in-Ok.called c.pass.ensures.same c.in-Ok.ensures.entered.live c.in-Ok-pass.ensures.passed.passed.closure closure live in
    let same = one_closure b.table c.args.ptr c.in-Ok.called closure c.in-Ok.ensures.entered.live found in
    let site = subst (λ (z : Closure). signature_at c.args.self.now.cifs c.args.sig ≡ signature_at c.args.self.now.cifs z.sig) same c.in-Ok.ensures.entered.same in
    let above = blocks_above base.standard _ base.held base.top m m.sp _ _ m.sp (omega arith) asking.between.calls.stand in
    let known = known_at _ b.table c.args.ptr closure asking.between.known found in
    let goes = gone_in closure c.in_function-standing.result c.args.sig c.args.current b b₁ c.enter.new.self c.pass.ensures.same c.pass.ensures.items (c.enter.ensures.goes more) in
    entered_stands _ _ c.args.self.now.cifs m c.enter.new.machine m.sp (c.enter.ensures.above more m c.args.ptr c.args.args.now c.in-Ok-pass.ensures.passed) b c.enter.new.self closure c.in_function-standing.result c.args.sig c.args.current goes above c.requires.others c.requires.will c.in_function-standing.ensures.who (λ z here none. c.in_function-standing.ensures.agrees g.A.Abi.standard z (own_at g.A.Abi.standard c.args.self.now.script.now _ c.args.self.now.cifs c.requires.prepared closure.func c.args.sig closure.sig z known.signature site here) none)

pub returns-clause-above : goal.returns-clause-above
returns-clause-above g c = λ more.
    c.enter.ensures.above more c.args.machine.now c.args.ptr c.args.args.now c.in-Ok-pass.ensures.passed
