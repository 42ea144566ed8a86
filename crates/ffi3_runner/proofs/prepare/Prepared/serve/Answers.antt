use Rattle.std.proofs.Common.{◌≡◌, ◌<◌, List, Some, length, refl, sym, subst, rules}
use Rattle.std.proofs.lemmas.List.{length-map}
use Rattle.ffi3_type_spec.specs.Signature.{Signature}
use Rattle.ffi3_semantics_spec.specs.Closures.{closure_at}
use Rattle.ffi3_invoke.specs.Calls.{entered_closure}
use Rattle.ffi3_run_state.proofs.Closed.{known_at}
use Rattle.ffi3_runner.proofs.Agreed.{accepted_stands}
use Rattle.ffi3_runner.proofs.Turning.{func_below, own_at}
use Rattle.ffi3_runner.specs.Ready.{traced_or_not}
use Rattle.ffi3_runner.proofs.Serving.{call_cut_off, call_served, served_between, shows_found}
use Rattle.ffi3_runner.proofs.prepare.Prepared.serve.Goals as goal

pub in_function-standing-requires-clause-below : goal.in_function-standing-requires-clause-below
in_function-standing-requires-clause-below g c =
    let live : closure_at c.args.configuration.now.table (entered_closure c.args.machine.now) ≡ Some c.in-Some.closure = search rules in
    let known = known_at _ c.args.configuration.now.table (entered_closure c.args.machine.now) c.in-Some.closure c.requires.idle.known live in
    func_below g.A.Abi.standard c.args.self.now.script.now _ (length c.args.self.now.natives.now.items) c.in-Some.closure.func (length-map c.args.self.now.natives.now.items _) known.function

pub accept_call-requires-clause-below : goal.accept_call-requires-clause-below
accept_call-requires-clause-below g c =
    let live : closure_at c.args.configuration.now.table (entered_closure c.args.machine.now) ≡ Some c.in-Some.closure = search rules in
    let known = known_at _ c.args.configuration.now.table (entered_closure c.args.machine.now) c.in-Some.closure c.requires.idle.known live in
    subst (λ (l : List Signature). c.in-Some.closure.sig < length l) (sym c.requires.prepared.are) known.below

pub accept_call-requires-clause-shows : goal.accept_call-requires-clause-shows
accept_call-requires-clause-shows g c =
    let live : closure_at c.args.configuration.now.table (entered_closure c.args.machine.now) ≡ Some c.in-Some.closure = search rules in
    let t = c.requires.entry in
    (t.1, shows_found g.A.Abi.standard _ c.args.configuration.now.table c.args.machine.now c.in-Some.closure t.0 t.1 c.args.self.now.cifs c.requires.prepared.are live t.2)

pub run_on-requires-clause-standing : goal.run_on-requires-clause-standing
run_on-requires-clause-standing g c =
    let live : closure_at c.args.configuration.now.table (entered_closure c.args.machine.now) ≡ Some c.in-Some.closure = search rules in
    let known = known_at _ c.args.configuration.now.table (entered_closure c.args.machine.now) c.in-Some.closure c.requires.idle.known live in
    let s = c.args.self.now.script.now in
    let cifs = c.args.self.now.cifs in
    accepted_stands s _ cifs c.accept_call.new.machine c.args.configuration.now c.accept_call.new.self c.in-Some.closure c.in_function-standing.result c.in_default-accept_call.ensures.goes c.requires.idle.suspended c.in_function-standing.ensures.who (λ z site none. c.in_function-standing.ensures.agrees g.A.Abi.standard z (own_at g.A.Abi.standard s _ cifs c.requires.prepared c.in-Some.closure.func c.in-Some.closure.sig c.in-Some.closure.sig z known.signature refl site) none)

pub run_on-requires-clause-between : goal.run_on-requires-clause-between
run_on-requires-clause-between g c =
    let live : closure_at c.args.configuration.now.table (entered_closure c.args.machine.now) ≡ Some c.in-Some.closure = search rules in
    let t = c.requires.entry in
    (traced_or_not, refl, served_between g.A.Abi.standard c.args.trace _ c.args.configuration.now c.accept_call.new.self c.args.machine.now c.accept_call.new.machine (g.O.Sink.state c.args.output.now) (g.O.Sink.state c.accept_call.new.output) c.in-Some.closure c.args.self.now.cifs c.requires.prepared.are live (λ arguments shows. c.in_default-accept_call.ensures.accepted _ arguments (sym c.requires.prepared.are) refl shows c.requires.holds c.requires.idle.known c.requires.idle.few) t.0 t.1 t.2)

pub returns-in-Err : goal.returns-in-Err
returns-in-Err g c =
    let live : closure_at c.args.configuration.now.table (entered_closure c.args.machine.now) ≡ Some c.in-Some.closure = search rules in
    call_cut_off g.A.Abi.standard c.args.trace _ c.args.configuration.now c.accept_call.new.self c.args.machine.now c.accept_call.new.machine (g.O.Sink.state c.args.output.now) (g.O.Sink.state c.accept_call.new.output) c.in-Some.closure c.args.self.now.cifs c.requires.prepared.are live c.in-Err.why c.cut_off.result c.cut_off.ensures c.in-Err.ensures.kept (λ arguments shows. c.in-Err.ensures.accepted _ arguments (sym c.requires.prepared.are) refl shows c.requires.holds c.requires.idle.known c.requires.idle.few)

pub returns : goal.returns
returns g c =
    let live : closure_at c.args.configuration.now.table (entered_closure c.args.machine.now) ≡ Some c.in-Some.closure = search rules in
    call_served g.A.Abi.standard c.args.trace _ c.args.configuration.now c.accept_call.new.self c.args.machine.now c.accept_call.new.machine (g.O.Sink.state c.args.output.now) (g.O.Sink.state c.accept_call.new.output) c.in-Some.closure c.args.self.now.cifs c.requires.prepared.are live (λ arguments shows. c.in_default-accept_call.ensures.accepted _ arguments (sym c.requires.prepared.are) refl shows c.requires.holds c.requires.idle.known c.requires.idle.few) c.run_on.new.configuration c.run_on.new.machine (g.O.Sink.state c.run_on.new.output) c.run_on.result c.run_on.ensures
