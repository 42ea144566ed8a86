use Rattle.std.proofs.Common.{suc, List, sym, ap, ◌∙◌, subst}
use Rattle.ffi3_type_spec.specs.TargetIsa.{isa_of}
use Rattle.ffi3_type_spec.specs.Signature.{Signature}
use Rattle.ffi3_type_spec.specs.Value.{void_value}
use Rattle.ffi3_semantics_spec.specs.declared.Stop.TheVariants.{NoClosure}
use Rattle.ffi3_semantics_spec.specs.Closures.{Closures}
use Rattle.ffi3_semantics_spec.specs.Move.{free}
use Rattle.ffi3_semantics_spec.specs.Meaning.{goes_on}
use Rattle.ffi3_machine_spec.specs.State.{State, free_slot}
use Rattle.ffi3_run_state.specs.Going.{StoppedBy}
use Rattle.ffi3_run_state.specs.Between.{run_state}
use Rattle.ffi3_run_state.specs.Known.{AreKnown}
use Rattle.ffi3_run_state.specs.Turned.{Turned}
use Rattle.ffi3_run_state.proofs.Acts.{free_finds_none, free_goes_on}
use Rattle.ffi3_run_state.proofs.Configuring.{stops_at, made_on}
use Rattle.ffi3_run_state.proofs.Closed.{known_freed}
use Rattle.ffi3_run_state.proofs.configuration.Configuration.free.Goals as goal

pub returns-in-Some-clause-turned : goal.returns-in-Some-clause-turned
returns-in-Some-clause-turned g c = λ p base all first own events signatures is.
    let o = g.O.Sink.state c.args.output.now in
    let b = c.args.self.now in
    let a = c.args.current in
    let m = c.args.machine.now in
    let table = c.free.new.self in
    let x = run_state p.signatures a b m o in
    let live = sym c.free.ensures.value ∙ c.in-Some.is in
    let freed = c.in-Some.ensures.freed in
    let does = free_goes_on p x.innermost b.table c.args.ptr _ live ∙ ap (goes_on void_value) (sym freed) in
    let known = subst (λ (t : Closures). AreKnown p t) (sym freed) (known_freed p b.table c.args.ptr is.between.known) in
    made_on p base all first own events b a m c.free.new.machine o (free c.args.ptr) is void_value table does c.args.ptr (free_slot (isa_of m.target)) c.in-Some.ensures.written c.free.ensures.holds known c.go_on.new.self c.go_on.result c.go_on.ensures

pub returns-in-None-clause-turned : goal.returns-in-None-clause-turned
returns-in-None-clause-turned g c = λ p base all first own events signatures is.
    let o = g.O.Sink.state c.args.output.now in
    let o' = g.O.Sink.state c.stop.new.output in
    let b = c.args.self.now in
    let m = c.args.machine.now in
    let x = run_state p.signatures c.args.current b m o in
    let none = sym c.free.ensures.value ∙ c.in-None.is in
    let does = free_finds_none p x.innermost b.table c.args.ptr none in
    let by = subst (λ (ss : List Signature). StoppedBy ss (NoClosure c.args.ptr) o o' c.stop.result) (sym signatures) c.stop.ensures in
    let here = stops_at p base all first own events b c.args.current m o o' (free c.args.ptr) is (NoClosure c.args.ptr) does c.stop.result by in
    let P = λ (t : Closures). Turned p base all first own (suc b.moves) (record b { table = t }) m o' c.stop.result in
    let Q = λ (n : State). Turned p base all first own (suc b.moves) (record b { table = c.free.new.self }) n o' c.stop.result in
    subst Q (sym (c.free.ensures.same_machine c.in-None.is)) (subst P (sym (c.free.ensures.same_map c.in-None.is)) here)
