use Rattle.std.proofs.Common.{◌≡◌, ◌<◌, suc, List, Some, sym, ap, ◌∙◌, subst, arith}
use Rattle.std.proofs.lemmas.Bool.{lt-ltb, le-ltb}
use Rattle.ffi3_type_spec.specs.Signature.{Signature}
use Rattle.ffi3_type_spec.specs.Value.{ValueTree}
use Rattle.ffi3_type_spec.specs.TargetIsa.{isa_of}
use Rattle.ffi3_semantics_spec.specs.declared.Stop.TheVariants.{TableFull}
use Rattle.ffi3_semantics_spec.specs.declared.Closure.{Closure}
use Rattle.ffi3_semantics_spec.specs.Closures.{Closures, slots, first_free, slot_address, with_closure}
use Rattle.ffi3_semantics_spec.specs.Move.{make}
use Rattle.ffi3_semantics_spec.specs.Meaning.{Program, Activation, effect_of, pointer_value, goes_on}
use Rattle.ffi3_machine_spec.specs.Slots.{live_slot}
use Rattle.ffi3_run_state.specs.Known.{AreKnown, IsKnown}
use Rattle.ffi3_run_state.proofs.Closed.{known_with}
use Rattle.ffi3_machine_spec.specs.State.{State}
use Rattle.ffi3_run_state.specs.Going.{StoppedBy, GoneOn}
use Rattle.ffi3_run_state.specs.Between.{run_state}
use Rattle.ffi3_run_state.specs.Turned.{Turned}
use Rattle.ffi3_run_state.proofs.Acts.{make_is_full, make_goes_with}
use Rattle.ffi3_run_state.proofs.Configuring.{stops_at, made_on, made_refused}
use Rattle.ffi3_run_state.proofs.configuration.Configuration.make.Goals as goal

-- a make where a slot is free: what it does, and that its closures are known
makes_one : (p : Program) (a : Activation) (cs made : Closures) (closure : Closure) → first_free cs < slots → made ≡ with_closure cs (first_free cs) (Some closure) → AreKnown p cs → IsKnown p closure → (effect_of p a cs (make closure.func closure.user) ≡ goes_on (pointer_value (slot_address (first_free cs))) made) × AreKnown p made
makes_one p a cs made closure room is known one = (
  make_goes_with p a cs closure.func closure.sig closure.user (lt-ltb (first_free cs) slots room) one.signature ∙ ap (goes_on (pointer_value (slot_address (first_free cs)))) (sym is),
  subst (λ (t : Closures). AreKnown p t) (sym is) (known_with p cs (first_free cs) closure known one),
)

pub returns-in_default-clause-turned : goal.returns-in_default-clause-turned
returns-in_default-clause-turned g c = λ p base all first own events signatures func_below sig_below sig_is is.
    let o = g.O.Sink.state c.args.output.now in
    let o' = g.O.Sink.state c.stop.new.output in
    let b = c.args.self.now in
    let m = c.args.machine.now in
    let x = run_state p.signatures c.args.current b m o in
    let full = le-ltb (first_free b.table) slots (omega (arith, c.in_default.ensures.full)) in
    let does = make_is_full p x.innermost b.table c.args.func c.args.user full in
    let by = subst (λ (ss : List Signature). StoppedBy ss TableFull o o' c.stop.result) (sym signatures) c.stop.ensures in
    let here = stops_at p base all first own events b c.args.current m o o' (make c.args.func c.args.user) is TableFull does c.stop.result by in
    let P = λ (t : Closures). Turned p base all first own (suc b.moves) (record b { table = t }) m o' c.stop.result in
    let Q = λ (n : State). Turned p base all first own (suc b.moves) (record b { table = c.make.new.self }) n o' c.stop.result in
    subst Q (sym c.in_default.ensures.same_machine) (subst P (sym c.in_default.ensures.same_map) here)

pub returns-in-Ok-pointer-clause-turned : goal.returns-in-Ok-pointer-clause-turned
returns-in-Ok-pointer-clause-turned g c = λ p base all first own events signatures func_below sig_below sig_is is.
    let o = g.O.Sink.state c.args.output.now in
    let b = c.args.self.now in
    let a = c.args.current in
    let m = c.args.machine.now in
    let m' = c.make.new.machine in
    let table = c.make.new.self in
    let x = run_state p.signatures a b m o in
    let closure : Closure = record { func = c.args.func; sig = c.args.sig; user = c.args.user } in
    let r = pointer_value (slot_address (first_free b.table)) in
    let makes = makes_one p x.innermost b.table table closure c.in-Ok.ensures.room c.in-Ok.ensures.made is.between.known (record { function = func_below; below = sig_below; signature = sig_is }) in
    let r_is = c.in-Ok-pointer.ensures ∙ ap pointer_value c.in-Ok.ensures.address in
    let gone = subst (λ (v : ValueTree). GoneOn v a (record b { table = table }) c.go_on.new.self c.go_on.result) r_is c.go_on.ensures in
    made_on p base all first own events b a m m' o (make c.args.func c.args.user) is r table makes.0 (slot_address (first_free b.table)) (live_slot (isa_of m.target) closure) c.in-Ok.ensures.written c.in-Ok.ensures.holds makes.1 c.go_on.new.self c.go_on.result gone

pub returns-in-Err-clause-turned : goal.returns-in-Err-clause-turned
returns-in-Err-clause-turned g c = λ p base all first own events signatures func_below sig_below sig_is is.
    let o = g.O.Sink.state c.args.output.now in
    let b = c.args.self.now in
    let a = c.args.current in
    let m = c.args.machine.now in
    let m' = c.make.new.machine in
    let table = c.make.new.self in
    let x = run_state p.signatures a b m o in
    let closure : Closure = record { func = c.args.func; sig = c.args.sig; user = c.args.user } in
    let r = pointer_value (slot_address (first_free b.table)) in
    let makes = makes_one p x.innermost b.table table closure c.in-Ok.ensures.room c.in-Ok.ensures.made is.between.known (record { function = func_below; below = sig_below; signature = sig_is }) in
    made_refused p base all first own events b a m m' o (make c.args.func c.args.user) is r table makes.0 (slot_address (first_free b.table)) (live_slot (isa_of m.target) closure) c.in-Ok.ensures.written c.in-Ok.ensures.holds makes.1
