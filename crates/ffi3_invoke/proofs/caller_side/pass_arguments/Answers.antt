use Rattle.std.proofs.Common.{sym, ◌∙◌, subst, arith}
use Rattle.std.specs.Prelude.{IsSome}
use Rattle.ffi3_semantics_spec.specs.Closures.{closure_at}
use Rattle.ffi3_machine_spec.specs.Slots.{HoldsMap}
use Rattle.ffi3_invoke.specs.Calls.{AreStored}
use Rattle.ffi3_invoke.proofs.Passed.{passed}
use Rattle.ffi3_invoke.proofs.caller_side.pass_arguments.Goals as goal

pub store_args-requires-clause-room : goal.store_args-requires-clause-room
store_args-requires-clause-room g c = omega (arith, c.requires.room)

pub call-requires-clause-target : goal.call-requires-clause-target
call-requires-clause-target g c = c.store_args.ensures.within.target ∙ c.requires.target

pub call-requires-clause-room : goal.call-requires-clause-room
call-requires-clause-room g c = omega (arith, c.requires.room, c.store_args.ensures.sp)

pub call-requires-clause-frame : goal.call-requires-clause-frame
call-requires-clause-frame g c = omega (arith, c.requires.top, c.store_args.ensures.sp)

pub run_trampoline-requires-clause-holds : goal.run_trampoline-requires-clause-holds
run_trampoline-requires-clause-holds g c =
    let w = c.store_args.ensures.within in
    let called = c.call.ensures.called in
    let table = c.args.table.now in
    subst (λ t. HoldsMap t table c.call.new.machine.code) (sym (called.target ∙ w.target)) (subst (HoldsMap c.args.machine.now.target table) (sym (called.code ∙ w.code)) c.requires.holds)

pub run_trampoline-requires-clause-live : goal.run_trampoline-requires-clause-live
run_trampoline-requires-clause-live g c =
    subst (λ n. IsSome (closure_at c.args.table.now n)) (sym c.call.ensures.called.pc) c.requires.live

pub returns : goal.returns
returns g c =
    let std = g.A.Abi.standard in
    let s = c.args.cif.now in
    let m = c.args.machine.now in
    let a = c.store_args.new.machine in
    let d = c.call.new.machine in
    let sound = g.met.A.Abi.sound s in
    let w = c.store_args.ensures.within in
    let target_is = w.target ∙ c.requires.target ∙ sym g.met.A.Abi.target_is in
    let stores : AreStored std s c.args.values.now m a = record {
      own = c.store_args.ensures.own;
      filled = c.store_args.ensures.filled;
      hidden = c.store_args.ensures.hidden;
      vectors = c.store_args.ensures.vectors;
      sp = c.store_args.ensures.sp;
      within = w;
    } in
    let holds = c.call.ensures.holds c.args.values.now c.store_args.ensures.own c.store_args.ensures.filled c.store_args.ensures.hidden c.store_args.ensures.vectors in
    passed std s sound g.met.A.Abi.agrees c.args.values.now c.args.ptr m a d target_is c.facts-2.ensures c.facts-3.ensures c.requires.room c.requires.top c.store_args.ensures.sp w c.call.ensures.called _ (search) (search) c.call.ensures.whole stores c.store_args.ensures.preserved c.call.ensures.preserved c.store_args.ensures.reserved c.call.ensures.reserved holds
