use Rattle.std.proofs.Common.{ℕ, ◌+◌, ◌-◌, ap, subst, sym, ◌∙◌}
use Rattle.ffi3_values.specs.ValueOf.{value_of}
use Rattle.ffi3_place_spec.specs.Holds.{HoldsResult}
use Rattle.ffi3_place_spec.specs.Standard.{frame_of, plan_of}
use Rattle.ffi3_machine_spec.specs.State.{image_of}
use Rattle.ffi3_machine_transfer.specs.Passing.{passing}
use Rattle.ffi3_callee.specs.Loaded.{image_from}
use Rattle.ffi3_callee.specs.Received.{hidden_of}
use Rattle.ffi3_callee.specs.Saved.{AreSaved}
use Rattle.ffi3_callee.proofs.Answered.{answered}
use Rattle.ffi3_callee.proofs.Keeping.{reserved_then}
use Rattle.ffi3_callee.proofs.Results.{written_target}
use Rattle.ffi3_callee.proofs.WayBack.{held_registers, same_reserved}
use Rattle.ffi3_callee.proofs.activation.answer.Goals as goal

pub give_result-requires-clause-target : goal.give_result-requires-clause-target
give_result-requires-clause-target g c = c.receive-incoming.ensures.received.within.target ∙ c.requires.target

pub go_back-requires-clause-target : goal.go_back-requires-clause-target
go_back-requires-clause-target g c =
    let std = g.A.Abi.standard in
    let s = c.args.cif.now in
    written_target (c.receive-incoming.result.entry + std.link) s.result_type (plan_of std s).res (passing c.receive-incoming.new.machine) (passing c.give_result.new.machine) c.give_result.ensures.writes ∙ c.receive-incoming.ensures.received.within.target ∙ c.requires.target

pub returns : goal.returns
returns g c =
    let std = g.A.Abi.standard in
    let s = c.args.cif.now in
    let m = c.args.machine.now in
    let v = value_of c.args.value.now in
    let agrees = g.met.A.Abi.agrees in
    let base = m.sp + std.link in
    let hidden = hidden_of (plan_of std s).res in
    let taken = c.receive-incoming.new.machine in
    let received = c.receive-incoming.ensures in
    let given = c.give_result.new.machine in
    let gave = c.give_result.ensures in
    let back = c.go_back.ensures in
    let saved = subst (λ n. AreSaved (n - std.save) (m.sp + std.link) (hidden_of (plan_of std s).res) std.save_area m taken) (sym received.entry) received.received.saved in
    let hold = λ (len : ℕ). held_registers std agrees (c.receive-incoming.result.entry - std.save) base len hidden m given (gave.saved base hidden m saved) in
    record {
      kept = λ len room. back.kept (image_of len m) room (sym received.entry) (hold len) (same_reserved std agrees len m given (reserved_then std m taken given received.reserved gave.reserved));
      holds = back.keeps (m.sp + std.link) v (subst (λ n. HoldsResult std s v (image_from (n + std.link) (frame_of std s) (passing given))) received.entry gave.holds);
      sp = back.back.sp ∙ ap (λ n. n + std.link) received.entry;
      answered = answered std s agrees m taken given c.go_back.new.machine c.receive-incoming.result.entry (c.requires.target ∙ sym g.met.A.Abi.target_is) received.entry c.requires.room c.requires.frame c.facts.ensures.stack received.received gave.writes back.back (hold 0);
    }
