use Rattle.std.proofs.Common.{◌+◌, ◌∙◌, arith}
use Rattle.ffi3_place_spec.specs.Standard.{plan_of}
use Rattle.ffi3_values.specs.ValueOf.{value_of}
use Rattle.ffi3_machine_transfer.specs.Passing.{passing}
use Rattle.ffi3_callee.proofs.Results.{written_target}
use Rattle.ffi3_invoke.proofs.Returned.{asked, returned}
use Rattle.ffi3_invoke.proofs.callee_return.give_back.Goals as goal

pub give_result-requires-clause-target : goal.give_result-requires-clause-target
give_result-requires-clause-target g c = c.requires.called.1.target ∙ g.met.A.Abi.target_is

pub go_back-requires-clause-target : goal.go_back-requires-clause-target
go_back-requires-clause-target g c =
    let std = g.A.Abi.standard in
    let s = c.args.cif.now in
    written_target (c.args.incoming.entry + std.link) s.result_type (plan_of std s).res (passing c.args.machine.now) (passing c.give_result.new.machine) c.give_result.ensures.writes ∙ c.requires.called.1.target ∙ g.met.A.Abi.target_is

pub record_return-requires : goal.record_return-requires
record_return-requires g c =
    let std = g.A.Abi.standard in
    let s = c.args.cif.now in
    let called = c.requires.called.1 in
    let ask = asked std s g.met.A.Abi.agrees (value_of c.args.value.now) c.args.incoming c.args.machine.now c.give_result.new.machine c.go_back.new.machine called.target c.facts.ensures.stack c.requires.incoming c.requires.block c.give_result.ensures.writes c.give_result.ensures.reserved c.go_back.ensures.back c.go_back.ensures.reserved c.requires.called.0 called in
    record {
      at_return = ask.0;
      low = ask.1;
      high = omega (arith, ask.2, c.frame.ensures);
      events = omega (arith, ask.3, called.room);
      bytes = omega (arith, ask.4, called.bytes, c.frame.ensures);
    }

pub returns : goal.returns
returns g c =
    let std = g.A.Abi.standard in
    let s = c.args.cif.now in
    let agrees = g.met.A.Abi.agrees in
    let incoming = c.args.incoming in
    let called = c.requires.called.1 in
    let v = value_of c.args.value.now in
    returned std s agrees v incoming c.args.machine.now c.give_result.new.machine c.go_back.new.machine called.target c.facts.ensures.stack c.requires.incoming c.requires.block c.give_result.ensures.writes c.give_result.ensures.reserved c.go_back.ensures.back c.go_back.ensures.reserved c.frame.result c.record_return.new.machine c.frame.ensures c.record_return.ensures c.go_back.ensures.kept (c.go_back.ensures.keeps (incoming.entry + std.link) v c.give_result.ensures.holds) c.requires.called.0 called
