use Rattle.std.proofs.Common.{◌≤◌, ◌∙◌}
use Rattle.ffi3_type_spec.specs.declared.limits.TheConstants.{STACK}
use Rattle.ffi3_values.specs.ValueOf.{value_of}
use Rattle.ffi3_invoke.proofs.Made.{callee_low, ended, frame_fits, returned_target, start_high, start_low}
use Rattle.ffi3_invoke.proofs.end_call.Goals as goal

pub come_back-requires-clause-target : goal.come_back-requires-clause-target
come_back-requires-clause-target g c =
    returned_target g.A.Abi.standard c.args.cif.now (value_of c.args.value.now) c.args.machine.now c.give_back.new.machine c.give_back.ensures ∙ c.requires.called.1.target ∙ g.met.A.Abi.target_is

pub come_back-requires-clause-at_return : goal.come_back-requires-clause-at_return
come_back-requires-clause-at_return g c = c.give_back.ensures.pc

pub come_back-requires-clause-frame : goal.come_back-requires-clause-frame
come_back-requires-clause-frame g c =
    frame_fits g.A.Abi.standard c.args.cif.now (value_of c.args.value.now) c.args.incoming c.args.machine.now c.give_back.new.machine c.requires.incoming c.requires.block c.give_back.ensures

pub load_result-requires-clause-bottom : goal.load_result-requires-clause-bottom
load_result-requires-clause-bottom g c =
    let low : STACK ≤ c.args.machine.now.sp = callee_low g.A.Abi.standard c.args.cif.now c.args.incoming c.args.machine.now.sp c.requires.incoming c.requires.block in
    start_low g.A.Abi.standard c.args.cif.now (value_of c.args.value.now) c.args.machine.now c.give_back.new.machine c.come_back.new.machine low c.give_back.ensures c.come_back.ensures.back

pub load_result-requires-clause-frame : goal.load_result-requires-clause-frame
load_result-requires-clause-frame g c =
    let fits = frame_fits g.A.Abi.standard c.args.cif.now (value_of c.args.value.now) c.args.incoming c.args.machine.now c.give_back.new.machine c.requires.incoming c.requires.block c.give_back.ensures in
    start_high g.A.Abi.standard c.args.cif.now c.give_back.new.machine c.come_back.new.machine fits c.come_back.ensures.back

pub drop_frame-requires : goal.drop_frame-requires
drop_frame-requires g c =
    let fits = frame_fits g.A.Abi.standard c.args.cif.now (value_of c.args.value.now) c.args.incoming c.args.machine.now c.give_back.new.machine c.requires.incoming c.requires.block c.give_back.ensures in
    record {
      frame = start_high g.A.Abi.standard c.args.cif.now c.give_back.new.machine c.come_back.new.machine fits c.come_back.ensures.back;
    }

pub returns-clause-ended : goal.returns-clause-ended
returns-clause-ended g c =
    let low : STACK ≤ c.args.machine.now.sp = callee_low g.A.Abi.standard c.args.cif.now c.args.incoming c.args.machine.now.sp c.requires.incoming c.requires.block in
    ended g.A.Abi.standard c.args.cif.now g.met.A.Abi.agrees (value_of c.args.value.now) c.args.machine.now c.give_back.new.machine c.come_back.new.machine low c.give_back.ensures c.come_back.ensures.back c.come_back.ensures.reserved c.drop_frame.new.machine c.drop_frame.ensures

pub returns-clause-value : goal.returns-clause-value
returns-clause-value g c =
    c.load_result.ensures.value (value_of c.args.value.now) (c.come_back.ensures.owns (value_of c.args.value.now) (c.give_back.ensures.is_return c.requires.called.0 c.requires.called.1).holds.own)
