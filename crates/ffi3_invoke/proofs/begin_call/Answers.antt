use Rattle.std.proofs.Common.{◌≡◌, ◌+◌, ◌∙◌, refl, arith}
use Rattle.ffi3_place_spec.specs.Standard.{block_bytes, frame_of, need_of}
use Rattle.ffi3_invoke.proofs.Made.{begun}
use Rattle.ffi3_invoke.proofs.begin_call.Goals as goal

pub pass_arguments-requires-clause-room : goal.pass_arguments-requires-clause-room
pass_arguments-requires-clause-room g c =
    let std = g.A.Abi.standard in
    let s = c.args.cif.now in
    let need : need_of std s ≡ frame_of std s + std.link + std.save + block_bytes s = refl in
    omega (arith, need, c.requires.room)

pub accept-requires : goal.accept-requires
accept-requires g c =
    let std = g.A.Abi.standard in
    let s = c.args.cif.now in
    let passed = c.pass_arguments.ensures in
    let need : need_of std s ≡ frame_of std s + std.link + std.save + block_bytes s = refl in
    record {
      target = passed.within.target ∙ c.requires.target;
      entry = passed.pc;
      room = omega (arith, need, c.requires.room, passed.sp);
      frame = omega (arith, c.requires.top, passed.sp);
      some = (c.args.values.now, passed.holds.own);
      events = omega (arith, c.requires.events, passed.spare_events);
      bytes = omega (arith, c.requires.bytes, passed.spare_bytes);
    }

pub returns-clause-begun : goal.returns-clause-begun
returns-clause-begun g c =
    let std = g.A.Abi.standard in
    let s = c.args.cif.now in
    let e = c.accept.ensures in
    let passed = c.pass_arguments.ensures in
    let in_callee = e.in_callee passed.return_address (omega (arith, c.requires.events, passed.spare_events)) (omega (arith, c.requires.bytes, passed.spare_bytes)) in
    begun std s g.met.A.Abi.agrees c.args.values.now c.args.ptr c.args.machine.now c.pass_arguments.new.machine c.accept.new.machine c.facts.ensures.stack c.requires.room c.requires.top passed e.events e.received e.sp e.within e.reserved e.spare_events e.spare_bytes e.steps in_callee
