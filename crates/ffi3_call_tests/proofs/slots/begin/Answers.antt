use Rattle.std.proofs.Common.{◌≡◌, ◌+◌, ◌∙◌, refl, arith}
use Rattle.ffi3_place_spec.specs.Standard.{block_bytes, frame_of, need_of}
use Rattle.ffi3_call_tests.proofs.slots.begin.Goals as goal

pub pass_arguments-requires-clause-room : goal.pass_arguments-requires-clause-room
pass_arguments-requires-clause-room g c =
    let std = g.A.Abi.standard in
    let s = c.args.cif.now in
    let need : need_of std s ≡ frame_of std s + std.link + std.save + block_bytes s = refl in
    omega (arith, need, c.requires.room)

pub overwrite-requires-clause-entry : goal.overwrite-requires-clause-entry
overwrite-requires-clause-entry g c = c.pass_arguments.ensures.pc

pub overwrite-requires-clause-target : goal.overwrite-requires-clause-target
overwrite-requires-clause-target g c = c.pass_arguments.ensures.within.target ∙ c.requires.target

pub overwrite-requires-clause-low : goal.overwrite-requires-clause-low
overwrite-requires-clause-low g c =
    let std = g.A.Abi.standard in
    let s = c.args.cif.now in
    let need : need_of std s ≡ frame_of std s + std.link + std.save + block_bytes s = refl in
    omega (arith, need, c.requires.room, c.pass_arguments.ensures.sp)

pub overwrite-requires-clause-frame : goal.overwrite-requires-clause-frame
overwrite-requires-clause-frame g c = omega (arith, c.requires.top, c.pass_arguments.ensures.sp)

pub overwrite-requires-clause-some : goal.overwrite-requires-clause-some
overwrite-requires-clause-some g c = (c.args.args.now, c.pass_arguments.ensures.holds.own)

pub accept-requires-clause-target : goal.accept-requires-clause-target
accept-requires-clause-target g c =
    c.overwrite.ensures.within.target ∙ c.pass_arguments.ensures.within.target ∙ c.requires.target

pub accept-requires-clause-entry : goal.accept-requires-clause-entry
accept-requires-clause-entry g c = c.overwrite.ensures.within.pc ∙ c.pass_arguments.ensures.pc

pub accept-requires-clause-room : goal.accept-requires-clause-room
accept-requires-clause-room g c =
    let std = g.A.Abi.standard in
    let s = c.args.cif.now in
    let need : need_of std s ≡ frame_of std s + std.link + std.save + block_bytes s = refl in
    omega (arith, need, c.requires.room, c.overwrite.ensures.sp, c.pass_arguments.ensures.sp)

pub accept-requires-clause-frame : goal.accept-requires-clause-frame
accept-requires-clause-frame g c =
    omega (arith, c.requires.top, c.overwrite.ensures.sp, c.pass_arguments.ensures.sp)

pub accept-requires-clause-some : goal.accept-requires-clause-some
accept-requires-clause-some g c =
    (c.args.args.now, c.overwrite.ensures.own c.args.args.now c.pass_arguments.ensures.holds.own)

pub accept-requires-clause-events : goal.accept-requires-clause-events
accept-requires-clause-events g c =
    omega (arith, c.requires.events, c.overwrite.ensures.within.spare_events, c.pass_arguments.ensures.spare_events)

pub accept-requires-clause-bytes : goal.accept-requires-clause-bytes
accept-requires-clause-bytes g c =
    omega (arith, c.requires.bytes, c.overwrite.ensures.within.spare_bytes, c.pass_arguments.ensures.spare_bytes)

pub returns-clause-called : goal.returns-clause-called
returns-clause-called g c =
    let passed = c.pass_arguments.ensures in
    let written = c.overwrite.ensures in
    (_, c.accept.ensures.in_callee (written.return_address passed.return_address) (omega (arith, c.requires.events, written.within.spare_events, passed.spare_events)) (omega (arith, c.requires.bytes, written.within.spare_bytes, passed.spare_bytes)))
