use Rattle.std.proofs.Common.{◌≡◌, ◌+◌, refl, ap, sym, ◌∙◌, arith}
use Rattle.ffi3_place_spec.specs.Standard.{block_bytes, frame_of, need_of}
use Rattle.ffi3_semantics_spec.specs.Move.{call}
use Rattle.ffi3_run_state.proofs.Configuring.{refused}
use Rattle.ffi3_run_state.proofs.Moving.{looks_as_itself, looks_same}
use Rattle.ffi3_run_state.proofs.Passing.{is_passed}
use Rattle.ffi3_run_state.proofs.configuration.Configuration.pass.Goals as goal

pub returns-in_default-clause-refused : goal.returns-in_default-clause-refused
returns-in_default-clause-refused g c = λ p base all first own events current o is.
    refused p base all first own events c.args.self.now current c.args.machine.now o o (call c.args.ptr c.args.sig c.args.args.now) c.args.machine.now (looks_as_itself c.args.machine.now) is

pub returns-in_default-journal_room-clause-refused : goal.returns-in_default-journal_room-clause-refused
returns-in_default-journal_room-clause-refused g c = λ p base all first own events current o is.
    refused p base all first own events c.args.self.now current c.args.machine.now o o (call c.args.ptr c.args.sig c.args.args.now) c.journal_room.new.self (looks_same c.args.machine.now c.journal_room.new.self c.in_default-journal_room.ensures.err) is

pub pass_arguments-requires-clause-room : goal.pass_arguments-requires-clause-room
pass_arguments-requires-clause-room g c =
    let std = g.A.Abi.standard in
    let s = c.get-cif.result.now in
    let need : need_of std s ≡ frame_of std s + std.link + std.save + block_bytes s = refl in
    let same = ap (need_of std) c.get-cif.ensures in
    let can = c.requires.can.1 in
    let sp = ap (λ m. m.sp) c.in-Ok-journal_room.ensures.ok in
    omega (arith, need, same, can.room, sp)

pub returns-clause-passed : goal.returns-clause-passed
returns-clause-passed g c =
    let std = g.A.Abi.standard in
    let s = c.get-cif.result.now in
    let m = c.args.machine.now in
    let len : c.LINK.result + c.frame.result ≡ std.link + frame_of std s = omega (arith, c.LINK.ensures, g.met.A.Abi.link_is, c.frame.ensures) in
    is_passed std s _ c.args.ptr (c.LINK.result + c.frame.result) c.args.args.now m c.journal_room.new.self c.pass_arguments.new.machine c.get-cif.ensures len c.in-Ok-journal_room.ensures.ok c.facts.ensures.stack (c.requires.target ∙ sym g.met.A.Abi.target_is) c.requires.can.1.room c.requires.top c.pass_arguments.ensures
