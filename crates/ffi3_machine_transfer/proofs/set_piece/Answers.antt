use Rattle.std.proofs.Common.{◌≡◌, ◌-◌, length, sym, subst, rules}
use Rattle.ffi3_machine_transfer.specs.Passing.{passing}
use Rattle.ffi3_machine_transfer.specs.Stored.{IsPlace, IsSet}
use Rattle.ffi3_machine_transfer.proofs.Imaged.{set_there, taken, within_there}
use Rattle.ffi3_machine_transfer.proofs.set_piece.Goals as goal

pub set_piece-requires-clause-lies : goal.set_piece-requires-clause-lies
set_piece-requires-clause-lies c =
    subst (λ n. IsPlace n c.args.piece.loc) (sym c.offset_of-start.ensures.room) c.requires.lies

pub set_piece-requires-clause-takes : goal.set_piece-requires-clause-takes
set_piece-requires-clause-takes c = taken c.args.machine.now.target c.args.piece.loc c.requires.writable

pub returns : goal.returns
returns c =
    let start = c.offset_of-start.result in
    let old = passing c.args.machine.now in
    let new = passing c.set_piece.new.state.machine.now in
    let same = c.set_piece.ensures.within (length old.stack - start) (subst (λ n. IsPlace n c.args.piece.loc) (sym c.offset_of-start.ensures.room) c.requires.lies) in
    let machine : c.machine-1.given.0 ≡ c.set_piece.new.state.machine.now = search rules in
    subst (λ x. IsSet c.args.base c.args.piece c.args.bytes.now (passing c.args.machine.now) (passing x)) (sym machine)
    (set_there c.args.base start c.offset_of-start.ensures.at old new c.args.piece c.args.bytes.now same.1.sp (λ n lies. within_there c.args.base start c.offset_of-start.ensures.at old new n (c.set_piece.ensures.within n lies).1.within) c.set_piece.ensures.set)
