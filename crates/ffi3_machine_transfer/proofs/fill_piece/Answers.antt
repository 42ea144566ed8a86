use Rattle.std.specs.Prelude.{refl}
use Rattle.std.proofs.Common.{◌≡◌, ◌-◌, length, sym, subst, rules}
use Rattle.ffi3_type_spec.specs.Value.{value_in}
use Rattle.ffi3_machine_transfer.specs.Passing.{passing}
use Rattle.ffi3_machine_transfer.specs.Stored.{IsPlace, IsSetAndFilled}
use Rattle.ffi3_machine_transfer.proofs.Imaged.{filled_there, taken, within_there}
use Rattle.ffi3_machine_transfer.proofs.fill_piece.Goals as goal

pub fill_piece-requires-clause-lies : goal.fill_piece-requires-clause-lies
fill_piece-requires-clause-lies c =
    subst (λ n. IsPlace n c.args.piece.loc) (sym c.offset_of-start.ensures.room) c.requires.lies

pub fill_piece-requires-clause-takes : goal.fill_piece-requires-clause-takes
fill_piece-requires-clause-takes c = taken c.args.machine.now.target c.args.piece.loc c.requires.writable

pub returns : goal.returns
returns c =
    let start = c.offset_of-start.result in
    let old = passing c.args.machine.now in
    let new = passing c.fill_piece.new.state.machine.now in
    let same = c.fill_piece.ensures.within (length old.stack - start) (subst (λ n. IsPlace n c.args.piece.loc) (sym c.offset_of-start.ensures.room) c.requires.lies) in
    let machine : c.machine-1.given.0 ≡ c.fill_piece.new.state.machine.now = search rules in
    subst (λ x. IsSetAndFilled c.args.base c.args.ty.now (value_in c.args.ty.now c.args.bytes.now) c.args.bytes.now c.args.piece (passing c.args.machine.now) (passing x)) (sym machine)
    (filled_there c.args.base start c.offset_of-start.ensures.at old new c.args.ty.now (value_in c.args.ty.now c.args.bytes.now) c.args.bytes.now c.args.piece refl same.1.sp (λ n lies. within_there c.args.base start c.offset_of-start.ensures.at old new n (c.fill_piece.ensures.within n lies).1.within) c.fill_piece.ensures.stored)
