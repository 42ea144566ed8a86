use Rattle.std.proofs.Common.{◌∙◌, subst, arith}
use Rattle.ffi3_values.specs.ValueOf.{value_of}
use Rattle.ffi3_machine_transfer.specs.Passing.{passing}
use Rattle.ffi3_machine_transfer.specs.Stored.{IsSetAndFilled}
use Rattle.ffi3_machine_transfer.proofs.Loading.{piece_stored}
use Rattle.ffi3_machine_transfer.proofs.store_piece.Goals as goal

pub load_piece-requires-clause-within : goal.load_piece-requires-clause-within
load_piece-requires-clause-within c = (c.requires.part.short, omega (arith, c.requires.part.within, c.requires.sized), c.requires.part.fits)

pub returns-clause-stored : goal.returns-clause-stored
returns-clause-stored c =
    let sized = c.load_piece.ensures.sized ∙ c.requires.sized in
    let written = rw c.as_type.ensures.value at c.write_bytes.ensures in
    let filled = subst (λ u. IsSetAndFilled c.args.base c.args.ty.now u c.write_bytes.new.out c.args.piece (passing c.args.machine.now) (passing c.fill_piece.new.machine)) written.reads_back c.fill_piece.ensures in
    piece_stored c.args.base c.args.ty.now (value_of c.args.value.now) c.args.bytes.now c.load_piece.new.out c.write_bytes.new.out c.args.piece (passing c.args.machine.now) (passing c.fill_piece.new.machine) (omega (arith, c.requires.part.within, sized)) c.load_piece.ensures written filled
