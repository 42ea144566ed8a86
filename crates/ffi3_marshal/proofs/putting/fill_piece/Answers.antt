use Rattle.std.proofs.Common.{subst, arith, rules}
use Rattle.ffi3_place_spec.specs.Sound.{IsExtended}
use Rattle.ffi3_marshal.proofs.Filling.{narrow_number, narrow_small, free_stored, boxed_stored, widened_stored, from_32_stored}
use Rattle.ffi3_marshal.proofs.putting.fill_piece.Goals as goal

pub set_piece-requires-clause-fits : goal.set_piece-requires-clause-fits
set_piece-requires-clause-fits g c = (c.requires.part.short, omega (arith, c.requires.part.within, c.requires.sized), c.requires.part.fits)

pub widened-requires-clause-kind : goal.widened-requires-clause-kind
widened-requires-clause-kind g c = rw c.as_type-plain.ensures.value (narrow_number c.args.ty.now (subst (IsExtended c.args.ty.now c.args.piece) c.in-Widen.is c.requires.part.extended).0)

pub widened_from_32-requires-clause-kind : goal.widened_from_32-requires-clause-kind
widened_from_32-requires-clause-kind g c = rw c.as_type-plain.ensures.value (narrow_number c.args.ty.now (subst (IsExtended c.args.ty.now c.args.piece) c.in-Riscv.is c.requires.part.extended).0)

pub widened-requires-clause-small : goal.widened-requires-clause-small
widened-requires-clause-small g c = rw c.as_type-plain.ensures.value (narrow_small c.args.ty.now (subst (IsExtended c.args.ty.now c.args.piece) c.in-Widen.is c.requires.part.extended).0)

pub widened_from_32-requires-clause-small : goal.widened_from_32-requires-clause-small
widened_from_32-requires-clause-small g c = rw c.as_type-plain.ensures.value (narrow_small c.args.ty.now (subst (IsExtended c.args.ty.now c.args.piece) c.in-Riscv.is c.requires.part.extended).0)

pub boxed-requires : goal.boxed-requires
boxed-requires g c =
    let four = subst (IsExtended c.args.ty.now c.args.piece) c.in-Boxed.is c.requires.part.extended in
    omega (arith, c.requires.part.within, c.requires.sized, four.1)

pub returns-in-Free-clause-stored : goal.returns-in-Free-clause-stored
returns-in-Free-clause-stored g c = free_stored c.args.base c.args.bytes.now c.args.piece (g.W.ReadImage.image c.args.state.now) (g.W.ReadImage.image c.set_piece.new.state) c.args.ty.now c.in-Free.is c.set_piece.ensures.set

pub returns-in-Widen-clause-stored : goal.returns-in-Widen-clause-stored
returns-in-Widen-clause-stored g c = widened_stored c.args.base c.args.bytes.now c.args.piece (g.W.ReadImage.image c.args.state.now) (g.W.ReadImage.image c.put_word.new.state) (search rules) c.args.ty.now c.widened.result c.in-Widen.is (subst (IsExtended c.args.ty.now c.args.piece) c.in-Widen.is c.requires.part.extended) c.requires.sized (rw c.as_type-plain.ensures.value at c.widened.ensures) c.put_word.ensures.put

pub returns-in-Riscv-clause-stored : goal.returns-in-Riscv-clause-stored
returns-in-Riscv-clause-stored g c = from_32_stored c.args.base c.args.bytes.now c.args.piece (g.W.ReadImage.image c.args.state.now) (g.W.ReadImage.image c.put_word-in-Riscv.new.state) (search rules) c.args.ty.now c.widened_from_32.result c.in-Riscv.is (subst (IsExtended c.args.ty.now c.args.piece) c.in-Riscv.is c.requires.part.extended) c.requires.sized (rw c.as_type-plain.ensures.value at c.widened_from_32.ensures) c.put_word-in-Riscv.ensures.put

pub returns-in-Boxed-clause-stored : goal.returns-in-Boxed-clause-stored
returns-in-Boxed-clause-stored g c = boxed_stored c.args.base c.args.bytes.now c.args.piece (g.W.ReadImage.image c.args.state.now) (g.W.ReadImage.image c.put_word-in-Boxed.new.state) c.args.ty.now c.boxed.result c.in-Boxed.is (subst (IsExtended c.args.ty.now c.args.piece) c.in-Boxed.is c.requires.part.extended).1 c.boxed.ensures.low c.boxed.ensures.high c.put_word-in-Boxed.ensures.put
