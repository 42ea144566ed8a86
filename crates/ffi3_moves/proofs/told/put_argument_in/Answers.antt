use Rattle.std.proofs.Common.{◌+◌, length, ap, sym, ◌∙◌, arith}
use Rattle.ffi3_moves.specs.Moves.{argument_in}
use Rattle.ffi3_moves.proofs.Telling.{pieces_in_count}
use Rattle.ffi3_moves.proofs.told.put_argument_in.Goals as goal

pub put_pieces_in-requires-clause-room : goal.put_pieces_in-requires-clause-room
put_pieces_in-requires-clause-room c =
    omega (arith, rw c.in-Direct.is at c.requires.room, pieces_in_count c.args.part c.args.from c.args.ty.now c.in-Direct.pieces)

pub returns-in-Direct-clause-end : goal.returns-in-Direct-clause-end
returns-in-Direct-clause-end c =
    c.put_pieces_in.ensures.end ∙ ap (λ n. c.args.at + n) (sym (pieces_in_count c.args.part c.args.from c.args.ty.now c.in-Direct.pieces) ∙ ap (λ p. length (argument_in c.args.part c.args.from c.args.ty.now p)) (sym c.in-Direct.is))
