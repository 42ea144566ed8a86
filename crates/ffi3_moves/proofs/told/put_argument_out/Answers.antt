use Rattle.std.proofs.Common.{◌+◌, length, ap, sym, ◌∙◌, arith}
use Rattle.ffi3_moves.specs.Moves.{argument_out}
use Rattle.ffi3_moves.proofs.Telling.{pieces_out_count}
use Rattle.ffi3_moves.proofs.told.put_argument_out.Goals as goal

pub put_pieces_out-requires-clause-room : goal.put_pieces_out-requires-clause-room
put_pieces_out-requires-clause-room c =
    omega (arith, rw c.in-Direct.is at c.requires.room, pieces_out_count c.args.part c.args.to c.in-Direct.pieces)

pub returns-in-Direct-clause-end : goal.returns-in-Direct-clause-end
returns-in-Direct-clause-end c =
    c.put_pieces_out.ensures.end ∙ ap (λ n. c.args.at + n) (sym (pieces_out_count c.args.part c.args.to c.in-Direct.pieces) ∙ ap (λ p. length (argument_out c.args.part c.args.to c.args.ty.now p)) (sym c.in-Direct.is))
