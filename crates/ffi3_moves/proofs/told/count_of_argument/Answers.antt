use Rattle.std.proofs.Common.{length, ap, sym, ◌∙◌}
use Rattle.ffi3_moves.specs.Moves.{argument_moves}
use Rattle.ffi3_moves.proofs.Telling.{direct_count}
use Rattle.ffi3_moves.proofs.told.count_of_argument.Goals as goal

pub returns-in-Direct : goal.returns-in-Direct
returns-in-Direct c =
    λ i at t. c.len.ensures ∙ sym (direct_count c.args.way i at t _) ∙ ap (λ p. length (argument_moves c.args.way i at t p)) (sym c.in-Direct.is)

pub returns-in-ByRef : goal.returns-in-ByRef
returns-in-ByRef c =
    λ i at t. c.count_of_reference.ensures i at t _ _ ∙ ap (λ p. length (argument_moves c.args.way i at t p)) (sym c.in-ByRef.is)
