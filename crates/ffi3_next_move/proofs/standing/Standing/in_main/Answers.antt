use Rattle.std.proofs.Common.{sym, ◌∙◌, subst}
use Rattle.ffi3_next_move.specs.Stands.{IsInBody}
use Rattle.ffi3_next_move.proofs.standing.Standing.in_main.Goals as goal

pub returns-clause-agrees : goal.returns-clause-agrees
returns-clause-agrees c natives a own none =
    subst (λ b. IsInBody b a c.before_moves.result) c.main.ensures.is (c.before_moves.ensures a (own ∙ sym c.main.ensures.own_is) none)
