use Rattle.ffi3_body.proofs.Fitting.{arguments_fit}
use Rattle.ffi3_body.proofs.seen.Seen.count.Goals as goal

pub returns-clause-fit : goal.returns-clause-fit
returns-clause-fit c =
    rw (← c.self.view_is) (arguments_fit c.self.inside.sig.now c.self.inside.block.now c.self.invariant.0 c.self.invariant.1)
