use Rattle.std.proofs.Common.{sym, ◌∙◌}
use Rattle.std.proofs.lemmas.Result.{IfOk-weaker}
use Rattle.ffi3_next_move.proofs.Asked.{fits_as}
use Rattle.ffi3_next_move.proofs.natives.next_of.Goals as goal

pub returns-clause-fits : goal.returns-clause-fits
returns-clause-fits g c =
    IfOk-weaker c.next_in.result _ _ (λ m fits. fits_as _ _ _ _ _ _ c.sigs_of.ensures.itself (c.requires.own ∙ sym c.sigs_of.ensures.own) fits) c.next_in.ensures.fits
