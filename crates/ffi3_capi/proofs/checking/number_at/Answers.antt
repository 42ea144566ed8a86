use Rattle.std.proofs.Common.{sym, ◌∙◌}
use Rattle.ffi3_capi.proofs.Checks.{number_there, no_number_there}
use Rattle.ffi3_capi.proofs.checking.number_at.Goals as goal

pub returns-in-Some : goal.returns-in-Some
returns-in-Some c =
    c.expected_number.ensures ∙ number_there c.args.kinds.now c.args.i c.in-Some.kind (sym c.kind_at.ensures ∙ c.in-Some.is)

pub returns-in-None : goal.returns-in-None
returns-in-None c =
    no_number_there c.args.kinds.now c.args.i (sym c.kind_at.ensures ∙ c.in-None.is)
