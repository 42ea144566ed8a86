use Rattle.std.proofs.Common.{[], replicate, ap, sym, ◌∙◌, subst}
use Rattle.ffi3_cif.specs.Runs.{PlacesHaveRuns}
use Rattle.ffi3_cif.proofs.Empty.{none_anywhere}
use Rattle.ffi3_cif.proofs.runs.runs_in_frame.Goals as goal

pub returns-then-frame-eq0 : goal.returns-then-frame-eq0
returns-then-frame-eq0 c =
    subst (PlacesHaveRuns c.args.places.now) (sym (c.empty.ensures ∙ ap (λ n. replicate n []) c.len.ensures)) (none_anywhere c.args.places.now (c.requires.empty c.if-frame-eq0.true))
