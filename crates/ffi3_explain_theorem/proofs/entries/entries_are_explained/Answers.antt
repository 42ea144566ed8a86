use Rattle.std.proofs.Common.{subst}
use Rattle.std.specs.List.{AllByRecursion}
use Rattle.ffi3_machine_spec.specs.Recorded.{Recorded}
use Rattle.ffi3_explain_spec.specs.Laws.{HasWords}
use Rattle.ffi3_explain_theorem.proofs.entries.entries_are_explained.Goals as goal

pub returns : goal.returns
returns g c = λ top held n unfinished trace answers. let words = subst (λ (j : Recorded). AllByRecursion (λ e. HasWords e.image) j.events) c.events.ensures c.have_words.ensures in
    c.entry_laws.ensures g.A.Abi.standard held c.args.cifs.now unfinished trace c.args.machine.now.events (λ s _. g.met.A.Abi.sound s) c.are_right.ensures words top n answers
