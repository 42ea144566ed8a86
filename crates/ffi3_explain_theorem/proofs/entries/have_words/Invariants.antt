use Rattle.std.proofs.Common.{ℕ, ◌<◌}
use Rattle.ffi3_machine_spec.specs.Recorded.{event_at}
use Rattle.ffi3_explain_spec.specs.Laws.{HasWords}
use Rattle.ffi3_explain_theorem.proofs.entries.have_words.Given as goal

abbrev pub invariant-loop-i : goal.invariant-loop-i
invariant-loop-i l =
    (i : ℕ) → i < l.i → HasWords (event_at l.journal.events i).image
