use Rattle.std.proofs.Common.{arith}
use Rattle.ffi3_machine_spec.specs.Recorded.{event_at}
use Rattle.ffi3_explain_spec.specs.Laws.{HasWords}
use Rattle.ffi3_explain_theorem.proofs.Recorded.{all_events, one_further}
use Rattle.ffi3_explain_theorem.proofs.entries.have_words.Goals as goal

pub loop-i-init : goal.loop-i-init
loop-i-init c = λ i h. absurd (omega (arith, h))

pub loop-i-preserved : goal.loop-i-preserved
loop-i-preserved c =
    one_further (λ i. HasWords (event_at c.args.journal.now.events i).image) c.loop-i.i c.loop-i.invariant c.has_words.ensures

pub returns : goal.returns
returns c =
    all_events c.args.journal.now.events (λ i h. c.loop-i.invariant i (omega (arith, h)))
