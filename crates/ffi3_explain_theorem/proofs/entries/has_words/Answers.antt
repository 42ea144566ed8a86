use Rattle.std.specs.Prelude.{◌^◌}
use Rattle.std.proofs.Common.{◌<◌, get_or, subst}
use Rattle.ffi3_place_spec.specs.Event.{Event}
use Rattle.ffi3_explain_theorem.proofs.entries.has_words.Goals as goal

pub returns : goal.returns
returns c =
    let same = c.get-event.ensures in
    record {
      general = λ r. subst (λ (e : Event). get_or e.image.general r 0 < 2 ^ 64) same (c.are_small.ensures.general r);
      floating = λ r. subst (λ (e : Event). get_or e.image.floating r 0 < 2 ^ 64) same (c.are_small.ensures.floating r);
      bytes = λ i. subst (λ bytes. get_or bytes i 0 < 256) c.stack.ensures (c.are_small.ensures.stack i);
    }
