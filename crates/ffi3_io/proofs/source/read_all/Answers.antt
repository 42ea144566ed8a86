use Rattle.std.proofs.Common.{◌≡◌, ◌∙◌, ap, List, ℕ, length, refl, sym, subst, arith}
use Rattle.std.proofs.lemmas.Grind.{common_steps}
use Rattle.ffi3_io_spec.specs.Source.{Gives, HasRead, not_yet, at_limit}
use Rattle.ffi3_io.proofs.Giving.{LosesSome-then, Gives-none, Gives-then}
use Rattle.ffi3_io.proofs.Reading.{one_more_read, read_to_end, read_failed, read_all_along}
use Rattle.ffi3_io.proofs.source.read_all.Goals as goal
use Rattle.ffi3_io.proofs.source.read_all.Goals.{else-loop-buf-test, then-loop-buf-test+in-Ok-eq0}

pub loop-buf-init : goal.loop-buf-init
loop-buf-init g c =
    let input = c.args.input.now in
    let left = (g.I.Source.state input).left in
    let none = sym c.new-bytes.ensures.items in
    record {
      within = omega (arith, c.new-bytes.ensures.len);
      room = refl;
      reads = subst (λ (l : List ℕ). HasRead g.I.Source.read_gives c.args.limit input l input) none not_yet;
      gives = subst (λ (l : List ℕ). Gives left l left) none (Gives-none left);
      same = refl;
    }

pub loop-buf-preserved : goal.loop-buf-preserved
loop-buf-preserved g c =
    let some = c.in-Ok.field-0-test.1 in
    let more = c.in-Ok.ensures.gives in
    record {
      within = grind (arith, common_steps);
      room = grind (arith, common_steps);
      reads = one_more_read g.I.Source.read_gives _ _ _ _ _ _ c.loop-buf.invariant.reads c.in-Ok.field-0 (omega (arith, some)) c.in-Ok.ensures.one;
      gives = subst (λ (l : List ℕ). Gives (g.I.Source.state c.args.input.now).left l (g.I.Source.state c.read_on.new.input).left) (sym more.2) (Gives-then _ _ _ _ _ c.loop-buf.invariant.gives more.3);
      same = c.in-Ok.ensures.same ∙ c.loop-buf.invariant.same;
    }

pub returns-in-Err-clause-lost : goal.returns-in-Err-clause-lost
returns-in-Err-clause-lost g c =
    LosesSome-then _ _ _ _ _ c.loop-buf.bytes.items (omega arith) (omega arith) c.loop-buf.invariant.gives c.in-Err.ensures.lost

pub returns-in-Err-clause-broke : goal.returns-in-Err-clause-broke
returns-in-Err-clause-broke g c = λ e.
    read_failed g.I.Source.read_gives _ _ _ _ _ c.loop-buf.invariant.reads (c.in-Err.ensures.broke e)

pub returns-in-Err-clause-until : goal.returns-in-Err-clause-until
returns-in-Err-clause-until g c = λ e.
    let h = c.in-Err.ensures.until e in
    (h.2, one_more_read g.I.Source.read_gives _ _ _ _ _ _ c.loop-buf.invariant.reads h.0 h.1 h.3)

pub returns-clause-read : goal.returns-clause-read
returns-clause-read g c =
    let reads = g.I.Source.read_gives in
    let so_far = c.loop-buf.invariant.reads in
    elim c.loop-buf-test.branch [
      | else-loop-buf-test w ↦ let full : length c.loop-buf.bytes.items ≡ c.args.limit = grind (arith, common_steps) in
          read_all_along reads _ _ _ _ _ _ (ap (λ b. b.items) w.bytes-is) w.input-is (at_limit so_far full)
      | then-loop-buf-test+in-Ok-eq0 w ↦ let ended = read_to_end reads _ _ _ _ _ _ so_far _ w.in-Ok-eq0.field-0-test w.in-Ok-eq0.ensures.one in
          read_all_along reads _ _ _ _ _ _ (ap (λ b. b.items) w.bytes-is) w.input-is ended
    ]
