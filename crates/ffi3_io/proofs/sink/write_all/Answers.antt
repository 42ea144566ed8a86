use Rattle.std.proofs.Common.{ℕ, ◌++◌, take, sym, ◌∙◌, ap, arith, length-drop, length-take}
use Rattle.std.proofs.Math.Seq.{take-add}
use Rattle.ffi3_io.proofs.Adding.{Adds-then, Adds-along, part_of_rest}
use Rattle.ffi3_io.proofs.sink.write_all.Goals as goal

pub loop-done-preserved : goal.loop-done-preserved
loop-done-preserved g c =
    let n = c.in_ok-done.field-0 in
    let done = c.loop-done.done in
    let bytes = c.args.bytes.now in
    record {
      within = omega (arith, length-drop {A = ℕ}, length-take {A = ℕ}, c.in_ok-done.ensures.within);
      adds = Adds-along _ _ _ _ (ap (λ t. take done bytes ++ t) (part_of_rest done n bytes) ∙ sym (take-add done n bytes)) (Adds-then _ _ _ _ _ c.loop-done.invariant.adds c.in_ok-done.ensures.adds);
      same = c.in_ok-done.ensures.same ∙ c.loop-done.invariant.same;
    }
