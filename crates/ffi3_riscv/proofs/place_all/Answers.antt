use Rattle.std.proofs.Common.{◌<◌, ap, refl, subst, arith}
use Rattle.ffi3_type_spec.specs.Tree.{tree_at}
use Rattle.ffi3_place.specs.WithoutCopy.{without_copy}
use Rattle.ffi3_riscv_spec.proofs.Turns.{taken_turn, places_turn}
use Rattle.ffi3_riscv.proofs.place_all.Goals as goal

pub loop-i-preserved : goal.loop-i-preserved
loop-i-preserved c =
    let s = c.args.sig.now in
    let i = c.loop-i.i in
    let t = tree_at s.arguments i in
    let from = c.passed_after-passed.result.before in
    let shape = c.passed_after-passed.result.shape in
    let inside = subst (λ n. i < n) c.count-i-end.ensures.value c.loop-i-test.true in
    let begins = c.passed_after-passed.ensures.before in
    let passed = c.passed_after-passed.ensures.shape in
    let taken = c.taken_by_shape-taken.ensures in
    record {
      few = omega (arith, ap (λ u. u.floats) taken, c.passed_after-passed.ensures.free);
      low = omega (arith, ap (λ u. u.words) taken, c.passed_after-passed.ensures.small, c.passed_after-passed.ensures.near, c.loop-i.invariant.low);
      taken = taken_turn s.fixed c.loop-i.taken from _ i s.arguments t shape inside refl begins passed taken _ c.loop-i.invariant.taken;
      done = places_turn s.fixed c.loop-i.taken from _ i s.arguments t shape inside refl begins passed taken without_copy c.loop-i.places _ _ _ (rw c.arg.ensures at c.in_ok-place.ensures) c.in_ok-push.ensures.ok c.loop-i.invariant.done;
    }
