use Rattle.std.proofs.Common.{◌<◌, ◌+◌, sym, ◌∙◌, subst, arith}
use Rattle.std.specs.Prelude.{is_some}
use Rattle.ffi3_win64_spec.specs.Win64.{win64, spot_at}
use Rattle.ffi3_win64_spec.proofs.Turns.{copies_turn, places_turn, round16-near}
use Rattle.ffi3_win64.proofs.place_all.Goals as goal

pub loop-i-preserved : goal.loop-i-preserved
loop-i-preserved c =
    let s = c.args.sig.now in
    let variadic = is_some s.fixed in
    let t = c.arg-in-loop-i.result in
    let spot = spot_at variadic (c.args.first + c.loop-i.i) t in
    let inside = subst (λ n. c.loop-i.i < n) c.count-i-end.ensures.value c.loop-i-test.true in
    let placed = rw (c.is_variadic-variadic.ensures, c.arg.ensures ∙ sym c.arg-in-loop-i.ensures) at c.in_ok-place.ensures in
    let ends = c.copy_end-end.ensures.value win64.copy_start spot placed in
    record {
      near = omega (arith, c.loop-i.invariant.near, c.copy_end-end.ensures.low win64.copy_start spot placed (round16-near c.loop-i.end));
      copies = copies_turn variadic c.args.first c.loop-i.i s.arguments t inside c.arg-in-loop-i.ensures c.loop-i.end _ ends _ c.loop-i.invariant.copies;
      done = places_turn variadic c.args.first c.loop-i.i s.arguments t inside c.arg-in-loop-i.ensures c.loop-i.end _ ends c.loop-i.places _ _ _ placed c.in_ok-push.ensures.ok c.loop-i.invariant.done;
    }
