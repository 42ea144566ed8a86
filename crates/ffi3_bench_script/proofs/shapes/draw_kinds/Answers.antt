use Rattle.std.proofs.Common.{◌∷◌, [], ◌+◌, length, ap, ◌∙◌}
use Rattle.std.proofs.lemmas.List.{length-append}
use Rattle.ffi3_bench_script.specs.KindOf.{state_of}
use Rattle.ffi3_bench_script.proofs.Loops.{draws-turn, state-turn}
use Rattle.ffi3_bench_script.proofs.shapes.draw_kinds.Goals as goal

pub loop-preserved : goal.loop-preserved
loop-preserved c =
    let count = 1 + c.draw-count.result in
    let x = state_of c.loop.draws in
    let y = state_of c.draw.new.self in
    let kinds = c.loop.kinds.items in
    record {
      are = draws-turn kinds c.push_kind.new.kinds.items c.numbered.result count c.loop.counter x y c.draw.result _ c.loop.invariant.are c.in_ok-push_kind.ensures c.loop-test.true c.draw.ensures.moved c.draw.ensures.is c.numbered.ensures;
      moved = state-turn count c.loop.counter x y _ c.loop.invariant.moved c.loop-test.true c.draw.ensures.moved;
      many = ap length c.in_ok-push_kind.ensures ∙ length-append kinds (c.numbered.result ∷ []) ∙ ap (λ n. n + 1) c.loop.invariant.many;
    }
