use Rattle.std.proofs.Common.{◌≡◌, ◌+◌, [], ◌∷◌, length, ap, ◌∙◌, arith}
use Rattle.std.proofs.lemmas.List.{length-append}
use Rattle.ffi3_script_body.specs.ExprOf.{expression_of}
use Rattle.ffi3_bench_script.specs.KindOf.{state_of}
use Rattle.ffi3_bench_script.specs.ShapesOf.{types_in}
use Rattle.ffi3_bench_script.proofs.Loops.{calls-turn, calls-end, calls-state-turn, calls-state-end}
use Rattle.ffi3_bench_script.proofs.shapes.Shapes.main.Goals as goal

pub loop-j-preserved : goal.loop-j-preserved
loop-j-preserved c =
    let moves = c.loop-j.moves.items in
    let one = c.in_ok-call.field-0 in
    let grown : length c.push-in-loop-j.new.moves.items ≡ length moves + 1 = ap length c.in_ok-push-5.ensures ∙ length-append moves (one ∷ []) in
    (calls-turn (types_in c.args.self.now) moves c.push-in-loop-j.new.moves.items one c.args.calls c.loop-j.j (state_of c.loop-j.draws) (state_of c.draw-s.new.self) (state_of c.draw-v.new.self) c.draw-s.result c.draw-v.result (expression_of c.in_ok-total_of.field-0) _ c.loop-j.invariant.0 c.loop-j-test.true c.draw-s.ensures.moved c.draw-s.ensures.is c.draw-v.ensures.moved c.draw-v.ensures.is c.in_ok-total_of.ensures c.in_ok-call.ensures c.in_ok-push-5.ensures, omega (arith, grown, c.loop-j.invariant.1), calls-state-turn c.args.calls c.loop-j.j (state_of c.loop-j.draws) (state_of c.draw-s.new.self) (state_of c.draw-v.new.self) _ c.loop-j.invariant.2 c.loop-j-test.true c.draw-s.ensures.moved c.draw-v.ensures.moved)

pub returns-clause-are : goal.returns-clause-are
returns-clause-are c =
    let at : c.loop-j.j ≡ c.args.calls = omega (arith, c.loop-j-test.false, c.loop-j.auto.j-end) in
    calls-end (types_in c.args.self.now) c.loop-j.moves.items c.push-5.new.moves.items c.push-6.new.moves.items c.does.result c.does-2.result c.args.calls c.loop-j.j (state_of c.loop-j.draws) (expression_of c.in_ok-value.value) _ c.loop-j.invariant.0 at c.in_ok-value.ensures c.does.ensures c.does-2.ensures c.in_ok-push-6.ensures c.in_ok-push-7.ensures

pub returns-clause-moved : goal.returns-clause-moved
returns-clause-moved c =
    let at : c.loop-j.j ≡ c.args.calls = omega (arith, c.loop-j-test.false, c.loop-j.auto.j-end) in
    calls-state-end c.args.calls c.loop-j.j (state_of c.loop-j.draws) _ c.loop-j.invariant.2 at
