use Rattle.std.proofs.Common.{◌≡◌, [], ◌∷◌, ◌++◌, ◌-◌, ap, ◌∙◌}
use Rattle.ffi3_type_spec.specs.Tree.{u64}
use Rattle.ffi3_script_spec.specs.Script.{sum}
use Rattle.ffi3_script_spec.specs.Made.{made_call, types_at, own_total, with_arguments}
use Rattle.ffi3_script_body.specs.ExprOf.{expression_of}
use Rattle.ffi3_bench_script.specs.ShapesOf.{types_in}
use Rattle.ffi3_bench_script.proofs.Loops.{body-first, body-later}
use Rattle.ffi3_bench_script.proofs.shapes.Shapes.body.Goals as goal
use Rattle.ffi3_bench_script.proofs.shapes.Shapes.body.Goals.{then-s-gt0+in_ok-call+in_ok-push+in_ok-inner+in_ok-start-2, else-s-gt0}

pub returns-clause-are : goal.returns-clause-are
returns-clause-are c =
    let types = types_in c.args.self.now in
    let s = c.args.s in
    let one = c.returns.result in
    let none = c.new-moves.ensures.items in
    let start = expression_of c.if-s-gt0.start.value in
    let value = expression_of c.in_ok-with_arguments.field-0.value in
    let own : expression_of c.in_ok-start.start.value ≡ own_total (types_at types s) = ap expression_of c.in_ok-start.ensures ∙ c.own_total.ensures in
    let value_is : value ≡ with_arguments start 0 (types_at types s) = c.in_ok-with_arguments.ensures ∙ ap (with_arguments start 0) c.kinds.ensures.are in
    elim c.if-s-gt0.branch [
      | then-s-gt0+in_ok-call+in_ok-push+in_ok-inner+in_ok-start-2 w ↦
          let call = w.in_ok-call.field-0 in
          body-later types s c.push-2.new.moves.items call one start value w.if-s-gt0.true
          (c.in_ok-push-2.ensures ∙ ap (λ ms. ms.items ++ one ∷ []) w.moves-is ∙ ap (λ ms. ms ++ one ∷ []) (w.in_ok-push.ensures ∙ ap (λ ms. ms ++ call ∷ []) none))
          (w.in_ok-call.ensures ∙ ap (made_call types (s - 1) 0) w.own_total-then-s-gt0.ensures)
          c.returns.ensures value_is (ap (λ b. expression_of b.value) w.start-is ∙ w.in_ok-start-2.ensures ∙ ap (λ e. sum u64 e (expression_of w.in_ok-inner.inner.value)) own ∙ ap (λ e. sum u64 (own_total (types_at types s)) (expression_of e)) w.in_ok-inner.ensures)
      | else-s-gt0 w ↦
          body-first types s c.push-2.new.moves.items one start value w.if-s-gt0.false
          (c.in_ok-push-2.ensures ∙ ap (λ ms. ms.items ++ one ∷ []) w.moves-is ∙ ap (λ ms. ms ++ one ∷ []) none)
          c.returns.ensures value_is (ap (λ b. expression_of b.value) w.start-is ∙ own)
    ]
