use Rattle.std.proofs.Common.{◌≡◌, ◌-◌, ◌++◌, ap, ◌∙◌, arith, [], ◌∷◌, drop}
use Rattle.ffi3_type_spec.specs.Tree.{tree_at}
use Rattle.ffi3_type_spec.specs.Text.{text_of}
use Rattle.ffi3_type_spec.proofs.Texts.{texts_before, texts_before-text, range-none, range-first, range-next}
use Rattle.ffi3_types.specs.TreeOf.{tree_of}
use Rattle.ffi3_types.proofs.+write_text.Goals as goal
use Rattle.ffi3_types.proofs.+write_text.Goals.{Fields::write_range-then-i-from+in_ok-push, Fields::write_range-else-i-from}

pub Fields::write_range-loop-i-init : goal.Fields::write_range-loop-i-init
Fields::write_range-loop-i-init t c = range-none c.args.self.now c.args.from c.args.text.now

pub Fields::write_range-loop-i-preserved : goal.Fields::write_range-loop-i-preserved
Fields::write_range-loop-i-preserved t c =
    let ts = c.args.self.now in
    let i = c.loop-i.i in
    let text : text_of (tree_of c.get.result.now) ≡ text_of (tree_at ts i) = ap text_of c.get.ensures.element in
    let wrote : c.write_text.new.text ≡ c.if-i-from.text ++ text_of (tree_of c.get.result.now) = c.in_ok-write_text.ensures in
    elim c.if-i-from.branch [
      | Fields::write_range-then-i-from+in_ok-push w ↦ let comma : c.if-i-from.text ≡ c.loop-i.text ++ (44 ∷ []) = w.text-is ∙ w.in_ok-push.ensures.ok in
          wrote ∙ range-next ts c.args.from i c.args.text.now c.loop-i.text c.if-i-from.text (text_of (tree_of c.get.result.now)) (omega arith) (omega arith) c.loop-i.invariant comma text
      | Fields::write_range-else-i-from w ↦ wrote ∙ ap (λ k. k ++ text_of (tree_of c.get.result.now)) w.text-is ∙ range-first ts c.args.from i c.args.text.now c.loop-i.text (text_of (tree_of c.get.result.now)) (omega arith) (omega arith) c.loop-i.invariant text
    ]

pub Fields::write_range-returns : goal.Fields::write_range-returns
Fields::write_range-returns t c =
    let all : c.loop-i.i - c.args.from ≡ c.args.to - c.args.from = omega arith in
    let rest = drop c.args.from c.args.self.now in
    c.loop-i.invariant ∙ ap (λ n. c.args.text.now ++ texts_before rest n) all ∙ ap (λ k. c.args.text.now ++ k) (texts_before-text rest (c.args.to - c.args.from))
