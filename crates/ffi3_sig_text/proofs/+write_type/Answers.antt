use Rattle.std.proofs.Common.{◌≡◌, ◌-◌, ◌++◌, ap, ◌∙◌, arith, [], ◌∷◌, drop}
use Rattle.ffi3_type_spec.specs.Tree.{tree_at}
use Rattle.ffi3_format_spec.specs.SigText.{told_text}
use Rattle.ffi3_sig_text.proofs.Texts.{texts_before, texts_before-text, range-none, range-first, range-next}
use Rattle.ffi3_types.specs.TreeOf.{tree_of}
use Rattle.ffi3_sig_text.proofs.+write_type.Goals as goal
use Rattle.ffi3_sig_text.proofs.+write_type.Goals.{write_range-then-i-from+in_ok-push, write_range-else-i-from}

pub write_range-loop-i-init : goal.write_range-loop-i-init
write_range-loop-i-init t c = range-none c.args.types.now c.args.from c.args.text.now

pub write_range-loop-i-preserved : goal.write_range-loop-i-preserved
write_range-loop-i-preserved t c =
    let ts = c.args.types.now in
    let i = c.loop-i.i in
    let text : told_text (tree_of c.get.result.now) ≡ told_text (tree_at ts i) = ap told_text c.get.ensures.element in
    let wrote : c.write_type.new.text ≡ c.if-i-from.text ++ told_text (tree_of c.get.result.now) = c.in_ok-write_type.ensures in
    elim c.if-i-from.branch [
      | write_range-then-i-from+in_ok-push w ↦ let comma : c.if-i-from.text ≡ c.loop-i.text ++ (44 ∷ []) = w.text-is ∙ w.in_ok-push.ensures.ok in
          wrote ∙ range-next ts c.args.from i c.args.text.now c.loop-i.text c.if-i-from.text (told_text (tree_of c.get.result.now)) (omega arith) (omega arith) c.loop-i.invariant comma text
      | write_range-else-i-from w ↦ wrote ∙ ap (λ k. k ++ told_text (tree_of c.get.result.now)) w.text-is ∙ range-first ts c.args.from i c.args.text.now c.loop-i.text (told_text (tree_of c.get.result.now)) (omega arith) (omega arith) c.loop-i.invariant text
    ]

pub write_range-returns : goal.write_range-returns
write_range-returns t c =
    let all : c.loop-i.i - c.args.from ≡ c.args.to - c.args.from = omega arith in
    let rest = drop c.args.from c.args.types.now in
    c.loop-i.invariant ∙ ap (λ n. c.args.text.now ++ texts_before rest n) all ∙ ap (λ k. c.args.text.now ++ k) (texts_before-text rest (c.args.to - c.args.from))
