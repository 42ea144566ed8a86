use Rattle.std.proofs.Common.{◌≡◌, ◌++◌, ap, sym, ◌∙◌, arith, append-nil, [], ◌∷◌}
use Rattle.std.specs.Prelude.{slice_index_or}
use Rattle.ffi3_type_spec.specs.Tree.{tree_at}
use Rattle.ffi3_type_spec.specs.ValueText.{value_text_of}
use Rattle.ffi3_type_spec.proofs.ValueElements.{fitting_lengths, fitting_element}
use Rattle.ffi3_type_spec.proofs.ValueTexts.{element_texts, length-element_texts, element_text, joined-none, joined-all, joined-turn-first, joined-turn-next}
use Rattle.ffi3_types.specs.TreeOf.{tree_of}
use Rattle.ffi3_values.specs.ValueOf.{value_of}
use Rattle.ffi3_text.proofs.trace.write_values.Goals as goal
use Rattle.ffi3_text.proofs.trace.write_values.Goals.{then-i-gt0+in_ok-push, else-i-gt0}

pub loop-i-init : goal.loop-i-init
loop-i-init c =
    sym (ap (λ k. c.args.text.now ++ k) (joined-none (element_texts c.args.types.now c.args.values.now)) ∙ append-nil _)

pub get-requires-in-loop-i : goal.get-requires-in-loop-i
get-requires-in-loop-i c =
    omega (arith, fitting_lengths c.args.types.now c.args.values.now c.requires)

pub write_value-requires : goal.write_value-requires
write_value-requires c =
    let fit = fitting_element c.args.types.now c.args.values.now c.loop-i.i c.requires (omega arith) in
    rw (c.get.ensures.element, c.get-in-loop-i.ensures.element) fit

pub loop-i-preserved : goal.loop-i-preserved
loop-i-preserved c =
    let ts = c.args.types.now in
    let vs = c.args.values.now in
    let i = c.loop-i.i in
    let count = fitting_lengths ts vs c.requires in
    let xs = element_texts ts vs in
    let below = length-element_texts ts vs count in
    let text : value_text_of (tree_of c.get.result.now) (value_of c.get-in-loop-i.result.now) ≡ slice_index_or xs i [] = ap (λ u. value_text_of u (value_of c.get-in-loop-i.result.now)) c.get.ensures.element ∙ ap (value_text_of (tree_at ts i)) c.get-in-loop-i.ensures.element ∙ sym (element_text ts vs i count (omega arith)) in
    let wrote : c.write_value.new.text ≡ c.if-i-gt0.text ++ value_text_of (tree_of c.get.result.now) (value_of c.get-in-loop-i.result.now) = c.in_ok-write_value.ensures in
    elim c.if-i-gt0.branch [
      | then-i-gt0+in_ok-push w ↦ let comma : c.if-i-gt0.text ≡ c.loop-i.text ++ (44 ∷ []) = w.text-is ∙ w.in_ok-push.ensures.ok in
          wrote ∙ joined-turn-next xs i c.args.text.now c.loop-i.text c.if-i-gt0.text _ (omega arith) (omega arith) c.loop-i.invariant comma text
      | else-i-gt0 w ↦ let same : c.if-i-gt0.text ≡ c.loop-i.text = w.text-is in
          wrote ∙ ap (λ k. k ++ value_text_of (tree_of c.get.result.now) (value_of c.get-in-loop-i.result.now)) same ∙ joined-turn-first xs i c.args.text.now c.loop-i.text _ (omega arith) (omega arith) c.loop-i.invariant text
    ]

pub returns : goal.returns
returns c =
    let ts = c.args.types.now in
    let vs = c.args.values.now in
    let count = fitting_lengths ts vs c.requires in
    c.loop-i.invariant ∙ ap (λ k. c.args.text.now ++ k) (joined-all (element_texts ts vs) c.loop-i.i (omega (arith, length-element_texts ts vs count)))
