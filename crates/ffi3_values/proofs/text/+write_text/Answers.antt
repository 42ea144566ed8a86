use Rattle.std.proofs.Common.{◌≡◌, ◌++◌, ℕ, List, ap, sym, ◌∙◌, subst, arith, append-nil, append_assoc, [], ◌∷◌}
use Rattle.std.specs.Prelude.{slice_index_or}
use Rattle.std.specs.Prelude.{codes, OnOk}
use Rattle.ffi3_type_spec.specs.Value.{fits, values_of}
use Rattle.ffi3_type_spec.specs.ValueText.{value_texts_of}
use Rattle.std.specs.List.{join_with_byte}
use Rattle.ffi3_type_spec.specs.Tree.{trees_of}
use Rattle.ffi3_type_spec.proofs.Members.{fitted_some, made_nodes, made_fit, made_text}
use Rattle.ffi3_type_spec.specs.Tree.{tree_at}
use Rattle.ffi3_type_spec.specs.ValueText.{value_text_of}
use Rattle.ffi3_type_spec.proofs.ValueElements.{fitting_lengths, fitting_element}
use Rattle.ffi3_type_spec.proofs.ValueTexts.{element_texts, length-element_texts, element_text, joined-none, joined-all, joined-turn-first, joined-turn-next}
use Rattle.ffi3_types.specs.TreeOf.{tree_of}
use Rattle.ffi3_values.specs.ValueOf.{value_of}
use Rattle.ffi3_values.proofs.text.+write_text.Goals as goal
use Rattle.ffi3_values.proofs.text.+write_text.Goals.{write_texts-then-i-gt0+in_ok-push, write_texts-else-i-gt0}

pub write_texts-loop-i-init : goal.write_texts-loop-i-init
write_texts-loop-i-init t c =
    sym (ap (λ k. c.args.text.now ++ k) (joined-none (element_texts c.args.fields.now c.args.values.now)) ∙ append-nil _)

pub write_texts-get-requires-in-loop-i : goal.write_texts-get-requires-in-loop-i
write_texts-get-requires-in-loop-i t c =
    omega (arith, fitting_lengths c.args.fields.now c.args.values.now c.requires)

pub write_texts-write_text-requires : goal.write_texts-write_text-requires
write_texts-write_text-requires t c =
    let fit = fitting_element c.args.fields.now c.args.values.now c.loop-i.i c.requires (omega arith) in
    (omega arith, rw (c.get.ensures.element, c.get-in-loop-i.ensures.element) fit)

pub write_texts-loop-i-preserved : goal.write_texts-loop-i-preserved
write_texts-loop-i-preserved t c =
    let ts = c.args.fields.now in
    let vs = c.args.values.now in
    let i = c.loop-i.i in
    let count = fitting_lengths ts vs c.requires in
    let xs = element_texts ts vs in
    let below = length-element_texts ts vs count in
    let text : value_text_of (tree_of c.get.result.now) (value_of c.get-in-loop-i.result.now) ≡ slice_index_or xs i [] = ap (λ u. value_text_of u (value_of c.get-in-loop-i.result.now)) c.get.ensures.element ∙ ap (value_text_of (tree_at ts i)) c.get-in-loop-i.ensures.element ∙ sym (element_text ts vs i count (omega arith)) in
    let wrote : c.write_text.new.text ≡ c.if-i-gt0.text ++ value_text_of (tree_of c.get.result.now) (value_of c.get-in-loop-i.result.now) = c.in_ok-write_text.ensures in
    elim c.if-i-gt0.branch [
      | write_texts-then-i-gt0+in_ok-push w ↦ let comma : c.if-i-gt0.text ≡ c.loop-i.text ++ (44 ∷ []) = w.text-is ∙ w.in_ok-push.ensures.ok in
          wrote ∙ joined-turn-next xs i c.args.text.now c.loop-i.text c.if-i-gt0.text _ (omega arith) (omega arith) c.loop-i.invariant comma text
      | write_texts-else-i-gt0 w ↦ let same : c.if-i-gt0.text ≡ c.loop-i.text = w.text-is in
          wrote ∙ ap (λ k. k ++ value_text_of (tree_of c.get.result.now) (value_of c.get-in-loop-i.result.now)) same ∙ joined-turn-first xs i c.args.text.now c.loop-i.text _ (omega arith) (omega arith) c.loop-i.invariant text
    ]

pub write_texts-returns : goal.write_texts-returns
write_texts-returns t c =
    let ts = c.args.fields.now in
    let vs = c.args.values.now in
    let count = fitting_lengths ts vs c.requires in
    c.loop-i.invariant ∙ ap (λ k. c.args.text.now ++ k) (joined-all (element_texts ts vs) c.loop-i.i (omega (arith, length-element_texts ts vs count)))

-- ---- an array, by the struct of its elements

bracketed : (before opened joined wrote : List ℕ) → opened ≡ before ++ (91 ∷ []) → wrote ≡ opened ++ joined → wrote ++ (93 ∷ []) ≡ before ++ (codes "[" ++ (joined ++ codes "]"))
bracketed before opened joined wrote o w =
    ap (λ x. x ++ (93 ∷ [])) (w ∙ ap (λ x. x ++ joined) o) ∙ append_assoc (before ++ (91 ∷ [])) joined (93 ∷ []) ∙ append_assoc before (91 ∷ []) (joined ++ (93 ∷ []))

pub write_text-write_texts-requires-in-Array : goal.write_text-write_texts-requires-in-Array
write_text-write_texts-requires-in-Array t c =
    let ty = tree_of c.args.ty.now in
    let ts = c.in-Array.fields in
    let n = c.in-Array.count in
    let is = ap tree_of c.in-Array.is in
    let fit = ap (λ v. fits ty (value_of v)) (sym c.in-List.is) ∙ c.requires in
    let some = fitted_some ty ts n is _ c.requires in
    let fewer = made_nodes ty ts n is c.of_array-members.result c.of_array-members.ensures some in
    (omega (arith, fewer), sym (made_fit ty ts n is c.of_array-members.result c.of_array-members.ensures (values_of c.in-List.values) some) ∙ fit)

pub write_text-returns-in_ok-write_texts-in-Array : goal.write_text-returns-in_ok-write_texts-in-Array
write_text-returns-in_ok-write_texts-in-Array t c =
    let ty = tree_of c.args.ty.now in
    let text = ap (λ v. value_text_of ty (value_of v)) c.in-List.is ∙ made_text ty c.in-Array.fields c.in-Array.count (ap tree_of c.in-Array.is) c.of_array-members.result c.of_array-members.ensures (values_of c.in-List.values) in
    let whole = bracketed c.args.text.now c.push-in-Array.new.self (join_with_byte 44 (value_texts_of (trees_of c.of_array-members.result) (values_of c.in-List.values))) c.write_texts-in-Array.new.text c.in_ok-push-in-Array.ensures.ok c.in_ok-write_texts-in-Array.ensures in
    subst (λ all. OnOk c.push-in-Array-2.result (c.push-in-Array-2.new.self ≡ all)) (whole ∙ ap (λ x. c.args.text.now ++ x) (sym text)) c.push-in-Array-2.ensures.ok
