use Rattle.std.proofs.Common.{◌≡◌, ◌<◌, [], ◌∷◌, ◌++◌, take, true, refl, ap, ◌∙◌, subst, sym, arith, length}
use Rattle.std.proofs.lemmas.Result.{IfOk-weaker}
use Rattle.ffi3_type_spec.specs.Integer.{scalar_of, is_number_type, number_of, bytes_of_number}
use Rattle.ffi3_type_spec.specs.Value.{leaf_value, bytes_of}
use Rattle.ffi3_types.specs.TreeOf.{tree_of}
use Rattle.ffi3_values.specs.ValueOf.{value_of}
use Rattle.ffi3_script_spec.specs.Meaning as meaning
use Rattle.ffi3_script_spec.specs.Typed.{has_type, own_type}
use Rattle.ffi3_script_body.specs.ExprOf.{expression_of}
use Rattle.ffi3_script_body.specs.KnownAt.{kinds_of, known_of}
use Rattle.ffi3_script_body.specs.PartOf.{IsPart, part_of, whole_of}
use Rattle.ffi3_script_body.proofs.Rows.{as_many, typed_at, evaluated, evaluated-is, evaluated-next, evaluated-all}
use Rattle.ffi3_script_body.proofs.PartOf.{part_value, whole_typed, whole_nodes, are_parts}
use Rattle.ffi3_script_body.proofs.Evaluated.{evaluated_fits, number_type, own_typed}
use Rattle.ffi3_script_body.proofs.Parts.{has_own_by_default, expression_nodes, nodes_at, in_composed, in_element, in_typed, in_cast, left_in_sum, right_in_sum, left_in_difference, right_in_difference, has_type_at, of_composed, of_sum, of_difference, of_cast, of_whole, of_typed, composed_value, sum_value, difference_value, cast_value}
use Rattle.ffi3_script_body.proofs.eval.+eval.Goals as goal

-- ---- eval

pub eval-eval_all-requires : goal.eval-eval_all-requires
eval-eval_all-requires t c =
    (omega (arith, in_composed c.args.e.now c.in-Composed.es c.in-Composed.is), of_composed (kinds_of c.args.known.now) (tree_of c.args.ty.now) c.args.e.now c.requires c.in-Some.types c.in-Composed.es c.in-Some.ensures c.in-Composed.is)

pub eval-eval-requires : goal.eval-eval-requires
eval-eval-requires t c =
    let k = kinds_of c.args.known.now in
    let u = tree_of c.args.ty.now in
    let parts = of_sum k u c.args.e.now c.requires c.in-Sum.field-0 c.in-Sum.a c.in-Sum.b c.in-Sum.is in
    (omega (arith, left_in_sum c.args.e.now c.deref.result.now c.in-Sum.field-0 c.in-Sum.a c.in-Sum.b c.in-Sum.is c.deref.ensures), has_type_at k u c.deref.result.now c.in-Sum.a.value c.deref.ensures parts.1.0)

pub eval-eval-requires-in-Sum : goal.eval-eval-requires-in-Sum
eval-eval-requires-in-Sum t c =
    let k = kinds_of c.args.known.now in
    let u = tree_of c.args.ty.now in
    let parts = of_sum k u c.args.e.now c.requires c.in-Sum.field-0 c.in-Sum.a c.in-Sum.b c.in-Sum.is in
    (omega (arith, right_in_sum c.args.e.now c.deref-in-Sum.result.now c.in-Sum.field-0 c.in-Sum.a c.in-Sum.b c.in-Sum.is c.deref-in-Sum.ensures), has_type_at k u c.deref-in-Sum.result.now c.in-Sum.b.value c.deref-in-Sum.ensures parts.1.1)

pub eval-eval-requires-in-Difference : goal.eval-eval-requires-in-Difference
eval-eval-requires-in-Difference t c =
    let k = kinds_of c.args.known.now in
    let u = tree_of c.args.ty.now in
    let parts = of_difference k u c.args.e.now c.requires c.in-Difference.field-0 c.in-Difference.a c.in-Difference.b c.in-Difference.is in
    (omega (arith, left_in_difference c.args.e.now c.deref-in-Difference.result.now c.in-Difference.field-0 c.in-Difference.a c.in-Difference.b c.in-Difference.is c.deref-in-Difference.ensures), has_type_at k u c.deref-in-Difference.result.now c.in-Difference.a.value c.deref-in-Difference.ensures parts.1.0)

pub eval-eval-requires-in-Difference-2 : goal.eval-eval-requires-in-Difference-2
eval-eval-requires-in-Difference-2 t c =
    let k = kinds_of c.args.known.now in
    let u = tree_of c.args.ty.now in
    let parts = of_difference k u c.args.e.now c.requires c.in-Difference.field-0 c.in-Difference.a c.in-Difference.b c.in-Difference.is in
    (omega (arith, right_in_difference c.args.e.now c.deref-in-Difference-2.result.now c.in-Difference.field-0 c.in-Difference.a c.in-Difference.b c.in-Difference.is c.deref-in-Difference-2.ensures), has_type_at k u c.deref-in-Difference-2.result.now c.in-Difference.b.value c.deref-in-Difference-2.ensures parts.1.1)

pub eval-eval-requires-in-Cast : goal.eval-eval-requires-in-Cast
eval-eval-requires-in-Cast t c =
    let k = kinds_of c.args.known.now in
    let u = tree_of c.args.ty.now in
    let parts = of_cast k u c.args.e.now c.requires c.in-Cast.from c.in-Cast.field-1 c.in-Cast.inner c.in-Cast.is in
    let inner = subst (λ w. has_type k w (expression_of c.in-Cast.inner.value) ≡ true) (sym c.scalar_type-from.ensures) parts.1.1 in
    (omega (arith, in_cast c.args.e.now c.deref-in-Cast.result.now c.in-Cast.from c.in-Cast.field-1 c.in-Cast.inner c.in-Cast.is c.deref-in-Cast.ensures), has_type_at k (tree_of c.scalar_type-from.result) c.deref-in-Cast.result.now c.in-Cast.inner.value c.deref-in-Cast.ensures inner)

pub eval-cast-requires-clause-kind : goal.eval-cast-requires-clause-kind
eval-cast-requires-clause-kind t c =
    let u = tree_of c.args.ty.now in
    let parts = of_cast (kinds_of c.args.known.now) u c.args.e.now c.requires c.in-Cast.from c.in-Cast.field-1 c.in-Cast.inner c.in-Cast.is in
    number_type (scalar_of (tree_of c.in-Cast.field-1)) u parts.0

pub eval-cast-requires-clause-kind_before : goal.eval-cast-requires-clause-kind_before
eval-cast-requires-clause-kind_before t c =
    let u = tree_of c.args.ty.now in
    let parts = of_cast (kinds_of c.args.known.now) u c.args.e.now c.requires c.in-Cast.from c.in-Cast.field-1 c.in-Cast.inner c.in-Cast.is in
    subst (λ w. is_number_type w ≡ true) (sym c.scalar_type-from.ensures) parts.1.0

pub eval-eval_own-requires : goal.eval-eval_own-requires
eval-eval_own-requires t c =
    let own = has_own_by_default c.args.e.now c.in_default.not-Constant c.in_default.not-Composed c.in_default.not-Sum c.in_default.not-Difference c.in_default.not-Cast in
    (omega arith, own_typed (kinds_of c.args.known.now) (tree_of c.args.ty.now) (expression_of c.args.e.now) own c.requires)

pub eval-returns-in_ok-eval_all-in-Composed-clause-is : goal.eval-returns-in_ok-eval_all-in-Composed-clause-is
eval-returns-in_ok-eval_all-in-Composed-clause-is t c =
    composed_value (known_of c.args.known.now) c.args.e.now c.in-Composed.es c.in_ok-eval_all-in-Composed.field-0 c.in-Composed.is c.in_ok-eval_all-in-Composed.ensures.is

pub eval-returns-in_ok-eval_all-in-Composed-clause-fits : goal.eval-returns-in_ok-eval_all-in-Composed-clause-fits
eval-returns-in_ok-eval_all-in-Composed-clause-fits t c =
    let is = composed_value (known_of c.args.known.now) c.args.e.now c.in-Composed.es c.in_ok-eval_all-in-Composed.field-0 c.in-Composed.is c.in_ok-eval_all-in-Composed.ensures.is in
    evaluated_fits c.args.known.now (tree_of c.args.ty.now) (expression_of c.args.e.now) _ c.requires is

pub eval-returns-in_ok-b-in-Sum-clause-is : goal.eval-returns-in_ok-b-in-Sum-clause-is
eval-returns-in_ok-b-in-Sum-clause-is t c =
    let k = known_of c.args.known.now in
    let u = tree_of c.args.ty.now in
    let parts = of_sum (kinds_of c.args.known.now) u c.args.e.now c.requires c.in-Sum.field-0 c.in-Sum.a c.in-Sum.b c.in-Sum.is in
    let a_is = c.in_ok-a-in-Sum.ensures.is ∙ ap (λ x. meaning.value_of k (expression_of x)) c.deref.ensures in
    let b_is = c.in_ok-b-in-Sum.ensures.is ∙ ap (λ x. meaning.value_of k (expression_of x)) c.deref-in-Sum.ensures in
    let whole = sum_value k c.args.e.now u c.in-Sum.field-0 c.in-Sum.a c.in-Sum.b _ _ parts.0 a_is b_is c.in-Sum.is in
    IfOk-weaker c.add.result _ _ (λ v is. is ∙ whole) c.add.ensures.value

pub eval-returns-in_ok-b-in-Difference-clause-is : goal.eval-returns-in_ok-b-in-Difference-clause-is
eval-returns-in_ok-b-in-Difference-clause-is t c =
    let k = known_of c.args.known.now in
    let u = tree_of c.args.ty.now in
    let parts = of_difference (kinds_of c.args.known.now) u c.args.e.now c.requires c.in-Difference.field-0 c.in-Difference.a c.in-Difference.b c.in-Difference.is in
    let a_is = c.in_ok-a-in-Difference.ensures.is ∙ ap (λ x. meaning.value_of k (expression_of x)) c.deref-in-Difference.ensures in
    let b_is = c.in_ok-b-in-Difference.ensures.is ∙ ap (λ x. meaning.value_of k (expression_of x)) c.deref-in-Difference-2.ensures in
    let whole = difference_value k c.args.e.now u c.in-Difference.field-0 c.in-Difference.a c.in-Difference.b _ _ parts.0 a_is b_is c.in-Difference.is in
    IfOk-weaker c.sub.result _ _ (λ v is. is ∙ whole) c.sub.ensures.value

pub eval-returns-in_ok-value-in-Cast-clause-is : goal.eval-returns-in_ok-value-in-Cast-clause-is
eval-returns-in_ok-value-in-Cast-clause-is t c =
    let k = known_of c.args.known.now in
    let u = tree_of c.args.ty.now in
    let parts = of_cast (kinds_of c.args.known.now) u c.args.e.now c.requires c.in-Cast.from c.in-Cast.field-1 c.in-Cast.inner c.in-Cast.is in
    let inner_is = c.in_ok-value-in-Cast.ensures.is ∙ ap (λ x. meaning.value_of k (expression_of x)) c.deref-in-Cast.ensures in
    let whole = cast_value k c.args.e.now u c.in-Cast.from c.in-Cast.field-1 c.in-Cast.inner _ parts.0 inner_is c.in-Cast.is in
    let from_is = ap scalar_of c.scalar_type-from.ensures in
    let number_is = ap (λ s. number_of s (bytes_of (value_of c.in_ok-value-in-Cast.value))) from_is in
    IfOk-weaker c.cast.result _ _ (λ v is. is ∙ ap (λ n. leaf_value (bytes_of_number (scalar_of u) n)) number_is ∙ whole) c.cast.ensures.value

pub eval-returns-in_default-clause-fits : goal.eval-returns-in_default-clause-fits
eval-returns-in_default-clause-fits t c =
    IfOk-weaker c.eval_own.result _ _ (λ v is. evaluated_fits c.args.known.now (tree_of c.args.ty.now) (expression_of c.args.e.now) (value_of v) c.requires is) c.eval_own.ensures.is

-- ---- eval_all

pub eval_all-index-requires : goal.eval_all-index-requires
eval_all-index-requires t c =
    let many = as_many (kinds_of c.args.known.now) c.args.types.now c.args.es.now.items c.requires in
    omega (arith, many, c.len-i-end.ensures.count)

pub eval_all-eval-requires : goal.eval_all-eval-requires
eval_all-eval-requires t c =
    let k = kinds_of c.args.known.now in
    let many = as_many k c.args.types.now c.args.es.now.items c.requires in
    let below : c.loop-i.i < length c.args.types.now = omega (arith, c.len-i-end.ensures.count) in
    let fewer = nodes_at c.args.es.now.items c.loop-i.i c.index.result.now (omega (arith, many, below)) c.index.ensures in
    let typed = typed_at k c.args.types.now c.args.es.now.items c.loop-i.i c.index.result.now c.requires below c.index.ensures in
    (omega (arith, fewer), subst (λ w. has_type k w (expression_of c.index.result.now) ≡ true) (sym c.get.ensures.element) typed)

pub eval_all-loop-i-preserved : goal.eval_all-loop-i-preserved
eval_all-loop-i-preserved t c =
    let k = known_of c.args.known.now in
    let many = as_many (kinds_of c.args.known.now) c.args.types.now c.args.es.now.items c.requires in
    let below : c.loop-i.i < length c.args.es.now.items = omega (arith, many, c.len-i-end.ensures.count) in
    let next = evaluated-next k c.args.es.now.items c.loop-i.i c.index.result.now below c.index.ensures in
    c.in_ok-push.ensures.ok ∙ ap (λ vs. vs ++ value_of c.in_ok-eval.field-0 ∷ []) c.loop-i.invariant ∙ ap (λ v. evaluated k (take c.loop-i.i c.args.es.now.items) ++ v ∷ []) c.in_ok-eval.ensures.is ∙ sym next

pub eval_all-returns : goal.eval_all-returns
eval_all-returns t c =
    let k = known_of c.args.known.now in
    let many = as_many (kinds_of c.args.known.now) c.args.types.now c.args.es.now.items c.requires in
    record {
      is = c.loop-i.invariant ∙ evaluated-all k c.args.es.now.items c.loop-i.i (omega (arith, many, c.len-i-end.ensures.count)) ∙ sym (evaluated-is k c.args.es.now.items);
    }

-- ---- eval_own

pub eval_own-eval_own-requires : goal.eval_own-eval_own-requires
eval_own-eval_own-requires t c =
    let k = kinds_of c.args.known.now in
    let inner = of_whole k c.args.e.now c.requires c.in-Element.inner c.in-Element.field-1 c.in-Element.is in
    let whole_is = c.whole_of.ensures ∙ ap (λ x. whole_of (expression_of x)) c.deref.ensures in
    let typed = whole_typed k (expression_of c.in-Element.inner.value) inner in
    let fewer = whole_nodes (expression_of c.in-Element.inner.value) in
    let here = in_element c.args.e.now c.in-Element.inner.value c.in-Element.inner c.in-Element.field-1 c.in-Element.is refl in
    let same = ap expression_nodes whole_is in
    (omega (arith, fewer, here, same), subst (λ x. has_type k (own_type k x) x ≡ true) (sym whole_is) typed)

pub eval_own-eval-requires : goal.eval_own-eval-requires
eval_own-eval-requires t c =
    let k = kinds_of c.args.known.now in
    let typed = of_typed k c.args.e.now c.requires c.in-TypedAs.ty c.in-TypedAs.inner c.in-TypedAs.is in
    (omega (arith, in_typed c.args.e.now c.deref-in-TypedAs.result.now c.in-TypedAs.ty c.in-TypedAs.inner c.in-TypedAs.is c.deref-in-TypedAs.ensures), has_type_at k (tree_of c.in-TypedAs.ty) c.deref-in-TypedAs.result.now c.in-TypedAs.inner.value c.deref-in-TypedAs.ensures typed)

pub eval_own-returns-in-Argument-clause-fits : goal.eval_own-returns-in-Argument-clause-fits
eval_own-returns-in-Argument-clause-fits t c =
    let e = c.args.e.now in
    let is = ap (λ x. meaning.value_of (known_of c.args.known.now) (expression_of x)) (sym c.in-Argument.is) in
    IfOk-weaker c.argument.result _ _ (λ v v_is. evaluated_fits c.args.known.now (own_type (kinds_of c.args.known.now) (expression_of e)) (expression_of e) (value_of v) c.requires (v_is ∙ is)) c.argument.ensures

pub eval_own-returns-in-Outcome-clause-fits : goal.eval_own-returns-in-Outcome-clause-fits
eval_own-returns-in-Outcome-clause-fits t c =
    let e = c.args.e.now in
    let is = ap (λ x. meaning.value_of (known_of c.args.known.now) (expression_of x)) (sym c.in-Outcome.is) in
    IfOk-weaker c.outcome.result _ _ (λ v v_is. evaluated_fits c.args.known.now (own_type (kinds_of c.args.known.now) (expression_of e)) (expression_of e) (value_of v) c.requires (v_is ∙ is)) c.outcome.ensures

pub eval_own-part_of-requires : goal.eval_own-part_of-requires
eval_own-part_of-requires t c =
    let whole_is = c.whole_of.ensures ∙ ap (λ x. whole_of (expression_of x)) c.deref.ensures ∙ sym (ap (λ x. whole_of (expression_of x)) c.in-Element.is) in
    let is = c.in_ok-whole-in-Element.ensures.is ∙ ap (meaning.value_of (known_of c.args.known.now)) whole_is in
    subst (IsPart (expression_of c.args.e.now)) (sym is) (are_parts c.args.known.now (expression_of c.args.e.now) c.requires)

pub eval_own-returns-in_ok-whole-in-Element-clause-is : goal.eval_own-returns-in_ok-whole-in-Element-clause-is
eval_own-returns-in_ok-whole-in-Element-clause-is t c =
    let k = known_of c.args.known.now in
    let e = expression_of c.args.e.now in
    let whole_is = c.whole_of.ensures ∙ ap (λ x. whole_of (expression_of x)) c.deref.ensures ∙ sym (ap (λ x. whole_of (expression_of x)) c.in-Element.is) in
    let is = c.in_ok-whole-in-Element.ensures.is ∙ ap (meaning.value_of k) whole_is in
    let part_is = c.part_of.ensures ∙ ap (part_of e) is ∙ part_value k e in
    IfOk-weaker c.copy.result _ _ (λ v same. ap value_of same ∙ part_is) c.copy.ensures

pub eval_own-returns-in_ok-whole-in-Element-clause-fits : goal.eval_own-returns-in_ok-whole-in-Element-clause-fits
eval_own-returns-in_ok-whole-in-Element-clause-fits t c =
    let e = expression_of c.args.e.now in
    IfOk-weaker c.copy.result _ _ (λ v is. evaluated_fits c.args.known.now (own_type (kinds_of c.args.known.now) e) e (value_of v) c.requires is) (eval_own-returns-in_ok-whole-in-Element-clause-is t c)
