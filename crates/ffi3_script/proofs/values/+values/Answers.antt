use Rattle.std.proofs.Common.{◌≡◌, ◌+◌, ◌<◌, [], ◌∷◌, ◌++◌, length, map, option_and_then, sym, ap, ◌∙◌, subst, arith}
use Rattle.std.proofs.lemmas.List.{map-append}
use Rattle.serde_json.specs.Events.{items_len}
use Rattle.serde_json.specs.Find.{as_number, as_u64}
use Rattle.serde_json.specs.View.{number_view}
use Rattle.ffi3_types.specs.TreeOf.{tree_of}
use Rattle.ffi3_script_spec.specs.Language.{read, fault, at_item, under, wrong_type, wrong_count}
use Rattle.ffi3_script_spec.specs.Values.{read_number, read_value, read_values, read_typed, read_field, read_of, read_right_type, field_of, typed_form, form_named}
use Rattle.ffi3_json.proofs.Tellings.{tells_part, tells_made, part_handed_on}
use Rattle.ffi3_script_body.specs.ExprOf.{expression_of, expressions_in}
use Rattle.ffi3_script.specs.ScopeOf.{scope_of}
use Rattle.ffi3_script.specs.OwnTypeOf.{typed_value_of}
use Rattle.ffi3_script.specs.Shapes.{typed_form_of, typed_under, value_under_form, read_terms}
use Rattle.ffi3_script.proofs.ReadValues.{ok_by, err_by, field_first, field_then, of_second, of_both, two_first, two_second, two_both, terms_are, typed_member, of_number, of_no_list, of_other_count, of_values, of_member, Done, done-more, done-fault, done-all}
use Rattle.ffi3_script.proofs.values.+values.Goals as goal

pub read_field-returns-in_err-value-clause-err : goal.read_field-returns-in_err-value-clause-err
read_field-returns-in_err-value-clause-err t c =
    let s = scope_of c.args.scope.now in
    let d = c.args.inside.now in
    let a = c.in-Some.inner in
    let b = c.in-Some.number in
    let path = c.args.at.now in
    let place = under path c.args.name.now in
    let item : c.item-first.result ≡ at_item place 0 = c.item-first.ensures ∙ ap (λ p. at_item p 0) c.key-place.ensures in
    part_handed_on (read_field s d place path) (read_typed s a c.item-first.result) (λ p r e. field_first s d a b place path (sym c.in-Some.ensures) p r (ap (read_typed s a) (sym item) ∙ e))
    c.from_residual.result c.in_err-value.field-0.0 c.from_residual.ensures.1 c.in_err-value.ensures.err

pub read_field-returns-clause-ok : goal.read_field-returns-clause-ok
read_field-returns-clause-ok t c =
    let s = scope_of c.args.scope.now in
    let d = c.args.inside.now in
    let a = c.in-Some.inner in
    let b = c.in-Some.number in
    let path = c.args.at.now in
    let place = under path c.args.name.now in
    let own = typed_value_of c.in_ok-value.value in
    let item : c.item-first.result ≡ at_item place 0 = c.item-first.ensures ∙ ap (λ p. at_item p 0) c.key-place.ensures in
    let same = field_then s d a b place path (sym c.in-Some.ensures) own (ap (read_typed s a) (sym item) ∙ c.in_ok-value.ensures.ok) ∙ ap (λ p. field_of path p (option_and_then as_u64 (as_number b)) own) (sym item) in
    ok_by (λ v k. same ∙ k) c.field_of.result c.field_of.ensures.ok

pub read_field-returns-clause-err : goal.read_field-returns-clause-err
read_field-returns-clause-err t c =
    let s = scope_of c.args.scope.now in
    let d = c.args.inside.now in
    let a = c.in-Some.inner in
    let b = c.in-Some.number in
    let path = c.args.at.now in
    let place = under path c.args.name.now in
    let own = typed_value_of c.in_ok-value.value in
    let item : c.item-first.result ≡ at_item place 0 = c.item-first.ensures ∙ ap (λ p. at_item p 0) c.key-place.ensures in
    let same = field_then s d a b place path (sym c.in-Some.ensures) own (ap (read_typed s a) (sym item) ∙ c.in_ok-value.ensures.ok) ∙ ap (λ p. field_of path p (option_and_then as_u64 (as_number b)) own) (sym item) in
    err_by (λ f k. tells_part (read_field s d place path) (field_of path c.item-first.result (option_and_then as_u64 (as_number b)) own) (λ p r is. same ∙ is) f k) c.field_of.result c.field_of.ensures.err

pub read_of-returns-in_err-value-clause-err : goal.read_of-returns-in_err-value-clause-err
read_of-returns-in_err-value-clause-err t c =
    let s = scope_of c.args.scope.now in
    let d = c.args.inside.now in
    let a = c.in-Some.first in
    let b = c.in-Some.second in
    let place = under c.args.at.now c.args.name.now in
    let first : c.item.result ≡ at_item place 0 = c.item.ensures ∙ ap (λ p. at_item p 0) c.key-place.ensures in
    let second : c.item-2.result ≡ at_item place 1 = c.item-2.ensures ∙ ap (λ p. at_item p 1) c.key-place.ensures in
    let ty = tree_of c.in_ok-ty.ty in
    part_handed_on (read_of s d place) (read_value s ty b c.item-2.result) (λ p r e. of_second s d a b place (sym c.in-Some.ensures) ty p r (ap (read_right_type s.version a) (sym first) ∙ c.in_ok-ty.ensures.ok) (ap (read_value s ty b) (sym second) ∙ e))
    c.from_residual-in_err-value.result c.in_err-value.field-0.0 c.from_residual-in_err-value.ensures.1 c.in_err-value.ensures.err

pub read_of-returns-clause-ok : goal.read_of-returns-clause-ok
read_of-returns-clause-ok t c =
    let s = scope_of c.args.scope.now in
    let d = c.args.inside.now in
    let a = c.in-Some.first in
    let b = c.in-Some.second in
    let place = under c.args.at.now c.args.name.now in
    let first : c.item.result ≡ at_item place 0 = c.item.ensures ∙ ap (λ p. at_item p 0) c.key-place.ensures in
    let second : c.item-2.result ≡ at_item place 1 = c.item-2.ensures ∙ ap (λ p. at_item p 1) c.key-place.ensures in
    let ty = tree_of c.in_ok-ty.ty in
    of_both s d a b place (sym c.in-Some.ensures) ty (expression_of c.in_ok-value.value) (ap (read_right_type s.version a) (sym first) ∙ c.in_ok-ty.ensures.ok) (ap (read_value s ty b) (sym second) ∙ c.in_ok-value.ensures.ok) ∙ ap read (sym c.in_ok-typed_as.ensures)

pub read_terms-returns-in_err-a-clause-err : goal.read_terms-returns-in_err-a-clause-err
read_terms-returns-in_err-a-clause-err t c =
    let s = scope_of c.args.scope.now in
    let d = c.args.inside.now in
    let a = c.in-Some.first in
    let b = c.in-Some.second in
    let path = c.args.at.now in
    let name = c.args.name.now in
    let place = under path name in
    let first : c.item.result ≡ at_item place 0 = c.item.ensures ∙ ap (λ p. at_item p 0) c.key-place.ensures in
    let ty = tree_of c.args.ty.now in
    part_handed_on (read_terms s ty name d path) (read_value s ty a c.item.result)
    (λ p r e. terms_are s ty name d path (fault p r) (sym c.is_integer.ensures ∙ c.if-not-is_integer.false) (two_first s ty d a b place (sym c.in-Some.ensures) p r (ap (read_value s ty a) (sym first) ∙ e)))
    c.from_residual.result c.in_err-a.field-0.0 c.from_residual.ensures.1 c.in_err-a.ensures.err

pub read_terms-returns-in_err-b-clause-err : goal.read_terms-returns-in_err-b-clause-err
read_terms-returns-in_err-b-clause-err t c =
    let s = scope_of c.args.scope.now in
    let d = c.args.inside.now in
    let a = c.in-Some.first in
    let b = c.in-Some.second in
    let path = c.args.at.now in
    let name = c.args.name.now in
    let place = under path name in
    let first : c.item.result ≡ at_item place 0 = c.item.ensures ∙ ap (λ p. at_item p 0) c.key-place.ensures in
    let second : c.item-2.result ≡ at_item place 1 = c.item-2.ensures ∙ ap (λ p. at_item p 1) c.key-place.ensures in
    let ty = tree_of c.args.ty.now in
    part_handed_on (read_terms s ty name d path) (read_value s ty b c.item-2.result)
    (λ p r e. terms_are s ty name d path (fault p r) (sym c.is_integer.ensures ∙ c.if-not-is_integer.false) (two_second s ty d a b place (sym c.in-Some.ensures) (expression_of c.in_ok-a.a) p r (ap (read_value s ty a) (sym first) ∙ c.in_ok-a.ensures.ok) (ap (read_value s ty b) (sym second) ∙ e)))
    c.from_residual-in_err-b.result c.in_err-b.field-0.0 c.from_residual-in_err-b.ensures.1 c.in_err-b.ensures.err

pub read_terms-returns-clause-ok : goal.read_terms-returns-clause-ok
read_terms-returns-clause-ok t c =
    let s = scope_of c.args.scope.now in
    let d = c.args.inside.now in
    let a = c.in-Some.first in
    let b = c.in-Some.second in
    let path = c.args.at.now in
    let name = c.args.name.now in
    let place = under path name in
    let first : c.item.result ≡ at_item place 0 = c.item.ensures ∙ ap (λ p. at_item p 0) c.key-place.ensures in
    let second : c.item-2.result ≡ at_item place 1 = c.item-2.ensures ∙ ap (λ p. at_item p 1) c.key-place.ensures in
    let ty = tree_of c.args.ty.now in
    let x = expression_of c.in_ok-a.a in
    let y = expression_of c.in_ok-b.b in
    terms_are s ty name d path (read (x, y)) (sym c.is_integer.ensures ∙ c.if-not-is_integer.false) (two_both s ty d a b place (sym c.in-Some.ensures) x y (ap (read_value s ty a) (sym first) ∙ c.in_ok-a.ensures.ok) (ap (read_value s ty b) (sym second) ∙ c.in_ok-b.ensures.ok))

pub read_typed-returns-in-Typed-clause-ok : goal.read_typed-returns-in-Typed-clause-ok
read_typed-returns-in-Typed-clause-ok t c =
    let s = scope_of c.args.scope.now in
    let same = typed_member s c.args.value.now c.args.at.now c.in-Some.name.now c.in-Some.inside (typed_form (typed_form_of c.in-Typed.form)) (sym c.in-Some.ensures.value) c.in-Typed.ensures in
    ok_by (λ v k. same ∙ k) c.read_own.result c.read_own.ensures.ok

pub read_typed-returns-in-Typed-clause-err : goal.read_typed-returns-in-Typed-clause-err
read_typed-returns-in-Typed-clause-err t c =
    let s = scope_of c.args.scope.now in
    let d = c.args.value.now in
    let path = c.args.at.now in
    let name = c.in-Some.name.now in
    let inside = c.in-Some.inside in
    let form = typed_form_of c.in-Typed.form in
    let same = typed_member s d path name inside (typed_form form) (sym c.in-Some.ensures.value) c.in-Typed.ensures in
    err_by (λ f k. tells_part (read_typed s d path) (typed_under s name inside path form) (λ p r is. same ∙ is) f k) c.read_own.result c.read_own.ensures.err

pub read_value-returns-in-Some-clause-err : goal.read_value-returns-in-Some-clause-err
read_value-returns-in-Some-clause-err t c =
    let s = scope_of c.args.scope.now in
    let d = c.args.value.now in
    let ty = tree_of c.args.ty.now in
    let n = number_view c.in-Some.n in
    err_by (λ f k. tells_part (read_value s ty d c.args.at.now) (read_number ty n c.args.at.now) (λ p r is. of_number s ty d c.args.at.now n (sym c.in-Some.ensures) ∙ is) f k) c.read_number.result c.read_number.ensures.err

pub read_value-returns-in_default-element_types-clause-err : goal.read_value-returns-in_default-element_types-clause-err
read_value-returns-in_default-element_types-clause-err t c =
    let s = scope_of c.args.scope.now in
    let u = tree_of c.args.ty.now in
    let d = c.args.value.now in
    let path = c.args.at.now in
    let ds = c.in-Some-items.items in
    tells_made (read_value s u d path) path wrong_type (of_no_list s u d path ds (sym c.in-Some-items.ensures.value) c.in_default-element_types.ensures) c.bad.result c.bad.ensures

pub read_value-returns-then-len-clause-err : goal.read_value-returns-then-len-clause-err
read_value-returns-then-len-clause-err t c =
    let s = scope_of c.args.scope.now in
    let u = tree_of c.args.ty.now in
    let d = c.args.value.now in
    let path = c.args.at.now in
    let ds = c.in-Some-items.items in
    let ts = c.in-Some-element_types.types in
    let other = of_other_count s u d path ds (sym c.in-Some-items.ensures.value) ts c.in-Some-element_types.ensures (λ same. c.if-len.true (omega (arith, c.len.ensures.count, c.len-in-Some-items.ensures.count, same))) in
    tells_made (read_value s u d path) path wrong_count other c.bad-then-len.result c.bad-then-len.ensures

pub read_value-returns-in-Some-items-clause-ok : goal.read_value-returns-in-Some-items-clause-ok
read_value-returns-in-Some-items-clause-ok t c =
    let s = scope_of c.args.scope.now in
    let u = tree_of c.args.ty.now in
    let d = c.args.value.now in
    let path = c.args.at.now in
    let ds = c.in-Some-items.items in
    let ts = c.in-Some-element_types.types in
    let same : items_len ds ≡ length ts = omega (arith, c.len.ensures.count, c.len-in-Some-items.ensures.count, c.if-len.false) in
    of_values s u d path ds (sym c.in-Some-items.ensures.value) ts c.in-Some-element_types.ensures (read (expressions_in c.in_ok-values.values.items)) same c.in_ok-values.ensures.ok ∙ ap read (sym c.of_elements.ensures)

pub read_value-returns-in_err-values-clause-err : goal.read_value-returns-in_err-values-clause-err
read_value-returns-in_err-values-clause-err t c =
    let s = scope_of c.args.scope.now in
    let u = tree_of c.args.ty.now in
    let d = c.args.value.now in
    let path = c.args.at.now in
    let ds = c.in-Some-items.items in
    let ts = c.in-Some-element_types.types in
    let same : items_len ds ≡ length ts = omega (arith, c.len.ensures.count, c.len-in-Some-items.ensures.count, c.if-len.false) in
    part_handed_on (read_value s u d path) (read_values s ts ds path 0)
    (λ p r is. of_values s u d path ds (sym c.in-Some-items.ensures.value) ts c.in-Some-element_types.ensures (fault p r) same is)
    c.from_residual.result c.in_err-values.field-0.0 c.from_residual.ensures.1 c.in_err-values.ensures.err

pub read_value-returns-clause-ok : goal.read_value-returns-clause-ok
read_value-returns-clause-ok t c =
    let m = c.in-Some-only_member in
    let same = of_member (scope_of c.args.scope.now) (tree_of c.args.ty.now) c.args.value.now c.args.at.now m.name.now m.inside (sym m.ensures.value) in
    ok_by (λ e k. same ∙ k) c.read_form.result c.read_form.ensures.ok

pub read_value-returns-clause-err : goal.read_value-returns-clause-err
read_value-returns-clause-err t c =
    let s = scope_of c.args.scope.now in
    let ty = tree_of c.args.ty.now in
    let d = c.args.value.now in
    let path = c.args.at.now in
    let m = c.in-Some-only_member in
    let same = of_member s ty d path m.name.now m.inside (sym m.ensures.value) in
    err_by (λ f k. tells_part (read_value s ty d path) (value_under_form s ty m.name.now m.inside path (form_named m.name.now)) (λ p r is. same ∙ is) f k) c.read_form.result c.read_form.ensures.err

pub read_values-read_value-requires : goal.read_values-read_value-requires
read_values-read_value-requires t c =
    (omega (arith, c.get-in-loop-i.ensures.less), c.requires.even)

pub read_values-returns-in_err-value-clause-err : goal.read_values-returns-in_err-value-clause-err
read_values-returns-in_err-value-clause-err t c =
    let s = scope_of c.args.scope.now in
    let ds = c.args.items.now in
    let ts = c.args.types.now in
    let i = c.loop-i.i in
    let at = c.args.at.now in
    let x = c.get-in-loop-i.result in
    let ty = tree_of c.get.result.now in
    let below_types : i < length ts = omega (arith, c.len-i-end.ensures.count) in
    let below : i < items_len ds = omega (arith, c.requires.count) in
    part_handed_on (read_values s ts ds at 0) (read_value s ty x c.item.result)
    (λ p r e. done-fault s ts ds at i (map expression_of c.loop-i.values.items) x ty below below_types c.get-in-loop-i.ensures.item c.get.ensures.element c.loop-i.invariant p r (ap (read_value s ty x) (sym c.item.ensures) ∙ e))
    c.from_residual.result c.in_err-value.field-0.0 c.from_residual.ensures.1 c.in_err-value.ensures.err

pub read_values-loop-i-preserved : goal.read_values-loop-i-preserved
read_values-loop-i-preserved t c =
    let s = scope_of c.args.scope.now in
    let ds = c.args.items.now in
    let ts = c.args.types.now in
    let i = c.loop-i.i in
    let at = c.args.at.now in
    let before = c.loop-i.values.items in
    let value = c.in_ok-value.value in
    let below_types : i < length ts = omega (arith, c.len-i-end.ensures.count) in
    let below : i < items_len ds = omega (arith, c.requires.count) in
    let one_more : map expression_of c.push.new.values.items ≡ map expression_of before ++ expression_of value ∷ [] = ap (map expression_of) c.in_ok-push.ensures ∙ map-append expression_of before (value ∷ []) in
    let was = ap (read_value s (tree_of c.get.result.now) c.get-in-loop-i.result) (sym c.item.ensures) ∙ c.in_ok-value.ensures.ok in
    subst (λ es. Done s ts ds at (i + 1) es) (sym one_more) (done-more s ts ds at i (map expression_of before) c.get-in-loop-i.result (tree_of c.get.result.now) below below_types c.get-in-loop-i.ensures.item c.get.ensures.element c.loop-i.invariant (expression_of value) was)

pub read_values-returns-clause-ok : goal.read_values-returns-clause-ok
read_values-returns-clause-ok t c =
    let values = map expression_of c.loop-i.values.items in
    done-all (scope_of c.args.scope.now) c.args.types.now c.args.items.now c.args.at.now c.loop-i.i values (omega (arith, c.requires.count, c.len-i-end.ensures.count)) c.loop-i.invariant
