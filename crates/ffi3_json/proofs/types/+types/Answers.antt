use Rattle.std.proofs.Common.{◌≡◌, ◌+◌, ◌<◌, [], ◌∷◌, ◌++◌, length, codes, sym, ap, ◌∙◌, subst, arith}
use Rattle.std.proofs.lemmas.List.{length-append}
use Rattle.std.proofs.lemmas.Result.{IfOk-weaker, IfErr-weaker}
use Rattle.serde_json.specs.Data.{array}
use Rattle.serde_json.specs.Events.{items_len}
use Rattle.ffi3_type_spec.specs.Tree.{struct_of, trees_of}
use Rattle.ffi3_type_spec.specs.Tree as types
use Rattle.ffi3_types.specs.TreeOf.{tree_of}
use Rattle.ffi3_script_spec.specs.Language.{read, read_type, read_types, read_array, read_count, read_map, not_a_type, under, at_item}
use Rattle.ffi3_json.specs.Parts.{item_at}
use Rattle.ffi3_json.proofs.Tellings.{tells_made, tells_part, part_handed_on}
use Rattle.ffi3_json.proofs.Objects.{array_is, a_struct, an_array, no_array, neither}
use Rattle.ffi3_json.proofs.Items.{Done, done-none, done-more, done-fault, done-all, no_element, no_count, array_read}
use Rattle.ffi3_json.proofs.types.+types.Goals as goal

-- ---- read_list

pub read_list-loop-i-init : goal.read_list-loop-i-init
read_list-loop-i-init t c =
    (ap length c.in_ok-types.ensures.value, subst (λ ts. Done c.args.version c.in-Some.items c.args.at.now 0 ts) (sym c.in_ok-types.ensures.value) (done-none c.args.version c.in-Some.items c.args.at.now))

pub read_list-returns-in_err-ty-clause-err : goal.read_list-returns-in_err-ty-clause-err
read_list-returns-in_err-ty-clause-err t c =
    let ds = c.in-Some.items in
    let is : c.args.value.now ≡ array ds = array_is c.args.value.now ds (sym c.in-Some.ensures.value) in
    let below : c.loop-i.i < items_len ds = omega (arith, c.len-i-end.ensures.count) in
    let same : read_type c.args.version c.get.result c.item.result ≡ read_type c.args.version (item_at ds c.loop-i.i) (at_item c.args.at.now c.loop-i.i) = λ k. read_type c.args.version (c.get.ensures.item k) (c.item.ensures k) in
    part_handed_on (read_types c.args.version c.args.value.now c.args.at.now) (read_type c.args.version c.get.result c.item.result)
    (λ p r h. ap (λ d. read_types c.args.version d c.args.at.now) is ∙ done-fault c.args.version ds c.args.at.now c.loop-i.i c.loop-i.types p r below c.loop-i.invariant.1 (sym same ∙ h))
    c.from_residual-in_err-ty.result c.in_err-ty.field-0.0 c.from_residual-in_err-ty.ensures.1 c.in_err-ty.ensures.err

pub read_list-push-requires : goal.read_list-push-requires
read_list-push-requires t c =
    omega (arith, c.len-i-end.ensures.count, c.len-i-end.ensures.bound, c.loop-i.invariant.0)

pub read_list-loop-i-preserved : goal.read_list-loop-i-preserved
read_list-loop-i-preserved t c =
    let ds = c.in-Some.items in
    let i = c.loop-i.i in
    let below : i < items_len ds = omega (arith, c.len-i-end.ensures.count) in
    let same : read_type c.args.version c.get.result c.item.result ≡ read_type c.args.version (item_at ds c.loop-i.i) (at_item c.args.at.now c.loop-i.i) = λ k. read_type c.args.version (c.get.ensures.item k) (c.item.ensures k) in
    let ok : c.push.new.self ≡ c.loop-i.types ++ tree_of c.in_ok-ty.ty ∷ [] = c.in_ok-push.ensures.ok in
    let done = done-more c.args.version ds c.args.at.now i c.loop-i.types (tree_of c.in_ok-ty.ty) below c.loop-i.invariant.1 (sym same ∙ c.in_ok-ty.ensures.ok) in (
      omega (arith, ap length ok, length-append c.loop-i.types (tree_of c.in_ok-ty.ty ∷ []), c.loop-i.invariant.0),
      subst (λ ts. Done c.args.version ds c.args.at.now (i + 1) ts) (sym ok) done,
    )

pub read_list-returns-clause-ok : goal.read_list-returns-clause-ok
read_list-returns-clause-ok t c =
    let ds = c.in-Some.items in
    let is : c.args.value.now ≡ array ds = array_is c.args.value.now ds (sym c.in-Some.ensures.value) in
    ap (λ d. read_types c.args.version d c.args.at.now) is ∙ done-all c.args.version ds c.args.at.now c.loop-i.i c.loop-i.types (omega (arith, c.len-i-end.ensures.count)) c.loop-i.invariant.1

-- ---- read_array

pub read_array-returns-in_err-ty-clause-err : goal.read_array-returns-in_err-ty-clause-err
read_array-returns-in_err-ty-clause-err t c =
    let d = c.args.value.now in
    let ds = c.in-Some.items in
    let two : items_len ds ≡ 2 = omega (arith, c.len.ensures.count, c.if-len-ne2.false) in
    let first : read_type c.args.version (item_at ds 0) (at_item (under c.args.at.now (codes "array")) 0) ≡ read_type c.args.version c.get.result c.item.result = λ k. read_type c.args.version (sym c.get.ensures.item k) (sym (c.item.ensures ∙ ap (λ p. at_item p 0) c.key-place.ensures) k) in
    part_handed_on (read_array c.args.version d c.args.at.now) (read_type c.args.version c.get.result c.item.result)
    (λ p r e. no_element c.args.version d ds c.args.at.now (array_is d ds (sym c.in-Some.ensures.value)) two p r (first ∙ e))
    c.from_residual.result c.in_err-ty.field-0.0 c.from_residual.ensures.1 c.in_err-ty.ensures.err

pub read_array-returns-in_err-count-clause-err : goal.read_array-returns-in_err-count-clause-err
read_array-returns-in_err-count-clause-err t c =
    let d = c.args.value.now in
    let ds = c.in-Some.items in
    let two : items_len ds ≡ 2 = omega (arith, c.len.ensures.count, c.if-len-ne2.false) in
    let first : read_type c.args.version (item_at ds 0) (at_item (under c.args.at.now (codes "array")) 0) ≡ read_type c.args.version c.get.result c.item.result = λ k. read_type c.args.version (sym c.get.ensures.item k) (sym (c.item.ensures ∙ ap (λ p. at_item p 0) c.key-place.ensures) k) in
    let second : read_count (item_at ds 1) (at_item (under c.args.at.now (codes "array")) 1) ≡ read_count c.get-2.result c.item-2.result = λ k. read_count (sym c.get-2.ensures.item k) (sym (c.item-2.ensures ∙ ap (λ p. at_item p 1) c.key-place.ensures) k) in
    part_handed_on (read_array c.args.version d c.args.at.now) (read_count c.get-2.result c.item-2.result)
    (λ p r e. no_count c.args.version d ds c.args.at.now (array_is d ds (sym c.in-Some.ensures.value)) two (tree_of c.in_ok-ty.ty) p r (first ∙ c.in_ok-ty.ensures.ok) (second ∙ e))
    c.from_residual-in_err-count.result c.in_err-count.field-0.0 c.from_residual-in_err-count.ensures.1 c.in_err-count.ensures.err

pub read_array-returns-clause-ok : goal.read_array-returns-clause-ok
read_array-returns-clause-ok t c =
    let d = c.args.value.now in
    let ds = c.in-Some.items in
    let u = tree_of c.in_ok-ty.ty in
    let n = c.in_ok-count.count in
    let two : items_len ds ≡ 2 = omega (arith, c.len.ensures.count, c.if-len-ne2.false) in
    let first : read_type c.args.version (item_at ds 0) (at_item (under c.args.at.now (codes "array")) 0) ≡ read_type c.args.version c.get.result c.item.result = λ k. read_type c.args.version (sym c.get.ensures.item k) (sym (c.item.ensures ∙ ap (λ p. at_item p 0) c.key-place.ensures) k) in
    let second : read_count (item_at ds 1) (at_item (under c.args.at.now (codes "array")) 1) ≡ read_count c.get-2.result c.item-2.result = λ k. read_count (sym c.get-2.ensures.item k) (sym (c.item-2.ensures ∙ ap (λ p. at_item p 1) c.key-place.ensures) k) in
    let one : c.push.new.self ≡ u ∷ [] = c.in_ok-push.ensures.ok ∙ ap (λ us. us ++ u ∷ []) c.in_ok-element.ensures.value in
    array_read c.args.version d ds c.args.at.now (array_is d ds (sym c.in-Some.ensures.value)) two u n (first ∙ c.in_ok-ty.ensures.ok) (second ∙ c.in_ok-count.ensures.ok) ∙ ap (λ us. read (types.array (trees_of us) n)) (sym one)

-- ---- read_type_at

pub read_type_at-returns-in_err-types-in-struct-clause-err : goal.read_type_at-returns-in_err-types-in-struct-clause-err
read_type_at-returns-in_err-types-in-struct-clause-err t c =
    let d = c.args.value.now in
    let m = c.in-Some-only_member in
    let same : read_type c.args.version d c.args.at.now ≡ read_map struct_of (read_types c.args.version m.inside c.key.result) = a_struct c.args.version d m.key.now m.inside c.args.at.now (sym m.ensures.value) c.in-struct.is ∙ ap (λ a. read_map struct_of (read_types c.args.version m.inside a)) (sym c.key.ensures) in
    part_handed_on (read_type c.args.version d c.args.at.now) (read_types c.args.version m.inside c.key.result) (λ p r h. same ∙ ap (read_map struct_of) h) c.from_residual.result c.in_err-types-in-struct.field-0.0 c.from_residual.ensures.1 c.in_err-types-in-struct.ensures.err

pub read_type_at-returns-in_ok-types-in-struct-clause-ok : goal.read_type_at-returns-in_ok-types-in-struct-clause-ok
read_type_at-returns-in_ok-types-in-struct-clause-ok t c =
    let m = c.in-Some-only_member in
    a_struct c.args.version c.args.value.now m.key.now m.inside c.args.at.now (sym m.ensures.value) c.in-struct.is
    ∙ ap (λ a. read_map struct_of (read_types c.args.version m.inside a)) (sym c.key.ensures) ∙ ap (read_map struct_of) c.in_ok-types-in-struct.ensures.ok

pub read_type_at-returns-then-not-has_arrays-clause-err : goal.read_type_at-returns-then-not-has_arrays-clause-err
read_type_at-returns-then-not-has_arrays-clause-err t c =
    let d = c.args.value.now in
    let m = c.in-Some-only_member in
    tells_made (read_type c.args.version d c.args.at.now) c.args.at.now not_a_type (no_array c.args.version d m.key.now m.inside c.args.at.now (sym m.ensures.value) c.in-array.is (sym c.has_arrays.ensures ∙ c.if-not-has_arrays.true)) c.bad-then-not-has_arrays.result c.bad-then-not-has_arrays.ensures

pub read_type_at-returns-else-not-has_arrays-clause-ok : goal.read_type_at-returns-else-not-has_arrays-clause-ok
read_type_at-returns-else-not-has_arrays-clause-ok t c =
    let m = c.in-Some-only_member in
    let same = an_array c.args.version c.args.value.now m.key.now m.inside c.args.at.now (sym m.ensures.value) c.in-array.is (sym c.has_arrays.ensures ∙ c.if-not-has_arrays.false) in
    IfOk-weaker c.read_array.result _ _ (λ u h. same ∙ h) c.read_array.ensures.ok

pub read_type_at-returns-else-not-has_arrays-clause-err : goal.read_type_at-returns-else-not-has_arrays-clause-err
read_type_at-returns-else-not-has_arrays-clause-err t c =
    let d = c.args.value.now in
    let m = c.in-Some-only_member in
    let same = an_array c.args.version d m.key.now m.inside c.args.at.now (sym m.ensures.value) c.in-array.is (sym c.has_arrays.ensures ∙ c.if-not-has_arrays.false) in
    IfErr-weaker c.read_array.result _ _ (λ f h. tells_part (read_type c.args.version d c.args.at.now) (read_array c.args.version m.inside c.args.at.now) (λ p r is. same ∙ is) f h) c.read_array.ensures.err

pub read_type_at-returns-in_default-key-clause-err : goal.read_type_at-returns-in_default-key-clause-err
read_type_at-returns-in_default-key-clause-err t c =
    let d = c.args.value.now in
    let m = c.in-Some-only_member in
    tells_made (read_type c.args.version d c.args.at.now) c.args.at.now not_a_type (neither c.args.version d m.key.now m.inside c.args.at.now (sym m.ensures.value) c.in_default-key.not-struct c.in_default-key.not-array) c.bad-in_default-key.result c.bad-in_default-key.ensures
