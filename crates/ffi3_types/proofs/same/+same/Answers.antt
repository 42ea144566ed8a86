use Rattle.std.proofs.Common.{◌≡◌, ap, sym, ◌∙◌, arith, refl}
use Rattle.std.proofs.lemmas.Bool.{false≢true}
use Rattle.ffi3_type_spec.specs.Tree.{tree_at}
use Rattle.ffi3_type_spec.proofs.Lists.{same_by_elements}
use Rattle.ffi3_types.proofs.Trees.{tree_of-inj}
use Rattle.ffi3_types.proofs.same.+same.Goals as goal

pub same_fields-returns-then-not-same_type : goal.same_fields-returns-then-not-same_type
same_fields-returns-then-not-same_type t c =
    let i = c.loop-i.i in
    let differ = c.if-not-same_type.true in
    let both : c.args.a.now ≡ c.args.b.now → c.get.result.now ≡ c.get-in-loop-i.result.now = λ same. tree_of-inj _ _ (c.get.ensures.element ∙ ap (λ ts. tree_at ts i) same ∙ sym c.get-in-loop-i.ensures.element) in
    (λ h. absurd (false≢true h), λ same. sym differ ∙ c.same_type.ensures.1 (both same))

pub same_fields-returns : goal.same_fields-returns
same_fields-returns t c = (λ _. same_by_elements _ _ (omega arith) (λ k below. c.loop-i.invariant k (omega arith)), λ _. refl)
