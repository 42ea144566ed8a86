use Rattle.std.proofs.Common.{◌≡◌, Bool, true, false, sym, subst, refl}
use Rattle.std.specs.Prelude.{◌↔◌, IsTrue}
use Rattle.std.proofs.lemmas.Bool.{false≢true, false_from_ne_true}
use Rattle.ffi3_type_spec.specs.Same.{same_tree}
use Rattle.ffi3_type_spec.proofs.Tests.{types_are_same, type_is_itself}
use Rattle.ffi3_types.specs.declared.FfiType.{FfiType}
use Rattle.ffi3_types.specs.TreeOf.{tree_of}
use Rattle.ffi3_types.proofs.Trees.{tree_of-inj}
use Rattle.ffi3_app.proofs.prototype.are_same.Goals as goal

same_by : (a b : FfiType) (r : Bool) → IsTrue r ↔ (a ≡ b) → r ≡ same_tree (tree_of a) (tree_of b)
same_by a b true (is, back) =
    sym (subst (λ x. same_tree (tree_of a) (tree_of x) ≡ true) (is refl) (type_is_itself (tree_of a)))
same_by a b false (is, back) =
    sym (false_from_ne_true (same_tree (tree_of a) (tree_of b)) (λ same. false≢true (back (tree_of-inj a b (types_are_same (tree_of a) (tree_of b) same)))))

pub returns : goal.returns
returns c =
    same_by c.args.a.now c.args.b.now c.same_type.result c.same_type.ensures
