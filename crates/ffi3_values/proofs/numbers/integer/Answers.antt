use Rattle.std.proofs.Common.{◌≡◌, ap, ◌∙◌, subst, of_z}
use Rattle.std.specs.Int.{w128}
use Rattle.std.proofs.lemmas.Int.{to_z-of_z}
use Rattle.std.specs.Prelude.{IfOk}
use Rattle.ffi3_type_spec.specs.Integer.{scalar_of}
use Rattle.ffi3_type_spec.specs.Value.{leaf_value}
use Rattle.ffi3_type_spec.proofs.Modulo.{modulo-fitting, bytes_of_bits}
use Rattle.ffi3_types.specs.TreeOf.{tree_of}
use Rattle.ffi3_values.specs.ValueOf.{value_of}
use Rattle.ffi3_values.proofs.numbers.integer.Goals as goal

pub returns-clause-value : goal.returns-clause-value
returns-clause-value c =
    let s = scalar_of (tree_of c.args.ty.now) in
    let all = c.cast_unsigned.ensures ∙ ap (of_z w128) (to_z-of_z w128 c.args.n c.ranges.n) ∙ modulo-fitting c.args.n c.ranges.n in
    subst (λ bytes. IfOk c.of_bits.result (λ v. value_of v ≡ leaf_value bytes)) (bytes_of_bits s _ _ all) c.of_bits.ensures.value
