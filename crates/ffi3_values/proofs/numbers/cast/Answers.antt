use Rattle.std.proofs.Common.{◌≡◌, subst}
use Rattle.std.specs.Prelude.{IfOk}
use Rattle.ffi3_type_spec.specs.Integer.{scalar_of}
use Rattle.ffi3_type_spec.specs.Value.{leaf_value}
use Rattle.ffi3_type_spec.proofs.Modulo.{bytes_of_bits}
use Rattle.ffi3_types.specs.TreeOf.{tree_of}
use Rattle.ffi3_values.specs.ValueOf.{value_of}
use Rattle.ffi3_values.proofs.numbers.cast.Goals as goal

pub returns-clause-value : goal.returns-clause-value
returns-clause-value c =
    let s = scalar_of (tree_of c.args.to.now) in
    let all = c.bits.ensures.value in
    subst (λ bytes. IfOk c.of_bits.result (λ v. value_of v ≡ leaf_value bytes)) (bytes_of_bits s _ _ all) c.of_bits.ensures.value
