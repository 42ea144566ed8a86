use Rattle.std.proofs.Common.{◌+◌, ◌%◌, ◌^◌, ◌≡◌, ◌∙◌, subst}
use Rattle.std.specs.Prelude.{IfOk}
use Rattle.ffi3_type_spec.specs.Integer.{scalar_of, number_of}
use Rattle.ffi3_type_spec.specs.Value.{bytes_of, leaf_value}
use Rattle.ffi3_type_spec.proofs.Modulo.{modulo-add, bytes_of_bits}
use Rattle.ffi3_types.specs.TreeOf.{tree_of}
use Rattle.ffi3_values.specs.ValueOf.{value_of}
use Rattle.ffi3_values.proofs.numbers.add.Goals as goal

pub returns-clause-value : goal.returns-clause-value
returns-clause-value c =
    let s = scalar_of (tree_of c.args.ty.now) in
    let x = number_of s (bytes_of (value_of c.args.a.now)) in
    let y = number_of s (bytes_of (value_of c.args.b.now)) in
    let all = (λ i. (c.bits.ensures.value i + c.bits-2.ensures.value i) % 2 ^ 128) ∙ modulo-add x y in
    subst (λ bytes. IfOk c.of_bits.result (λ v. value_of v ≡ leaf_value bytes)) (bytes_of_bits s _ _ all) c.of_bits.ensures.value
