use Rattle.std.proofs.Common.{ℤ, Some, pos, neg_ℤ, drop, sym, ap, ◌∙◌, rules}
use Rattle.std.specs.Int.{w128}
use Rattle.std.proofs.lemmas.Int.{to_z-of_z}
use Rattle.ffi3_type_spec.specs.Integer.{bytes_of_number, scalar_of}
use Rattle.ffi3_type_spec.specs.Value.{bytes_of}
use Rattle.ffi3_types.specs.TreeOf.{tree_of}
use Rattle.ffi3_values.specs.ValueOf.{value_of}
use Rattle.ffi3_script_spec.specs.Language.{read, out_of_range}
use Rattle.ffi3_script_spec.specs.Script.{constant}
use Rattle.ffi3_script_spec.specs.Values.{number_written, read_integer}
use Rattle.ffi3_script_spec.proofs.Decimals.{negative_refused, negative_too_far, negative_read}
use Rattle.ffi3_json.proofs.Tellings.{tells_made}
use Rattle.ffi3_literals.proofs.decimal.read_negative.Goals as goal

pub returns-then-not-is_signed-clause-err : goal.returns-then-not-is_signed-clause-err
returns-then-not-is_signed-clause-err c =
    let t = tree_of c.args.ty.now in
    let text = c.args.text.now in
    tells_made (read_integer (scalar_of t) (Some (neg_ℤ (pos (number_written (drop 1 text))))) c.args.at.now) c.args.at.now out_of_range
    (negative_refused t text c.args.at.now c.requires.wide c.requires.negative (sym c.is_signed.ensures ∙ c.if-not-is_signed.true))
    c.bad.result c.bad.ensures

pub returns-in-Leaf-clause-ok : goal.returns-in-Leaf-clause-ok
returns-in-Leaf-clause-ok c =
    let t = tree_of c.args.ty.now in
    let text = c.args.text.now in
    let leaf = sym c.in_ok-bytes-in-Ok.ensures.value ∙ ap value_of c.in-Leaf.is in
    let word = ap (λ (z : ℤ). read (constant (bytes_of_number (scalar_of t) z))) (sym (to_z-of_z w128 c.in-Ok.n (search rules))) in
    negative_read t text c.args.at.now c.requires.wide c.requires.negative c.from_str_radix.result c.from_str_radix.ensures.value c.in-Ok.n c.in-Ok.is (sym c.is_signed.ensures ∙ c.if-not-is_signed.false)
    ∙ word ∙ ap (λ v. read (constant (bytes_of v))) leaf

pub returns-in-Err-clause-err : goal.returns-in-Err-clause-err
returns-in-Err-clause-err c =
    let t = tree_of c.args.ty.now in
    let text = c.args.text.now in
    tells_made (read_integer (scalar_of t) (Some (neg_ℤ (pos (number_written (drop 1 text))))) c.args.at.now) c.args.at.now out_of_range
    (negative_too_far t text c.args.at.now c.requires.wide c.requires.negative c.from_str_radix.result c.from_str_radix.ensures.value c.in-Err.field-0 c.in-Err.is)
    c.bad-in-Err.result c.bad-in-Err.ensures
