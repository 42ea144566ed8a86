use Rattle.std.proofs.Common.{Some, pos, sym, ap, ◌∙◌}
use Rattle.ffi3_type_spec.specs.Integer.{scalar_of}
use Rattle.ffi3_types.specs.TreeOf.{tree_of}
use Rattle.ffi3_values.specs.ValueOf.{value_of}
use Rattle.ffi3_type_spec.specs.Value.{bytes_of}
use Rattle.ffi3_script_spec.specs.Language.{read, out_of_range}
use Rattle.ffi3_script_spec.specs.Script.{constant}
use Rattle.ffi3_script_spec.specs.Values.{number_written, read_integer}
use Rattle.ffi3_script_spec.proofs.Decimals.{plain_refused, plain_out, plain_within}
use Rattle.ffi3_json.proofs.Tellings.{tells_made}
use Rattle.ffi3_literals.proofs.decimal.read_plain.Goals as goal

pub returns-then-not-is_within-clause-err : goal.returns-then-not-is_within-clause-err
returns-then-not-is_within-clause-err c =
    let t = tree_of c.args.ty.now in
    let text = c.args.text.now in
    tells_made (read_integer (scalar_of t) (Some (pos (number_written text))) c.args.at.now) c.args.at.now out_of_range
    (plain_out t text c.args.at.now c.requires.wide c.requires.digits c.requires.some c.from_str_radix.result c.from_str_radix.ensures.value c.in-Ok.n c.in-Ok.is (sym c.is_within.ensures ∙ c.if-not-is_within.true))
    c.bad.result c.bad.ensures

pub returns-in-Leaf-clause-ok : goal.returns-in-Leaf-clause-ok
returns-in-Leaf-clause-ok c =
    let t = tree_of c.args.ty.now in
    let text = c.args.text.now in
    let leaf = sym c.in_ok-bytes-in-Ok.ensures.value ∙ ap value_of c.in-Leaf.is in
    plain_within t text c.args.at.now c.requires.wide c.requires.digits c.requires.some c.from_str_radix.result c.from_str_radix.ensures.value c.in-Ok.n c.in-Ok.is (sym c.is_within.ensures ∙ c.if-not-is_within.false)
    ∙ ap (λ v. read (constant (bytes_of v))) leaf

pub returns-in-Err-clause-err : goal.returns-in-Err-clause-err
returns-in-Err-clause-err c =
    let t = tree_of c.args.ty.now in
    let text = c.args.text.now in
    tells_made (read_integer (scalar_of t) (Some (pos (number_written text))) c.args.at.now) c.args.at.now out_of_range
    (plain_refused t text c.args.at.now c.requires.wide c.requires.digits c.requires.some c.from_str_radix.result c.from_str_radix.ensures.value c.in-Err.field-0 c.in-Err.is)
    c.bad-in-Err.result c.bad-in-Err.ensures
