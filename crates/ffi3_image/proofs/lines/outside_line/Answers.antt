use Rattle.std.proofs.Common.{[], ◌∷◌, codes, rules}
use Rattle.std.specs.Fmt.{decimal}
use Rattle.ffi3_semantics_spec.specs.Lines.{address_text}
use Rattle.ffi3_image.proofs.Texts.{joined-line}
use Rattle.ffi3_image.proofs.lines.outside_line.Goals as goal

pub returns : goal.returns
returns c =
    let o = c.args.outside.now in
    joined-line (codes "ffi3: arg ") (decimal o.argument) (codes ": ") (address_text o.address) (codes " is not in the image") (10 ∷ []) c.in_ok-line.line c.write_address.new.text c.extend.new.self c.push.new.self (search rules) (search rules) (search rules) (search rules)
