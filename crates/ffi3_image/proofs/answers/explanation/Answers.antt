use Rattle.std.proofs.Common.{◌≡◌, rules}
use Rattle.ffi3_type_spec.specs.TargetIsa.{isa_of}
use Rattle.ffi3_explain.specs.ImageOf.{image_of}
use Rattle.ffi3_image.proofs.Answering.{explained_so, broken_so}
use Rattle.ffi3_image.proofs.answers.explanation.Goals as goal

pub returns-in_ok-explained_text-in-Ok : goal.returns-in_ok-explained_text-in-Ok
returns-in_ok-explained_text-in-Ok g c =
    explained_so g.A.Abi.standard c.args.cif.now (image_of c.args.image.now) c.in-Ok.values c.in_ok-explained_text-in-Ok.field-0 c.in-Ok.ensures.values c.in_ok-explained_text-in-Ok.ensures

pub returns-in_ok-broken_line-in-Err-NotHeld : goal.returns-in_ok-broken_line-in-Err-NotHeld
returns-in_ok-broken_line-in-Err-NotHeld g c =
    let same_isa : c.isa-isa.result ≡ isa_of g.A.Abi.standard.target = search rules in
    broken_so g.A.Abi.standard c.args.cif.now (image_of c.args.image.now) c.in-Err-NotHeld.field-0 c.in-Err-NotHeld.check c.isa-isa.result c.in_ok-broken_line-in-Err-NotHeld.field-0 c.in-Err-NotHeld.field-0-is c.in-Err-NotHeld.ensures.broken same_isa c.in_ok-broken_line-in-Err-NotHeld.ensures
