use Rattle.std.proofs.Common.{◌≡◌, ◌∙◌, subst, sym}
use Rattle.ffi3_place_spec.specs.Image.{word_at}
use Rattle.ffi3_marshal.specs.Read.{AreBytesOf}
use Rattle.ffi3_marshal.proofs.Read.{stack_word}
use Rattle.ffi3_marshal.proofs.reading.place_word.Goals as goal

pub returns-in-S : goal.returns-in-S
returns-in-S g c =
    let m = g.R.ReadImage.image c.args.state.now in
    subst (λ l. c.from_le_bytes.result ≡ word_at m c.args.base l) (sym c.in-S.is)
    (c.from_le_bytes.ensures ∙ stack_word c.args.base c.in-S.field-0 c.in-S.field-1 m c.place_bytes.result (subst (λ l. AreBytesOf c.args.base m l c.place_bytes.result) c.in-S.is c.place_bytes.ensures))
