use Rattle.std.proofs.Common.{◌≡◌, ◌∙◌}
use Rattle.ffi3_semantics_spec.specs.Lines.{word_text}
use Rattle.ffi3_image.proofs.Words.{padded_word}
use Rattle.ffi3_image.proofs.lines.write_word.Goals as goal

pub returns : goal.returns
returns c =
    let made = rw (c.laid_out.ensures, c.in_radix.ensures, padded_word c.args.word) at c.in_ok-format.ensures.ok in
    let bytes : c.as_bytes.result.now ≡ word_text c.args.word = c.as_bytes.ensures.value ∙ made in
    rw bytes at c.extend.ensures.ok
