use Rattle.std.proofs.Common.{ap, ◌∙◌}
use Rattle.ffi3_cdecl_spec.specs.Tokens.{is_silent, goes_on_word}
use Rattle.ffi3_cdecl.proofs.Fronts.{front_slice}
use Rattle.ffi3_cdecl.proofs.attribute.silent_at.Goals as goal

pub returns : goal.returns
returns c =
    c.is_silent.ensures ∙ ap is_silent (front_slice goes_on_word c.args.bracket.now c.args.n c.args.more c.requires.there c.requires.word)
