use Rattle.std.proofs.Common.{ap, ap₂, drop, length, get_or, sym, ◌∙◌, ◌+◌, ◌∷◌}
use Rattle.std.proofs.lemmas.List.{drop-drop}
use Rattle.ffi3_cdecl_spec.specs.Tokens.{wide_word_at, front, goes_on_word}
use Rattle.ffi3_cdecl.specs.TokenOf.{sign_of}
use Rattle.ffi3_cdecl.proofs.Fronts.{front_slice}
use Rattle.ffi3_cdecl.proofs.token.wide_word_at.Goals as goal

pub returns : goal.returns
returns c =
    let s = sign_of c.args.c in
    let count = c.word_length-more.ensures.count ∙ ap (λ bs. length (front goes_on_word bs)) c.behind.ensures in
    let word = front_slice goes_on_word c.args.text.now c.args.at c.word_length-more.result c.requires count in
    let rest = c.from-rest.ensures.value ∙ sym (drop-drop c.word_length-more.result (c.args.at + 1) c.args.text.now) ∙ ap (λ n. drop n (drop (c.args.at + 1) c.args.text.now)) count in
    let whole = get_or c.args.text.now c.args.at 0 ∷ front goes_on_word (drop (c.args.at + 1) c.args.text.now) in
    c.word_and_rest.ensures ∙ ap (λ w. wide_word_at s w c.word_length-more.result c.from-rest.result.now) word ∙ ap₂ (wide_word_at s whole) count rest
