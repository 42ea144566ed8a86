use Rattle.std.proofs.Common.{ℕ, List, ◌++◌, ap, ◌∙◌}
use Rattle.ffi3_run_state.proofs.Spelling.{wrong_signature}
use Rattle.ffi3_run_state.proofs.line.wrong_sig_words.Goals as goal

pub returns : goal.returns
returns g c =
    let add = λ (w : List ℕ) (l : List ℕ). w ++ l in
    wrong_signature c.in_ok-words.words c.extend.new.self c.extend-2.new.self c.extend-3.new.self c.extend-4.new.self _ _ _ _ _
    c.in_ok-words.ensures
    (c.in_ok-extend.ensures.ok ∙ ap (add c.in_ok-words.words) c.as_bytes.ensures.value)
    (c.in_ok-extend-2.ensures.ok ∙ ap (add c.extend.new.self) (c.as_slice.ensures ∙ c.in_ok-numbered_text.ensures))
    (c.in_ok-extend-3.ensures.ok ∙ ap (add c.extend-2.new.self) c.as_bytes-2.ensures.value)
    (c.in_ok-extend-4.ensures.ok ∙ ap (add c.extend-3.new.self) (c.as_slice-2.ensures ∙ c.in_ok-numbered_text-2.ensures))
