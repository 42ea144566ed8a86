use Rattle.std.proofs.Common.{◌≡◌, ◌∙◌, List, map, string_bytes, sym, ap, subst}
use Rattle.std.specs.Prelude.{Ok, Err}
use Rattle.clap.specs.Words.{Text, app_of}
use Rattle.ffi3_cli.specs.WordAnswers.{IsAnswered}
use Rattle.ffi3_cli.proofs.Answering.{asks_none, asks_some, fails}
use Rattle.ffi3_cli.proofs.words.answer.Goals as goal

pub returns-in-Some : goal.returns-in-Some
returns-in-Some c =
    let same : map string_bytes c.as_slice.result.now ≡ map string_bytes c.args.words.now.items = ap (map string_bytes) c.as_slice.ensures.value in
    let parsed = c.in-Ok-try_get_matches_from.ensures in
    subst (λ (ws : List Text). IsAnswered ws (Ok c.in-Some.request)) same (asks_some (app_of c.in-Ok.command) c.in-Ok.ensures _ c.in-Ok-try_get_matches_from.matches parsed.kinds parsed.matches c.in-Some.request (sym c.asked.ensures ∙ c.in-Some.is))

pub returns-in-Ok-try_get_matches_from : goal.returns-in-Ok-try_get_matches_from
returns-in-Ok-try_get_matches_from c =
    let same : map string_bytes c.as_slice.result.now ≡ map string_bytes c.args.words.now.items = ap (map string_bytes) c.as_slice.ensures.value in
    let parsed = c.in-Ok-try_get_matches_from.ensures in
    subst (λ (ws : List Text). IsAnswered ws (Err c.no_numbers.result)) same (asks_none (app_of c.in-Ok.command) c.in-Ok.ensures _ c.in-Ok-try_get_matches_from.matches parsed.kinds parsed.matches c.no_numbers.result (sym c.asked.ensures ∙ c.in-None.is))

pub returns : goal.returns
returns c =
    let same : map string_bytes c.as_slice.result.now ≡ map string_bytes c.args.words.now.items = ap (map string_bytes) c.as_slice.ensures.value in
    subst (λ (ws : List Text). IsAnswered ws (Err c.refusal.result)) same (fails (app_of c.in-Ok.command) c.in-Ok.ensures _ c.in-Err.error c.refusal.result c.in-Err.ensures.kinds c.refusal.ensures)
