use Rattle.std.proofs.Common.{refl, [], subst}
use Rattle.ffi3_cli.specs.WordAnswers.{IsWordsRefusal}
use Rattle.ffi3_cli_spec.specs.Words.{Takes}
use Rattle.std.specs.Prelude.{List, ℕ, map, string_bytes}
use Rattle.ffi3_cli_spec.specs.declared.words.Request.TheVariants.{OnInput, Bench}
use Rattle.ffi3_app_spec.specs.Top.{bad_words, no_memory_for_words, failed}
use Rattle.ffi3_script_spec.specs.Handed.{handed}
use Rattle.ffi3_app.proofs.Coming.{ready_for_bench}
use Rattle.ffi3_app.proofs.Saying.{says_end}
use Rattle.ffi3_app.proofs.top.answer.Goals as goal

pub returns-in-Ok-OnInput : goal.returns-in-Ok-OnInput
returns-in-Ok-OnInput g c =
    let words : List (List ℕ) = map string_bytes c.args.words.items in
    c.answer_on_input.ensures words (subst (Takes words) c.in-Ok-OnInput.field-0-is c.in-Ok-OnInput.ensures.takes)

pub returns-in-Ok-Bench : goal.returns-in-Ok-Bench
returns-in-Ok-Bench g c =
    let words : List (List ℕ) = map string_bytes c.args.words.items in
    let natives = handed _ _ _ c.args.natives.now.items in
    let seed = c.in-Ok-Bench.seed in
    let calls = c.in-Ok-Bench.calls in
    let input = g.I.Source.state c.args.input.now in
    says_end words natives input input (g.O.Sink.state c.args.output.now) (g.O.Sink.state c.run_bench.new.output) (g.E.Sink.state c.args.faults.now) (g.E.Sink.state c.tell_end.new.faults) c.args.machine.now c.run_bench.new.machine (Bench seed calls) (subst (Takes words) c.in-Ok-Bench.field-0-is c.in-Ok-Bench.ensures.takes) [] (ready_for_bench seed calls natives input) c.run_bench.result c.tell_end.result c.run_bench.ensures c.tell_end.ensures

pub returns-in-Err-Refused : goal.returns-in-Err-Refused
returns-in-Err-Refused g c =
    failed (bad_words (subst (IsWordsRefusal (map string_bytes c.args.words.items)) c.in-Err-Refused.field-0-is c.in-Err-Refused.ensures.refused).0 refl refl refl) c.tell.ensures

pub returns-in-Err-NoMemory : goal.returns-in-Err-NoMemory
returns-in-Err-NoMemory g c = failed (no_memory_for_words refl refl refl) c.tell_fault.ensures
