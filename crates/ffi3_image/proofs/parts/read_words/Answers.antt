use Rattle.std.proofs.Common.{◌≡◌, ℕ, ◌+◌, ◌<◌, List, [], ◌∷◌, ◌++◌, Bor, rules, sym, subst, ◌∙◌, arith}
use Rattle.std.specs.Prelude.{option_map}
use Rattle.serde_json.specs.Find.{as_str}
use Rattle.serde_json.specs.Events.{items_len}
use Rattle.ffi3_script_spec.specs.Language.{at_item}
use Rattle.ffi3_json.specs.Parts.{item_at}
use Rattle.ffi3_image_spec.specs.Object.{read_word, read_words}
use Rattle.ffi3_image.proofs.Tellings.{tells_part}
use Rattle.ffi3_image.proofs.Words.{Done, done-more, done-fault, done-all}
use Rattle.ffi3_image.proofs.parts.read_words.Goals as goal

pub returns-in-Err-clause-err : goal.returns-in-Err-clause-err
returns-in-Err-clause-err c =
    let ds = c.args.items.now in
    let below : c.loop-i.i < items_len c.args.items.now = omega (arith, c.len-i-end.ensures.count) in
    let text : option_map (λ (s : Bor (List ℕ)). s.now) c.as_str.result ≡ as_str (item_at c.args.items.now c.loop-i.i) = search rules in
    let same : read_word (option_map (λ (s : Bor (List ℕ)). s.now) c.as_str.result) c.item.result ≡ read_word (as_str (item_at c.args.items.now c.loop-i.i)) (at_item c.args.at.now c.loop-i.i) = λ k. read_word (text k) (c.item.ensures k) in
    tells_part (read_words ds c.args.at.now 0) (read_word (option_map (λ (s : Bor (List ℕ)). s.now) c.as_str.result) c.item.result)
    (λ p r e. done-fault ds c.args.at.now c.loop-i.i c.loop-i.words.items p r below c.loop-i.invariant (sym same ∙ e)) c.in-Err.fault c.in-Err.ensures.err

pub loop-i-preserved : goal.loop-i-preserved
loop-i-preserved c =
    let ds = c.args.items.now in
    let below : c.loop-i.i < items_len c.args.items.now = omega (arith, c.len-i-end.ensures.count) in
    let text : option_map (λ (s : Bor (List ℕ)). s.now) c.as_str.result ≡ as_str (item_at c.args.items.now c.loop-i.i) = search rules in
    let same : read_word (option_map (λ (s : Bor (List ℕ)). s.now) c.as_str.result) c.item.result ≡ read_word (as_str (item_at c.args.items.now c.loop-i.i)) (at_item c.args.at.now c.loop-i.i) = λ k. read_word (text k) (c.item.ensures k) in
    let pushed : c.push.new.self.items ≡ c.loop-i.words.items ++ c.in-Ok.word ∷ [] = search rules in
    subst (Done ds c.args.at.now (c.loop-i.i + 1)) (sym pushed) (done-more ds c.args.at.now c.loop-i.i c.loop-i.words.items c.in-Ok.word below c.loop-i.invariant (sym same ∙ c.in-Ok.ensures.ok))

pub returns-clause-ok : goal.returns-clause-ok
returns-clause-ok c =
    done-all c.args.items.now c.args.at.now c.loop-i.i c.loop-i.words.items (omega (arith, c.len-i-end.ensures.count)) c.loop-i.invariant
