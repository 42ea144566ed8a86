use Rattle.std.proofs.Common.{rules, ◌≡◌, ◌+◌, ◌*◌, ◌^◌, ◌<◌, length, ap, arith}
use Rattle.ffi3_callee.proofs.SavedWords.{all_saved, all_stored, one_more_saved}
use Rattle.ffi3_callee.proofs.save_area.save_words.Goals as goal

pub loop-i-preserved : goal.loop-i-preserved
loop-i-preserved g c =
    let words = g.A.Abi.standard.save_area in
    let small : c.word_to_save-word.result < 2 ^ 64 = search rules in
    let eight : length c.to_le_bytes.result ≡ 8 = ap length c.to_le_bytes.ensures in
    one_more_saved c.args.from c.args.base c.args.hidden words c.args.machine.now c.loop-i.i (c.args.from + 8 * c.loop-i.i) c.word_at.result c.word_to_save-word.result c.to_le_bytes.result c.loop-i.machine c.store_stack.new.self
    c.requires.low c.requires.below c.address-at.ensures.high c.facts.ensures.stack (omega (arith, c.loop-i-test.true, c.count_of_words-i-end.ensures)) c.word_at.ensures small c.word_to_save-word.ensures c.to_le_bytes.ensures eight (search rules) c.store_stack.ensures c.loop-i.invariant

pub returns-clause-saved : goal.returns-clause-saved
returns-clause-saved g c =
    all_saved c.args.from c.args.base c.args.hidden g.A.Abi.standard.save_area c.args.machine.now c.loop-i.i c.loop-i.machine (omega (arith, c.loop-i-test.false, c.count_of_words-i-end.ensures)) c.loop-i.invariant

pub returns-clause-whole : goal.returns-clause-whole
returns-clause-whole g c =
    all_stored c.args.from c.args.base c.args.hidden g.A.Abi.standard.save_area c.args.machine.now c.loop-i.i c.loop-i.machine (omega (arith, c.loop-i-test.false, c.count_of_words-i-end.ensures)) c.loop-i.invariant
