use Rattle.std.proofs.Common.{arith}
use Rattle.ffi3_callee.proofs.SavedWords.{one_more_back, all_back, all_given}
use Rattle.ffi3_callee.proofs.save_area.restore_words.Goals as goal

pub loop-i-preserved : goal.loop-i-preserved
loop-i-preserved g c =
    one_more_back c.args.from g.A.Abi.standard.save_area c.args.machine.now c.loop-i.i c.word_at.result c.loop-i.machine c.restore_word.new.machine c.address-at.ensures.low (omega (arith, c.loop-i-test.true, c.count_of_words-i-end.ensures)) c.word_at.ensures c.requires.registers
    c.restore_word.ensures.is c.restore_word.ensures.stays c.restore_word.ensures.within c.restore_word.ensures.whole c.loop-i.invariant

pub returns-clause-given_back : goal.returns-clause-given_back
returns-clause-given_back g c =
    all_back c.args.from g.A.Abi.standard.save_area c.args.machine.now c.loop-i.i c.loop-i.machine (omega (arith, c.loop-i-test.false, c.count_of_words-i-end.ensures)) c.loop-i.invariant

pub returns-clause-whole : goal.returns-clause-whole
returns-clause-whole g c =
    all_given c.args.from g.A.Abi.standard.save_area c.args.machine.now c.loop-i.i c.loop-i.machine (omega (arith, c.loop-i-test.false, c.count_of_words-i-end.ensures)) c.loop-i.invariant
