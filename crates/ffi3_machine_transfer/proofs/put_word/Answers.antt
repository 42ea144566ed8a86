use Rattle.std.proofs.Common.{◌≡◌, ◌-◌, length, sym, subst, rules}
use Rattle.ffi3_machine_transfer.specs.Passing.{passing}
use Rattle.ffi3_machine_transfer.specs.Stored.{IsPlace, IsWordPut}
use Rattle.ffi3_machine_transfer.proofs.Imaged.{word_put_there, taken, within_there}
use Rattle.ffi3_machine_transfer.proofs.put_word.Goals as goal

pub put_word-requires-clause-lies : goal.put_word-requires-clause-lies
put_word-requires-clause-lies c =
    subst (λ n. IsPlace n c.args.at) (sym c.offset_of-start.ensures.room) c.requires.lies

pub put_word-requires-clause-takes : goal.put_word-requires-clause-takes
put_word-requires-clause-takes c = taken c.args.machine.now.target c.args.at c.requires.writable

pub returns : goal.returns
returns c =
    let start = c.offset_of-start.result in
    let old = passing c.args.machine.now in
    let new = passing c.put_word.new.state.machine.now in
    let same = c.put_word.ensures.within (length old.stack - start) (subst (λ n. IsPlace n c.args.at) (sym c.offset_of-start.ensures.room) c.requires.lies) in
    let machine : c.machine-1.given.0 ≡ c.put_word.new.state.machine.now = search rules in
    subst (λ x. IsWordPut c.args.base c.args.at c.args.word (passing c.args.machine.now) (passing x)) (sym machine)
    (word_put_there c.args.base start c.offset_of-start.ensures.at old new c.args.at c.args.word same.1.sp (λ n lies. within_there c.args.base start c.offset_of-start.ensures.at old new n (c.put_word.ensures.within n lies).1.within) c.put_word.ensures.put)
