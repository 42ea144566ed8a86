use Rattle.std.proofs.Common.{◌≡◌, sym, subst}
use Rattle.ffi3_machine_transfer.specs.Stored.{word_in}
use Rattle.ffi3_machine_transfer.specs.Passing.{passing}
use Rattle.ffi3_machine_transfer.proofs.load.own_word.Goals as goal

pub returns-in-S : goal.returns-in-S
returns-in-S c =
    let there = subst (λ l. c.place_word.result ≡ word_in c.args.base (passing c.args.machine.now) l) c.in-S.is c.place_word.ensures in
    subst (λ l. c.place_word.result ≡ word_in c.args.base c.args.machine.now l) (sym c.in-S.is) there
