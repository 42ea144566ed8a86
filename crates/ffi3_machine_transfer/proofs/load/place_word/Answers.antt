use Rattle.std.proofs.Common.{sym, ◌∙◌, subst}
use Rattle.ffi3_machine_transfer.specs.Passing.{passing}
use Rattle.ffi3_machine_transfer.specs.Stored.{IsPlace}
use Rattle.ffi3_machine_transfer.proofs.Imaged.{is_there, word_there}
use Rattle.ffi3_machine_transfer.proofs.load.place_word.Goals as goal

pub place_word-requires : goal.place_word-requires
place_word-requires c =
    is_there c.args.base c.offset_of-start.result c.offset_of-start.ensures.at (passing c.args.machine.now) c.args.at c.offset_of-start.ensures.within (subst (λ n. IsPlace n c.args.at) (sym c.offset_of-start.ensures.room) c.requires)

pub returns : goal.returns
returns c =
    c.place_word.ensures ∙ word_there c.args.base c.offset_of-start.result c.offset_of-start.ensures.at (passing c.args.machine.now) c.args.at
