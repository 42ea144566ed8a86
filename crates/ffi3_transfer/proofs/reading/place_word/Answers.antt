use Rattle.ffi3_transfer.proofs.reading.place_word.Goals as goal

pub place_word-requires : goal.place_word-requires
place_word-requires c = c.requires
