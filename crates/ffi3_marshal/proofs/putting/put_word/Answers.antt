use Rattle.ffi3_marshal.proofs.Puts.{word_put}
use Rattle.ffi3_marshal.proofs.putting.put_word.Goals as goal

pub returns-clause-put : goal.returns-clause-put
returns-clause-put g c =
    word_put c.args.base c.args.at c.args.word c.to_le_bytes.result (g.W.ReadImage.image c.args.state.now) (g.W.ReadImage.image c.put.new.state) c.requires.whole c.ranges.word.fits c.to_le_bytes.ensures c.put.ensures.put
