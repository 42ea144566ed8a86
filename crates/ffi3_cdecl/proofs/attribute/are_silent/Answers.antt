use Rattle.std.proofs.Common.{arith, rules}
use Rattle.ffi3_cdecl.specs.QuotedOf.{quoted_of}
use Rattle.ffi3_cdecl.proofs.Attributes.{word_goes_on}
use Rattle.ffi3_cdecl.proofs.attribute.are_silent.Goals as goal

pub loop-n-preserved-then-begins_attribute : goal.loop-n-preserved-then-begins_attribute
loop-n-preserved-then-begins_attribute c =
    (omega (arith, c.more_of_word-more.ensures.within), omega (arith, c.loop-n.invariant.1), word_goes_on (quoted_of c.loop-n.quoted) c.loop-n.depth c.loop-n.n c.more_of_word-more.result c.args.bracket.now c.loop-n-test.true (search rules) (search rules) (search rules) c.more_of_word-more.ensures.value c.loop-n.invariant.2)
