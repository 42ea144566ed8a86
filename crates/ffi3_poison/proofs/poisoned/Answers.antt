use Rattle.std.proofs.Common.{get_or, ap, ◌∙◌, arith}
use Rattle.ffi3_poison.specs.Poison.{carries}
use Rattle.ffi3_poison.proofs.Poisoning.{word_of_chosen}
use Rattle.ffi3_poison.proofs.poisoned.Goals as goal

pub returns-clause-bytes : goal.returns-clause-bytes
returns-clause-bytes g c = λ k h.
    ap (λ xs. get_or xs k 0) (word_of_chosen (carries g.A.Abi.standard c.args.cif.now c.args.at) c.loop-k.bytes c.args.word c.args.byte c.from_le_bytes.result c.ranges.byte.fits c.loop-k.invariant.sized (λ j below. c.loop-k.invariant.done j (omega (arith, below, c.loop-k-test.false))) c.from_le_bytes.ensures) ∙ c.loop-k.invariant.done k (omega (arith, h, c.loop-k-test.false))
