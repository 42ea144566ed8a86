use Rattle.std.proofs.Common.{◌+◌}
use Rattle.ffi3_type_spec.specs.Layout.{size_of}
use Rattle.ffi3_place_spec.proofs.Doublewords.{doublewords_turn}
use Rattle.ffi3_riscv_spec.specs.Riscv.{word, extension}
use Rattle.ffi3_riscv.proofs.word_pieces.Goals as goal

pub loop-j-preserved : goal.loop-j-preserved
loop-j-preserved c =
    doublewords_turn (λ k. word (c.args.first + k)) (size_of c.args.ty.now) (extension c.args.ty.now) c.loop-j.j _ c.loop-j.pieces _ _ _ _ c.loop-j-test.true c.word.ensures (rw (c.extension-ext.ensures, c.size-size.ensures.value, c.as_type.ensures.value) at c.doubleword.ensures) c.in_ok-push.ensures.ok c.loop-j.invariant
