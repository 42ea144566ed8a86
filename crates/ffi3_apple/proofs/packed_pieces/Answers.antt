use Rattle.std.proofs.Common.{◌+◌, ◌-◌, ◌*◌, min}
use Rattle.ffi3_type_spec.specs.Layout.{size_of}
use Rattle.ffi3_place_spec.specs.declared.Loc.TheVariants.{S}
use Rattle.ffi3_place_spec.specs.declared.Ext.TheVariants.{Free}
use Rattle.ffi3_place_spec.proofs.Doublewords.{doublewords_turn}
use Rattle.ffi3_apple.proofs.packed_pieces.Goals as goal

pub loop-j-preserved : goal.loop-j-preserved
loop-j-preserved c =
    doublewords_turn (λ k. S (c.args.first + 8 * k) (min 8 (size_of c.args.classed.now - 8 * k))) (size_of c.args.classed.now) Free c.loop-j.j _ c.loop-j.pieces _ _ _ _ (rw c.doublewords-j-end.ensures.value at c.loop-j-test.true) (rw c.size-size.ensures.value at c.packed_place-place.ensures) (rw c.size-size.ensures.value at c.doubleword.ensures) c.in_ok-push.ensures.ok c.loop-j.invariant
