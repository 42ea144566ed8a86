use Rattle.std.proofs.Common.{◌+◌, ◌*◌, refl}
use Rattle.ffi3_type_spec.specs.Layout.{size_of}
use Rattle.ffi3_place_spec.specs.declared.Loc.TheVariants.{S}
use Rattle.ffi3_place_spec.specs.Doublewords.{widening}
use Rattle.ffi3_place_spec.proofs.Doublewords.{doublewords_turn}
use Rattle.ffi3_place.proofs.parts.stack_pieces.Goals as goal

pub loop-j-preserved : goal.loop-j-preserved
loop-j-preserved c =
    doublewords_turn (λ k. S (c.args.start + 8 * k) 8) (size_of c.args.ty.now) (widening c.args.ty.now) c.loop-j.j _ c.loop-j.pieces _ _ _ _ (rw c.doublewords-count.ensures.value at c.loop-j-test.true) refl (rw (c.widening-ext.ensures, c.size-size.ensures.value, c.as_type.ensures.value) at c.doubleword.ensures) c.in_ok-push.ensures.ok c.loop-j.invariant
