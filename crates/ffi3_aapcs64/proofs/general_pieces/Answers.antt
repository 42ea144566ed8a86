use Rattle.std.proofs.Common.{◌+◌, refl}
use Rattle.ffi3_type_spec.specs.Layout.{size_of}
use Rattle.ffi3_place_spec.specs.declared.Loc.TheVariants.{G}
use Rattle.ffi3_place_spec.specs.Doublewords.{widening}
use Rattle.ffi3_place_spec.proofs.Doublewords.{doublewords_turn}
use Rattle.ffi3_aapcs64.proofs.general_pieces.Goals as goal

pub loop-j-preserved : goal.loop-j-preserved
loop-j-preserved c =
    doublewords_turn (λ k. G (c.args.general + k)) (size_of c.args.classed.now) (widening c.args.classed.now) c.loop-j.j _ c.loop-j.pieces _ _ _ _ (rw c.doublewords-j-end.ensures.value at c.loop-j-test.true) refl (rw (c.widening-ext.ensures, c.as_type.ensures.value, c.ty.ensures, c.size-size.ensures.value) at c.doubleword.ensures) c.in_ok-push.ensures.ok c.loop-j.invariant
