use Rattle.std.proofs.Common.{refl}
use Rattle.ffi3_aapcs64_spec.proofs.Steps.{member_turn}
use Rattle.ffi3_aapcs64.proofs.member_pieces.Goals as goal

pub loop-i-preserved : goal.loop-i-preserved
loop-i-preserved c =
    member_turn c.args.classed.now c.args.vector c.loop-i.i c.loop-i.pieces _ _ _ (rw (c.leaf_count-i-end.ensures, c.ty-ty.ensures) at c.loop-i-test.true) refl (rw c.ty-ty.ensures at c.in_ok-push_member.ensures) c.loop-i.invariant
