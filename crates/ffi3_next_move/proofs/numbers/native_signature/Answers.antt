use Rattle.std.proofs.Common.{length, ap, ◌∙◌, arith}
use Rattle.ffi3_type_spec.specs.Signature.{signature_at}
use Rattle.ffi3_next_move.proofs.Numbering.{signature_here}
use Rattle.ffi3_next_move.proofs.Asked.{faultless_at}
use Rattle.ffi3_next_move.proofs.numbers.native_signature.Goals as goal

pub get-requires : goal.get-requires
get-requires g c =
    omega (arith, c.count_of-count.ensures.is _ c.native_at.ensures, ap length c.sigs_of.ensures.are)

pub returns-then-left-count-clause-is : goal.returns-then-left-count-clause-is
returns-then-left-count-clause-is g c =
    let same = ap (λ ss. signature_at ss c.loop-j.left) c.sigs_of.ensures.are in
    c.get.ensures ∙ same ∙ signature_here _ c.loop-j.j c.loop-j.left c.args.number _ c.native_at.ensures (omega (arith, c.count_of-count.ensures.is _ c.native_at.ensures)) c.loop-j.invariant

pub returns-then-left-count-clause-right : goal.returns-then-left-count-clause-right
returns-then-left-count-clause-right g c =
    faultless_at c.sigs_of.result.now _ c.loop-j.left c.get.result.now c.sigs_of.ensures.right c.sigs_of.ensures.are (omega (arith, c.count_of-count.ensures.is _ c.native_at.ensures)) c.get.ensures
