use Rattle.ffi3_type_spec.proofs.Placed.{placed_result_is_laid_out}
use Rattle.ffi3_types.proofs.checked.PlacedSig.ret.Goals as goal

pub of-requires : goal.of-requires
of-requires c = rw c.ret.ensures (placed_result_is_laid_out c.self.inside.sig.now c.self.invariant)
