use Rattle.ffi3_type_spec.proofs.Right.{result_is_laid_out}
use Rattle.ffi3_types.proofs.checked.CheckedSig.ret.Goals as goal

pub of-requires : goal.of-requires
of-requires c = rw c.ret.ensures (result_is_laid_out c.self.inside.sig.now c.self.invariant)
