use Rattle.ffi3_type_spec.proofs.Placed.{faultless_is_placed}
use Rattle.ffi3_types.proofs.checked.CheckedSig.placed.Goals as goal

pub of-requires : goal.of-requires
of-requires c = faultless_is_placed c.self.inside.sig.now c.self.invariant
