use Rattle.ffi3_type_spec.proofs.Placed.{faultless_is_placed}
use Rattle.ffi3_cif.proofs.Cif.prepare.Goals as goal

pub prepare-requires : goal.prepare-requires
prepare-requires g c = faultless_is_placed c.args.sig c.requires
