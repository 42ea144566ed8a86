use Rattle.std.proofs.Common.{sym, subst}
use Rattle.ffi3_type_spec.specs.Fault.{IsLaidOut}
use Rattle.ffi3_type_spec.proofs.Faults.{scalar_faults}
use Rattle.ffi3_text.proofs.layout.write_layout.Goals as goal

pub write_leaf-requires : goal.write_leaf-requires
write_leaf-requires c = subst IsLaidOut (sym c.get.ensures.kind) (scalar_faults _)
