use Rattle.std.proofs.Common.{◌≡◌, map, take}
use Rattle.ffi3_type_spec.specs.Layout.{leaves_of}
use Rattle.ffi3_capi.specs.Laid.{laid_leaf}
use Rattle.ffi3_capi.proofs.layouts.laid_leaves.Given as goal

abbrev pub invariant-loop-i : goal.invariant-loop-i
invariant-loop-i l = l.laid ≡ map laid_leaf (take l.i (leaves_of l.ty))
