use Rattle.std.proofs.Common.{◌≡◌, drop}
use Rattle.std.specs.List.{list_any}
use Rattle.ffi3_type_spec.specs.Layout.{leaves_of}
use Rattle.ffi3_amd64_spec.specs.Amd64.{is_integer_leaf_in}
use Rattle.ffi3_amd64.proofs.class_of.Given as goal

abbrev pub invariant-loop-i : goal.invariant-loop-i
invariant-loop-i l = list_any (is_integer_leaf_in l.eightbyte) (drop l.i (leaves_of l.ty)) ≡ list_any (is_integer_leaf_in l.eightbyte) (leaves_of l.ty)
