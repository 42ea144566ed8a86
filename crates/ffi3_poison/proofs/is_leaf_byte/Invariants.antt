use Rattle.std.specs.Prelude.{false}
use Rattle.std.specs.List.{list_any}
use Rattle.std.proofs.Common.{◌≡◌, take}
use Rattle.ffi3_type_spec.specs.Layout.{leaves_of}
use Rattle.ffi3_poison.specs.Poison.{leaf_has}
use Rattle.ffi3_poison.proofs.is_leaf_byte.Given as goal

abbrev pub invariant-loop-i : goal.invariant-loop-i
invariant-loop-i l = list_any (leaf_has l.offset) (take l.i (leaves_of l.ty)) ≡ false
