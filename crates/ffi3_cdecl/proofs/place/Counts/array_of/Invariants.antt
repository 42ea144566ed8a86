use Rattle.std.proofs.Common.{◌≡◌, reverse, length}
use Rattle.ffi3_cdecl_spec.specs.Machine.{arrays}
use Rattle.ffi3_types.specs.TreeOf.{tree_of}
use Rattle.ffi3_cdecl.proofs.place.Counts.array_of.Given as goal

abbrev pub invariant-loop-count : goal.invariant-loop-count
invariant-loop-count l =
    arrays (reverse l.numbers.items) (tree_of l.ty) ≡ arrays (reverse l.initial.numbers.items) (tree_of l.initial.ty)

abbrev pub decreases-loop-count : goal.decreases-loop-count
decreases-loop-count l = length l.numbers.items
