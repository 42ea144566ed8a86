use Rattle.std.proofs.Common.{◌≡◌, map}
use Rattle.std.specs.List.{range_with_len}
use Rattle.ffi3_type_spec.specs.Tree.{trees_of}
use Rattle.ffi3_type_spec.specs.Layout.{layouts, end_before, start_of}
use Rattle.ffi3_capi.proofs.whole.struct_offsets.Given as goal

abbrev pub invariant-loop-i : goal.invariant-loop-i
invariant-loop-i l = record {
  starts : l.offsets ≡ map (start_of (layouts (trees_of l.members))) (range_with_len 0 l.i);
  end : l.end ≡ end_before (layouts (trees_of l.members)) l.i;
}
