use Rattle.std.proofs.Common.{◌≡◌, ◌+◌, ◌*◌, ◌≤◌, ◌++◌, map, drop}
use Rattle.ffi3_place.specs.WithoutCopy.{without_copy}
use Rattle.ffi3_riscv_spec.specs.Riscv.{spots_after, taken_after, taken_by_all, placing_of}
use Rattle.ffi3_riscv.proofs.place_all.Given as goal

abbrev pub invariant-loop-i : goal.invariant-loop-i
invariant-loop-i l = record {
  few : l.taken.floats ≤ 8;
  low : l.taken.words ≤ 1 + 3 * l.i;
  taken : taken_after l.sig.fixed l.taken l.i (drop l.i l.sig.arguments) ≡ taken_by_all l.sig;
  done : l.places ++ map without_copy (spots_after l.sig.fixed l.taken l.i (drop l.i l.sig.arguments)) ≡ map without_copy (placing_of l.sig).arguments;
}
