use Rattle.std.proofs.Common.{◌≡◌, map, drop}
use Rattle.std.specs.Prelude.{max}
use Rattle.ffi3_place_spec.specs.Standard.{need_of}
use Rattle.ffi3_app_spec.specs.BenchText.{greatest}
use Rattle.ffi3_bench.proofs.measure.greatest_need.Given as goal

abbrev pub invariant-loop-number : goal.invariant-loop-number
invariant-loop-number g l =
    max l.greatest (greatest (map (need_of g.A.Abi.standard) (drop l.number l.cifs))) ≡ greatest (map (need_of g.A.Abi.standard) l.cifs)
