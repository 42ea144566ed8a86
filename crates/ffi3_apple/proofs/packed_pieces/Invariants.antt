use Rattle.std.proofs.Common.{◌≡◌, ◌+◌, ◌-◌, ◌*◌, ◌++◌, min}
use Rattle.ffi3_type_spec.specs.Layout.{size_of}
use Rattle.ffi3_place_spec.specs.declared.Loc.TheVariants.{S}
use Rattle.ffi3_place_spec.specs.declared.Ext.TheVariants.{Free}
use Rattle.ffi3_place_spec.specs.Doublewords.{doublewords, doublewords_at}
use Rattle.ffi3_apple_spec.specs.Apple.{packed_pieces}
use Rattle.ffi3_apple.proofs.packed_pieces.Given as goal

abbrev pub invariant-loop-j : goal.invariant-loop-j
invariant-loop-j l = l.pieces ++ doublewords_at (λ k. S (l.first + 8 * k) (min 8 (size_of l.classed - 8 * k))) (size_of l.classed) Free l.j (doublewords l.classed - l.j) ≡ packed_pieces l.first l.classed
