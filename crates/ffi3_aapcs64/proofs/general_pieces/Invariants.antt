use Rattle.std.proofs.Common.{◌≡◌, ◌+◌, ◌-◌, ◌++◌}
use Rattle.ffi3_type_spec.specs.Layout.{size_of}
use Rattle.ffi3_place_spec.specs.declared.Loc.TheVariants.{G}
use Rattle.ffi3_place_spec.specs.Doublewords.{doublewords, doublewords_at, widening}
use Rattle.ffi3_aapcs64_spec.specs.Aapcs64.{general_pieces}
use Rattle.ffi3_aapcs64.proofs.general_pieces.Given as goal

abbrev pub invariant-loop-j : goal.invariant-loop-j
invariant-loop-j l = l.pieces ++ doublewords_at (λ k. G (l.general + k)) (size_of l.classed) (widening l.classed) l.j (doublewords l.classed - l.j) ≡ general_pieces l.general l.classed
