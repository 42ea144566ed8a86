use Rattle.std.proofs.Common.{◌≡◌, ◌+◌, ◌-◌, ◌*◌, ◌++◌}
use Rattle.ffi3_type_spec.specs.Layout.{size_of}
use Rattle.ffi3_place_spec.specs.declared.Loc.TheVariants.{S}
use Rattle.ffi3_place_spec.specs.Doublewords.{doublewords, doublewords_at, widening, stack_pieces}
use Rattle.ffi3_place.proofs.parts.stack_pieces.Given as goal

abbrev pub invariant-loop-j : goal.invariant-loop-j
invariant-loop-j l = l.pieces ++ doublewords_at (λ k. S (l.start + 8 * k) 8) (size_of l.ty) (widening l.ty) l.j (doublewords l.ty - l.j) ≡ stack_pieces l.start l.ty
