-- Pieces of a result that end within it.
use Rattle.std.specs.Prelude.{ℕ, ⊤}
use Rattle.std.specs.List.{AllByRecursion}
use Rattle.ffi3_place_spec.specs.declared.Res.{Res}
use Rattle.ffi3_place_spec.specs.declared.Res.TheVariants.{Nothing, Direct, Hidden}
use Rattle.ffi3_cif.specs.Runs.{EndsWithin}

abbrev pub ResultEndsWithin : ℕ → Res → Type 0
ResultEndsWithin size (Direct pieces) = AllByRecursion (EndsWithin size) pieces
ResultEndsWithin size Nothing = ⊤
ResultEndsWithin size (Hidden at buffer) = ⊤
