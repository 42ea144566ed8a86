-- The signatures that a stop speaks of.
use Rattle.std.specs.Prelude.{ℕ, ◌<◌}
use Rattle.ffi3_semantics_spec.specs.declared.Stop.{Stop}
use Rattle.ffi3_semantics_spec.specs.declared.Stop.TheVariants.{WrongSig}

-- a stop's numbers are those of signatures, of which there are so many
abbrev pub IsOfSigs : ℕ → Stop → Type 0
IsOfSigs count (WrongSig ptr site found) = (site < count) × (found < count)
IsOfSigs count _ = Unit {0}
