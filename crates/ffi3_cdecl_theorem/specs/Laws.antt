-- What `told_laws` and `format_laws` say: one thing is told of a place, and a text has one reading with each format.
use Rattle.std.specs.Prelude.{◌≡◌, ℕ, List}
use Rattle.ffi3_format_spec.specs.declared.Format.{Format}
use Rattle.ffi3_cdecl_spec.specs.Tokens.{wide, Sign}
use Rattle.ffi3_cdecl_spec.specs.Reading.{Outcome, unexpected, IsReadingIn}
use Rattle.ffi3_cdecl_spec.specs.ReadingFor.{IsReadingFor, IsReadingEverywhere, read_for, read_everywhere}
use Rattle.ffi3_cdecl_spec.specs.Reasons.{Told}
use Rattle.ffi3_cdecl_spec.specs.Telling.{tell}
use Rattle.ffi3_cdecl_theorem.specs.Exactly.{IsToldExactly}

pub record ToldLaws : Type 0 where
  -- of each text that has an unexpected token, or ends too early, this is told
  pub told_exactly : (c : Sign) (text : List ℕ) (at : ℕ) → IsReadingIn wide c text (unexpected at)
      → IsToldExactly c text at (tell c text at)
  -- and nothing else
  pub told_once : (c : Sign) (text : List ℕ) (at : ℕ) (t : Told) → IsToldExactly c text at t → t ≡ tell c text at

pub record FormatLaws : Type 0 where
  -- with a format of long doubles
  pub reading_for : (f : Format) (c : Sign) (text : List ℕ) → IsReadingFor f c text (read_for f c text)
  pub one_reading_for : (f : Format) (c : Sign) (text : List ℕ) (o : Outcome) → IsReadingFor f c text o
      → o ≡ read_for f c text
  -- with all of them
  pub reading_everywhere : (c : Sign) (text : List ℕ) → IsReadingEverywhere c text (read_everywhere c text)
  pub one_reading_everywhere : (c : Sign) (text : List ℕ) (o : Outcome) → IsReadingEverywhere c text o
      → o ≡ read_everywhere c text
