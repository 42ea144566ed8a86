-- What `fault_laws` says: what is told of a text that is no declaration of the wide reading.
use Rattle.std.specs.Prelude.{◌≡◌, ℕ, true, List, [], ◌∷◌, ◌++◌}
use Rattle.ffi3_cdecl_spec.specs.Tokens.{wide, Sign, Token}
use Rattle.ffi3_cdecl_spec.specs.Reading.{IsViableIn, unexpected, IsReadingIn}
use Rattle.ffi3_cdecl_spec.specs.Expected.{Expected, is_of, CouldStand}
use Rattle.ffi3_cdecl_spec.specs.Reasons.{IsTold}
use Rattle.ffi3_cdecl_spec.specs.Telling.{tell}

pub record FaultLaws : Type 0 where
  -- of each text that has an unexpected token, or ends too early, this is told
  pub told : (c : Sign) (text : List ℕ) (at : ℕ) → IsReadingIn wide c text (unexpected at)
      → IsTold c text at (tell c text at)
  -- each token that could stand behind a beginning is of a kind that could
  pub none_left_out : (start : List Token) (x : Token) → IsViableIn wide (start ++ x ∷ [])
      → (k : Expected) × (is_of k x ≡ true) × CouldStand wide start k
