-- The signature by which a body is called.
use Rattle.std.specs.Prelude.{ℕ, List, Bool, true, Option, Some, None, nat_lt}
use Rattle.ffi3_type_spec.specs.Signature.{Signature, signature_at}
use Rattle.ffi3_semantics_spec.specs.Move.{no_signature}

-- a function's is one of the script's, by its number; main has neither arguments nor result
abbrev pub own_of : List Signature → Option ℕ → Signature
own_of signatures None = no_signature
own_of signatures (Some i) = signature_at signatures i

-- a number, where there is one, is below a count
abbrev pub is_below : ℕ → Option ℕ → Bool
is_below count (Some i) = nat_lt i count
is_below count None = true
