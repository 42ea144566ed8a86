-- Results follow: each fits the move that those before it give.
use Rattle.std.specs.Prelude.{◌≡◌, ℕ, ◌<◌, true, List, length, take, slice_index_or, Option, Some, None}
use Rattle.ffi3_type_spec.specs.Tree.{Tree}
use Rattle.ffi3_type_spec.specs.Signature.{Signature}
use Rattle.ffi3_type_spec.specs.Value.{ValueTree, void_value, fits}
use Rattle.ffi3_semantics_spec.specs.Move.{Behaviour, result_type_of}

-- where there is no type there is no value of it
abbrev pub IsOfType : ValueTree → Option Tree → Type 0
IsOfType v None = ⊥
IsOfType v (Some t) = fits t v ≡ true

-- after a return there is no result
abbrev pub ResultsFollow : List Signature → Behaviour → List ValueTree → ℕ → List ValueTree → Type 0
ResultsFollow signatures behaviour arguments user results =
    (i : ℕ) → i < length results
    → IsOfType
    (slice_index_or results i void_value)
    (result_type_of signatures (behaviour arguments user (take i results)))
