-- The natives: by which signature each is called, and what it does.
use Rattle.std.specs.Prelude.{ℕ, List, [], ◌∷◌, None, slice_index_or}
use Rattle.std.specs.Int.{w64, from_le_bytes}
use Rattle.ffi3_type_spec.specs.Tree.{scalar, s64, pointer}
use Rattle.ffi3_type_spec.specs.Signature.{Signature}
use Rattle.ffi3_type_spec.specs.Integer.{sum_of}
use Rattle.ffi3_type_spec.specs.Value.{ValueTree, void_value, leaf_value, bytes_of}
use Rattle.ffi3_semantics_spec.specs.Move.{Behaviour, Move, call, return}

-- sint64(sint64)
abbrev pub number_signature : Signature
number_signature =
    record { result_type = scalar s64; arguments = scalar s64 ∷ []; fixed = None }

-- sint64(pointer,sint64)
abbrev pub closure_signature : Signature
closure_signature =
    record { result_type = scalar s64; arguments = scalar pointer ∷ scalar s64 ∷ []; fixed = None }

-- sint64(sint64,sint64,sint64)
abbrev pub numbers_signature : Signature
numbers_signature =
    record { result_type = scalar s64; arguments = scalar s64 ∷ scalar s64 ∷ scalar s64 ∷ []; fixed = None }

-- the signatures of a native that calls a closure: its own, and the closure's
abbrev pub calling_signatures : List Signature
calling_signatures = closure_signature ∷ number_signature ∷ []

-- those of a native that calls nothing
abbrev pub sum3_signatures : List Signature
sum3_signatures = numbers_signature ∷ []

abbrev pub argument : List ValueTree → ℕ → ValueTree
argument arguments i = slice_index_or arguments i void_value

-- a call of the closure at argument 0, as a sint64(sint64), on a value
abbrev pub call_on : List ValueTree → ValueTree → Move
call_on arguments v =
    call (from_le_bytes w64 (bytes_of (argument arguments 0))) 1 (v ∷ [])

-- APPLY calls the closure on argument 1, and returns its result.
abbrev pub apply_behaviour : Behaviour
apply_behaviour arguments user [] = call_on arguments (argument arguments 1)
apply_behaviour arguments user (r ∷ _) = return r

-- TWICE calls the closure on argument 1, then on that result, and returns the second result.
abbrev pub twice_behaviour : Behaviour
twice_behaviour arguments user [] = call_on arguments (argument arguments 1)
twice_behaviour arguments user (r ∷ []) = call_on arguments r
twice_behaviour arguments user (_ ∷ r ∷ _) = return r

-- SUM3 returns the sum of its three arguments, modulo two to the 64th.
abbrev pub sum3_behaviour : Behaviour
sum3_behaviour arguments user results =
    return (leaf_value (sum_of s64
    (sum_of s64 (bytes_of (argument arguments 0)) (bytes_of (argument arguments 1)))
    (bytes_of (argument arguments 2))))
