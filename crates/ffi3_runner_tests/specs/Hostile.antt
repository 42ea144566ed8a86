-- Natives that nest, loop or take what they can: by which signature each is called, and what it does.
use Rattle.std.specs.Prelude.{ℕ, ℤ, pos, negsuc, ◌==◌, if◌then◌else◌, List, [], ◌∷◌, None, slice_index_or}
use Rattle.std.specs.Int.{w64, from_le_bytes}
use Rattle.ffi3_type_spec.specs.Tree.{scalar, void, pointer, s64, s8}
use Rattle.ffi3_type_spec.specs.Signature.{Signature}
use Rattle.ffi3_type_spec.specs.Integer.{bytes_of_number, sum_of, widened}
use Rattle.ffi3_type_spec.specs.Value.{ValueTree, void_value, leaf_value, bytes_of}
use Rattle.ffi3_semantics_spec.specs.Move.{Behaviour, Move, call, make, free, print, return}

-- sint64(pointer,sint64)
abbrev pub again_signature : Signature
again_signature =
    record { result_type = scalar s64; arguments = scalar pointer ∷ scalar s64 ∷ []; fixed = None }

-- sint64(pointer)
abbrev pub drop_signature : Signature
drop_signature =
    record { result_type = scalar s64; arguments = scalar pointer ∷ []; fixed = None }

-- void()
abbrev pub nothing_signature : Signature
nothing_signature = record { result_type = void; arguments = []; fixed = None }

abbrev pub argument : List ValueTree → ℕ → ValueTree
argument arguments i = slice_index_or arguments i void_value

-- the address that argument 0 is
abbrev pub address : List ValueTree → ℕ
address arguments = from_le_bytes w64 (bytes_of (argument arguments 0))

abbrev pub number : ℤ → ValueTree
number n = leaf_value (bytes_of_number s64 n)

-- a sint64 and another
abbrev pub plus : ValueTree → ℤ → ValueTree
plus v n = leaf_value (sum_of s64 (bytes_of v) (bytes_of (number n)))

-- a call of argument 0 with itself and one less than argument 1
abbrev pub once_less : List ValueTree → Move
once_less arguments =
    call (address arguments) 0 (argument arguments 0 ∷ plus (argument arguments 1) (negsuc 0) ∷ [])

-- AGAIN, on 0, returns it. On another number it calls argument 0 with itself and one less, and returns one more than the result.
abbrev pub again_behaviour : Behaviour
again_behaviour arguments user [] =
    if widened s64 (bytes_of (argument arguments 1)) == 0 then return (argument arguments 1) else once_less arguments
again_behaviour arguments user (r ∷ _) = return (plus r (pos 1))

-- DROP_SELF frees argument 0 and returns 5.
abbrev pub drop_behaviour : Behaviour
drop_behaviour arguments user [] = free (address arguments)
drop_behaviour arguments user (_ ∷ _) = return (number (pos 5))

-- FLOOD makes itself without end.
abbrev pub flood_behaviour : Behaviour
flood_behaviour arguments user results = make 0 0

-- TALKER prints 1 without end.
abbrev pub talker_behaviour : Behaviour
talker_behaviour arguments user results = print (scalar s8) (leaf_value (bytes_of_number s8 (pos 1)))
