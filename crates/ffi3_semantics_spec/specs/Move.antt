-- What a function does: one move after another, each a function of what the activation has seen.
use Rattle.std.specs.Prelude.{◌≡◌, ℕ, ◌<◌, ⊤, true, List, [], length, Option, Some, None}
use Rattle.ffi3_type_spec.specs.Tree.{Tree, void, scalar, pointer}
use Rattle.ffi3_type_spec.specs.Fault.{IsLaidOut}
use Rattle.ffi3_type_spec.specs.Signature.{Signature, signature_at}
use Rattle.ffi3_type_spec.specs.Value.{ValueTree, fits, all_fit, values_of}
use Rattle.ffi3_type_spec.specs.Tree.{trees_of}

-- signatures and functions go by number
pub data Move : Type 0 where
  call : (pointer signature : ℕ) → (arguments : List ValueTree) → Move
  make : (function user : ℕ) → Move
  free : (pointer : ℕ) → Move
  print : Tree → ValueTree → Move
  return : ValueTree → Move

-- the next move, from the arguments, the user data and the results of the moves so far
abbrev pub Behaviour : Type 0
Behaviour = List ValueTree → ℕ → List ValueTree → Move

-- a call without arguments and result
abbrev pub no_signature : Signature
no_signature = record { result_type = void; arguments = []; fixed = None }

-- the type of a move's result; after a return there is none
abbrev pub result_type_of : List Signature → Move → Option Tree
result_type_of signatures (call ptr sig args) = Some (signature_at signatures sig).result_type
result_type_of signatures (make func user) = Some (scalar pointer)
result_type_of signatures (free ptr) = Some void
result_type_of signatures (print t v) = Some void
result_type_of signatures (return v) = None

-- A move fits: its numbers lie in their lists, and its values have their types.
abbrev pub MoveFits : List Signature → ℕ → Tree → Move → Type 0
MoveFits signatures functions result_type (call ptr sig args) =
    (sig < length signatures) × (all_fit (trees_of (signature_at signatures sig).arguments) (values_of args) ≡ true)
MoveFits signatures functions result_type (make func user) = func < functions
MoveFits signatures functions result_type (free ptr) = ⊤
MoveFits signatures functions result_type (print t v) = IsLaidOut t × (fits t v ≡ true)
MoveFits signatures functions result_type (return v) = fits result_type v ≡ true
