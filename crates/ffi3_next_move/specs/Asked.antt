-- A move that a function of a run asks for.
use Rattle.std.specs.Prelude.{◌≡◌, ℕ, List, length}
use Rattle.ffi3_type_spec.specs.Signature.{Signature, signature_at}
use Rattle.ffi3_type_spec.specs.Value.{ValueTree}
use Rattle.ffi3_semantics_spec.specs.Move.{Move, Behaviour, MoveFits, no_signature, result_type_of}
use Rattle.ffi3_semantics_spec.specs.Meaning.{Program, Who, main, function, function_at, behaviour_of}
use Rattle.ffi3_semantics_spec.specs.SeenActivation.{SeenActivation, arguments_of}
use Rattle.ffi3_semantics_spec.specs.Follow.{IsOfType}

-- the signature by which it is called
abbrev pub own_signature : Program → Who → Signature
own_signature p main = no_signature
own_signature p (function k) = signature_at p.signatures (function_at p k).signature

-- THE MOVE IS THE PROGRAM'S: what the program says that this function does next in the activation; it fits by the numbers of the run; and after a result of its type this holds of that result.
pub record IsAsked (p : Program) (who : Who) (a : SeenActivation) (Holds : ValueTree → Type 0) (m : Move) : Type 0 where
  pub is : m ≡ behaviour_of p who (arguments_of a) a.user a.results
  pub fits : MoveFits p.signatures (length p.functions) a.signature.result_type m
  pub after : (r : ValueTree) → IsOfType r (result_type_of p.signatures m) → Holds r

-- the same of a body by its own numbers
pub record IsNext (signatures : List Signature) (functions : ℕ) (behaviour : Behaviour) (a : SeenActivation)
    (Holds : ValueTree → Type 0) (m : Move) : Type 0 where
  pub is : m ≡ behaviour (arguments_of a) a.user a.results
  pub fits : MoveFits signatures functions a.signature.result_type m
  pub after : (r : ValueTree) → IsOfType r (result_type_of signatures m) → Holds r
