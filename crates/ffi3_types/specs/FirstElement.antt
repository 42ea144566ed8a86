-- The first fault among the elements of a struct, or of the element type of an array; and the role of a whole type.
use Rattle.std.specs.Prelude.{◌≡◌, ℕ, ◌<◌, List, ◌∷◌, length, Bool, true, false}
use Rattle.ffi3_type_spec.specs.declared.Role.{Role}
use Rattle.ffi3_type_spec.specs.declared.Role.TheVariants.{AsResult, AsArgument, AsElement}
use Rattle.ffi3_type_spec.specs.Tree.{Tree, tree_at}
use Rattle.ffi3_type_spec.specs.Fault.{Fault, HasNoFault, IsFirstFault}
use Rattle.ffi3_type_spec.specs.Signature.{Purpose, for_calls, for_places, result_role, argument_role}

-- none of the first n types has a fault
abbrev pub NoElementHasFault : ℕ → List Tree → ℕ → Type 0
NoElementHasFault outer ts n = (j : ℕ) → j < n → HasNoFault outer AsElement (tree_at ts j)

-- the path leads through the first type that has a fault
pub record IsFirstInElements (outer : ℕ) (ts : List Tree) (path : List ℕ) (fault : Fault) : Type 0 where
  pub number : ℕ
  pub rest : List ℕ
  pub path_is : path ≡ number ∷ rest
  pub in_range : number < length ts
  pub none_before : NoElementHasFault outer ts number
  pub first : IsFirstFault outer AsElement (tree_at ts number) rest fault

-- a whole type is a result or an argument
abbrev pub role_of : Bool → Role
role_of true = AsResult
role_of false = AsArgument

-- for calls on the machine, or for places alone
abbrev pub purpose_of : Bool → Purpose
purpose_of true = for_calls
purpose_of false = for_places

abbrev pub role_for : Bool → Bool → Role
role_for calls true = result_role (purpose_of calls)
role_for calls false = argument_role (purpose_of calls)
