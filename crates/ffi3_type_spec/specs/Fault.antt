-- What is wrong with a type, and which fault is the first. (libffi manual, "Structures": FFI_BAD_TYPEDEF; "Arrays, Unions, and Enumerations": an array is a part of a struct or of an array, and no argument or result, but one that stands for a complex long double, where places alone are asked; the limits, the left-out kinds, and what an array has to be made of are this library's)
use Rattle.std.specs.Prelude.{◌≡◌, ℕ, zero, suc, ◌+◌, ◌<◌, ◌⊎◌, Bool, true, false, List, [], ◌∷◌, length, Option, Some}
use Rattle.std.specs.Prelude.{slice_get, option_and_then, ◌||◌, ◌&&◌}
use Rattle.ffi3_type_spec.specs.declared.limits.TheConstants.{LARGEST_TYPE, DEEPEST_NESTING}
use Rattle.ffi3_type_spec.specs.declared.Role.{Role}
use Rattle.ffi3_type_spec.specs.declared.Role.TheVariants.{AsResult, AsArgument, AsElement, Anywhere, PlacedResult, PlacedArgument}
use Rattle.ffi3_type_spec.specs.Tree.{Tree, void, scalar, left_out, structure, array, LeftOutKind, no_trees, tree}
use Rattle.ffi3_type_spec.specs.Tree.{parts_of, is_complex}
use Rattle.ffi3_type_spec.specs.Layout.{size_of}

pub data Fault : Type 0 where
  bad_typedef : Fault
  left_out_type : Tree → Fault
  too_large : ℕ → Fault
  too_deep : Fault

-- element i of a struct; an array's element type has number 0
abbrev pub element_at : Tree → ℕ → Option Tree
element_at t i = slice_get (parts_of t) i

-- the node that a path of element numbers leads to
abbrev pub node_at : List ℕ → Tree → Option Tree
node_at [] t = Some t
node_at (i ∷ path) t = option_and_then (node_at path) (element_at t i)

-- void is a result, and no argument or element
abbrev pub takes_void : Role → Bool
takes_void AsResult = true
takes_void AsArgument = false
takes_void AsElement = false
takes_void Anywhere = true
takes_void PlacedResult = true
takes_void PlacedArgument = false

-- an array is an element, and no argument or result, but one that stands for a complex long double (below)
abbrev pub takes_array : Role → Bool
takes_array AsResult = false
takes_array AsArgument = false
takes_array AsElement = true
takes_array Anywhere = true
takes_array PlacedResult = false
takes_array PlacedArgument = false

-- a complex long double of x87's format, which is written as an array, is no part of a call on the machine
abbrev pub takes_complex : Role → Bool
takes_complex AsResult = false
takes_complex AsArgument = false
takes_complex AsElement = true
takes_complex Anywhere = true
takes_complex PlacedResult = true
takes_complex PlacedArgument = true

-- such a type may stand there, whatever is inside it
abbrev pub takes : Role → Tree → Bool
takes role void = takes_void role
takes role (scalar s) = true
takes role (left_out k) = true
takes role (structure ts) = true
takes role (array ts n) = takes_array role || (takes_complex role && is_complex ts n)

-- the role of the node at a path
abbrev pub role_at : Role → List ℕ → Role
role_at role [] = role
role_at role (i ∷ path) = AsElement

-- structs and arrays
abbrev pub has_parts : Tree → Bool
has_parts void = false
has_parts (scalar s) = false
has_parts (left_out k) = false
has_parts (structure ts) = true
has_parts (array ts n) = true

-- a struct of no elements, an array whose element type is not one, or whose count is 0
abbrev pub is_misshapen : Tree → Bool
is_misshapen void = false
is_misshapen (scalar s) = false
is_misshapen (left_out k) = false
is_misshapen (structure no_trees) = true
is_misshapen (structure (tree t ts)) = false
is_misshapen (array no_trees n) = true
is_misshapen (array (tree t no_trees) zero) = true
is_misshapen (array (tree t no_trees) (suc n)) = false
is_misshapen (array (tree t (tree u us)) n) = true

-- a fault of the node at a path, in a type that stands inside so many structs and arrays
pub data IsFault (outer : ℕ) (role : Role) (root : Tree) : List ℕ → Fault → Type 0 where
  out_of_place : {path : List ℕ} {node : Tree} → node_at path root ≡ Some node → takes (role_at role path) node ≡ false
      → IsFault outer role root path bad_typedef
  left_out_kind : {path : List ℕ} {kind : LeftOutKind} → node_at path root ≡ Some (left_out kind)
      → IsFault outer role root path (left_out_type (left_out kind))
  nested_deep : {path : List ℕ} {node : Tree}
      → node_at path root ≡ Some node → has_parts node ≡ true → DEEPEST_NESTING < outer + length path + 1
      → IsFault outer role root path too_deep
  misshapen : {path : List ℕ} {node : Tree} → node_at path root ≡ Some node → is_misshapen node ≡ true
      → IsFault outer role root path bad_typedef
  over_limit : {path : List ℕ} {node : Tree}
      → node_at path root ≡ Some node → has_parts node ≡ true → LARGEST_TYPE < size_of node
      → IsFault outer role root path (too_large (size_of node))

-- which of two faults of one node comes first
abbrev pub rank : Fault → ℕ
rank too_deep = 0
rank bad_typedef = 1
rank (left_out_type t) = 1
rank (too_large size) = 2

-- the fault f at path p comes before the fault g at path q: a node comes before its elements, elements come from the left, and the size of a struct or an array after all that is inside it
abbrev pub IsBefore : List ℕ → Fault → List ℕ → Fault → Type 0
IsBefore [] f [] g = rank f < rank g
IsBefore [] f (j ∷ q) g = rank f < 2
IsBefore (i ∷ p) f [] g = rank g ≡ 2
IsBefore (i ∷ p) f (j ∷ q) g = (i < j) ⊎ ((i ≡ j) × IsBefore p f q g)

abbrev pub HasNoFault : ℕ → Role → Tree → Type 0
HasNoFault outer role root =
    (path : List ℕ) (fault : Fault) → ¬ IsFault outer role root path fault

-- a type without fault as a result's, and one as an argument's
abbrev pub IsResultType : Tree → Type 0
IsResultType t = HasNoFault 0 AsResult t

abbrev pub IsArgumentType : Tree → Type 0
IsArgumentType t = HasNoFault 0 AsArgument t

-- a type without fault as a result, or an array without fault as an element: what has a layout, values and texts
abbrev pub IsLaidOut : Tree → Type 0
IsLaidOut t = HasNoFault 0 Anywhere t

pub record IsFirstFault (outer : ℕ) (role : Role) (root : Tree) (path : List ℕ) (fault : Fault) : Type 0 where
  pub is_there : IsFault outer role root path fault
  pub none_before : (q : List ℕ) (g : Fault) → IsFault outer role root q g → ¬ IsBefore q g path fault
