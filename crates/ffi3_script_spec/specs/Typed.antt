-- When a value of a script has a type, and when a body is well typed: its numbers lie in their lists and its values have their types. Every script that is read is well typed (`proofs/WellTyped.antt`), and what is well typed fits (`proofs/Fits.antt`).
use Rattle.std.specs.Prelude.{◌≡◌, ℕ, ◌+◌, ◌==◌, ◌&&◌, List, [], ◌∷◌, ◌++◌, length, map, Bool, true, false, Option}
use Rattle.std.specs.Prelude.{Some, None, nat_lt, is_none, replicate}
use Rattle.std.specs.List.{list_all}
use Rattle.ffi3_type_spec.specs.declared.Role.TheVariants.{AsResult, AsArgument, Anywhere}
use Rattle.ffi3_type_spec.specs.Tree.{Tree, void, scalar, structure, array, Trees, no_trees, tree, first_of, tree_at}
use Rattle.ffi3_type_spec.specs.Tree.{trees_of, Scalar, scalar_number, pointer}
use Rattle.ffi3_type_spec.specs.Tree as types
use Rattle.ffi3_type_spec.specs.Integer.{is_integer, is_number, is_number_type}
use Rattle.ffi3_type_spec.specs.Layout.{scalar_size}
use Rattle.ffi3_type_spec.specs.Same.{same_tree}
use Rattle.ffi3_type_spec.specs.Signature.{Signature, signature_at}
use Rattle.ffi3_type_spec.specs.Value.{ValueTree, fits}
use Rattle.ffi3_semantics_spec.specs.Move.{no_signature}
use Rattle.ffi3_type_spec.specs.FirstFault.{first_fault, first_signature_fault}
use Rattle.ffi3_script_spec.specs.Script.{Expression, constant, composed, argument, outcome, user_data, element}
use Rattle.ffi3_script_spec.specs.Script.{typed_as, sum, difference, cast, Expressions, no_expressions, expression}
use Rattle.ffi3_script_spec.specs.Script.{Typed, Act, call, make, free, print, return, return_void, ScriptMove}
use Rattle.ffi3_script_spec.specs.Script.{ScriptFunction, Script}
use Rattle.ffi3_script_spec.specs.Values.{Given, Scope, is_list_type}
use Rattle.ffi3_script_spec.specs.Bodies.{Surroundings, type_of_act, ends}

-- the types of what a value is computed from
pub record Kinds : Type 0 where
  pub arguments : List Tree
  pub outcomes : List Tree

abbrev pub same_scalar : Scalar → Scalar → Bool
same_scalar r s = scalar_number r == scalar_number s

-- type i of a list is this
abbrev pub is_at : List Tree → ℕ → Tree → Bool
is_at ts i t = nat_lt i (length ts) && same_tree (tree_at ts i) t

-- the type of a value that has one of its own
abbrev pub own_type : Kinds → Expression → Tree
own_type k (argument i) = tree_at k.arguments i
own_type k (outcome i) = tree_at k.outcomes i
own_type k user_data = scalar pointer
own_type k (element e i) = tree_at (types.elements_of (own_type k e)) i
own_type k (typed_as t e) = t
own_type k _ = void

abbrev pub is_scalar_of : ℕ → Tree → Bool
is_scalar_of size (scalar s) = size == scalar_size s
is_scalar_of size _ = false

-- the scalar type of an integer
abbrev pub is_integer_of : Scalar → Tree → Bool
is_integer_of s (scalar r) = same_scalar s r && is_integer r
is_integer_of s _ = false

-- the scalar type of an integer or a pointer
abbrev pub is_number_of : Scalar → Tree → Bool
is_number_of s (scalar r) = same_scalar s r && is_number r
is_number_of s _ = false

-- the types of the elements of a struct or an array
abbrev pub trees_in : Tree → Trees
trees_in (structure ts) = ts
trees_in (array ts n) = trees_of (replicate n (first_of ts))
trees_in _ = no_trees

-- a type that may be an argument's
abbrev pub is_right_argument : Tree → Bool
is_right_argument t = is_none (first_fault 0 AsArgument t)

abbrev mutual
  -- A VALUE HAS A TYPE
  pub has_type : Kinds → Tree → Expression → Bool
  has_type k t (constant bytes) = is_scalar_of (length bytes) t
  has_type k t (composed es) = is_list_type t && have_types k (trees_in t) es
  has_type k t (argument i) = is_at k.arguments i t
  has_type k t (outcome i) = is_at k.outcomes i t
  has_type k t user_data = same_tree (scalar pointer) t
  has_type k t (element e i) =
      is_at (types.elements_of (own_type k e)) i t && has_type k (own_type k e) e
  has_type k t (typed_as u e) =
      same_tree u t && (is_right_argument u && has_type k u e)
  has_type k t (sum s e f) = is_integer_of s t && (has_type k t e && has_type k t f)
  has_type k t (difference s e f) =
      is_integer_of s t && (has_type k t e && has_type k t f)
  has_type k t (cast from to e) =
      is_number_of to t && (is_number from && has_type k (scalar from) e)

  -- one for each
  pub have_types : Kinds → Trees → Expressions → Bool
  have_types k no_trees no_expressions = true
  have_types k no_trees (expression e es) = false
  have_types k (tree t ts) no_expressions = false
  have_types k (tree t ts) (expression e es) = has_type k t e && have_types k ts es

-- ---- moves

-- a value with a type of its own has it
abbrev pub is_typed : Kinds → Typed → Bool
is_typed k v = has_type k v.type v.value

-- a condition is of an integer or pointer type
abbrev pub is_condition : Kinds → Option Typed → Bool
is_condition k None = true
is_condition k (Some c) = is_number_type c.type && is_typed k c

-- a type that may be a result's
abbrev pub is_right : Tree → Bool
is_right t = is_none (first_fault 0 AsResult t)

-- a type that may be a result's, or an array that may be an element's: what has a text
abbrev pub is_laid_out : Tree → Bool
is_laid_out t = is_none (first_fault 0 Anywhere t)

-- what a body is typed in: the signatures, how many functions there are, and the type of its result
pub record Setting : Type 0 where
  pub signatures : List Signature
  pub functions : ℕ
  pub result_type : Tree

abbrev pub act_is_typed : Setting → Kinds → Act → Bool
act_is_typed s k (call to sig arguments) =
    nat_lt sig (length s.signatures)
    && (has_type k (scalar pointer) to && have_types k (trees_of (signature_at s.signatures sig).arguments) arguments)
act_is_typed s k (make function user) =
    nat_lt function s.functions && has_type k (scalar pointer) user
act_is_typed s k (free to) = has_type k (scalar pointer) to
act_is_typed s k (print v) = is_laid_out v.type && is_typed k v
act_is_typed s k (return e) = has_type k s.result_type e
act_is_typed s k return_void = same_tree void s.result_type

abbrev pub gives_too : Kinds → Tree → Kinds
gives_too k t = record k { outcomes = k.outcomes ++ t ∷ [] }

-- moves, after moves whose results have these types
abbrev pub moves_are_typed : Setting → Kinds → List ScriptMove → Bool
moves_are_typed s k [] = true
moves_are_typed s k (m ∷ ms) =
    is_condition k m.condition
    && (act_is_typed s k m.act && moves_are_typed s (gives_too k (type_of_act s.signatures m.act)) ms)

-- A BODY OF A SIGNATURE IS WELL TYPED: it ends with a return, and each of its moves has its types
abbrev pub body_is_typed : List Signature → ℕ → Signature → List ScriptMove → Bool
body_is_typed signatures functions own ms =
    ends ms
    && moves_are_typed
    (record { signatures = signatures; functions = functions; result_type = own.result_type })
    (record { arguments = own.arguments; outcomes = [] }) ms

-- ---- what a value stands in

abbrev pub types_of : List Given → List Tree
types_of given = map (λ g. g.type) given

-- the types of what values of a scope are computed from
abbrev pub kinds_of : Scope → Kinds
kinds_of scope =
    record { arguments = scope.arguments; outcomes = types_of scope.given }

-- its types may be those of arguments and results
abbrev pub scope_is_right : Scope → Bool
scope_is_right scope =
    list_all is_right_argument scope.arguments && list_all is_right (types_of scope.given)

-- the setting of the moves that are read in these surroundings
abbrev pub setting_of : Surroundings → Setting
setting_of s =
    record { signatures = s.signatures; functions = length s.functions; result_type = s.own.result_type }

-- ---- results

-- where there is no type there is no value of it
abbrev pub IsOfType : ValueTree → Option Tree → Type 0
IsOfType v None = ⊥
IsOfType v (Some t) = fits t v ≡ true

-- ---- the whole

abbrev pub signature_is_right : Signature → Bool
signature_is_right s = is_none (first_signature_fault s)

abbrev pub function_is_typed : List Signature → ℕ → ScriptFunction → Bool
function_is_typed signatures functions f =
    nat_lt f.signature (length signatures)
    && body_is_typed signatures functions (signature_at signatures f.signature) f.body

-- A SCRIPT IS WELL TYPED, beside so many natives
abbrev pub script_is_typed : ℕ → Script → Bool
script_is_typed natives script =
    list_all signature_is_right script.signatures
    && (list_all (function_is_typed script.signatures (length script.functions + natives)) script.functions
    && body_is_typed script.signatures (length script.functions + natives) no_signature script.main)
