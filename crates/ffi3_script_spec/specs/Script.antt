-- What a script is once it is read: a plain tree. Names are resolved: signatures and functions go by number, a result by the number of the move of its body that names it.
use Rattle.std.specs.Prelude.{ℕ, List, [], ◌∷◌, Option}
use Rattle.ffi3_type_spec.specs.Tree.{Tree, Scalar}
use Rattle.ffi3_type_spec.specs.Signature.{Signature}

mutual
  pub data Expression : Type 0 where
    -- the bytes of a scalar
    constant : List ℕ → Expression
    -- a struct or an array, by its elements
    composed : Expressions → Expression
    argument : ℕ → Expression
    outcome : ℕ → Expression
    user_data : Expression
    -- an element of a struct or an array
    element : Expression → ℕ → Expression
    -- a value that is said to be of a type
    typed_as : Tree → Expression → Expression
    sum : Scalar → Expression → Expression → Expression
    difference : Scalar → Expression → Expression → Expression
    cast : (from to : Scalar) → Expression → Expression

  pub data Expressions : Type 0 where
    no_expressions : Expressions
    expression : Expression → Expressions → Expressions

-- a value with a type of its own
pub record Typed : Type 0 where
  pub type : Tree
  pub value : Expression

-- what a move does
pub data Act : Type 0 where
  call : (pointer : Expression) → (signature : ℕ) → (arguments : Expressions) → Act
  make : (function : ℕ) → (user : Expression) → Act
  free : (pointer : Expression) → Act
  print : Typed → Act
  return : Expression → Act
  -- from a function whose result is void
  return_void : Act

-- A move. Where its condition is 0 it is not done.
pub record ScriptMove : Type 0 where
  pub condition : Option Typed
  pub act : Act
  pub name : Option (List ℕ)

pub record ScriptFunction : Type 0 where
  pub name : List ℕ
  pub signature : ℕ
  pub body : List ScriptMove

pub record Script : Type 0 where
  -- of the language
  pub version : ℕ
  pub signatures : List Signature
  pub functions : List ScriptFunction
  pub main : List ScriptMove

abbrev pub expressions_of : List Expression → Expressions
expressions_of [] = no_expressions
expressions_of (e ∷ es) = expression e (expressions_of es)

abbrev pub expression_list : Expressions → List Expression
expression_list no_expressions = []
expression_list (expression e es) = e ∷ expression_list es
