-- The script of bench, made by a seed and a number of calls. (`docs/FORMATS.md`, "The script of bench")
use Rattle.std.specs.Prelude.{ℕ, zero, suc, ◌+◌, ◌*◌, ◌/◌, ◌%◌, ◌^◌, if◌then◌else◌, List, [], ◌∷◌, ◌++◌, length, map}
use Rattle.std.specs.Prelude.{replicate, slice_index_or, None, codes, pos}
use Rattle.ffi3_type_spec.specs.Tree.{Tree, void, scalar, left_out, structure, array, Trees, no_trees, tree, tree_at}
use Rattle.ffi3_type_spec.specs.Tree.{struct_of, Scalar, u8, s32, u64, float, double, pointer}
use Rattle.ffi3_type_spec.specs.Integer.{bytes_of_number, is_integer, is_floating}
use Rattle.ffi3_type_spec.specs.Layout.{scalar_size}
use Rattle.ffi3_type_spec.specs.Signature.{Signature}
use Rattle.ffi3_semantics_spec.specs.Closures.{slot_address}
use Rattle.ffi3_script_spec.specs.Script.{Expression, constant, composed, argument, outcome, element, sum, cast}
use Rattle.ffi3_script_spec.specs.Script.{Expressions, no_expressions, expression, expressions_of, Act, call, make}
use Rattle.ffi3_script_spec.specs.Script.{print, return, return_void, ScriptMove, ScriptFunction, Script}

-- ---- draws

-- A draw moves a state on, which begins as the seed modulo 2^31.
unfoldable pub first_state : ℕ → ℕ
first_state seed = seed % 2 ^ 31

unfoldable pub next_state : ℕ → ℕ
next_state x = (x * 1103515245 + 12345) % 2 ^ 31

-- what was drawn below n, where the state is x after the draw
unfoldable pub drawn : ℕ → ℕ → ℕ
drawn n x = x / 65536 % n

-- the state after so many draws
abbrev pub state_after : ℕ → ℕ → ℕ
state_after zero x = x
state_after (suc n) x = state_after n (next_state x)

-- ---- types and signatures

-- the types, by number
abbrev pub made_type : ℕ → Tree
made_type n =
    tree_at
    (scalar u8 ∷ scalar s32 ∷ scalar float ∷ scalar double
    ∷ struct_of (scalar u64 ∷ scalar u64 ∷ [])
    ∷ struct_of (scalar double ∷ scalar u8 ∷ [])
    ∷ struct_of (scalar float ∷ scalar float ∷ [])
    ∷ struct_of (scalar u64 ∷ scalar u64 ∷ scalar u64 ∷ []) ∷ [])
    n

-- so many types, drawn from state x on
abbrev pub drawn_types : ℕ → ℕ → List Tree
drawn_types zero x = []
drawn_types (suc n) x = made_type (drawn 8 (next_state x)) ∷ drawn_types n (next_state x)

-- The types of a signature's arguments but the last, drawn from state x on: first how many there are, 1 to 4, and then each.
abbrev pub drawn_arguments : ℕ → List Tree
drawn_arguments x = drawn_types (suc (drawn 4 (next_state x))) (next_state x)

abbrev pub after_arguments : ℕ → ℕ
after_arguments x = state_after (suc (drawn 4 (next_state x))) (next_state x)

-- the state before the arguments of signature s are drawn
abbrev pub state_before : ℕ → ℕ → ℕ
state_before seed zero = first_state seed
state_before seed (suc s) = after_arguments (state_before seed s)

-- the argument types of the four signatures
abbrev pub made_types : ℕ → List (List Tree)
made_types seed =
    drawn_arguments (state_before seed 0) ∷ drawn_arguments (state_before seed 1)
    ∷ drawn_arguments (state_before seed 2) ∷ drawn_arguments (state_before seed 3) ∷ []

abbrev pub types_at : List (List Tree) → ℕ → List Tree
types_at types s = slice_index_or types s []

-- behind them the last argument, the total
abbrev pub made_signature : List Tree → Signature
made_signature ts =
    record { result_type = scalar u64; arguments = ts ++ scalar u64 ∷ []; fixed = None }

-- ---- filling

-- a number as a constant
abbrev pub number : Scalar → ℕ → Expression
number s n = constant (bytes_of_number s (pos n))

-- a leaf filled with a number: an integer is that number, and floating bytes all are
abbrev pub filled_leaf : Scalar → ℕ → Expression
filled_leaf s n =
    if is_floating s then constant (replicate (scalar_size s) n) else number s n

-- how many leaves a type has
abbrev mutual
  pub leaves_in : Tree → ℕ
  leaves_in (structure ts) = all_leaves_in ts
  leaves_in _ = 1

  pub all_leaves_in : Trees → ℕ
  all_leaves_in no_trees = 0
  all_leaves_in (tree t ts) = leaves_in t + all_leaves_in ts

-- a value filled from the number n on, one more for each leaf (no array is drawn)
abbrev mutual
  pub filled : ℕ → Tree → Expression
  filled n void = constant []
  filled n (scalar s) = filled_leaf s n
  filled n (left_out k) = constant []
  filled n (structure ts) = composed (all_filled n ts)
  filled n (array ts count) = constant []

  pub all_filled : ℕ → Trees → Expressions
  all_filled n no_trees = no_expressions
  all_filled n (tree t ts) = expression (filled n t) (all_filled (n + leaves_in t) ts)

-- a value for each argument but the last
abbrev pub filled_arguments : ℕ → List Tree → List Expression
filled_arguments n [] = []
filled_arguments n (t ∷ ts) = filled n t ∷ filled_arguments (n + leaves_in t) ts

-- ---- sums

-- a sum, and all integer leaves of a value of a type added
abbrev mutual
  pub with_leaves : Expression → Tree → Expression → Expression
  with_leaves so_far void e = so_far
  with_leaves so_far (scalar s) e =
      if is_integer s then sum u64 so_far (cast s u64 e) else so_far
  with_leaves so_far (left_out k) e = so_far
  with_leaves so_far (structure ts) e = with_elements so_far 0 ts e
  with_leaves so_far (array ts n) e = so_far

  -- those of its elements from number i on
  pub with_elements : Expression → ℕ → Trees → Expression → Expression
  with_elements so_far i no_trees e = so_far
  with_elements so_far i (tree t ts) e =
      with_elements (with_leaves so_far t (element e i)) (suc i) ts e

-- those of the arguments from number i on, which have these types
abbrev pub with_arguments : Expression → ℕ → List Tree → Expression
with_arguments so_far i [] = so_far
with_arguments so_far i (t ∷ ts) =
    with_arguments (with_leaves so_far t (argument i)) (suc i) ts

-- ---- bodies

abbrev pub does : Act → ScriptMove
does act = record { condition = None; act = act; name = None }

-- a call of the closure of function s, filled with v, the total last
abbrev pub made_call : List (List Tree) → (s v : ℕ) → (total : Expression) → ScriptMove
made_call types s v total =
    does
    (call (number pointer (slot_address s)) s (expressions_of (filled_arguments v (types_at types s) ++ total ∷ [])))

-- a function's own total: its last argument
abbrev pub own_total : List Tree → Expression
own_total ts = argument (length ts)

-- The body of function s. It calls the function before it, if there is one, and returns the sum of its total, that call's result and its integer leaves.
abbrev pub made_body : List (List Tree) → ℕ → List ScriptMove
made_body types zero =
    does (return (with_arguments (own_total (types_at types 0)) 0 (types_at types 0))) ∷ []
made_body types (suc s) =
    made_call types s 0 (own_total (types_at types (suc s)))
    ∷ does (return
    (with_arguments (sum u64 (own_total (types_at types (suc s))) (outcome 0)) 0 (types_at types (suc s)))) ∷ []

abbrev pub made_function : List (List Tree) → ℕ → ScriptFunction
made_function types s =
    record { name = codes "f" ++ (48 + s) ∷ []; signature = s; body = made_body types s }

-- the total of main's call j: the result of the call before it, 0 at first (main's first four moves make the closures)
abbrev pub total_of : ℕ → Expression
total_of zero = number u64 0
total_of (suc j) = outcome (4 + j)

-- The n calls of main from number j on, drawn from state x on: first the function, then what its arguments are filled with. At the end the last result is printed.
abbrev pub made_calls : List (List Tree) → (n j x : ℕ) → List ScriptMove
made_calls types zero j x =
    does (print (record { type = scalar u64; value = total_of j })) ∷ does return_void ∷ []
made_calls types (suc n) j x =
    made_call types (drawn 4 (next_state x)) (drawn 100 (next_state (next_state x))) (total_of j)
    ∷ made_calls types n (suc j) (next_state (next_state x))

-- a closure of function s, without user data
abbrev pub makes : ℕ → ScriptMove
makes s = does (make s (number pointer 0))

abbrev pub made_main : List (List Tree) → (calls x : ℕ) → List ScriptMove
made_main types calls x =
    makes 0 ∷ makes 1 ∷ makes 2 ∷ makes 3 ∷ made_calls types calls 0 x

-- ---- the whole

abbrev pub script_from : List (List Tree) → (calls x : ℕ) → Script
script_from types calls x = record {
  version = 1;
  signatures = map made_signature types;
  functions = made_function types 0 ∷ made_function types 1 ∷ made_function types 2 ∷ made_function types 3 ∷ [];
  main = made_main types calls x;
}

-- THE MADE SCRIPT of a seed and a number of calls
abbrev pub made : (seed calls : ℕ) → Script
made seed calls = script_from (made_types seed) calls (state_before seed 4)
