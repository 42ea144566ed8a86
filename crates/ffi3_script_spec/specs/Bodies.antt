-- Moves, bodies and the whole script, in the order of reading.
use Rattle.std.specs.Prelude.{ℕ, ◌+◌, ◌==◌, ◌&&◌, ◌||◌, List, [], ◌∷◌, ◌++◌, length, map, Bool, true, false, not}
use Rattle.std.specs.Prelude.{Option, Some, None, if◌then◌else◌, nat_lt, nat_le, bytes_eq, codes, option_and_then}
use Rattle.std.specs.Prelude.{is_some, is_none, position, pos}
use Rattle.std.specs.Char.{is_ascii_alphanumeric}
use Rattle.std.specs.List.{list_all, list_any}
use Rattle.serde_json.specs.Data.{Data, null, array, Items, no_items, item}
use Rattle.serde_json.specs.Find.{get, as_number, as_u64, as_str}
use Rattle.serde_json.specs.Events.{items_len}
use Rattle.ffi3_type_spec.specs.Tree.{Tree, void, scalar, pointer}
use Rattle.ffi3_type_spec.specs.Integer.{is_number_type, bytes_of_number}
use Rattle.ffi3_type_spec.specs.Signature.{Signature, signature_at}
use Rattle.ffi3_semantics_spec.specs.Move.{no_signature}
use Rattle.ffi3_script_spec.specs.Language.{Read, read, fault, and_then, read_map, JsonPath, under, at_item, Key}
use Rattle.ffi3_script_spec.specs.Language.{required, optional, check_object, value_under, read_signature}
use Rattle.ffi3_script_spec.specs.Language.{not_an_array, version_not_known, bad_name, name_twice, no_such_signature}
use Rattle.ffi3_script_spec.specs.Language.{no_such_function, not_a_move, void_result, wrong_count, not_null}
use Rattle.ffi3_script_spec.specs.Language.{no_return_at_the_end, wrong_type}
use Rattle.ffi3_script_spec.specs.Script.{Expression, constant, Expressions, Typed, Act, call, make, free, print}
use Rattle.ffi3_script_spec.specs.Script.{return, return_void, ScriptMove, ScriptFunction, Script}
use Rattle.ffi3_script_spec.specs.Values.{Given, Scope, has_name, read_value, read_values, read_typed}

-- ---- names and numbers

-- an ASCII letter, a digit or `_`
abbrev pub is_name_byte : ℕ → Bool
is_name_byte b = is_ascii_alphanumeric b || b == 95

-- 1 to 32 of them
abbrev pub is_name : List ℕ → Bool
is_name name = nat_le 1 (length name) && nat_le (length name) 32 && list_all is_name_byte name

abbrev pub is_one_of : List (List ℕ) → List ℕ → Bool
is_one_of [] name = false
is_one_of (other ∷ names) name = bytes_eq name other || is_one_of names name

-- a name that is not taken
abbrev pub new_name : (List ℕ → Bool) → Option (List ℕ) → JsonPath → Read (List ℕ)
new_name is_taken None path = fault path bad_name
new_name is_taken (Some name) path =
    if not (is_name name) then fault path bad_name
    else if is_taken name then fault path name_twice
    else read name

-- an integer below the number of signatures
abbrev pub signature_below : ℕ → Option ℕ → JsonPath → Read ℕ
signature_below count None path = fault path no_such_signature
signature_below count (Some i) path =
    if nat_lt i count then read i else fault path no_such_signature

abbrev pub read_signature_number : ℕ → Data → JsonPath → Read ℕ
read_signature_number count d path =
    signature_below count (option_and_then as_u64 (as_number d)) path

abbrev pub is_void_type : Tree → Bool
is_void_type void = true
is_void_type _ = false

-- ---- moves

-- what a body stands in: the script's version and signatures, the names of its functions and then of the natives, and the body's own signature
pub record Surroundings : Type 0 where
  pub version : ℕ
  pub signatures : List Signature
  pub functions : List (List ℕ)
  pub own : Signature

pub data Kind : Type 0 where
  call_kind : Kind
  make_kind : Kind
  free_kind : Kind
  print_kind : Kind
  return_kind : Kind

abbrev pub has_key : List ℕ → Data → Bool
has_key name d = is_some (get name d)

-- the first of these that is a key; only an object has keys
abbrev pub kind_of : Data → Option Kind
kind_of d =
    if has_key (codes "call") d then Some call_kind
    else if has_key (codes "make") d then Some make_kind
    else if has_key (codes "free") d then Some free_kind
    else if has_key (codes "print") d then Some print_kind
    else if has_key (codes "return") d then Some return_kind
    else None

abbrev pub keys_of : Kind → List Key
keys_of call_kind =
    optional (codes "when") ∷ required (codes "call") ∷ required (codes "sig") ∷ required (codes "args")
    ∷ optional (codes "as") ∷ []
keys_of make_kind =
    optional (codes "when") ∷ required (codes "make") ∷ optional (codes "user") ∷ optional (codes "as") ∷ []
keys_of free_kind = optional (codes "when") ∷ required (codes "free") ∷ []
keys_of print_kind = optional (codes "when") ∷ required (codes "print") ∷ []
keys_of return_kind = optional (codes "when") ∷ required (codes "return") ∷ []

-- a name that an earlier move of the body has given
abbrev pub is_given : List Given → List ℕ → Bool
is_given given name = list_any (has_name name) given

-- after the name itself: a void result has none
abbrev pub name_of_result : Tree → JsonPath → List ℕ → Read (Option (List ℕ))
name_of_result t path name =
    if is_void_type t then fault path void_result else read (Some name)

-- the name of a result of a type, where there is one
abbrev pub read_name : List Given → Tree → Option Data → JsonPath → Read (Option (List ℕ))
read_name given t None path = read None
read_name given t (Some d) path =
    and_then (name_of_result t path) (new_name (is_given given) (as_str d) path)

-- a condition is of an integer or pointer type
abbrev pub condition_of : JsonPath → Typed → Read (Option Typed)
condition_of path v =
    if is_number_type v.type then read (Some v) else fault path wrong_type

abbrev pub read_condition : Scope → Option Data → JsonPath → Read (Option Typed)
read_condition scope None path = read None
read_condition scope (Some d) path = and_then (condition_of path) (read_typed scope d path)

-- one value for each argument of the signature
abbrev pub read_arguments : Scope → List Tree → Data → JsonPath → Read Expressions
read_arguments scope ts (array ds) path =
    if items_len ds == length ts then read_values scope ts ds path 0 else fault path wrong_count
read_arguments scope ts _ path = fault path not_an_array

abbrev pub read_call : Surroundings → List Given → Scope → Option Typed → Data → JsonPath → Read ScriptMove
read_call s given scope condition d path =
    and_then
    (λ pointer. and_then
    (λ sig. and_then
    (λ arguments. read_map
    (λ name. record { condition = condition; act = call pointer sig arguments; name = name })
    (read_name given (signature_at s.signatures sig).result_type (get (codes "as") d) (under path (codes "as"))))
    (read_arguments scope (signature_at s.signatures sig).arguments
    (value_under (codes "args") d) (under path (codes "args"))))
    (read_signature_number (length s.signatures) (value_under (codes "sig") d) (under path (codes "sig"))))
    (read_value scope (scalar pointer) (value_under (codes "call") d) (under path (codes "call")))

abbrev pub function_numbered : Option ℕ → JsonPath → Read ℕ
function_numbered None path = fault path no_such_function
function_numbered (Some k) path = read k

-- a function by its name: the first of the script's, or else of the natives
abbrev pub read_function : List (List ℕ) → Option (List ℕ) → JsonPath → Read ℕ
read_function names None path = fault path no_such_function
read_function names (Some name) path =
    function_numbered (position (bytes_eq name) names) path

-- user data, 0 where there is none
abbrev pub read_user : Scope → Option Data → JsonPath → Read Expression
read_user scope None path = read (constant (bytes_of_number pointer (pos 0)))
read_user scope (Some d) path = read_value scope (scalar pointer) d path

abbrev pub read_make : Surroundings → List Given → Scope → Option Typed → Data → JsonPath → Read ScriptMove
read_make s given scope condition d path =
    and_then
    (λ function. and_then
    (λ user. read_map
    (λ name. record { condition = condition; act = make function user; name = name })
    (read_name given (scalar pointer) (get (codes "as") d) (under path (codes "as"))))
    (read_user scope (get (codes "user") d) (under path (codes "user"))))
    (read_function s.functions (as_str (value_under (codes "make") d)) (under path (codes "make")))

-- null where the function's result is void
abbrev pub read_result : Scope → Tree → Data → JsonPath → Read Act
read_result scope void null path = read return_void
read_result scope void _ path = fault path not_null
read_result scope t d path = read_map return (read_value scope t d path)

abbrev pub unnamed : Option Typed → Act → ScriptMove
unnamed condition act = record { condition = condition; act = act; name = None }

-- the fields of each kind of move, in order, after its condition
abbrev pub read_act : Surroundings → List Given → Scope → Kind → Data → JsonPath → Option Typed → Read ScriptMove
read_act s given scope call_kind d path condition = read_call s given scope condition d path
read_act s given scope make_kind d path condition = read_make s given scope condition d path
read_act s given scope free_kind d path condition =
    read_map
    (λ v. unnamed condition (free v))
    (read_value scope (scalar pointer) (value_under (codes "free") d) (under path (codes "free")))
read_act s given scope print_kind d path condition =
    read_map
    (λ v. unnamed condition (print v))
    (read_typed scope (value_under (codes "print") d) (under path (codes "print")))
read_act s given scope return_kind d path condition =
    read_map (unnamed condition)
    (read_result scope s.own.result_type (value_under (codes "return") d) (under path (codes "return")))

abbrev pub scope_of : Surroundings → List Given → Scope
scope_of s given = record { version = s.version; arguments = s.own.arguments; given = given }

abbrev pub read_kind : Surroundings → List Given → Data → JsonPath → Option Kind → Read ScriptMove
read_kind s given d path None = fault path not_a_move
read_kind s given d path (Some kind) =
    and_then
    (λ checked. and_then
    (read_act s given (scope_of s given) kind d path)
    (read_condition (scope_of s given) (get (codes "when") d) (under path (codes "when"))))
    (check_object d (keys_of kind) path)

-- A MOVE, after moves that give these results
abbrev pub read_move : Surroundings → List Given → Data → JsonPath → Read ScriptMove
read_move s given d path = read_kind s given d path (kind_of d)

-- ---- bodies

-- the type of a move's result; a return has none
abbrev pub type_of_act : List Signature → Act → Tree
type_of_act signatures (call to sig arguments) = (signature_at signatures sig).result_type
type_of_act signatures (make function user) = scalar pointer
type_of_act signatures _ = void

abbrev pub given_by : List Signature → ScriptMove → Given
given_by signatures m = record { name = m.name; type = type_of_act signatures m.act }

-- the moves of an array from number i on
abbrev pub read_moves : Surroundings → List Given → Items → JsonPath → ℕ → Read (List ScriptMove)
read_moves s given no_items path i = read []
read_moves s given (item d ds) path i =
    and_then
    (λ m. read_map (λ ms. m ∷ ms) (read_moves s (given ++ given_by s.signatures m ∷ []) ds path (i + 1)))
    (read_move s given d (at_item path i))

abbrev pub is_return : Act → Bool
is_return (return v) = true
is_return return_void = true
is_return _ = false

abbrev pub always_returns : ScriptMove → Bool
always_returns m = is_none m.condition && is_return m.act

-- the last move is a return without condition
abbrev pub ends : List ScriptMove → Bool
ends [] = false
ends (m ∷ []) = always_returns m
ends (m ∷ n ∷ ms) = ends (n ∷ ms)

abbrev pub if_ended : JsonPath → List ScriptMove → Read (List ScriptMove)
if_ended path ms = if ends ms then read ms else fault path no_return_at_the_end

-- A BODY: an array of moves
abbrev pub read_body : Surroundings → Data → JsonPath → Read (List ScriptMove)
read_body s (array ds) path = and_then (if_ended path) (read_moves s [] ds path 0)
read_body s _ path = fault path not_an_array

-- ---- the whole

abbrev pub script_keys : List Key
script_keys =
    required (codes "version") ∷ required (codes "signatures")
    ∷ required (codes "functions") ∷ required (codes "main") ∷ []

abbrev pub function_keys : List Key
function_keys = required (codes "name") ∷ required (codes "sig") ∷ required (codes "body") ∷ []

abbrev pub items_at : Data → JsonPath → Read Items
items_at (array ds) path = read ds
items_at _ path = fault path not_an_array

-- the integer 1 or 2
abbrev pub version_of : Option ℕ → JsonPath → Read ℕ
version_of None path = fault path version_not_known
version_of (Some n) path =
    if n == 1 || n == 2 then read n else fault path version_not_known

-- the signatures of an array from number i on
abbrev pub read_signatures : (version : ℕ) → Items → JsonPath → (i : ℕ) → Read (List Signature)
read_signatures version no_items path i = read []
read_signatures version (item d ds) path i =
    and_then
    (λ s. read_map (λ ss. s ∷ ss) (read_signatures version ds path (i + 1)))
    (read_signature version d (at_item path i))

-- a function's name and signature
pub record Heading : Type 0 where
  pub name : List ℕ
  pub signature : ℕ

abbrev pub read_heading : ℕ → List (List ℕ) → Data → JsonPath → Read Heading
read_heading count earlier d path =
    and_then
    (λ checked. and_then
    (λ name. read_map
    (λ sig. record { name = name; signature = sig })
    (read_signature_number count (value_under (codes "sig") d) (under path (codes "sig"))))
    (new_name (is_one_of earlier) (as_str (value_under (codes "name") d)) (under path (codes "name"))))
    (check_object d function_keys path)

-- those of an array from number i on, after functions of these names
abbrev pub read_headings : ℕ → List (List ℕ) → Items → JsonPath → ℕ → Read (List Heading)
read_headings count earlier no_items path i = read []
read_headings count earlier (item d ds) path i =
    and_then
    (λ h. read_map (λ hs. h ∷ hs) (read_headings count (earlier ++ h.name ∷ []) ds path (i + 1)))
    (read_heading count earlier d (at_item path i))

abbrev pub function_of : Heading → List ScriptMove → ScriptFunction
function_of h moves = record { name = h.name; signature = h.signature; body = moves }

-- the bodies of an array's functions from number i on
abbrev pub read_bodies : (version : ℕ) → List Signature → List (List ℕ) → List Heading → Items → JsonPath → ℕ
    → Read (List ScriptFunction)
read_bodies version signatures names hs no_items path i = read []
read_bodies version signatures names [] (item d ds) path i = read []
read_bodies version signatures names (h ∷ hs) (item d ds) path i =
    and_then
    (λ moves. read_map (λ fs. function_of h moves ∷ fs) (read_bodies version signatures names hs ds path (i + 1)))
    (read_body
    (record {
      version = version;
      signatures = signatures;
      functions = names;
      own = signature_at signatures h.signature;
    })
    (value_under (codes "body") d) (under (at_item path i) (codes "body")))

abbrev pub names_of : List Heading → List (List ℕ)
names_of hs = map (λ h. h.name) hs

-- the bodies, and then main
abbrev pub read_rest : List (List ℕ) → Data → (version : ℕ) → List Signature → Items → List Heading → Read Script
read_rest natives d version signatures fs hs =
    and_then
    (λ functions. read_map
    (λ main. record { version = version; signatures = signatures; functions = functions; main = main })
    (read_body
    (record { version = version; signatures = signatures; functions = names_of hs ++ natives; own = no_signature })
    (value_under (codes "main") d) (under [] (codes "main"))))
    (read_bodies version signatures (names_of hs ++ natives) hs fs (under [] (codes "functions")) 0)

-- A SCRIPT, beside natives of these names: the object, version, signatures, each function's name and signature, bodies, main.
abbrev pub read_script : List (List ℕ) → Data → Read Script
read_script natives d =
    and_then
    (λ checked. and_then
    (λ version. and_then
    (λ ss. and_then
    (λ signatures. and_then
    (λ fs. and_then
    (read_rest natives d version signatures fs)
    (read_headings (length signatures) [] fs (under [] (codes "functions")) 0))
    (items_at (value_under (codes "functions") d) (under [] (codes "functions"))))
    (read_signatures version ss (under [] (codes "signatures")) 0))
    (items_at (value_under (codes "signatures") d) (under [] (codes "signatures"))))
    (version_of (option_and_then as_u64 (as_number (value_under (codes "version") d))) (under [] (codes "version"))))
    (check_object d script_keys [])
