-- The script language, by cases on the JSON value: objects, types and signatures, or the first fault in the order of reading. Here: reasons, places, objects, types and signatures. `Values` and `Bodies` go on.
use Rattle.std.specs.Prelude.{ℕ, ◌+◌, ◌<◌, ◌^◌, ◌||◌, ◌&&◌, List, [], ◌∷◌, ◌++◌, Bool, true, false, not, ◌==◌, cond}
use Rattle.std.specs.Prelude.{Option, Some, None, option_and_then, is_some, unwrap_or, nat_lt, bytes_eq, codes, ⊤}
use Rattle.serde_json.specs.Data.{Data, null, boolean, number, string, array, object, Items, no_items, item, Members}
use Rattle.serde_json.specs.Data.{no_members, member}
use Rattle.serde_json.specs.Find.{get, as_number, as_u64, as_str}
use Rattle.serde_json.specs.Events.{items_len}
use Rattle.ffi3_type_spec.specs.Tree.{Tree, void, scalar, left_out, structure, struct_of, array_of, tree_at, parts_of}
use Rattle.ffi3_type_spec.specs.Tree.{long_double, complex, vector}
use Rattle.ffi3_type_spec.specs.Tree as types
use Rattle.ffi3_type_spec.specs.Names.{type_named}
use Rattle.ffi3_type_spec.specs.Fault as type_fault
use Rattle.ffi3_type_spec.specs.Signature.{Signature, SignatureFault, too_many, bad_type, bad_argument_type, Position}
use Rattle.ffi3_type_spec.specs.Signature.{at_result, at_argument}
use Rattle.ffi3_type_spec.specs.Signature as signature
use Rattle.ffi3_script_spec.specs.JsonPath.{PathStep, key}
use Rattle.ffi3_script_spec.specs.JsonPath as step
use Rattle.ffi3_type_spec.specs.FirstFault.{first_signature_fault}
use Rattle.ffi3_cdecl_spec.specs.Reading.{Outcome, reads, bad_token, unexpected, bad_number, bad_signature}
use Rattle.ffi3_cdecl_spec.specs.Machine as declaration

-- ---- reasons and places

-- why the value at a place is no part of a script
pub data Reason : Type 0 where
  not_an_object : Reason
  not_an_array : Reason
  unknown_key : Reason
  missing_key : List ℕ → Reason
  version_not_known : Reason
  not_a_type : Reason
  unknown_type : Reason
  not_a_count : Reason
  bad_typedef : Reason
  left_out_long_double : Reason
  left_out_complex : Reason
  left_out_vector : Reason
  too_large : ℕ → Reason
  too_deep : Reason
  too_many_arguments : ℕ → Reason
  bad_fixed : ℕ → ℕ → Reason
  bad_variadic_argument : Reason
  bad_declaration : ℕ → Reason
  bad_name : Reason
  name_twice : Reason
  no_such_signature : Reason
  no_such_function : Reason
  not_a_move : Reason
  void_result : Reason
  wrong_count : Reason
  not_null : Reason
  no_return_at_the_end : Reason
  not_an_integer : Reason
  bad_integer : Reason
  out_of_range : Reason
  bad_bytes : Reason
  wrong_type : Reason
  not_a_value : Reason
  no_type_of_its_own : Reason
  no_such_argument : Reason
  no_such_result : Reason
  no_such_field : Reason

-- the keys and numbers from the root to a value
abbrev pub JsonPath : Type 0
JsonPath = List PathStep

-- the member under a key
abbrev pub under : JsonPath → List ℕ → JsonPath
under path name = path ++ key name ∷ []

-- the item of a number
abbrev pub at_item : JsonPath → ℕ → JsonPath
at_item path i = path ++ step.number i ∷ []

-- what a value is read as, or the place and reason of its first fault
pub data Read (A : Type 0) : Type 0 where
  read : A → Read A
  fault : JsonPath → Reason → Read A

-- first the one, and then the other, which may speak of what was read
abbrev pub and_then : {A B : Type 0} → (A → Read B) → Read A → Read B
and_then more (read a) = more a
and_then more (fault path reason) = fault path reason

abbrev pub read_map : {A B : Type 0} → (A → B) → Read A → Read B
read_map f (read a) = read (f a)
read_map f (fault path reason) = fault path reason

-- ---- objects

-- a key that an object may have
pub record Key : Type 0 where
  pub name : List ℕ
  pub optional : Bool

abbrev pub required : List ℕ → Key
required name = record { name = name; optional = false }

abbrev pub optional : List ℕ → Key
optional name = record { name = name; optional = true }

abbrev pub is_key_of : List Key → List ℕ → Bool
is_key_of [] name = false
is_key_of (k ∷ keys) name = bytes_eq k.name name || is_key_of keys name

abbrev pub has_only : List Key → Members → Bool
has_only keys no_members = true
has_only keys (member name d ms) = is_key_of keys name && has_only keys ms

-- the first required key that is not there, in the order of the keys
abbrev pub first_missing : List Key → Data → Option (List ℕ)
first_missing [] d = None
first_missing (k ∷ keys) d = cond (k.optional || is_some (get k.name d)) (first_missing keys d) (Some k.name)

abbrev pub unless_missing : JsonPath → Option (List ℕ) → Read ⊤
unless_missing path None = read tt
unless_missing path (Some name) = fault path (missing_key name)

-- an object; no key but these; each required key
abbrev pub check_object : Data → List Key → JsonPath → Read ⊤
check_object (object ms) keys path =
    cond (has_only keys ms) (unless_missing path (first_missing keys (object ms))) (fault path unknown_key)
check_object _ keys path = fault path not_an_object

-- what stands under a key that is there
abbrev pub value_under : List ℕ → Data → Data
value_under name d = unwrap_or (get name d) null

-- ---- counts

abbrev pub count_of : JsonPath → Option ℕ → Read ℕ
count_of path None = fault path not_a_count
count_of path (Some n) = cond (nat_lt n (2 ^ 32)) (read n) (fault path not_a_count)

-- an integer from 0 to 4294967295
abbrev pub read_count : Data → JsonPath → Read ℕ
read_count d path = count_of path (option_and_then as_u64 (as_number d))

-- ---- types

abbrev pub type_of_name : JsonPath → Option Tree → Read Tree
type_of_name path None = fault path unknown_type
type_of_name path (Some t) = read t

-- version 1 of the script language has no arrays
abbrev pub has_arrays : (version : ℕ) → Bool
has_arrays version = not (version == 1)

-- a text is a name in the script's version; an object has the one key `struct`, or, in a version that has arrays, `array`
abbrev mutual
  pub read_type : (version : ℕ) → Data → JsonPath → Read Tree
  read_type version null path = fault path not_a_type
  read_type version (boolean b) path = fault path not_a_type
  read_type version (number n) path = fault path not_a_type
  read_type version (array ds) path = fault path not_a_type
  read_type version (string name) path = type_of_name path (type_named version name)
  read_type version (object ms) path = read_composite version ms path

  pub read_composite : (version : ℕ) → Members → JsonPath → Read Tree
  read_composite version no_members path = fault path not_a_type
  read_composite version (member name d no_members) path =
      cond (bytes_eq (codes "struct") name)
      (read_map struct_of (read_types version d (under path (codes "struct"))))
      (cond (bytes_eq (codes "array") name && has_arrays version) (read_array version d path) (fault path not_a_type))
  read_composite version (member name d (member other e ms)) path = fault path not_a_type

  -- an array, of the element type and how many elements there are; another shape is no type
  pub read_array : (version : ℕ) → Data → JsonPath → Read Tree
  read_array version (array (item d (item e no_items))) path =
      and_then
      (λ t. read_map (array_of t) (read_count e (at_item (under path (codes "array")) 1)))
      (read_type version d (at_item (under path (codes "array")) 0))
  read_array version _ path = fault path not_a_type

  -- an array of types
  pub read_types : ℕ → Data → JsonPath → Read (List Tree)
  read_types version null path = fault path not_an_array
  read_types version (boolean b) path = fault path not_an_array
  read_types version (number n) path = fault path not_an_array
  read_types version (string s) path = fault path not_an_array
  read_types version (object ms) path = fault path not_an_array
  read_types version (array ds) path = read_each version ds path 0

  -- each of the items from number i on, from the left
  pub read_each : (version : ℕ) → Items → JsonPath → (i : ℕ) → Read (List Tree)
  read_each version no_items path i = read []
  read_each version (item d ds) path i =
      and_then (λ t. read_map (λ ts. t ∷ ts) (read_each version ds path (i + 1))) (read_type version d (at_item path i))

-- ---- signatures

abbrev pub signature_keys : List Key
signature_keys = required (codes "ret") ∷ required (codes "args") ∷ optional (codes "fixed") ∷ []

-- a count, where it is there
abbrev pub read_fixed : Option Data → JsonPath → Read (Option ℕ)
read_fixed None path = read None
read_fixed (Some d) path = read_map Some (read_count d path)

-- a signature's shapes: the object, ret, args, fixed
abbrev pub read_shapes : (version : ℕ) → Data → JsonPath → Read Signature
read_shapes version d path =
    and_then
    (λ checked. and_then
    (λ ret. and_then
    (λ args. read_map
    (λ fixed. record { result_type = ret; arguments = args; fixed = fixed })
    (read_fixed (get (codes "fixed") d) (under path (codes "fixed"))))
    (read_types version (value_under (codes "args") d) (under path (codes "args"))))
    (read_type version (value_under (codes "ret") d) (under path (codes "ret"))))
    (check_object d signature_keys path)

-- the key under which the types stand that a type is made of
abbrev pub key_of_parts : Tree → List ℕ
key_of_parts (types.array ts n) = codes "array"
key_of_parts _ = codes "struct"

-- the node that a way of element numbers leads to in a type
abbrev pub inside_type : JsonPath → Tree → List ℕ → JsonPath
inside_type path t [] = path
inside_type path t (i ∷ way) =
    inside_type (at_item (under path (key_of_parts t)) i) (tree_at (parts_of t) i) way

abbrev pub place_of_type : JsonPath → Position → JsonPath
place_of_type path at_result = under path (codes "ret")
place_of_type path (at_argument i) = at_item (under path (codes "args")) i

abbrev pub type_at : Signature → Position → Tree
type_at s at_result = s.result_type
type_at s (at_argument i) = tree_at s.arguments i

abbrev pub place_of_fault : JsonPath → Signature → SignatureFault → JsonPath
place_of_fault path s (too_many n) = under path (codes "args")
place_of_fault path s (bad_type position way f) =
    inside_type (place_of_type path position) (type_at s position) way
place_of_fault path s (signature.bad_fixed n count) = under path (codes "fixed")
place_of_fault path s (bad_argument_type i) = place_of_type path (at_argument i)

-- The kinds that are left out are three. A fault tells of no other type, for which nothing depends on the reason here.
abbrev pub left_out_reason : Tree → Reason
left_out_reason (left_out long_double) = left_out_long_double
left_out_reason (left_out complex) = left_out_complex
left_out_reason (left_out vector) = left_out_vector
left_out_reason void = left_out_vector
left_out_reason (scalar s) = left_out_vector
left_out_reason (structure ts) = left_out_vector
left_out_reason (types.array ts n) = left_out_vector

abbrev pub reason_of_type_fault : type_fault.Fault → Reason
reason_of_type_fault type_fault.bad_typedef = bad_typedef
reason_of_type_fault (type_fault.left_out_type t) = left_out_reason t
reason_of_type_fault (type_fault.too_large size) = too_large size
reason_of_type_fault type_fault.too_deep = too_deep

abbrev pub reason_of_fault : SignatureFault → Reason
reason_of_fault (too_many n) = too_many_arguments n
reason_of_fault (bad_type position way f) = reason_of_type_fault f
reason_of_fault (signature.bad_fixed n count) = bad_fixed n count
reason_of_fault (bad_argument_type i) = bad_variadic_argument

abbrev pub unless_faulty : JsonPath → Signature → Option SignatureFault → Read Signature
unless_faulty path s None = read s
unless_faulty path s (Some f) = fault (place_of_fault path s f) (reason_of_fault f)

-- an object: its shapes, and only then its own first fault
abbrev pub object_signature : (version : ℕ) → Data → JsonPath → Read Signature
object_signature version d path =
    and_then (λ s. unless_faulty path s (first_signature_fault s)) (read_shapes version d path)

-- What a text declares, by what it is read as: the signature alone, since the name says nothing here. A fault of token, grammar or number is told by its offset, one of the signature by its reason; both stand at the text.
abbrev pub declared_signature : JsonPath → Outcome → Read Signature
declared_signature path (reads d) = read d.signature
declared_signature path (bad_token at) = fault path (bad_declaration at)
declared_signature path (unexpected at) = fault path (bad_declaration at)
declared_signature path (bad_number at) = fault path (bad_declaration at)
declared_signature path (bad_signature f) = fault path (reason_of_fault f)

-- version 1 of the script language has no declarations
abbrev pub has_declarations : (version : ℕ) → Bool
has_declarations version = not (version == 1)

-- the text of a declaration, where the value is one in the script's version
abbrev pub declaration_in : (version : ℕ) → Data → Option (List ℕ)
declaration_in version d = cond (has_declarations version) (as_str d) None

abbrev pub signature_by : (version : ℕ) → Data → JsonPath → Option (List ℕ) → Read Signature
signature_by version d path (Some text) = declared_signature path (declaration.read text)
signature_by version d path None = object_signature version d path

-- A SIGNATURE: a C declaration of a function, or an object.
abbrev pub read_signature : (version : ℕ) → Data → JsonPath → Read Signature
read_signature version d path = signature_by version d path (declaration_in version d)

-- ---- sizes

-- each array has fewer than 2^32 items
abbrev mutual
  pub HasShortArrays : Data → Type 0
  HasShortArrays null = Unit {0}
  HasShortArrays (boolean b) = Unit {0}
  HasShortArrays (number n) = Unit {0}
  HasShortArrays (string s) = Unit {0}
  HasShortArrays (array ds) = (items_len ds < 2 ^ 32) × HaveShortArrays ds
  HasShortArrays (object ms) = HaveShortMembers ms

  pub HaveShortArrays : Items → Type 0
  HaveShortArrays no_items = Unit {0}
  HaveShortArrays (item d ds) = HasShortArrays d × HaveShortArrays ds

  pub HaveShortMembers : Members → Type 0
  HaveShortMembers no_members = Unit {0}
  HaveShortMembers (member name d ms) = HasShortArrays d × HaveShortMembers ms
