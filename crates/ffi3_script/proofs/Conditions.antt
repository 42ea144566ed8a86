-- A move under a condition is the same move without it, but for the condition.
use Rattle.std.proofs.Common.{◌≡◌, ℕ, List, length, Option, Some, None, codes, refl, ap, sym, ◌∙◌}
use Rattle.serde_json.specs.Data.{Data}
use Rattle.serde_json.specs.Find.{get, as_str}
use Rattle.ffi3_type_spec.specs.Tree.{scalar, pointer}
use Rattle.ffi3_type_spec.specs.Signature.{signature_at}
use Rattle.ffi3_script_spec.specs.Language.{JsonPath, Reason, Read, read, fault, and_then, read_map, under, value_under, check_object}
use Rattle.ffi3_script_spec.specs.Script.{Expression, Expressions, Typed, Act, call, make, free, print, ScriptMove}
use Rattle.ffi3_script_spec.specs.Values.{Given, Scope, read_value, read_typed}
use Rattle.ffi3_script_spec.specs.Bodies.{Surroundings, Kind, call_kind, make_kind, free_kind, print_kind, return_kind, kind_of, keys_of, scope_of, unnamed, read_signature_number, read_arguments, read_name, read_function, read_user, read_result, read_condition, read_act, read_kind, read_move}
use Rattle.ffi3_script.proofs.Steps.{then_read}

abbrev pub under_condition : Option Typed → ScriptMove → ScriptMove
under_condition c m = record { condition = c; act = m.act; name = m.name }

call-named : (c : Option Typed) (to : Expression) (sig : ℕ) (arguments : Read Expressions) (name : Read (Option (List ℕ)))
    → and_then (λ es. read_map (λ n. record { condition = c; act = call to sig es; name = n }) name) arguments
    ≡ read_map (under_condition c) (and_then (λ es. read_map (λ n. record { condition = None; act = call to sig es; name = n }) name) arguments)
call-named c to sig (fault p r) name = refl
call-named c to sig (read es) (fault p r) = refl
call-named c to sig (read es) (read n) = refl

call-under : (c : Option Typed) (to : Read Expression) (sig : Read ℕ) (arguments : ℕ → Read Expressions) (name : ℕ → Read (Option (List ℕ)))
    → and_then (λ e. and_then (λ i. and_then (λ es. read_map (λ n. record { condition = c; act = call e i es; name = n }) (name i)) (arguments i)) sig) to
    ≡ read_map (under_condition c) (and_then (λ e. and_then (λ i. and_then (λ es. read_map (λ n. record { condition = None; act = call e i es; name = n }) (name i)) (arguments i)) sig) to)
call-under c (fault p r) sig arguments name = refl
call-under c (read e) (fault p r) arguments name = refl
call-under c (read e) (read i) arguments name = call-named c e i (arguments i) (name i)

make-under : (c : Option Typed) (function : Read ℕ) (user : Read Expression) (name : Read (Option (List ℕ)))
    → and_then (λ k. and_then (λ e. read_map (λ n. record { condition = c; act = make k e; name = n }) name) user) function
    ≡ read_map (under_condition c) (and_then (λ k. and_then (λ e. read_map (λ n. record { condition = None; act = make k e; name = n }) name) user) function)
make-under c (fault p r) user name = refl
make-under c (read k) (fault p r) name = refl
make-under c (read k) (read e) (fault p r) = refl
make-under c (read k) (read e) (read n) = refl

act-under : {A : Type 0} (c : Option Typed) (f : A → Act) (x : Read A) → read_map (λ a. unnamed c (f a)) x ≡ read_map (under_condition c) (read_map (λ a. unnamed None (f a)) x)
act-under c f (read a) = refl
act-under c f (fault p r) = refl

with_condition : (s : Surroundings) (given : List Given) (scope : Scope) (k : Kind) (d : Data) (path : JsonPath) (c : Option Typed) → read_act s given scope k d path c ≡ read_map (under_condition c) (read_act s given scope k d path None)
with_condition s given scope call_kind d path c =
    call-under c (read_value scope (scalar pointer) (value_under (codes "call") d) (under path (codes "call")))
    (read_signature_number (length s.signatures) (value_under (codes "sig") d) (under path (codes "sig")))
    (λ i. read_arguments scope (signature_at s.signatures i).arguments (value_under (codes "args") d) (under path (codes "args")))
    (λ i. read_name given (signature_at s.signatures i).result_type (get (codes "as") d) (under path (codes "as")))
with_condition s given scope make_kind d path c =
    make-under c (read_function s.functions (as_str (value_under (codes "make") d)) (under path (codes "make")))
    (read_user scope (get (codes "user") d) (under path (codes "user")))
    (read_name given (scalar pointer) (get (codes "as") d) (under path (codes "as")))
with_condition s given scope free_kind d path c =
    act-under c free (read_value scope (scalar pointer) (value_under (codes "free") d) (under path (codes "free")))
with_condition s given scope print_kind d path c =
    act-under c print (read_typed scope (value_under (codes "print") d) (under path (codes "print")))
with_condition s given scope return_kind d path c =
    act-under c (λ a. a) (read_result scope s.own.result_type (value_under (codes "return") d) (under path (codes "return")))

-- the move that an object is, of a kind, where its keys are right and its condition was read
module _ (s : Surroundings) (given : List Given) (d : Data) (path : JsonPath) (k : Kind) (c : Option Typed) (kind_is : Some k ≡ kind_of d) (checked : check_object d (keys_of k) path ≡ read tt)
    (condition_is : read_condition (scope_of s given) (get (codes "when") d) (under path (codes "when")) ≡ read c) where
  fields_left : read_move s given d path ≡ read_act s given (scope_of s given) k d path c
  fields_left =
      ap (read_kind s given d path) (sym kind_is)
      ∙ then_read _ (check_object d (keys_of k) path) tt checked
      ∙ then_read (read_act s given (scope_of s given) k d path) (read_condition (scope_of s given) (get (codes "when") d) (under path (codes "when"))) c condition_is

  pub move-read : (m : ScriptMove) → read_act s given (scope_of s given) k d path None ≡ read m → read_move s given d path ≡ read (under_condition c m)
  move-read m e =
      fields_left ∙ with_condition s given (scope_of s given) k d path c ∙ ap (read_map (under_condition c)) e

  pub move-refused : (p : JsonPath) (r : Reason) → read_act s given (scope_of s given) k d path None ≡ fault p r → read_move s given d path ≡ fault p r
  move-refused p r e =
      fields_left ∙ with_condition s given (scope_of s given) k d path c ∙ ap (read_map (under_condition c)) e
