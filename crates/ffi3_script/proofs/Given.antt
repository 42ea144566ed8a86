-- Names that moves have given, and names that are free.
use Rattle.std.proofs.Common.{◌≡◌, ℕ, suc, ◌+◌, ◌||◌, Bool, true, false, not, cond, List, [], ◌∷◌, length, Option, Some, None, position, codes, nat_lt, refl, sym, ap, ◌∙◌, arith}
use Rattle.std.specs.Prelude.{is_some}
use Rattle.std.specs.List.{list_any, prefix_len}
use Rattle.std.proofs.lemmas.Bool.Decides.{nat_tests}
use Rattle.serde_json.specs.Data.{Data}
use Rattle.serde_json.specs.Find.{get, as_str}
use Rattle.ffi3_type_spec.specs.Tree.{Tree}
use Rattle.ffi3_script_spec.specs.Language.{JsonPath, Reason, read, fault, and_then, void_result, bad_name, name_twice}
use Rattle.ffi3_script_spec.specs.Values.{is_name_of, has_name}
use Rattle.ffi3_script_spec.specs.Bodies.{is_name, new_name, is_given, is_void_type, read_name, name_of_result}
use Rattle.ffi3_types.specs.TreeOf.{tree_of}
use Rattle.ffi3_types.specs.declared.FfiType.{FfiType}
use Rattle.ffi3_types.specs.declared.FfiType.TheVariants.{Void, U8, S8, U16, S16, U32, S32, U64, S64, U128, S128, Float, Double, Pointer, Struct, Array, LongDouble, Complex, Vector, X87, Binary128}
use Rattle.ffi3_script.specs.Taken.{is_taken}
use Rattle.ffi3_script.specs.ScopeOf.{given_of}

-- whether one is found
any_step : (b : Bool) (k n : ℕ) (rest : Bool) → rest ≡ nat_lt k n → (b || rest) ≡ nat_lt (cond (not b) (1 + k) 0) (suc n)
any_step true k n rest e = grind (arith, nat_tests)
any_step false k n rest e = e ∙ grind (arith, nat_tests)

any-below : {X : Type 0} (p : X → Bool) (xs : List X) → list_any p xs ≡ nat_lt (prefix_len (λ x. not (p x)) xs) (length xs)
any-below p [] = grind (arith, nat_tests)
any-below p (x ∷ xs) = any_step (p x) (prefix_len (λ y. not (p y)) xs) (length xs) (list_any p xs) (any-below p xs)

is_some-cond : (b : Bool) (k : ℕ) → b ≡ is_some (cond b (Some k) None)
is_some-cond true k = refl
is_some-cond false k = refl

pub any-position : {X : Type 0} (p : X → Bool) (xs : List X) → list_any p xs ≡ is_some (position p xs)
any-position p xs = any-below p xs ∙ is_some-cond (nat_lt (prefix_len (λ x. not (p x)) xs) (length xs)) (prefix_len (λ x. not (p x)) xs)

any-given : (name : List ℕ) (names : List (Option (List ℕ))) (types : List Tree) → length names ≡ length types → list_any (has_name name) (given_of names types) ≡ list_any (is_name_of name) names
any-given name [] types even = refl
any-given name (n ∷ names) [] even = absurd (omega arith)
any-given name (n ∷ names) (t ∷ types) even = ap (λ b. is_name_of name n || b) (any-given name names types (omega arith))

pub given-taken : (names : List (Option (List ℕ))) (types : List Tree) → length names ≡ length types → (name : List ℕ) → is_given (given_of names types) name ≡ is_taken names name
given-taken names types even name = any-given name names types even ∙ any-position (is_name_of name) names

pub new_name-same : (f g : List ℕ → Bool) → ((name : List ℕ) → f name ≡ g name) → (o : Option (List ℕ)) (path : JsonPath) → new_name f o path ≡ new_name g o path
new_name-same f g same None path = refl
new_name-same f g same (Some name) path =
    ap (λ b. cond (not (is_name name)) (fault path bad_name) (cond b (fault path name_twice) (read name))) (same name)

-- ---- the name of a result

module _ (names : List (Option (List ℕ))) (types : List Tree) (even : length names ≡ length types) (t : Tree) (d named : Data) (path : JsonPath) (there : Some named ≡ get (codes "as") d) where
  named-is : read_name (given_of names types) t (get (codes "as") d) path ≡ and_then (name_of_result t path) (new_name (is_taken names) (as_str named) path)
  named-is =
      ap (λ o. read_name (given_of names types) t o path) (sym there)
      ∙ ap (and_then (name_of_result t path)) (new_name-same (is_given (given_of names types)) (is_taken names) (given-taken names types even) (as_str named) path)

  pub name-fault : (p : JsonPath) (r : Reason) → new_name (is_taken names) (as_str named) path ≡ fault p r → read_name (given_of names types) t (get (codes "as") d) path ≡ fault p r
  name-fault p r e = named-is ∙ ap (and_then (name_of_result t path)) e

  name-of : (name : List ℕ) → new_name (is_taken names) (as_str named) path ≡ read name → read_name (given_of names types) t (get (codes "as") d) path ≡ name_of_result t path name
  name-of name e = named-is ∙ ap (and_then (name_of_result t path)) e

  pub name-void : (name : List ℕ) → new_name (is_taken names) (as_str named) path ≡ read name → is_void_type t ≡ true → read_name (given_of names types) t (get (codes "as") d) path ≡ fault path void_result
  name-void name e is_void = name-of name e ∙ ap (λ b. cond b (fault path void_result) (read (Some name))) is_void

  pub name-read : (name : List ℕ) → new_name (is_taken names) (as_str named) path ≡ read name → is_void_type t ≡ false → read_name (given_of names types) t (get (codes "as") d) path ≡ read (Some name)
  name-read name e is_void = name-of name e ∙ ap (λ b. cond b (fault path void_result) (read (Some name))) is_void

pub void-is : (ty : FfiType) → ty ≡ Void → is_void_type (tree_of ty) ≡ true
void-is ty e = ap (λ t. is_void_type (tree_of t)) e

pub void-is_not : (ty : FfiType) → (ty ≡ Void → ⊥) → is_void_type (tree_of ty) ≡ false
void-is_not Void h = absurd (h refl)
void-is_not U8 h = refl
void-is_not S8 h = refl
void-is_not U16 h = refl
void-is_not S16 h = refl
void-is_not U32 h = refl
void-is_not S32 h = refl
void-is_not U64 h = refl
void-is_not S64 h = refl
void-is_not U128 h = refl
void-is_not S128 h = refl
void-is_not Float h = refl
void-is_not Double h = refl
void-is_not Pointer h = refl
void-is_not (Struct fields) h = refl
void-is_not (Array fields n) h = refl
void-is_not LongDouble h = refl
void-is_not Complex h = refl
void-is_not Vector h = refl
void-is_not X87 h = refl
void-is_not Binary128 h = refl
