-- Results of earlier moves, by their names.
use Rattle.std.proofs.Common.{◌≡◌, ℕ, zero, suc, ◌+◌, ◌<◌, not, cond, nat_lt, List, [], ◌∷◌, length, Option, Some, None, position, refl, ap, ◌∙◌, arith}
use Rattle.std.specs.Prelude.{slice_get}
use Rattle.std.specs.List.{position_or_len}
use Rattle.std.proofs.lemmas.List.Quantifiers.{position-Some}
use Rattle.ffi3_type_spec.specs.Tree.{Tree, tree_at}
use Rattle.ffi3_script_spec.specs.Language.{JsonPath, read, fault, no_such_result}
use Rattle.ffi3_script_spec.specs.Script.{outcome}
use Rattle.ffi3_script_spec.specs.Values.{has_name, is_name_of, result_of, result_number, typed_result, typed}
use Rattle.ffi3_script.specs.ScopeOf.{given_of}

count : (names : List (Option (List ℕ))) (types : List Tree) → length names ≡ length types → length (given_of names types) ≡ length names
count [] types h = refl
count (n ∷ names) [] h = absurd (omega arith)
count (n ∷ names) (t ∷ types) h = ap suc (count names types (omega arith))

place : (name : List ℕ) (names : List (Option (List ℕ))) (types : List Tree) → length names ≡ length types → position_or_len (has_name name) (given_of names types) ≡ position_or_len (is_name_of name) names
place name [] types h = refl
place name (n ∷ names) [] h = absurd (omega arith)
place name (n ∷ names) (t ∷ types) h = ap (λ k. cond (not (is_name_of name n)) (1 + k) 0) (place name names types (omega arith))

found : (name : List ℕ) (names : List (Option (List ℕ))) (types : List Tree) → length names ≡ length types → position (has_name name) (given_of names types) ≡ position (is_name_of name) names
found name names types h =
    λ i. cond (nat_lt (place name names types h i) (count names types h i)) (Some (place name names types h i)) None

type_of : (i : ℕ) (path : JsonPath) (names : List (Option (List ℕ))) (types : List Tree) (j : ℕ) → length names ≡ length types → j < length types → typed_result i path (slice_get (given_of names types) j) ≡ read (typed (tree_at types j) (outcome i))
type_of i path [] types j h below = absurd (omega arith)
type_of i path (n ∷ names) [] j h below = absurd (omega arith)
type_of i path (n ∷ names) (t ∷ types) zero h below = refl
type_of i path (n ∷ names) (t ∷ types) (suc j) h below = type_of i path names types j (omega arith) (omega arith)

module _ (name : List ℕ) (names : List (Option (List ℕ))) (types : List Tree) (path : JsonPath) (even : length names ≡ length types) where
  pub no_result : position (is_name_of name) names ≡ None → result_of (given_of names types) (Some name) path ≡ fault path no_such_result
  no_result h = ap (λ o. result_number (given_of names types) o path) (found name names types even ∙ h)

  pub below : (i : ℕ) → position (is_name_of name) names ≡ Some i → i < length types
  below i h = let inside = position-Some (is_name_of name) names i None h in omega (arith, inside.0)

  pub a_result : (i : ℕ) → position (is_name_of name) names ≡ Some i → result_of (given_of names types) (Some name) path ≡ read (typed (tree_at types i) (outcome i))
  a_result i h = ap (λ o. result_number (given_of names types) o path) (found name names types even ∙ h) ∙ type_of i path names types i even (below i h)
