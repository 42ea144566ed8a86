-- The array of a call's arguments.
use Rattle.std.proofs.Common.{◌≡◌, ℕ, ◌==◌, true, false, cond, List, length, refl, ap, ◌∙◌, arith}
use Rattle.std.proofs.lemmas.Bool.Decides.{nat_tests}
use Rattle.serde_json.specs.Data.{Data, null, boolean, number, string, array, object, Items}
use Rattle.serde_json.specs.Events.{items_len}
use Rattle.ffi3_type_spec.specs.Tree.{Tree}
use Rattle.ffi3_script_spec.specs.Language.{JsonPath, Reason, Read, read, fault, and_then, wrong_count}
use Rattle.ffi3_script_spec.specs.Script.{Expressions}
use Rattle.ffi3_script_spec.specs.Values.{Scope, read_values}
use Rattle.ffi3_script_spec.specs.Bodies.{read_arguments, items_at}
use Rattle.ffi3_script.proofs.Steps.{then_fault, then_read}

pub differ : (a b : ℕ) → (a ≡ b → ⊥) → (a == b) ≡ false
differ a b h = grind (arith, nat_tests)

pub agree : (a b : ℕ) → a ≡ b → (a == b) ≡ true
agree a b h = grind (arith, nat_tests)

abbrev counted : Scope → List Tree → JsonPath → Items → Read Expressions
counted scope ts path ds = cond (items_len ds == length ts) (read_values scope ts ds path 0) (fault path wrong_count)

arguments-of : (scope : Scope) (ts : List Tree) (path : JsonPath) (d : Data) → read_arguments scope ts d path ≡ and_then (counted scope ts path) (items_at d path)
arguments-of scope ts path null = refl
arguments-of scope ts path (boolean b) = refl
arguments-of scope ts path (number n) = refl
arguments-of scope ts path (string s) = refl
arguments-of scope ts path (array ds) = refl
arguments-of scope ts path (object ms) = refl

module _ (scope : Scope) (ts : List Tree) (d : Data) (path : JsonPath) where
  pub arguments-refused : (p : JsonPath) (r : Reason) → items_at d path ≡ fault p r → read_arguments scope ts d path ≡ fault p r
  arguments-refused p r e = arguments-of scope ts path d ∙ then_fault (counted scope ts path) (items_at d path) p r e

  module _ (ds : Items) (is : items_at d path ≡ read ds) where
    arguments-are : read_arguments scope ts d path ≡ counted scope ts path ds
    arguments-are = arguments-of scope ts path d ∙ then_read (counted scope ts path) (items_at d path) ds is

    pub arguments-miscounted : (items_len ds ≡ length ts → ⊥) → read_arguments scope ts d path ≡ fault path wrong_count
    arguments-miscounted h =
        arguments-are ∙ ap (λ b. cond b (read_values scope ts ds path 0) (fault path wrong_count)) (differ (items_len ds) (length ts) h)

    pub arguments-counted : items_len ds ≡ length ts → read_arguments scope ts d path ≡ read_values scope ts ds path 0
    arguments-counted e =
        arguments-are ∙ ap (λ b. cond b (read_values scope ts ds path 0) (fault path wrong_count)) (agree (items_len ds) (length ts) e)
