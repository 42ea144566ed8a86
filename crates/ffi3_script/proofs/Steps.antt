-- What is read one step after another.
use Rattle.std.proofs.Common.{◌≡◌, ℕ, List, Some, sym, ap}
use Rattle.std.specs.Prelude.{unwrap_or}
use Rattle.serde_json.specs.Data.{Data, null}
use Rattle.serde_json.specs.Find.{get}
use Rattle.ffi3_script_spec.specs.Language.{JsonPath, Reason, Read, read, fault, and_then, value_under}

pub then_fault : {A B : Type 0} (f : A → Read B) (x : Read A) (p : JsonPath) (r : Reason) → x ≡ fault p r → and_then f x ≡ fault p r
then_fault f x p r e = ap (and_then f) e

pub then_read : {A B : Type 0} (f : A → Read B) (x : Read A) (a : A) → x ≡ read a → and_then f x ≡ f a
then_read f x a e = ap (and_then f) e

pub under-is : (name : List ℕ) (d inside : Data) → Some inside ≡ get name d → value_under name d ≡ inside
under-is name d inside e = ap (λ o. unwrap_or o null) (sym e)
