-- The bytes of a script have one reading.
use Rattle.std.proofs.Common.{◌≡◌, ℕ, List, Some, None, refl, sym, ap, ◌∙◌, arith}
use Rattle.serde_json.specs.Data.{Data}
use Rattle.serde_json.specs.Read as json
use Rattle.ffi3_script_spec.specs.Language.{Read, read, fault}
use Rattle.ffi3_script_spec.specs.Script.{Script}
use Rattle.ffi3_script_spec.specs.Bodies.{read_script}
use Rattle.ffi3_script_spec.specs.Reading.{Reading, too_long, not_json, bad_script, script, IsJson, IsReading, IsTheReading}

pub some_same : {A : Type 0} (a b : A) → Some a ≡ Some b → a ≡ b
some_same a b e = cc

one_value : (bytes : List ℕ) (c d : Data) → IsJson bytes c → IsJson bytes d → c ≡ d
one_value bytes c d is_c is_d = some_same c d (sym is_c.value ∙ is_d.value)

has_value : {A : Type 0} (bytes : List ℕ) (d : Data) → IsJson bytes d → json.read bytes ≡ None → A
has_value bytes d is_d none = absurd (cc (is_d.value))

-- what is read as a script, or the place and reason
abbrev reading_of : Read Script → Reading
reading_of (read s) = script s
reading_of (fault path reason) = bad_script path reason

-- of one JSON value
module _ (natives : List (List ℕ)) (bytes : List ℕ) where
  one_of_values : (c d : Data) → IsJson bytes c → IsJson bytes d → (r s : Read Script) → read_script natives c ≡ r → read_script natives d ≡ s → reading_of r ≡ reading_of s
  one_of_values c d is_c is_d r s x y =
      ap reading_of (sym x ∙ ap (read_script natives) (one_value bytes c d is_c is_d) ∙ y)

  pub one_reading : (r s : Reading) → IsReading natives bytes r → IsReading natives bytes s → r ≡ s
  one_reading too_long too_long x y = refl
  one_reading too_long not_json x y = absurd (omega arith)
  one_reading not_json too_long x y = absurd (omega arith)
  one_reading not_json not_json x y = refl
  one_reading (bad_script p e) (bad_script q f) x y =
      one_of_values x.0 y.0 x.1 y.1 (fault p e) (fault q f) x.2 y.2
  one_reading (bad_script p e) (script s) x y =
      one_of_values x.0 y.0 x.1 y.1 (fault p e) (read s) x.2 y.2
  one_reading (script r) (bad_script q f) x y =
      one_of_values x.0 y.0 x.1 y.1 (read r) (fault q f) x.2 y.2
  one_reading (script r) (script s) x y =
      one_of_values x.0 y.0 x.1 y.1 (read r) (read s) x.2 y.2
  one_reading too_long _ x y = let short = y.1.short in absurd (omega arith)
  one_reading not_json _ x y = has_value bytes y.0 y.1 (x.1 y.1.text)
  one_reading _ too_long x y = let short = x.1.short in absurd (omega arith)
  one_reading _ not_json x y = has_value bytes x.0 x.1 (y.1 x.1.text)

  pub the_reading : (r : Reading) → IsReading natives bytes r → IsTheReading natives bytes r
  the_reading r is = (is, λ other h. one_reading other r h is)
