-- That a map has the first number of each name.
use Rattle.std.specs.Prelude.{◌≡◌, ℕ, List, Bool, Option, Some, None, cond, position, String}
use Rattle.std.specs.BTreeMap.{BTreeMap, get_by_text}
use Rattle.ffi3_script_spec.specs.Values.{is_name_of}

abbrev pub FindsFirst : {A : Type 0} → BTreeMap (String A) ℕ → List (Option (List ℕ)) → Type 0
FindsFirst numbers names =
    (name : List ℕ) → get_by_text numbers name ≡ position (is_name_of name) names

-- the number that is there, or else this one where the test holds
abbrev pub first_or : Option ℕ → Bool → ℕ → Option ℕ
first_or (Some i) b n = Some i
first_or None b n = cond b (Some n) None
