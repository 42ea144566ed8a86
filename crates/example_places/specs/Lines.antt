-- The lines of a signature's places: one for each argument, and one for the result.
use Rattle.std.specs.Prelude.{ℕ, zero, suc, List, [], ◌++◌, length}
use Rattle.ffi3_type_spec.specs.Signature.{Signature, at_argument, at_result}
use Rattle.ffi3_place_spec.specs.Standard.{Standard}
use Rattle.ffi3_text_spec.specs.PlaceLines.{place_text_of}

-- those of the first n arguments
abbrev pub argument_lines : Standard → Signature → ℕ → List ℕ
argument_lines std s zero = []
argument_lines std s (suc n) = argument_lines std s n ++ place_text_of std s (at_argument n)

abbrev pub all_lines : Standard → Signature → List ℕ
all_lines std s = argument_lines std s (length s.arguments) ++ place_text_of std s at_result
