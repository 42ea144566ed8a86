-- What layout and place write of a script.
use Rattle.std.specs.Prelude.{ℕ, ◌+◌, List, [], ◌∷◌, ◌++◌, map}
use Rattle.std.specs.List.{concat}
use Rattle.ffi3_type_spec.specs.Tree.{Tree}
use Rattle.ffi3_type_spec.specs.Signature.{Signature, Position, at_result, at_argument}
use Rattle.ffi3_place_spec.specs.Standard.{Standard}
use Rattle.ffi3_script_spec.specs.Script.{Script}
use Rattle.ffi3_text_spec.specs.LayoutLines.{layout_text_of}
use Rattle.ffi3_text_spec.specs.PlaceLines.{sig_text_of, place_text_of}

-- the arguments of a list of types, from number j on
abbrev pub arguments_from : ℕ → List Tree → List Position
arguments_from j [] = []
arguments_from j (t ∷ ts) = at_argument j ∷ arguments_from (j + 1) ts

-- ---- layout: of each signature the result, then the arguments

abbrev pub layout_lines : ℕ → Signature → List (List ℕ)
layout_lines i s =
    layout_text_of i s at_result ∷ map (layout_text_of i s) (arguments_from 0 s.arguments)

-- ---- place: of each signature its frame, the arguments, then the result

abbrev pub place_lines : Standard → ℕ → Signature → List (List ℕ)
place_lines std i s =
    sig_text_of i std s ∷ map (place_text_of std s) (arguments_from 0 s.arguments) ++ place_text_of std s at_result ∷ []

-- those of the signatures from number i on
abbrev pub lines_from : (ℕ → Signature → List (List ℕ)) → ℕ → List Signature → List (List ℕ)
lines_from lines i [] = []
lines_from lines i (s ∷ ss) = lines i s ++ lines_from lines (i + 1) ss

-- THE TEXT OF layout
abbrev pub layout_text : Script → List ℕ
layout_text script = concat (lines_from layout_lines 0 script.signatures)

-- THE TEXT OF place, by a standard
abbrev pub place_text : Standard → Script → List ℕ
place_text std script = concat (lines_from (place_lines std) 0 script.signatures)
