-- How rows of the script language are written: a script's text, the line of its fault, and what it does.
use Rattle.std.specs.Prelude.{ℕ, ◌==◌, List, [], ◌∷◌, ◌++◌, Option, Some, None, option_map, codes, cond, map, ⊤}
use Rattle.std.specs.Fmt.{digits}
use Rattle.hex.proofs.OnLiterals.{hex_on_literals}
use Rattle.serde_json.proofs.OnLiterals.{serde_json_on_literals}
use Rattle.serde_json.specs.Read as json
use Rattle.ffi3_type_spec.specs.Layout.{least_multiple}
use Rattle.ffi3_type_spec.specs.Names.{type_named}
use Rattle.ffi3_type_spec.specs.Value.{ValueTree}
use Rattle.ffi3_type_spec.specs.ValueText.{value_text_of}
use Rattle.ffi3_place_spec.specs.Standard.{Standard}
use Rattle.ffi3_semantics_spec.specs.Move.{Move, print}
use Rattle.ffi3_semantics_spec.specs.Meaning.{Program, function_at}
use Rattle.ffi3_semantics_spec.specs.Lines as lines
use Rattle.ffi3_script_spec.specs.Language.{Read, read, fault}
use Rattle.ffi3_script_spec.specs.ReasonText.{text_of_path, text_of_reason}
use Rattle.ffi3_script_spec.specs.Script.{Script, free, constant}
use Rattle.ffi3_script_spec.specs.Bodies.{read_script}
use Rattle.ffi3_script_spec.specs.Meaning.{program_of}

-- what a row unfolds to compute the reading of a script
unfoldable pub scripts_on_literals : ⊤
unfolding serde_json_on_literals hex_on_literals digits type_named least_multiple
scripts_on_literals = tt

-- a text with apostrophes for quotation marks
abbrev pub quoted : List ℕ → List ℕ
quoted text = map (λ b. cond (b == 39) 34 b) text

abbrev pub reads : List ℕ → Option (Read Script)
reads text = option_map (read_script []) (json.read (quoted text))

-- `read`, or the place and reason of the fault
abbrev pub line_of : Option (Read Script) → List ℕ
line_of None = codes "not JSON"
line_of (Some (read s)) = codes "read"
line_of (Some (fault path reason)) = text_of_path path ++ codes ": " ++ text_of_reason reason

abbrev pub tells : List ℕ → List ℕ
tells text = line_of (reads text)

-- ---- parts of a script

-- its version, and its arrays' items
abbrev pub versioned_text : (version signatures functions main : List ℕ) → List ℕ
versioned_text version signatures functions main =
    codes "{'version':" ++ version ++ codes ",'signatures':[" ++ signatures ++ codes "],'functions':[" ++ functions ++ codes "],'main':[" ++ main ++ codes "]}"

abbrev pub last : List ℕ
last = codes "{'return':null}"

abbrev pub script_text : (signatures functions main : List ℕ) → List ℕ
script_text signatures functions main =
    versioned_text (codes "1") signatures functions main

-- number 0 has each kind of type, number 1 has none
abbrev pub two_signatures : List ℕ
two_signatures =
    codes "{'ret':'sint32','args':['sint8','pointer',{'struct':['double','uint16']}]},{'ret':'void','args':[]}"

-- a script of one signature
abbrev pub of_signature : List ℕ → List ℕ
of_signature signature = tells (script_text signature [] last)

abbrev pub of_functions : List ℕ → List ℕ
of_functions functions = tells (script_text two_signatures functions last)

-- moves of main, beside a function `f` of no arguments
abbrev pub in_main : List ℕ → List ℕ
in_main moves =
    tells (script_text two_signatures (codes "{'name':'f','sig':1,'body':[{'return':null}]}") moves)

-- moves of the function `f` of signature 0
abbrev pub in_body : List ℕ → List ℕ
in_body moves =
    of_functions (codes "{'name':'f','sig':0,'body':[" ++ moves ++ codes "]}")

-- ---- what a script means

-- in place of a text that is no script: no row expects what it does
abbrev pub no_script : Script
no_script =
    record { version = 1; signatures = []; functions = []; main = record { condition = None; act = free (constant (1 ∷ [])); name = None } ∷ [] }

abbrev pub script_in : Option (Read Script) → Script
script_in (Some (read script)) = script
script_in _ = no_script

-- beside natives of these names, by a standard by which each call needs 80 bytes
abbrev pub program_in : Standard → List (List ℕ) → List ℕ → Program
program_in standard natives script =
    record (program_of standard (script_in (option_map (read_script natives) (json.read (quoted script))))) { need = λ s. 80 }

-- what main does next, after these results
abbrev pub main_of : Standard → List ℕ → List ValueTree → Move
main_of standard script results = (program_in standard [] script).main [] 0 results

-- what function 0 does next, from these arguments and user data, after these results
abbrev pub function_of : Standard → List ℕ → List ValueTree → ℕ → List ValueTree → Move
function_of standard script arguments user results =
    (function_at (program_in standard [] script) 0).behaviour arguments user results

-- the text of a value that is printed
abbrev pub shown : Move → List ℕ
shown (print t v) = value_text_of t v
shown _ = codes "no print"

-- a script of these moves of main
abbrev pub with_main : List ℕ → List ℕ
with_main moves =
    script_text two_signatures (codes "{'name':'f','sig':1,'body':[{'return':null}]}") moves

-- the text of the first value that main prints
abbrev pub prints : Standard → List ℕ → List ℕ
prints standard moves =
    shown (main_of standard (with_main (moves ++ codes ",{'return':null}")) [])

-- that of a value of a type
abbrev pub is_of : Standard → (type value : List ℕ) → List ℕ
is_of standard type value =
    prints standard (codes "{'print':{'of':[" ++ type ++ codes "," ++ value ++ codes "]}}")

-- ---- version 2

-- a print of a value of a type
abbrev pub print_of : (type value : List ℕ) → List ℕ
print_of type value = codes "{'print':{'of':[" ++ type ++ codes "," ++ value ++ codes "]}}"

abbrev pub with_main_in_2 : List ℕ → List ℕ
with_main_in_2 moves = versioned_text (codes "2") [] [] (moves ++ codes ",{'return':null}")

-- a script of one signature
abbrev pub of_signature_in_2 : List ℕ → List ℕ
of_signature_in_2 signature = tells (versioned_text (codes "2") signature [] last)

-- `read`, or the line of its fault
abbrev pub in_2 : (type value : List ℕ) → List ℕ
in_2 type value = tells (with_main_in_2 (print_of type value))

-- its text
abbrev pub is_in_2 : Standard → (type value : List ℕ) → List ℕ
is_in_2 standard type value =
    shown (main_of standard (with_main_in_2 (print_of type value)) [])

-- the text of a print of main
abbrev pub shows_in_2 : Standard → List ℕ → List ℕ
shows_in_2 standard value =
    shown (main_of standard (with_main_in_2 (codes "{'print':" ++ value ++ codes "}")) [])

-- `read`, or the line of its fault
abbrev pub printed_in_2 : List ℕ → List ℕ
printed_in_2 value = tells (with_main_in_2 (codes "{'print':" ++ value ++ codes "}"))

abbrev pub run_text : Program → List ℕ
run_text p = lines.text_of_run lines.untraced p
