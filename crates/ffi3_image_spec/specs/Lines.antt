-- The lines that tell what an image holds, and why an input is refused.
use Rattle.std.specs.Prelude.{ℕ, suc, ◌+◌, List, [], ◌∷◌, ◌++◌, Option, Some, None, codes}
use Rattle.std.specs.Fmt.{decimal}
use Rattle.ffi3_type_spec.specs.declared.Isa.{Isa}
use Rattle.ffi3_type_spec.specs.Tree.{Tree}
use Rattle.ffi3_type_spec.specs.Signature.{Signature}
use Rattle.ffi3_type_spec.specs.Value.{ValueTree}
use Rattle.ffi3_type_spec.specs.ValueText.{value_text_of}
use Rattle.ffi3_place_spec.specs.declared.Res.{Res}
use Rattle.ffi3_place_spec.specs.declared.Res.TheVariants.{Hidden as HiddenRes}
use Rattle.ffi3_place_spec.specs.Image.{Image}
use Rattle.ffi3_place_spec.specs.Standard.{Standard, plan_of}
use Rattle.ffi3_semantics_spec.specs.Lines.{a_line, address_text, word_text}
use Rattle.ffi3_script_spec.specs.Language.{JsonPath}
use Rattle.ffi3_script_spec.specs.ReasonText.{text_of_path}
use Rattle.ffi3_script_spec.specs.ReasonText as script
use Rattle.ffi3_explain_spec.specs.declared.Part.{Part}
use Rattle.ffi3_explain_spec.specs.declared.Part.TheVariants.{Arg, Hidden, Count}
use Rattle.ffi3_explain_spec.specs.declared.Check.{Check}
use Rattle.ffi3_explain_spec.specs.declared.Outside.{Outside}
use Rattle.ffi3_text_spec.specs.Registers.{loc_name}
use Rattle.ffi3_image_spec.specs.Object.{Reason, as_in_scripts, unknown_target, bad_number, too_short}

-- ---- values

-- argument i
abbrev pub argument_line : ℕ → Tree → ValueTree → List ℕ
argument_line i t v = a_line (codes "arg " ++ (decimal i ++ (codes " " ++ value_text_of t v)))

-- those from number i on
abbrev pub argument_lines : ℕ → List Tree → List ValueTree → List ℕ
argument_lines i (t ∷ ts) (v ∷ vs) = argument_line i t v ++ argument_lines (suc i) ts vs
argument_lines i _ _ = []

abbrev pub hidden_line : ℕ → List ℕ
hidden_line address = a_line (codes "hidden " ++ address_text address)

-- the address of a hidden result's buffer, which its place holds where the image is explained by values
abbrev pub buffer_of : Standard → Image → Res → Option ℕ
buffer_of std m (HiddenRes at buffer) = Some (m.sp + std.link + buffer)
buffer_of std m _ = None

abbrev pub hidden_lines : Option ℕ → List ℕ
hidden_lines (Some address) = hidden_line address
hidden_lines None = []

-- THE TEXT OF AN EXPLANATION BY VALUES: the arguments, and then the address of a hidden result
abbrev pub explained_text : Standard → Signature → Image → List ValueTree → List ℕ
explained_text std s m vs =
    argument_lines 0 s.arguments vs ++ hidden_lines (buffer_of std m (plan_of std s).res)

-- THE TEXT OF THE ARGUMENTS BY THE STANDARD ALONE, of which the hidden result is none
abbrev pub arguments_text : Signature → List ValueTree → List ℕ
arguments_text s vs = argument_lines 0 s.arguments vs

-- ---- why there are no values

abbrev pub part_text : Part → List ℕ
part_text (Arg i) = codes "arg " ++ decimal i
part_text Hidden = codes "hidden"
part_text Count = codes "count"

-- THE LINE OF A PLACE that does not hold what is wanted
abbrev pub broken_line : Isa → Check → List ℕ
broken_line isa c =
    a_line
    (codes "ffi3: " ++ (part_text c.part ++ (codes ": " ++ (loc_name isa c.place
    ++ (codes " holds " ++ (word_text c.found ++ (codes ", wants " ++ word_text c.wants)))))))

-- THE LINE OF AN ADDRESS that points outside the image
abbrev pub outside_line : Outside → List ℕ
outside_line o =
    a_line
    (codes "ffi3: arg " ++ (decimal o.argument ++ (codes ": "
    ++ (address_text o.address ++ codes " is not in the image"))))

-- ---- why an input is refused

abbrev pub text_of_reason : Reason → List ℕ
text_of_reason (as_in_scripts reason) = script.text_of_reason reason
text_of_reason unknown_target = codes "unknown target"
text_of_reason bad_number = codes "bad number"
text_of_reason (too_short there wanted) =
    codes "too short: " ++ (decimal there ++ (codes " of " ++ decimal wanted))

-- THE LINE OF A FAULT OF READING, at a place
abbrev pub fault_line : JsonPath → Reason → List ℕ
fault_line path reason =
    a_line (codes "ffi3: " ++ (text_of_path path ++ (codes ": " ++ text_of_reason reason)))

abbrev pub too_long_line : List ℕ
too_long_line = a_line (codes "ffi3: input too long")

abbrev pub not_json_line : List ℕ
not_json_line = a_line (codes "ffi3: not JSON")
