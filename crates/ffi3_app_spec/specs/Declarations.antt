-- What cdecl writes of a C declaration, and cplace of a prototype, and with which line they refuse an input that is none.
use Rattle.std.specs.Prelude.{◌<◌, ◌≤◌, ℕ, ◌++◌, List, [], ◌∷◌, length, get_or, map, codes, decimal, IsUtf8}
use Rattle.std.specs.List.{concat, flat_map}
use Rattle.ffi3_type_spec.specs.declared.Target.{Target}
use Rattle.ffi3_type_spec.specs.declared.Target.TheVariants.{Amd64, Aapcs64, Riscv, Win64, Apple}
use Rattle.ffi3_type_spec.specs.Signature.{Signature, SignatureFault, SignatureHasNoFault, Position}
use Rattle.ffi3_type_spec.specs.Signature.{at_result, at_argument}
use Rattle.ffi3_type_spec.specs.Text.{signature_text}
use Rattle.ffi3_semantics_spec.specs.Lines.{a_line}
use Rattle.ffi3_script_spec.specs.Language.{reason_of_fault}
use Rattle.ffi3_script_spec.specs.Reading.{max_length}
use Rattle.ffi3_script_spec.specs.ReasonText.{text_of_reason}
use Rattle.ffi3_cdecl_spec.specs.Grammar.{Declaration}
use Rattle.ffi3_cdecl_spec.specs.Canonical.{declaration_text, FixesAll, IsIdentifier}
use Rattle.ffi3_cdecl_spec.specs.Prototype.{Prototype, read_as, sign_unsaid, IsPrototypeBy, prototype_text}
use Rattle.ffi3_cdecl_spec.specs.Reading as declaration
use Rattle.ffi3_cdecl_spec.specs.Telling.{tell}
use Rattle.ffi3_cdecl_spec.specs.Tokens.{signed}
use Rattle.ffi3_cdecl_spec.specs.ReadingFor.{IsReadingEverywhere}
use Rattle.ffi3_format_spec.specs.Format.{format_of, resolved_signature}
use Rattle.ffi3_format_spec.specs.SigText.{told_signature}
use Rattle.ffi3_diagnostics_spec.specs.Positions.{words_at, placed_words}
use Rattle.ffi3_diagnostics_spec.specs.ToldText.{told_words, lines_at}
use Rattle.ffi3_place_spec.specs.Standard.{Standard, plan_of}
use Rattle.ffi3_text_spec.specs.PlaceLines.{argument_place, argument_text, place_text_of, sig_text_of}
use Rattle.ffi3_type_spec.specs.TargetIsa.{isa_of}
use Rattle.ffi3_cli_spec.specs.Words.{target_word}
use Rattle.ffi3_explain_spec.specs.Standards.{standard_of}
use Rattle.ffi3_app_spec.specs.Commands.{arguments_from}

-- ---- what is read

-- What an input of one declaration is read as: more bytes than a script may have, no text, or what its text is read as.
pub data Input : Type 0 where
  too_many_bytes : Input
  not_utf8 : Input
  a_text : Prototype → Input

-- by a reading of texts
abbrev pub IsInput : (List ℕ → Prototype → Type 0) → List ℕ → Input → Type 0
IsInput IsRead bytes too_many_bytes = max_length < length bytes
IsInput IsRead bytes not_utf8 = (length bytes ≤ max_length) × (IsUtf8 bytes → ⊥)
IsInput IsRead bytes (a_text p) =
    (length bytes ≤ max_length) × IsUtf8 bytes × IsRead bytes p

-- the plain reading, which has no type without a sign
abbrev pub IsReadPlainly : List ℕ → Prototype → Type 0
IsReadPlainly text (read_as o) = declaration.IsReading text o
IsReadPlainly text (sign_unsaid position) = ⊥

-- as cdecl reads it
abbrev pub IsReadAs : List ℕ → Input → Type 0
IsReadAs bytes i = IsInput IsReadPlainly bytes i

-- by both wide readings, of a function that can be placed whatever format long doubles have
abbrev pub IsPrototypeEverywhere : List ℕ → Prototype → Type 0
IsPrototypeEverywhere text p = IsPrototypeBy (λ c o. IsReadingEverywhere c text o) p

-- as cplace reads it, for all targets at once
abbrev pub IsReadWidely : List ℕ → Input → Type 0
IsReadWidely bytes i = IsInput IsPrototypeEverywhere bytes i

-- ---- the lines of refusals

-- the line of a fault at an offset
abbrev pub offset_line : ℕ → List ℕ → List ℕ
offset_line at words = a_line (codes "ffi3: at " ++ (decimal at ++ (codes ": " ++ words)))

-- the line of the first fault of a signature, told as scripts tell it
abbrev pub reason_line : List ℕ → List ℕ
reason_line words = a_line (codes "ffi3: " ++ words)

-- of a text the same, and below it the line that has the place, with a mark
abbrev pub marked_line : List ℕ → ℕ → List ℕ → List ℕ
marked_line text at words = offset_line at words ++ lines_at text at

-- of a place that is unexpected; what is told there is what is to be told (`fault_laws`), wherever a `char` is signed or not
abbrev pub unexpected_line : List ℕ → ℕ → List ℕ
unexpected_line text at =
    marked_line text at (told_words text at (tell signed text at))

-- what is told of the first fault of a prototype's signature: what scripts tell, behind the name of the value that has it
abbrev pub fault_words : SignatureFault → List ℕ
fault_words f = placed_words f (text_of_reason (reason_of_fault f))

-- and its line
abbrev pub fault_line : SignatureFault → List ℕ
fault_line f = reason_line (fault_words f)

-- what a value is told whose type is another where `char` is signed than where it is not
abbrev pub sign_words : Position → List ℕ
sign_words position =
    words_at position (codes "char is signed or not by the machine: write signed char or unsigned char")

-- and its line
abbrev pub sign_line : Position → List ℕ
sign_line position = reason_line (sign_words position)

-- ---- the texts

-- a declaration whose canonical text can be written: every declaration that is read is one
pub record IsWritable (d : Declaration) : Type 0 where
  pub faultless : SignatureHasNoFault d.signature
  pub all_fixed : FixesAll d.signature
  pub identifier : IsIdentifier d.called

-- THE TEXT OF cdecl: a line with the signature, and one with the canonical declaration
abbrev pub cdecl_text : Declaration → List ℕ
cdecl_text d =
    a_line (signature_text d.signature) ++ a_line (declaration_text d.called d.signature)

-- the line of a target
abbrev pub target_line : Target → List ℕ
target_line t = a_line (codes "target " ++ target_word t)

-- a name as it stands behind its argument's number, where the prototype has one
abbrev pub name_text : List ℕ → List ℕ
name_text [] = []
name_text (b ∷ bs) = codes " " ++ ((b ∷ bs) ++ codes ":")

-- the line of `place` for an argument, with this name
abbrev pub argument_line : List ℕ → Standard → Signature → ℕ → List ℕ
argument_line name std s j =
    (codes "arg " ++ decimal j)
    ++ (name_text name ++ (argument_text (isa_of std.target) (argument_place (plan_of std s).places j) ++ 10 ∷ []))

-- the line of `place`, where the arguments have these names
abbrev pub named_text_of : List (List ℕ) → Standard → Signature → Position → List ℕ
named_text_of names std s at_result = place_text_of std s at_result
named_text_of names std s (at_argument j) = argument_line (get_or names j []) std s j

-- the lines of `place`, where the arguments have these names
abbrev pub named_lines : List (List ℕ) → Standard → ℕ → Signature → List (List ℕ)
named_lines names std i s =
    sig_text_of i std s
    ∷ map (named_text_of names std s) (arguments_from 0 s.arguments) ++ place_text_of std s at_result ∷ []

-- a target's line, and the lines of `place` for the signature, as number 0, by the target's standard and with these names: its long doubles are what they are on the target
abbrev pub placed_on : List (List ℕ) → Signature → Target → List ℕ
placed_on names s t =
    target_line t ++ concat (named_lines names (standard_of t) 0 (resolved_signature (format_of t) s))

abbrev pub every_target : List Target
every_target = Amd64 ∷ Aapcs64 ∷ Riscv ∷ Win64 ∷ Apple ∷ []

-- a line with the signature, and one with the canonical text of the prototype: those of cdecl, with the types behind the dots, and long doubles by C's words
abbrev pub prototype_lines : Declaration → List ℕ
prototype_lines d =
    a_line (told_signature d.signature) ++ a_line (prototype_text d.called d.signature)

-- THE TEXT OF cplace, where the parameters have these names: these lines, and then each target's
abbrev pub cplace_text : List (List ℕ) → Declaration → List ℕ
cplace_text names d =
    prototype_lines d ++ flat_map (placed_on names d.signature) every_target
