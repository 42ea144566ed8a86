-- What a text is read as where long doubles have a format, or any: as people write it, a declaration of a function whose signature can be placed, or the first fault: of token, of grammar, of number, of signature, in this order over the whole text.
use Rattle.std.specs.Prelude.{◌≡◌, ◌⊎◌, ℕ, List, [], ◌∷◌, ◌++◌, length, Option, Some, None}
use Rattle.ffi3_type_spec.specs.Signature.{Signature, SignatureFault, SignatureIsPlaced, IsFirstFaultFor, for_places}
use Rattle.ffi3_type_spec.specs.FirstFault.{first_fault_for, or_else}
use Rattle.ffi3_format_spec.specs.declared.Format.{Format}
use Rattle.ffi3_format_spec.specs.declared.Format.TheVariants.{Double, X87, Binary128}
use Rattle.ffi3_format_spec.specs.Format.{resolved_signature}
use Rattle.ffi3_cdecl_spec.specs.Tokens.{wide, Sign, Placed, Cut, tokens, bad_at, cut_in}
use Rattle.ffi3_cdecl_spec.specs.Grammar.{Declaration, IsDeclarationIn}
use Rattle.ffi3_cdecl_spec.specs.Reading.{IsUnexpected, tokens_of, begins_at, first_too_great, Outcome, reads}
use Rattle.ffi3_cdecl_spec.specs.Reading.{bad_token, unexpected, bad_number, bad_signature}
use Rattle.ffi3_cdecl_spec.specs.Machine.{after, begun, finish, first_dead, with_signature}

-- the wide reading, where what is declared is judged so
pub data IsReadingBy (IsJudged : Declaration → Outcome → Type 0) (c : Sign) (text : List ℕ) : Outcome → Type 0 where
  has_bad_token : {at : ℕ} → cut_in wide c text ≡ bad_at at → IsReadingBy IsJudged c text (bad_token at)
  has_unexpected : (start rest : List Placed)
      → cut_in wide c text ≡ tokens (start ++ rest) → IsUnexpected wide (tokens_of start) (tokens_of rest)
      → IsReadingBy IsJudged c text (unexpected (begins_at (length text) rest))
  has_bad_number : {ps : List Placed} {at : ℕ} {d : Declaration}
      → cut_in wide c text ≡ tokens ps → IsDeclarationIn wide (tokens_of ps) d → first_too_great ps ≡ Some at
      → IsReadingBy IsJudged c text (bad_number at)
  is_judged : {ps : List Placed} {d : Declaration} {o : Outcome}
      → cut_in wide c text ≡ tokens ps → IsDeclarationIn wide (tokens_of ps) d → first_too_great ps ≡ None → IsJudged d o
      → IsReadingBy IsJudged c text o

-- ---- where long doubles have a format

-- the same function, whose long doubles have this format
abbrev pub resolved_declaration : Format → Declaration → Declaration
resolved_declaration format d =
    record { called = d.called; signature = resolved_signature format d.signature }

pub data IsJudgedFor (format : Format) (d : Declaration) : Outcome → Type 0 where
  is_placed : SignatureIsPlaced (resolved_signature format d.signature)
      → IsJudgedFor format d (reads (resolved_declaration format d))
  has_bad_signature : {f : SignatureFault}
      → IsFirstFaultFor for_places (resolved_signature format d.signature) f
      → IsJudgedFor format d (bad_signature f)

abbrev pub IsReadingFor : Format → Sign → List ℕ → Outcome → Type 0
IsReadingFor format c text o = IsReadingBy (IsJudgedFor format) c text o

-- ---- whatever format they have: the function as it is written

-- from the one that takes most on: of amd64, of aapcs64 and riscv, and of win64 and apple
abbrev pub every_format : List Format
every_format = X87 ∷ Binary128 ∷ Double ∷ []

-- by the first of these formats by which there is any
abbrev pub IsFirstFaultBy : List Format → Signature → SignatureFault → Type 0
IsFirstFaultBy [] s f = ⊥
IsFirstFaultBy (g ∷ gs) s f =
    IsFirstFaultFor for_places (resolved_signature g s) f
    ⊎ (SignatureIsPlaced (resolved_signature g s) × IsFirstFaultBy gs s f)

pub data IsJudgedEverywhere (d : Declaration) : Outcome → Type 0 where
  placed_everywhere : ((format : Format) → SignatureIsPlaced (resolved_signature format d.signature))
      → IsJudgedEverywhere d (reads d)
  faulty_somewhere : {f : SignatureFault} → IsFirstFaultBy every_format d.signature f
      → IsJudgedEverywhere d (bad_signature f)

abbrev pub IsReadingEverywhere : Sign → List ℕ → Outcome → Type 0
IsReadingEverywhere c text o = IsReadingBy IsJudgedEverywhere c text o

-- ---- the same computed

-- a declaration whose tokens are all right
abbrev pub judged_for : Format → Declaration → Outcome
judged_for format d =
    with_signature (resolved_declaration format d) (first_fault_for for_places (resolved_signature format d.signature))

abbrev pub first_fault_by : List Format → Signature → Option SignatureFault
first_fault_by [] s = None
first_fault_by (g ∷ gs) s =
    or_else (first_fault_for for_places (resolved_signature g s)) (first_fault_by gs s)

abbrev pub judged_everywhere : Declaration → Outcome
judged_everywhere d = with_signature d (first_fault_by every_format d.signature)

abbrev pub with_number_by : (Declaration → Outcome) → Declaration → Option ℕ → Outcome
with_number_by judge d None = judge d
with_number_by judge d (Some at) = bad_number at

abbrev pub with_end_by : (Declaration → Outcome) → ℕ → List Placed → Option Declaration → Outcome
with_end_by judge end ps None = unexpected (first_dead wide end begun ps)
with_end_by judge end ps (Some d) = with_number_by judge d (first_too_great ps)

abbrev pub with_cut_by : (Declaration → Outcome) → ℕ → Cut → Outcome
with_cut_by judge end (bad_at at) = bad_token at
with_cut_by judge end (tokens ps) = with_end_by judge end ps (finish (after wide begun (tokens_of ps)))

abbrev pub read_by : (Declaration → Outcome) → Sign → List ℕ → Outcome
read_by judge c text = with_cut_by judge (length text) (cut_in wide c text)

abbrev pub read_for : Format → Sign → List ℕ → Outcome
read_for format c text = read_by (judged_for format) c text

abbrev pub read_everywhere : Sign → List ℕ → Outcome
read_everywhere c text = read_by judged_everywhere c text
