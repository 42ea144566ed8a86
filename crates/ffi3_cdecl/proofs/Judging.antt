-- A declaration is judged by its signature's first fault, and that of its resolutions.
use Rattle.std.proofs.Common.{◌≡◌, ◌∙◌, inl, inr, ℕ, List, [], ◌∷◌, ◌++◌, length, Option, Some, None, ap, sym, refl, subst}
use Rattle.std.specs.Prelude.{⊤}
use Rattle.ffi3_type_spec.specs.Signature.{Signature, SignatureFault, SignatureHasNoFault, SignatureIsPlaced, IsFirstSignatureFault, IsFirstFaultFor, for_places}
use Rattle.ffi3_type_spec.specs.FirstFault.{first_fault_for, first_signature_fault, or_else}
use Rattle.ffi3_type_spec.proofs.FirstSignatureFaults.{SignatureAnswers, signature_answers, signature_none_found, signature_found_by_first, one_first_signature_fault}
use Rattle.ffi3_format_spec.specs.declared.Format.{Format}
use Rattle.ffi3_format_spec.specs.declared.Format.TheVariants.{Double, X87, Binary128}
use Rattle.ffi3_format_spec.specs.Format.{resolved_signature}
use Rattle.ffi3_cdecl_spec.specs.Tokens.{wide, Sign, Placed, Cut, tokens, bad_at, cut_in}
use Rattle.ffi3_cdecl_spec.specs.Grammar.{Declaration, IsDeclarationIn}
use Rattle.ffi3_cdecl_spec.specs.Reading as reading
use Rattle.ffi3_cdecl_spec.specs.Reading.{Outcome, reads, unexpected, bad_signature, tokens_of, first_too_great, IsReadingIn}
use Rattle.ffi3_cdecl_spec.specs.Machine.{with_signature, with_number, with_end, with_cut, judged, finish, after, begun, read_in}
use Rattle.ffi3_cdecl_spec.proofs.Completes.{accepted}
use Rattle.ffi3_cdecl_spec.proofs.Sound.{declaration_of}
use Rattle.ffi3_cdecl_spec.proofs.Readings.{reading_in, one_reading_in}
use Rattle.ffi3_cdecl_spec.specs.ReadingFor.{IsReadingBy, has_bad_token, has_unexpected, has_bad_number, is_judged, IsJudgedFor, is_placed, has_bad_signature, IsReadingFor, resolved_declaration, every_format, IsFirstFaultBy, IsJudgedEverywhere, placed_everywhere, faulty_somewhere, IsReadingEverywhere, judged_for, first_fault_by, judged_everywhere, with_number_by, with_end_by, with_cut_by, read_by, read_for, read_everywhere}
use Rattle.ffi3_cdecl_spec.proofs.Alike.{or_else_none}
use Rattle.ffi3_cdecl.proofs.AlikeFor.{AlikeDeclarationsFor, fault_same, none_same}

pub right_is_judged : (d : Declaration) → SignatureHasNoFault d.signature → reads d ≡ judged d
right_is_judged d right =
    ap (with_signature d) (sym (signature_none_found d.signature right))

pub fault_is_judged : (d : Declaration) (f : SignatureFault) → IsFirstSignatureFault d.signature f → bad_signature f ≡ judged d
fault_is_judged d f first =
    ap (with_signature d) (sym (signature_found_by_first d.signature f first))

-- ---- places

-- of a signature that can be placed no fault is found, and else its first
answered : (s : Signature) (o : Option SignatureFault) → SignatureAnswers for_places s o → SignatureIsPlaced s → None ≡ o
answered s None placed right = refl
answered s (Some f) first right = absurd (right f first.is_there)

pub none_found : (s : Signature) → SignatureIsPlaced s → None ≡ first_fault_for for_places s
none_found s right =
    answered s (first_fault_for for_places s) (signature_answers for_places s) right

answered_first : (s : Signature) (f : SignatureFault) (o : Option SignatureFault) → SignatureAnswers for_places s o → IsFirstFaultFor for_places s f → Some f ≡ o
answered_first s f None right first = absurd (right f first.is_there)
answered_first s f (Some g) there first =
    ap Some (one_first_signature_fault s f g first there)

pub found_first : (s : Signature) (f : SignatureFault) → IsFirstFaultFor for_places s f → Some f ≡ first_fault_for for_places s
found_first s f first =
    answered_first s f (first_fault_for for_places s) (signature_answers for_places s) first

-- ---- by a format

pub placed_is_judged : (format : Format) (d e : Declaration) → e ≡ resolved_declaration format d → SignatureIsPlaced e.signature → reads e ≡ judged_for format d
placed_is_judged format d e same right =
    ap reads same ∙ ap (with_signature (resolved_declaration format d)) (none_found e.signature right ∙ ap (λ x. first_fault_for for_places x.signature) same)

pub placing_fault_is_judged : (format : Format) (d e : Declaration) (f : SignatureFault) → e ≡ resolved_declaration format d → IsFirstFaultFor for_places e.signature f → bad_signature f ≡ judged_for format d
placing_fault_is_judged format d e f same first =
    ap (with_signature (resolved_declaration format d)) (found_first e.signature f first ∙ ap (λ x. first_fault_for for_places x.signature) same)

judged_so : (format : Format) (d : Declaration) (o : Option SignatureFault) → SignatureAnswers for_places (resolved_signature format d.signature) o → IsJudgedFor format d (with_signature (resolved_declaration format d) o)
judged_so format d None right = is_placed right
judged_so format d (Some f) first = has_bad_signature first

is_judged_for : (format : Format) (d : Declaration) → IsJudgedFor format d (judged_for format d)
is_judged_for format d =
    judged_so format d (first_fault_for for_places (resolved_signature format d.signature)) (signature_answers for_places (resolved_signature format d.signature))

judged_once_for : (format : Format) (d : Declaration) (o : Outcome) → IsJudgedFor format d o → o ≡ judged_for format d
judged_once_for format d _ (is_placed right) =
    ap (with_signature (resolved_declaration format d)) (none_found (resolved_signature format d.signature) right)
judged_once_for format d _ (has_bad_signature {f = f} first) =
    ap (with_signature (resolved_declaration format d)) (found_first (resolved_signature format d.signature) f first)

-- alike declarations are judged the same
same_judged_by : (format : Format) (d e : Declaration) (o : Option SignatureFault) → (o ≡ None → d ≡ e) → with_signature (resolved_declaration format e) o ≡ with_signature (resolved_declaration format d) o
same_judged_by format d e None same =
    ap (λ x. reads (resolved_declaration format x)) (sym (same refl))
same_judged_by format d e (Some f) same = refl

pub same_judged_for : (format : Format) (d e : Declaration) → ((g : Format) → AlikeDeclarationsFor g d e) → judged_for format e ≡ judged_for format d
same_judged_for format d e alike =
    let faults = fault_same format d e (alike format) in
    ap (with_signature (resolved_declaration format e)) (sym faults) ∙ same_judged_by format d e (first_fault_for for_places (resolved_signature format d.signature)) (none_same format d e (alike format))

-- ---- whatever format

pub first_by : (g : Format) (gs : List Format) (s : Signature) (o p : Option SignatureFault) → o ≡ first_fault_for for_places (resolved_signature g s) → p ≡ first_fault_by gs s → or_else o p ≡ first_fault_by (g ∷ gs) s
first_by g gs s o p e f =
    ap (λ x. or_else x p) e ∙ ap (λ y. or_else (first_fault_for for_places (resolved_signature g s)) y) f

abbrev ArePlaced : Signature → List Format → Type 0
ArePlaced s [] = ⊤
ArePlaced s (g ∷ gs) = SignatureIsPlaced (resolved_signature g s) × ArePlaced s gs

-- by each of these formats it is placed, or has this first fault
abbrev Answers : List Format → Signature → Option SignatureFault → Type 0
Answers gs s None = ArePlaced s gs
Answers gs s (Some f) = IsFirstFaultBy gs s f

with_first : (g : Format) (gs : List Format) (s : Signature) (o p : Option SignatureFault) → SignatureAnswers for_places (resolved_signature g s) o → Answers gs s p → Answers (g ∷ gs) s (or_else o p)
with_first g gs s None None right rest = (right, rest)
with_first g gs s None (Some f) right first = inr (right, first)
with_first g gs s (Some f) p first rest = inl first

answers : (gs : List Format) (s : Signature) → Answers gs s (first_fault_by gs s)
answers [] s = tt
answers (g ∷ gs) s =
    with_first g gs s (first_fault_for for_places (resolved_signature g s)) (first_fault_by gs s) (signature_answers for_places (resolved_signature g s)) (answers gs s)

placed_by : (s : Signature) → ArePlaced s every_format → (format : Format) → SignatureIsPlaced (resolved_signature format s)
placed_by s (first, (second, (third, rest))) X87 = first
placed_by s (first, (second, (third, rest))) Binary128 = second
placed_by s (first, (second, (third, rest))) Double = third

judged_everywhere_so : (d : Declaration) (o : Option SignatureFault) → Answers every_format d.signature o → IsJudgedEverywhere d (with_signature d o)
judged_everywhere_so d None all = placed_everywhere (placed_by d.signature all)
judged_everywhere_so d (Some f) first = faulty_somewhere first

is_judged_everywhere : (d : Declaration) → IsJudgedEverywhere d (judged_everywhere d)
is_judged_everywhere d =
    judged_everywhere_so d (first_fault_by every_format d.signature) (answers every_format d.signature)

none_by : (gs : List Format) (s : Signature) → ((format : Format) → SignatureIsPlaced (resolved_signature format s)) → None ≡ first_fault_by gs s
none_by [] s right = refl
none_by (g ∷ gs) s right =
    none_by gs s right ∙ ap (λ o. or_else o (first_fault_by gs s)) (none_found (resolved_signature g s) (right g))

first_of_all : (gs : List Format) (s : Signature) (f : SignatureFault) → IsFirstFaultBy gs s f → Some f ≡ first_fault_by gs s
first_of_all [] s f first = absurd first
first_of_all (g ∷ gs) s f (inl first) =
    ap (λ o. or_else o (first_fault_by gs s)) (found_first (resolved_signature g s) f first)
first_of_all (g ∷ gs) s f (inr (right, first)) =
    first_of_all gs s f first ∙ ap (λ o. or_else o (first_fault_by gs s)) (none_found (resolved_signature g s) right)

judged_once_everywhere : (d : Declaration) (o : Outcome) → IsJudgedEverywhere d o → o ≡ judged_everywhere d
judged_once_everywhere d _ (placed_everywhere right) =
    ap (with_signature d) (none_by every_format d.signature right)
judged_once_everywhere d _ (faulty_somewhere {f = f} first) =
    ap (with_signature d) (first_of_all every_format d.signature f first)

same_faults : (gs : List Format) (d e : Declaration) → ((g : Format) → AlikeDeclarationsFor g d e) → first_fault_by gs d.signature ≡ first_fault_by gs e.signature
same_faults [] d e alike = refl
same_faults (g ∷ gs) d e alike =
    ap (λ o. or_else o (first_fault_by gs d.signature)) (fault_same g d e (alike g)) ∙ ap (or_else (first_fault_for for_places (resolved_signature g e.signature))) (same_faults gs d e alike)

same_by_none : (d e : Declaration) (o : Option SignatureFault) → (o ≡ None → d ≡ e) → with_signature e o ≡ with_signature d o
same_by_none d e None same = ap reads (sym (same refl))
same_by_none d e (Some f) same = refl

pub same_judged_everywhere : (d e : Declaration) → ((g : Format) → AlikeDeclarationsFor g d e) → judged_everywhere e ≡ judged_everywhere d
same_judged_everywhere d e alike =
    ap (with_signature e) (sym (same_faults every_format d e alike)) ∙ same_by_none d e (first_fault_by every_format d.signature) (λ none. none_same X87 d e (alike X87) (or_else_none (first_fault_for for_places (resolved_signature X87 d.signature)) (first_fault_by (Binary128 ∷ Double ∷ []) d.signature) none).0)

-- ---- each text has one reading, which is computed

module _ (IsJudged : Declaration → Outcome → Type 0) (judge : Declaration → Outcome) (judged_so : (d : Declaration) → IsJudged d (judge d)) (judged_once : (d : Declaration) (o : Outcome) → IsJudged d o → o ≡ judge d) (c : Sign) (text : List ℕ) where
  unexpected_by : (at : ℕ) → IsReadingIn wide c text (unexpected at) → IsReadingBy IsJudged c text (unexpected at)
  unexpected_by _ (reading.has_unexpected start rest e u) =
      has_unexpected start rest e u

  read_is : (ps : List Placed) (o : Option Declaration) → cut_in wide c text ≡ tokens ps → finish (after wide begun (tokens_of ps)) ≡ o → read_in wide c text ≡ with_end wide (length text) ps o
  read_is ps o e h =
      ap (with_cut wide (length text)) e ∙ ap (with_end wide (length text) ps) h

  at_end : (ps : List Placed) (o : Option Declaration) → cut_in wide c text ≡ tokens ps → finish (after wide begun (tokens_of ps)) ≡ o → IsReadingBy IsJudged c text (with_end_by judge (length text) ps o)
  at_end ps None e h =
      unexpected_by _ (subst (IsReadingIn wide c text) (read_is ps None e h) (reading_in wide c text))
  at_end ps (Some d) e h = by_number (first_too_great ps) refl
    where
      by_number : (n : Option ℕ) → first_too_great ps ≡ n → IsReadingBy IsJudged c text (with_number_by judge d n)
      by_number None f =
          is_judged e (declaration_of wide d (tokens_of ps) h) f (judged_so d)
      by_number (Some at) f =
          has_bad_number e (declaration_of wide d (tokens_of ps) h) f

  of_cut : (cut : Cut) → cut_in wide c text ≡ cut → IsReadingBy IsJudged c text (with_cut_by judge (length text) cut)
  of_cut (bad_at at) e = has_bad_token e
  of_cut (tokens ps) e = at_end ps (finish (after wide begun (tokens_of ps))) e refl

  pub reading_by : IsReadingBy IsJudged c text (read_by judge c text)
  reading_by = of_cut (cut_in wide c text) refl

  -- an unexpected place is no other outcome
  not_judged : (at : ℕ) (d : Declaration) (f : Option SignatureFault) → unexpected at ≡ with_signature d f → ⊥
  not_judged at d None e = cc
  not_judged at d (Some f) e = cc

  not_number : (at : ℕ) (d : Declaration) (n : Option ℕ) → unexpected at ≡ with_number d n → ⊥
  not_number at d None e =
      not_judged at d (first_signature_fault d.signature) e
  not_number at d (Some there) e = cc

  unexpected_at_end : (at : ℕ) (ps : List Placed) (o : Option Declaration) → unexpected at ≡ with_end wide (length text) ps o → unexpected at ≡ with_end_by judge (length text) ps o
  unexpected_at_end at ps None e = e
  unexpected_at_end at ps (Some d) e =
      absurd (not_number at d (first_too_great ps) e)

  declared : (ps : List Placed) (d : Declaration) (n : Option ℕ) → cut_in wide c text ≡ tokens ps → IsDeclarationIn wide (tokens_of ps) d → first_too_great ps ≡ n → with_number_by judge d n ≡ read_by judge c text
  declared ps d n e p f =
      sym (ap (with_cut_by judge (length text)) e ∙ ap (with_end_by judge (length text) ps) (accepted wide p) ∙ ap (with_number_by judge d) f)

  pub one_reading_by : (o : Outcome) → IsReadingBy IsJudged c text o → o ≡ read_by judge c text
  one_reading_by _ (has_bad_token e) =
      sym (ap (with_cut_by judge (length text)) e)
  one_reading_by _ (has_unexpected start rest e u) =
      let ps : List Placed = start ++ rest in
      let there = one_reading_in wide c text _ (reading.has_unexpected start rest e u) ∙ read_is ps (finish (after wide begun (tokens_of ps))) e refl in
      unexpected_at_end _ ps (finish (after wide begun (tokens_of ps))) there ∙ sym (ap (with_cut_by judge (length text)) e)
  one_reading_by _ (has_bad_number {ps = ps} {at = at} {d = d} e p f) =
      declared ps d (Some at) e p f
  one_reading_by _ (is_judged {ps = ps} {d = d} {o = o} e p f is) =
      judged_once d o is ∙ declared ps d None e p f

-- ---- for a format, and for each

pub is_reading_for : (format : Format) (c : Sign) (text : List ℕ) (o : Outcome) → o ≡ read_for format c text → IsReadingFor format c text o
is_reading_for format c text o e =
    subst (IsReadingFor format c text) (sym e) (reading_by (IsJudgedFor format) (judged_for format) (is_judged_for format) (judged_once_for format) c text)

pub one_reading_for : (format : Format) (c : Sign) (text : List ℕ) (o : Outcome) → IsReadingFor format c text o → o ≡ read_for format c text
one_reading_for format c text o is =
    one_reading_by (IsJudgedFor format) (judged_for format) (is_judged_for format) (judged_once_for format) c text o is

pub is_reading_everywhere : (c : Sign) (text : List ℕ) (o : Outcome) → o ≡ read_everywhere c text → IsReadingEverywhere c text o
is_reading_everywhere c text o e =
    subst (IsReadingEverywhere c text) (sym e) (reading_by IsJudgedEverywhere judged_everywhere is_judged_everywhere judged_once_everywhere c text)

pub one_reading_everywhere : (c : Sign) (text : List ℕ) (o : Outcome) → IsReadingEverywhere c text o → o ≡ read_everywhere c text
one_reading_everywhere c text o is =
    one_reading_by IsJudgedEverywhere judged_everywhere is_judged_everywhere judged_once_everywhere c text o is

-- what is read can be placed
placed_for : (format : Format) (d : Declaration) (o : Outcome) → IsJudgedFor format d o → (e : Declaration) → o ≡ reads e → SignatureIsPlaced e.signature
placed_for format d _ (is_placed right) e same =
    subst (λ x. SignatureIsPlaced x.signature) (reads_same (resolved_declaration format d) e same) right
  where
    reads_same : (x y : Declaration) → reads x ≡ reads y → x ≡ y
    reads_same x y h = cc
placed_for format d _ (has_bad_signature first) e same = cc

pub read_is_placed : (format : Format) (c : Sign) (text : List ℕ) (o : Outcome) → IsReadingFor format c text o → (e : Declaration) → o ≡ reads e → SignatureIsPlaced e.signature
read_is_placed format c text _ (has_bad_token x) e same = cc
read_is_placed format c text _ (has_unexpected start rest x u) e same = cc
read_is_placed format c text _ (has_bad_number x p f) e same = cc
read_is_placed format c text _ (is_judged {d = d} {o = o} x p f is) e same = placed_for format d o is e same

everywhere_placed : (d : Declaration) (o : Outcome) → IsJudgedEverywhere d o → (e : Declaration) → o ≡ reads e → (format : Format) → SignatureIsPlaced (resolved_signature format e.signature)
everywhere_placed d _ (placed_everywhere right) e same =
    subst (λ x. (format : Format) → SignatureIsPlaced (resolved_signature format x.signature)) (reads_same d e same) right
  where
    reads_same : (x y : Declaration) → reads x ≡ reads y → x ≡ y
    reads_same x y h = cc
everywhere_placed d _ (faulty_somewhere first) e same = λ format. cc

pub read_is_placed_everywhere : (c : Sign) (text : List ℕ) (o : Outcome) → IsReadingEverywhere c text o → (e : Declaration) → o ≡ reads e → (format : Format) → SignatureIsPlaced (resolved_signature format e.signature)
read_is_placed_everywhere c text _ (has_bad_token x) e same = λ format. cc
read_is_placed_everywhere c text _ (has_unexpected start rest x u) e same = λ format. cc
read_is_placed_everywhere c text _ (has_bad_number x p f) e same = λ format. cc
read_is_placed_everywhere c text _ (is_judged {d = d} {o = o} x p f is) e same = everywhere_placed d o is e same
