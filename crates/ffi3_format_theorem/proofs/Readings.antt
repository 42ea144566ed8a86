-- Where no long double is told, a text is read with formats as it is read with none.
use Rattle.std.proofs.Common.{◌≡◌, ℕ, List, [], ◌∷◌, Option, Some, None, inl, inr, sym, subst}
use Rattle.ffi3_type_spec.specs.FirstFault.{first_fault_for}
use Rattle.ffi3_type_spec.specs.Signature.{Signature, SignatureFault, SignatureHasNoFault, SignatureIsPlaced, HasNoLongDouble, IsFirstSignatureFault, IsFirstFaultFor, for_places}
use Rattle.ffi3_type_spec.proofs.FirstSignatureFaults.{SignatureAnswers, signature_answers, one_first_signature_fault}
use Rattle.ffi3_type_spec.proofs.Placed.{faultless_is_placed, placed_is_faultless}
use Rattle.ffi3_format_spec.specs.declared.Format.{Format}
use Rattle.ffi3_format_spec.specs.declared.Format.TheVariants.{Double}
use Rattle.ffi3_format_spec.specs.Format.{resolved_signature}
use Rattle.ffi3_format_spec.proofs.Resolving.{own_signature, callable_is_own}
use Rattle.ffi3_format_spec.proofs.SameFaults.{same_first}
use Rattle.ffi3_cdecl_spec.specs.Grammar.{Declaration, IsDeclarationIn}
use Rattle.ffi3_cdecl_spec.specs.Reading.{Outcome, reads, bad_token, unexpected, bad_number, bad_signature, tokens_of, first_too_great, IsReadingIn, is_read, has_bad_signature}
use Rattle.ffi3_cdecl_spec.specs.Reading as plain
use Rattle.ffi3_cdecl_spec.specs.ReadingFor.{IsReadingBy, has_bad_token, has_unexpected, has_bad_number, is_judged, IsReadingFor, IsJudgedFor, is_placed, resolved_declaration, every_format, IsFirstFaultBy, IsJudgedEverywhere, placed_everywhere, faulty_somewhere, IsReadingEverywhere}
use Rattle.ffi3_cdecl_spec.specs.ReadingFor as for_format
use Rattle.ffi3_cdecl_spec.specs.Tokens.{wide, Sign, Placed, tokens, cut_in}
use Rattle.ffi3_format_theorem.specs.Laws.{IsWithoutLongDouble, TextTellsNoLongDouble, IsPlacedAsCalled, AreReadAlike, NoLongDoubleLaws}

-- ---- signatures

module _ (s : Signature) (narrow : HasNoLongDouble s) where
  -- what is found for places is a first fault for calls as well, and of these there is one
  first_is_found : (f : SignatureFault) → IsFirstSignatureFault s f → (found : Option SignatureFault) → SignatureAnswers for_places s found → IsFirstFaultFor for_places s f
  first_is_found f first None placed = absurd (placed_is_faultless s placed narrow f first.is_there)
  first_is_found f first (Some g) there =
      subst (IsFirstFaultFor for_places s) (one_first_signature_fault s g f (same_first s narrow g there) first) there

  pub first_for_places : (f : SignatureFault) → IsFirstSignatureFault s f → IsFirstFaultFor for_places s f
  first_for_places f first = first_is_found f first (first_fault_for for_places s) (signature_answers for_places s)

  placed_as_called : IsPlacedAsCalled s
  placed_as_called = record {
    placed_is_called = λ placed. placed_is_faultless s placed narrow;
    called_is_placed = faultless_is_placed s;
    fault_for_places = same_first s narrow;
    fault_for_calls = first_for_places;
  }

-- ---- how a declaration is judged, without formats

data IsJudged (d : Declaration) : Outcome → Type 0 where
  judged_right : SignatureHasNoFault d.signature → IsJudged d (reads d)
  judged_bad : (f : SignatureFault) → IsFirstSignatureFault d.signature f → IsJudged d (bad_signature f)

-- readings whose judges agree on what the text declares are alike
module _ (c : Sign) (text : List ℕ) (Judge : Declaration → Outcome → Type 0) where
  module _ (agree : (ps : List Placed) (d : Declaration) (o : Outcome) → cut_in wide c text ≡ tokens ps → IsDeclarationIn wide (tokens_of ps) d → IsJudged d o → Judge d o) where
    with_judge : (o : Outcome) → IsReadingIn wide c text o → IsReadingBy Judge c text o
    with_judge o (plain.has_bad_token at) = has_bad_token at
    with_judge o (plain.has_unexpected start rest cut there) = has_unexpected start rest cut there
    with_judge o (plain.has_bad_number cut here great) = has_bad_number cut here great
    with_judge o (is_read {ps = ps} {d = d} cut here great right) =
        is_judged cut here great (agree ps d (reads d) cut here (judged_right right))
    with_judge o (has_bad_signature {ps = ps} {d = d} {f = f} cut here great first) =
        is_judged cut here great (agree ps d (bad_signature f) cut here (judged_bad f first))

  read_so : (ps : List Placed) (d : Declaration) (o : Outcome) → cut_in wide c text ≡ tokens ps → IsDeclarationIn wide (tokens_of ps) d → first_too_great ps ≡ None → IsJudged d o → IsReadingIn wide c text o
  read_so ps d o cut here great (judged_right right) = is_read cut here great right
  read_so ps d o cut here great (judged_bad f first) = has_bad_signature cut here great first

  module _ (agree : (ps : List Placed) (d : Declaration) (o : Outcome) → cut_in wide c text ≡ tokens ps → IsDeclarationIn wide (tokens_of ps) d → Judge d o → IsJudged d o) where
    without_judge : (o : Outcome) → IsReadingBy Judge c text o → IsReadingIn wide c text o
    without_judge o (has_bad_token at) = plain.has_bad_token at
    without_judge o (has_unexpected start rest cut there) = plain.has_unexpected start rest cut there
    without_judge o (has_bad_number cut here great) = plain.has_bad_number cut here great
    without_judge o (is_judged {ps = ps} {d = d} cut here great judged) =
        read_so ps d o cut here great (agree ps d o cut here judged)

-- ---- by one format

own_declaration : (f : Format) (d : Declaration) → resolved_signature f d.signature ≡ d.signature → resolved_declaration f d ≡ d
own_declaration f d own = λ i. record { called = d.called; signature = own i }

judged_its_own : (f : Format) (d : Declaration) → resolved_signature f d.signature ≡ d.signature → SignatureIsPlaced d.signature → IsJudgedFor f d (reads d)
judged_its_own f d own placed =
    subst (λ (e : Declaration). IsJudgedFor f d (reads e)) (own_declaration f d own) (is_placed (subst SignatureIsPlaced (sym own) placed))

pub declared_with : (f : Format) (c : Sign) (text : List ℕ) (d : Declaration) → IsReadingIn wide c text (reads d) → IsReadingFor f c text (reads d)
declared_with f c text d (is_read cut here great right) =
    is_judged cut here great (judged_its_own f d (callable_is_own f d.signature right) (faultless_is_placed d.signature right))

module _ (f : Format) (d : Declaration) (none : IsWithoutLongDouble d.signature) where
  own : resolved_signature f d.signature ≡ d.signature
  own = own_signature f d.signature none.none_unknown

  judged_with : (o : Outcome) → IsJudged d o → IsJudgedFor f d o
  judged_with o (judged_right right) = judged_its_own f d own (faultless_is_placed d.signature right)
  judged_with o (judged_bad g first) =
      for_format.has_bad_signature (subst (λ (s : Signature). IsFirstFaultFor for_places s g) (sym own) (first_for_places d.signature none.none_known g first))

  judged_without : (o : Outcome) → IsJudgedFor f d o → IsJudged d o
  judged_without o (is_placed placed) =
      let right : SignatureHasNoFault d.signature = placed_is_faultless d.signature (subst SignatureIsPlaced own placed) none.none_known in
      subst (λ (e : Declaration). IsJudged d (reads e)) (sym (own_declaration f d own)) (judged_right right)
  judged_without o (for_format.has_bad_signature {f = g} first) =
      judged_bad g (same_first d.signature none.none_known g (subst (λ (s : Signature). IsFirstFaultFor for_places s g) own first))

pub alike_with : (f : Format) (c : Sign) (text : List ℕ) → TextTellsNoLongDouble c text → AreReadAlike (IsReadingIn wide c text) (IsReadingFor f c text)
alike_with f c text without = record {
  there = with_judge c text (IsJudgedFor f) (λ ps d o cut here. judged_with f d (without ps d cut here) o);
  back = without_judge c text (IsJudgedFor f) (λ ps d o cut here. judged_without f d (without ps d cut here) o);
}

-- ---- by all formats

module _ (d : Declaration) (none : IsWithoutLongDouble d.signature) where
  -- each format finds the one fault
  one_fault : (fs : List Format) (g : SignatureFault) → IsFirstFaultBy fs d.signature g → IsFirstSignatureFault d.signature g
  one_fault [] g first = absurd first
  one_fault (f ∷ fs) g (inl first) =
      same_first d.signature none.none_known g (subst (λ (s : Signature). IsFirstFaultFor for_places s g) (own f d none) first)
  one_fault (f ∷ fs) g (inr rest) = one_fault fs g rest.1

  judged_with_all : (o : Outcome) → IsJudged d o → IsJudgedEverywhere d o
  judged_with_all o (judged_right right) =
      placed_everywhere (λ f. subst SignatureIsPlaced (sym (own f d none)) (faultless_is_placed d.signature right))
  judged_with_all o (judged_bad g first) =
      faulty_somewhere (inl (subst (λ (s : Signature). IsFirstFaultFor for_places s g) (sym (own _ d none)) (first_for_places d.signature none.none_known g first)))

  judged_without_all : (o : Outcome) → IsJudgedEverywhere d o → IsJudged d o
  judged_without_all o (placed_everywhere placed) =
      judged_right (placed_is_faultless d.signature (subst SignatureIsPlaced (own Double d none) (placed Double)) none.none_known)
  judged_without_all o (faulty_somewhere {f = g} first) = judged_bad g (one_fault every_format g first)

pub alike_with_all : (c : Sign) (text : List ℕ) → TextTellsNoLongDouble c text → AreReadAlike (IsReadingIn wide c text) (IsReadingEverywhere c text)
alike_with_all c text without = record {
  there = with_judge c text IsJudgedEverywhere (λ ps d o cut here. judged_with_all d (without ps d cut here) o);
  back = without_judge c text IsJudgedEverywhere (λ ps d o cut here. judged_without_all d (without ps d cut here) o);
}

pub no_long_double_laws : NoLongDoubleLaws
no_long_double_laws = record {
  signatures = placed_as_called;
  declared = declared_with;
  with_a_format = alike_with;
  with_all = alike_with_all;
}
