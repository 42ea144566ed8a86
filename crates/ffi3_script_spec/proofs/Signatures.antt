-- A signature that is read, and a value that is refused as one, by the order of faults itself.
use Rattle.std.proofs.Common.{◌≡◌, ◌⊎◌, inl, inr, ℕ, List, Option, Some, None, refl, sym, subst}
use Rattle.std.specs.Prelude.{⊤}
use Rattle.serde_json.specs.Data.{Data}
use Rattle.ffi3_type_spec.specs.Signature.{Signature, SignatureFault, SignatureHasNoFault, for_calls}
use Rattle.ffi3_type_spec.specs.FirstFault.{first_signature_fault}
use Rattle.ffi3_type_spec.proofs.FirstSignatureFaults.{SignatureAnswers, signature_answers, one_first_signature_fault}
use Rattle.ffi3_cdecl_spec.specs.Reading.{Outcome, reads, IsReading, is_read}
use Rattle.ffi3_cdecl_spec.specs.Machine as declaration
use Rattle.ffi3_cdecl_spec.proofs.Readings.{reading, one_reading}
use Rattle.ffi3_script_spec.specs.Language.{JsonPath, Reason, Read, read, fault, and_then, read_shapes, unless_faulty, place_of_fault, reason_of_fault, object_signature, declared_signature, declaration_in, signature_by, read_signature}
use Rattle.ffi3_script_spec.specs.SignatureReading.{TellsFirstFault, IsReasonOf, IsSignature, from_object, from_declaration, IsNoSignature, by_shapes, by_first_fault, by_declaration}
use Rattle.ffi3_script_spec.proofs.ReadParts.{first_was_read, same_read}

-- ---- places and reasons

same_fault : {A : Type 0} {p q : JsonPath} {r w : Reason} → ◌≡◌ {A = Read A} (fault q w) (fault p r) → (q ≡ p) × (w ≡ r)
same_fault h = (cc, cc)

-- a refusal is that of the first step, or of what comes after it
refused_by : {A B : Type 0} (more : A → Read B) (x : Read A) (p : JsonPath) (r : Reason) → and_then more x ≡ fault p r → (x ≡ fault p r) ⊎ ((a : A) × (x ≡ read a) × (more a ≡ fault p r))
refused_by more (read a) p r h = inr (a, refl, h)
refused_by more (fault q w) p r h =
    let same = same_fault h in
    inl (λ i. fault (same.0 i) (same.1 i))

-- ---- an object

object_right : (path : JsonPath) (r s : Signature) (f : Option SignatureFault) → SignatureAnswers for_calls r f → unless_faulty path r f ≡ read s → SignatureHasNoFault r × (r ≡ s)
object_right path r s None right h = (right, same_read r s h)
object_right path r s (Some f) first h = absurd (cc)

own_fault : (path : JsonPath) (s : Signature) (p : JsonPath) (r : Reason) (f : Option SignatureFault) → SignatureAnswers for_calls s f → unless_faulty path s f ≡ fault p r → TellsFirstFault s path p r
own_fault path s p r None right h = absurd (cc)
own_fault path s p r (Some f) first h =
    let same : (place_of_fault path s f ≡ p) × (reason_of_fault f ≡ r) = same_fault h in
    record { first = f; is_first = first; alone = λ other o. one_first_signature_fault s other f o first; stands = sym same.0; tells = sym same.1 }

-- ---- a declaration

declared_reason : (path : JsonPath) (o : Outcome) (p : JsonPath) (r : Reason) → declared_signature path o ≡ fault p r → (p ≡ path) × IsReasonOf o r
declared_reason path (reads d) p r h = absurd (cc)
declared_reason path _ p r h =
    let same = same_fault h in (sym same.0, sym same.1)

-- what is read has no fault
abbrev IsRight : Outcome → Type 0
IsRight (reads d) = SignatureHasNoFault d.signature
IsRight o = ⊤

reading_is_right : {text : List ℕ} {o : Outcome} → IsReading text o → IsRight o
reading_is_right (is_read e d none right) = right
reading_is_right _ = tt

-- ---- both

module _ (version : ℕ) (d : Data) (path : JsonPath) where
  object_is_read : (s : Signature) → declaration_in version d ≡ None → object_signature version d path ≡ read s → IsSignature version d path s
  object_is_read s none h =
      let was = first_was_read (λ r. unless_faulty path r (first_signature_fault r)) (read_shapes version d path) s h in
      let right = object_right path was.0 s (first_signature_fault was.0) (signature_answers for_calls was.0) was.2 in
      subst (IsSignature version d path) right.1 (from_object none was.1 right.0)

  declared_is_read : (s : Signature) (text : List ℕ) → declaration_in version d ≡ Some text → (o : Outcome) → IsReading text o → declared_signature path o ≡ read s → IsSignature version d path s
  declared_is_read s text is (reads e) reads_so h =
      from_declaration is reads_so (same_read e.signature s h)
  declared_is_read s text is _ reads_so h = absurd (cc)

  read_by : (s : Signature) (o : Option (List ℕ)) → declaration_in version d ≡ o → signature_by version d path o ≡ read s → IsSignature version d path s
  read_by s None none h = object_is_read s none h
  read_by s (Some text) is h =
      declared_is_read s text is (declaration.read text) (reading text) h

  -- WHAT IS READ IS A SIGNATURE
  pub signature_is_read : (s : Signature) → read_signature version d path ≡ read s → IsSignature version d path s
  signature_is_read s h = read_by s (declaration_in version d) refl h

  object_is_refused : (p : JsonPath) (r : Reason) → declaration_in version d ≡ None → object_signature version d path ≡ fault p r → IsNoSignature version d path p r
  object_is_refused p r none h =
      elim (refused_by (λ s. unless_faulty path s (first_signature_fault s)) (read_shapes version d path) p r h) [
        | inl shapes ↦ by_shapes none shapes
        | inr was ↦ by_first_fault none was.1 (own_fault path was.0 p r (first_signature_fault was.0) (signature_answers for_calls was.0) was.2)
      ]

  declared_is_refused : (p : JsonPath) (r : Reason) (text : List ℕ) → declaration_in version d ≡ Some text → declared_signature path (declaration.read text) ≡ fault p r → IsNoSignature version d path p r
  declared_is_refused p r text is h =
      let told = declared_reason path (declaration.read text) p r h in
      by_declaration is (record { answer = declaration.read text; is_reading = reading text; alone = λ other o. one_reading text other o; stands = told.0; tells = told.1 })

  refused_as : (p : JsonPath) (r : Reason) (o : Option (List ℕ)) → declaration_in version d ≡ o → signature_by version d path o ≡ fault p r → IsNoSignature version d path p r
  refused_as p r None none h = object_is_refused p r none h
  refused_as p r (Some text) is h = declared_is_refused p r text is h

  -- WHAT IS REFUSED IS NONE, for this reason
  pub signature_is_refused : (p : JsonPath) (r : Reason) → read_signature version d path ≡ fault p r → IsNoSignature version d path p r
  signature_is_refused p r h = refused_as p r (declaration_in version d) refl h

  -- a signature has no fault
  signature_has_no_fault : (s : Signature) → IsSignature version d path s → SignatureHasNoFault s
  signature_has_no_fault s (from_object none shapes right) = right
  signature_has_no_fault s (from_declaration is reads_so same) =
      subst SignatureHasNoFault same (reading_is_right reads_so)

  pub read_is_right : (s : Signature) → read_signature version d path ≡ read s → SignatureHasNoFault s
  read_is_right s h = signature_has_no_fault s (signature_is_read s h)
