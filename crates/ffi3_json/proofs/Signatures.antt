-- A signature's parts, one after another.
use Rattle.std.proofs.Common.{◌≡◌, ℕ, List, Option, Some, None, Result, IfOk, IfErr, codes, ap, sym, ◌∙◌}
use Rattle.std.proofs.lemmas.Result.{IfOk-weaker, IfErr-weaker}
use Rattle.std.specs.Prelude.{unwrap_or}
use Rattle.serde_json.specs.Data.{Data, null}
use Rattle.serde_json.specs.Find.{get}
use Rattle.ffi3_type_spec.specs.Tree.{Tree}
use Rattle.ffi3_type_spec.specs.Signature.{Signature, SignatureFault, IsFirstSignatureFault, SignatureHasNoFault}
use Rattle.ffi3_type_spec.proofs.FirstSignatureFaults.{signature_found_by_first, signature_none_found}
use Rattle.ffi3_cdecl_spec.specs.Grammar.{Declaration}
use Rattle.ffi3_cdecl_spec.specs.Reading.{Outcome, reads}
use Rattle.ffi3_cdecl_spec.specs.Machine as declaration
use Rattle.ffi3_script_spec.specs.Language.{JsonPath, Reason, Read, read, fault, and_then, read_map, check_object, signature_keys, read_type, read_types, read_fixed, value_under, under, read_shapes, object_signature, declared_signature, declaration_in, signature_by, read_signature, unless_faulty, place_of_fault, reason_of_fault}
use Rattle.ffi3_script_spec.specs.SignatureReading.{IsSignature, IsNoSignature}
use Rattle.ffi3_script_spec.proofs.Signatures.{signature_is_read, signature_is_refused, read_is_right}
use Rattle.ffi3_json.specs.Reports.{Reports}
use Rattle.ffi3_json.specs.declared.fault.ScriptFault.{ScriptFault}
use Rattle.ffi3_json.proofs.Tellings.{tells_more, tells_made, tells_part}

then_fault : {A B : Type 0} (f : A → Read B) (x : Read A) (p : JsonPath) (r : Reason) → x ≡ fault p r → and_then f x ≡ fault p r
then_fault f x p r e = ap (and_then f) e

then_read : {A B : Type 0} (f : A → Read B) (x : Read A) (a : A) → x ≡ read a → and_then f x ≡ f a
then_read f x a e = ap (and_then f) e

pub under-is : (name : List ℕ) (d inside : Data) → get name d ≡ Some inside → value_under name d ≡ inside
under-is name d inside e = ap (λ o. unwrap_or o null) e

pub under-none : (name : List ℕ) (d : Data) → get name d ≡ None → value_under name d ≡ null
under-none name d e = ap (λ o. unwrap_or o null) e

abbrev pub ret_of : (version : ℕ) → Data → JsonPath → Read Tree
ret_of version d path = read_type version (value_under (codes "ret") d) (under path (codes "ret"))

abbrev pub args_of : (version : ℕ) → Data → JsonPath → Read (List Tree)
args_of version d path = read_types version (value_under (codes "args") d) (under path (codes "args"))

abbrev pub fixed_of : Data → JsonPath → Read (Option ℕ)
fixed_of d path = read_fixed (get (codes "fixed") d) (under path (codes "fixed"))

pub shapes-object : (version : ℕ) (d : Data) (path : JsonPath) (p : JsonPath) (r : Reason) → check_object d signature_keys path ≡ fault p r → read_shapes version d path ≡ fault p r
shapes-object version d path p r e = then_fault _ (check_object d signature_keys path) p r e

pub shapes-ret : (version : ℕ) (d : Data) (path : JsonPath) (p : JsonPath) (r : Reason) → check_object d signature_keys path ≡ read tt → ret_of version d path ≡ fault p r → read_shapes version d path ≡ fault p r
shapes-ret version d path p r e0 e1 = then_read _ (check_object d signature_keys path) tt e0 ∙ then_fault _ (ret_of version d path) p r e1

pub shapes-args : (version : ℕ) (d : Data) (path : JsonPath) (t : Tree) (p : JsonPath) (r : Reason) → check_object d signature_keys path ≡ read tt → ret_of version d path ≡ read t → args_of version d path ≡ fault p r → read_shapes version d path ≡ fault p r
shapes-args version d path t p r e0 e1 e2 =
    then_read _ (check_object d signature_keys path) tt e0 ∙ then_read _ (ret_of version d path) t e1 ∙ then_fault _ (args_of version d path) p r e2

shapes-most : (version : ℕ) (d : Data) (path : JsonPath) (t : Tree) (ts : List Tree) → check_object d signature_keys path ≡ read tt → ret_of version d path ≡ read t → args_of version d path ≡ read ts
    → read_shapes version d path ≡ read_map (λ fixed. record { result_type = t; arguments = ts; fixed = fixed }) (fixed_of d path)
shapes-most version d path t ts e0 e1 e2 =
    then_read _ (check_object d signature_keys path) tt e0 ∙ then_read _ (ret_of version d path) t e1 ∙ then_read _ (args_of version d path) ts e2

pub shapes-fixed : (version : ℕ) (d : Data) (path : JsonPath) (t : Tree) (ts : List Tree) (p : JsonPath) (r : Reason) → check_object d signature_keys path ≡ read tt → ret_of version d path ≡ read t → args_of version d path ≡ read ts
    → fixed_of d path ≡ fault p r → read_shapes version d path ≡ fault p r
shapes-fixed version d path t ts p r e0 e1 e2 e3 = shapes-most version d path t ts e0 e1 e2 ∙ ap (λ x. read_map (λ fixed. record { result_type = t; arguments = ts; fixed = fixed }) x) e3

pub shapes-all : (version : ℕ) (d : Data) (path : JsonPath) (t : Tree) (ts : List Tree) (n : Option ℕ) → check_object d signature_keys path ≡ read tt → ret_of version d path ≡ read t → args_of version d path ≡ read ts
    → fixed_of d path ≡ read n → read_shapes version d path ≡ read (record { result_type = t; arguments = ts; fixed = n })
shapes-all version d path t ts n e0 e1 e2 e3 = shapes-most version d path t ts e0 e1 e2 ∙ ap (λ x. read_map (λ fixed. record { result_type = t; arguments = ts; fixed = fixed }) x) e3

-- a fault of the shapes is the object's
pub shapes_fault : (version : ℕ) (d : Data) (path : JsonPath) (p : JsonPath) (r : Reason) → read_shapes version d path ≡ fault p r → object_signature version d path ≡ fault p r
shapes_fault version d path p r is = then_fault _ (read_shapes version d path) p r is

-- so is the first fault of a signature whose shapes were read
pub tells_own : (version : ℕ) (d : Data) (path : JsonPath) (s : Signature) (f : SignatureFault) → read_shapes version d path ≡ read s → IsFirstSignatureFault s f
    → (e : ScriptFault) → Reports (λ p r. (p ≡ place_of_fault path s f) × (r ≡ reason_of_fault f)) e → Reports (λ p r. object_signature version d path ≡ fault p r) e
tells_own version d path s f shapes first e t =
    tells_made (object_signature version d path) (place_of_fault path s f) (reason_of_fault f) (then_read _ (read_shapes version d path) s shapes ∙ ap (unless_faulty path s) (signature_found_by_first s f first)) e t

-- and one that has none is read
pub read_right : (version : ℕ) (d : Data) (path : JsonPath) (s : Signature) → read_shapes version d path ≡ read s → SignatureHasNoFault s → object_signature version d path ≡ read s
read_right version d path s shapes right =
    then_read _ (read_shapes version d path) s shapes ∙ ap (unless_faulty path s) (signature_none_found s right)

-- ---- a declaration or an object

pub of_text : (version : ℕ) (d : Data) (path : JsonPath) (text : List ℕ) → Some text ≡ declaration_in version d → read_signature version d path ≡ declared_signature path (declaration.read text)
of_text version d path text is = ap (signature_by version d path) (sym is)

pub of_object : (version : ℕ) (d : Data) (path : JsonPath) → None ≡ declaration_in version d → read_signature version d path ≡ object_signature version d path
of_object version d path none = ap (signature_by version d path) (sym none)

-- what is read and refused of either is so of the signature, also in the order of faults itself
module _ (version : ℕ) (d : Data) (path : JsonPath) (x : Read Signature) (same : read_signature version d path ≡ x) where
  pub reads_signature : (z : Result Signature ScriptFault) → IfOk z (λ s. x ≡ read s) → IfOk z (λ s. read_signature version d path ≡ read s)
  reads_signature z ok =
      IfOk-weaker z (λ s. x ≡ read s) (λ s. read_signature version d path ≡ read s) (λ s h. same ∙ h) ok

  pub reads_rightly : (z : Result Signature ScriptFault) → IfOk z (λ s. x ≡ read s) → IfOk z SignatureHasNoFault
  reads_rightly z ok =
      IfOk-weaker z (λ s. x ≡ read s) SignatureHasNoFault (λ s h. read_is_right version d path s (same ∙ h)) ok

  pub reads_by_order : (z : Result Signature ScriptFault) → IfOk z (λ s. x ≡ read s) → IfOk z (IsSignature version d path)
  reads_by_order z ok =
      IfOk-weaker z (λ s. x ≡ read s) (IsSignature version d path) (λ s h. signature_is_read version d path s (same ∙ h)) ok

  pub tells_signature : (z : Result Signature ScriptFault) → IfErr z (Reports (λ p r. x ≡ fault p r)) → IfErr z (Reports (λ p r. read_signature version d path ≡ fault p r))
  tells_signature z err =
      IfErr-weaker z (Reports (λ p r. x ≡ fault p r)) (Reports (λ p r. read_signature version d path ≡ fault p r)) (λ e t. tells_part (read_signature version d path) x (λ p r h. same ∙ h) e t) err

  pub tells_by_order : (z : Result Signature ScriptFault) → IfErr z (Reports (λ p r. x ≡ fault p r)) → IfErr z (Reports (IsNoSignature version d path))
  tells_by_order z err =
      IfErr-weaker z (Reports (λ p r. x ≡ fault p r)) (Reports (IsNoSignature version d path)) (λ e t. tells_more {P = λ p r. x ≡ fault p r} {Q = IsNoSignature version d path} (λ p r h. signature_is_refused version d path p r (same ∙ h)) e t) err

-- ---- a declaration

pub declared : (path : JsonPath) (text : List ℕ) (d : Declaration) → reads d ≡ declaration.read text → declared_signature path (declaration.read text) ≡ read d.signature
declared path text d is = ap (declared_signature path) (sym is)

-- what a text is read as tells its fault
pub tells_declaration : (path : JsonPath) (text : List ℕ) (o : Outcome) (why : Reason) → o ≡ declaration.read text → declared_signature path o ≡ fault path why
    → (e : ScriptFault) → Reports (λ p r. (p ≡ path) × (r ≡ why)) e → Reports (λ p r. declared_signature path (declaration.read text) ≡ fault p r) e
tells_declaration path text o why is told e t =
    tells_made (declared_signature path (declaration.read text)) path why (ap (declared_signature path) (sym is) ∙ told) e t
