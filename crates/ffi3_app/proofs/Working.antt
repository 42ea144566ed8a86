-- What came of work, from what its parts came to.
use Rattle.std.proofs.Common.{[], ◌∷◌, ◌≡◌, ◌⊎◌, ℕ, zero, suc, ◌<◌, ◌≤◌, List, length, map, arith, inl, inr, refl, sym, subst, ap, ◌∙◌}
use Rattle.std.specs.Prelude.{Result, Ok, Err, OnOk, IsUtf8, codes}
use Rattle.ffi3_type_spec.specs.declared.Target.{Target}
use Rattle.ffi3_type_spec.specs.Signature.{Position, Signature, SignatureFault, SignatureIsPlaced, bad_fixed, fixed_outside}
use Rattle.ffi3_io_spec.specs.Sink.{SinkState}
use Rattle.ffi3_io_spec.specs.Written.{Wrote}
use Rattle.ffi3_io_spec.specs.declared.IoError.{IoError}
use Rattle.ffi3_io_spec.specs.declared.IoError.TheVariants as end
use Rattle.ffi3_json.specs.ReasonOf.{reason_of}
use Rattle.ffi3_json.specs.declared.reason.Reason.{Reason}
use Rattle.ffi3_types.specs.declared.sig.SigFault.{SigFault}
use Rattle.ffi3_script_spec.specs.Language as language
use Rattle.ffi3_json.specs.declared.fault.ScriptFault.{ScriptFault}
use Rattle.ffi3_json.specs.declared.fault.ScriptFault.TheVariants as fault
use Rattle.ffi3_cdecl.specs.Tells.{Tells}
use Rattle.ffi3_cdecl.specs.declared.fault.DeclFault.{DeclFault}
use Rattle.ffi3_cdecl.specs.declared.fault.DeclFault.TheVariants as decl
use Rattle.ffi3_cdecl_spec.specs.Grammar.{Declaration}
use Rattle.ffi3_cdecl_spec.specs.Reading as declaration
use Rattle.ffi3_cdecl_spec.specs.Tokens.{signed, unsigned}
use Rattle.ffi3_cdecl_spec.specs.Prototype.{Prototype, read_as, sign_unsaid, first_other, reads_alike, reads_by_sign, has_fault, has_fault_unsigned}
use Rattle.ffi3_cdecl_spec.proofs.Identifiers.{identifier_read, all_fixed_read, right_read}
use Rattle.ffi3_cdecl.proofs.Judging.{read_is_placed_everywhere}
use Rattle.ffi3_cdecl_spec.specs.ReadingFor.{IsReadingEverywhere}
use Rattle.ffi3_format_spec.specs.declared.Format.{Format}
use Rattle.ffi3_format_spec.specs.declared.Format.TheVariants.{Double}
use Rattle.ffi3_format_spec.specs.Format.{resolved, resolved_signature}
use Rattle.ffi3_format_spec.specs.SigText.{FixesSome}
use Rattle.ffi3_type_spec.specs.Tree.{Tree}
use Rattle.std.proofs.lemmas.Bool.{cases_lt}
use Rattle.ffi3_cdecl_spec.proofs.Prototypes.{alike_by, read_either}
use Rattle.ffi3_types.specs.SignatureFaultOf.{signature_fault_of}
use Rattle.ffi3_script_spec.specs.Language.{reason_of_fault}
use Rattle.ffi3_script_spec.specs.ReasonText.{text_of_reason}
use Rattle.ffi3_script.specs.Refusal.{IsScriptRefusal}
use Rattle.ffi3_script_spec.specs.Reading.{IsReading, too_long, not_json, bad_script, script, max_length}
use Rattle.ffi3_script_spec.specs.Script.{Script}
use Rattle.ffi3_script_spec.specs.Natives.{NamedNative}
use Rattle.ffi3_script_spec.specs.Meaning.{program_of}
use Rattle.ffi3_script_spec.specs.Made.{made}
use Rattle.ffi3_riscv_spec.specs.Riscv.{riscv}
use Rattle.ffi3_app_spec.specs.BenchText.{HasWholeJournal, bench_text}
use Rattle.ffi3_machine_spec.specs.State.{State}
use Rattle.ffi3_image_spec.specs.declared.Question.{Question}
use Rattle.ffi3_image_spec.specs.Answer.{IsTheAnswer}
use Rattle.ffi3_image.specs.declared.answers.Answer.{Answer as CodeAnswer}
use Rattle.ffi3_image.specs.declared.answers.Answer.TheVariants.{Text, Refusal}
use Rattle.ffi3_image.specs.AnswerOf.{answer_of}
use Rattle.ffi3_cli_spec.specs.declared.words.InputCommand.{InputCommand}
use Rattle.ffi3_app.specs.declared.unfinished.Unfinished.{Unfinished}
use Rattle.ffi3_app.specs.declared.unfinished.Unfinished.TheVariants.{Refused, NoMemory, WriteFault}
use Rattle.ffi3_place_spec.specs.Standard.{Standard}
use Rattle.ffi3_explain_spec.specs.Standards.{standard_of}
use Rattle.ffi3_app_spec.specs.Declarations.{Input, a_text, IsInput, IsPrototypeEverywhere, IsReadWidely, IsWritable, offset_line, reason_line, marked_line, unexpected_line, fault_words, fault_line, sign_line}
use Rattle.ffi3_diagnostics_spec.specs.Positions.{placed_words}
use Rattle.ffi3_app_spec.specs.Outcome.{Outcome, refuses, tells, benches, IsOfScript, IsOfDeclaration, HasNames, IsOfPrototype, IsOfImage, outcome_of_input, outcome_of_prototype, outcome_of_answer, IsOutcomeOn}
use Rattle.ffi3_app.proofs.Called.{some_names}
use Rattle.ffi3_app.proofs.Outcomes.{one_prototype_input}
use Rattle.ffi3_app.specs.declared.work.ScriptTask.{ScriptTask}
use Rattle.ffi3_app.specs.Work.{Works, script_outcome, IsToldAs, IsFaultToldAs, IsPlaceToldAs, IsNoScript, IsNoInput, IsNoDeclaration, IsNoPrototype, IsNoText, IsSignUnsaid, RefusesWith, work_of_writing}

-- what holds of a value holds of one that is the same
pub of_same : {X : Type 0} (P : X → Type 0) {x y : X} → x ≡ y → P y → P x
of_same P same is = subst P (sym same) is

-- outcomes of one kind are outcomes of another
pub works_for : (P Q : Outcome → Type 0) (output output' : SinkState) (machine machine' : State) (r : Result ℕ Unfinished) → ((o : Outcome) → P o → Q o) → Works P output output' machine machine' r → Works Q output output' machine machine' r
works_for P Q output output' machine machine' (Ok status) weaker (o, is, did) =
    (o, weaker o is, did)
works_for P Q output output' machine machine' (Err (Refused line)) weaker (is, same_output, same_machine) =
    (weaker (refuses line) is, same_output, same_machine)
works_for P Q output output' machine machine' (Err WriteFault) weaker ((o, is, did), rose) =
    ((o, weaker o is, did), rose)
works_for P Q output output' machine machine' (Err NoMemory) weaker (inl same, count) =
    (inl same, count)
works_for P Q output output' machine machine' (Err NoMemory) weaker (inr (o, is, did), count) =
    (inr (o, weaker o is, did), count)

-- a text was written
pub text_works : (P : Outcome → Type 0) (text : List ℕ) (output output' : SinkState) (machine : State) (w : Result Unit IoError) (r : Result ℕ Unfinished) → P (tells text) → Wrote text output output' w → r ≡ work_of_writing w → Works P output output' machine machine r
text_works P text output output' machine (Ok u) r is wrote same =
    let Q = λ (x : Result ℕ Unfinished). Works P output output' machine machine x in
    subst Q (sym same) (tells text, is, (wrote, refl, refl))
text_works P text output output' machine (Err end.NoMemory) r is cut same =
    let Q = λ (x : Result ℕ Unfinished). Works P output output' machine machine x in
    subst Q (sym same) (inr (tells text, is, ((cut.part, cut.written), refl)), cut.cause)
text_works P text output output' machine (Err end.Failed) r is cut same =
    let Q = λ (x : Result ℕ Unfinished). Works P output output' machine machine x in
    subst Q (sym same) ((tells text, is, ((cut.part, cut.written), refl)), cut.cause.0)

-- the bench was written
pub bench_works : (seed calls : ℕ) (output output' : SinkState) (machine machine' : State) (w : Result Unit IoError) (r : Result ℕ Unfinished) → Wrote (bench_text seed calls) output output' w → OnOk w (HasWholeJournal riscv (program_of riscv (made seed calls)) machine') → r ≡ work_of_writing w → Works (λ o. o ≡ benches seed calls) output output' machine machine' r
bench_works seed calls output output' machine machine' (Ok u) r wrote journal same =
    let Q = λ (x : Result ℕ Unfinished). Works (λ o. o ≡ benches seed calls) output output' machine machine' x in
    subst Q (sym same) (benches seed calls, refl, ((wrote, journal), refl))
bench_works seed calls output output' machine machine' (Err end.NoMemory) r cut journal same =
    let Q = λ (x : Result ℕ Unfinished). Works (λ o. o ≡ benches seed calls) output output' machine machine' x in
    subst Q (sym same) (inr (benches seed calls, refl, (cut.part, cut.written)), cut.cause)
bench_works seed calls output output' machine machine' (Err end.Failed) r cut journal same =
    let Q = λ (x : Result ℕ Unfinished). Works (λ o. o ≡ benches seed calls) output output' machine machine' x in
    subst Q (sym same) ((benches seed calls, refl, (cut.part, cut.written)), cut.cause.0)

-- ---- scripts

-- what the fault of a script refuses is no script
pub refused_no_script : (names : List (List ℕ)) (bytes : List ℕ) (f : ScriptFault) (e : Unfinished) → IsScriptRefusal names bytes f → IsToldAs f e → IsNoScript names bytes e
refused_no_script names bytes fault.TooLong (Refused line) is told = λ outcome. (too_long, is.0, ap (λ (l : List ℕ). refuses l) told)
refused_no_script names bytes fault.BadJson (Refused line) is told = λ outcome. (not_json, is.0, ap (λ (l : List ℕ). refuses l) told)
refused_no_script names bytes (fault.BadScript path why) (Refused line) is told = λ outcome. (bad_script path (reason_of why), is.0, ap (λ (l : List ℕ). refuses l) told)
refused_no_script names bytes _ NoMemory is told = tt
refused_no_script names bytes fault.NoMemory _ is told = cc
refused_no_script names bytes _ WriteFault is told = absurd told

-- there is no script to work on
pub no_script_works : (names : List (List ℕ)) (outcome : Script → Outcome) (bytes : List ℕ) (output : SinkState) (machine : State) (e : Unfinished) → IsNoScript names bytes e → Works (IsOfScript names outcome bytes) output output machine machine (Err e)
no_script_works names outcome bytes output machine (Refused line) is = (is outcome, refl, refl)
no_script_works names outcome bytes output machine NoMemory is = (inl (refl, refl), refl)
no_script_works names outcome bytes output machine WriteFault is = absurd is

-- what is done with the script that the bytes are
pub script_works : (names : List (List ℕ)) (outcome : Script → Outcome) (bytes : List ℕ) (s : Script) → IsReading names bytes (script s) → (o : Outcome) → o ≡ outcome s → IsOfScript names outcome bytes o
script_works names outcome bytes s reading o is = (script s, reading, is)

-- ---- declarations

-- an input that is read so is no declaration, whatever is done with one
pub refused_input : (IsRead : List ℕ → Prototype → Type 0) (outcome_of : (Declaration → Outcome) → Input → Outcome) (bytes : List ℕ) (i : Input) (line : List ℕ) (e : Unfinished) → IsInput IsRead bytes i → ((outcome : Declaration → Outcome) → refuses line ≡ outcome_of outcome i) → RefusesWith line e → IsNoInput IsRead outcome_of bytes e
refused_input IsRead outcome_of bytes i line (Refused told) reads is same = λ outcome. (i, reads, ap (λ (l : List ℕ). refuses l) same ∙ is outcome)
refused_input IsRead outcome_of bytes i line NoMemory reads is same = tt
refused_input IsRead outcome_of bytes i line WriteFault reads is same = absurd same

-- what is told as a fault refuses its text, by a reading
module _ (IsRead : List ℕ → Prototype → Type 0) where
  pub refused_fault : (bytes : List ℕ) (f : DeclFault) (e : Unfinished) → length bytes ≤ max_length → IsUtf8 bytes → Tells (λ o. IsRead bytes (read_as o)) f → IsFaultToldAs f e → IsNoInput IsRead outcome_of_input bytes e
  refused_fault bytes (decl.BadToken at) e short utf8 tells_it told =
      refused_input IsRead outcome_of_input bytes (a_text (read_as (declaration.bad_token at))) (offset_line at (codes "bad token")) e (short, utf8, tells_it) (λ outcome. refl) told
  refused_fault bytes (decl.Unexpected at) e short utf8 tells_it told =
      refused_input IsRead outcome_of_input bytes (a_text (read_as (declaration.unexpected at))) (offset_line at (codes "unexpected")) e (short, utf8, tells_it) (λ outcome. refl) told
  refused_fault bytes (decl.BadNumber at) e short utf8 tells_it told =
      refused_input IsRead outcome_of_input bytes (a_text (read_as (declaration.bad_number at))) (offset_line at (codes "bad number")) e (short, utf8, tells_it) (λ outcome. refl) told
  refused_fault bytes (decl.Sig f) e short utf8 tells_it told =
      refused_input IsRead outcome_of_input bytes (a_text (read_as (declaration.bad_signature (signature_fault_of f)))) (reason_line (text_of_reason (reason_of_fault (signature_fault_of f)))) e (short, utf8, tells_it) (λ outcome. refl) told
  refused_fault bytes decl.NoMemory e short utf8 tells_it told =
      let P = λ (x : Unfinished). IsNoInput IsRead outcome_of_input bytes x in subst P (sym told) tt

-- ---- prototypes

-- a text that is read so is none, whatever is done with one
refused_text : (text : List ℕ) (p : Prototype) (line : List ℕ) (e : Unfinished) → IsPrototypeEverywhere text p → ((outcome : Declaration → Outcome) → refuses line ≡ outcome_of_prototype text outcome (a_text p)) → RefusesWith line e → IsNoText text e
refused_text text p line (Refused told) reads is same = (p, reads, λ outcome. ap (λ (l : List ℕ). refuses l) same ∙ is outcome)
refused_text text p line NoMemory reads is same = tt
refused_text text p line WriteFault reads is same = absurd same

told_text : (text : List ℕ) (f : DeclFault) (e : Unfinished) → Tells (λ o. IsPrototypeEverywhere text (read_as o)) f → IsPlaceToldAs text f e → IsNoText text e
told_text text (decl.BadToken at) e tells_it told =
    refused_text text (read_as (declaration.bad_token at)) (marked_line text at (codes "bad token")) e tells_it (λ outcome. refl) told
told_text text (decl.Unexpected at) e tells_it told =
    refused_text text (read_as (declaration.unexpected at)) (unexpected_line text at) e tells_it (λ outcome. refl) told
told_text text (decl.BadNumber at) e tells_it told =
    refused_text text (read_as (declaration.bad_number at)) (marked_line text at (codes "bad number")) e tells_it (λ outcome. refl) told
told_text text (decl.Sig f) e tells_it told =
    refused_text text (read_as (declaration.bad_signature (signature_fault_of f))) (fault_line (signature_fault_of f)) e tells_it (λ outcome. refl) told
told_text text decl.NoMemory e tells_it told =
    let P = λ (x : Unfinished). IsNoText text x in subst P (sym told) tt

signed_fault : (text : List ℕ) (f : DeclFault) → Tells (IsReadingEverywhere signed text) f → Tells (λ o. IsPrototypeEverywhere text (read_as o)) f
signed_fault text decl.NoMemory is = tt
signed_fault text _ is = has_fault is (λ d e. cc)

unsigned_fault : (text : List ℕ) (d : Declaration) (f : DeclFault) → IsReadingEverywhere signed text (declaration.reads d) → Tells (IsReadingEverywhere unsigned text) f → Tells (λ o. IsPrototypeEverywhere text (read_as o)) f
unsigned_fault text d decl.NoMemory reads is = tt
unsigned_fault text d _ reads is = has_fault_unsigned reads is (λ d e. cc)

-- the fault of the reading where `char` is signed, or of the other
pub refused_signed : (text : List ℕ) (f : DeclFault) (e : Unfinished) → Tells (IsReadingEverywhere signed text) f → IsPlaceToldAs text f e → IsNoText text e
refused_signed text f e is told = told_text text f e (signed_fault text f is) told

pub refused_unsigned : (text : List ℕ) (d : Declaration) (f : DeclFault) (e : Unfinished) → IsReadingEverywhere signed text (declaration.reads d) → Tells (IsReadingEverywhere unsigned text) f → IsPlaceToldAs text f e → IsNoText text e
refused_unsigned text d f e reads is told =
    told_text text f e (unsigned_fault text d f reads is) told

-- both readings declare the same
pub reads_both : (text : List ℕ) (d e x : Declaration) → IsReadingEverywhere signed text (declaration.reads d) → IsReadingEverywhere unsigned text (declaration.reads e) → (x ≡ d) × (d ≡ e) → IsPrototypeEverywhere text (read_as (declaration.reads x))
reads_both text d e x p q (is, same) =
    let P = λ (y : Declaration). IsPrototypeEverywhere text (read_as (declaration.reads y)) in
    let Q = λ (y : Declaration). IsReadingEverywhere unsigned text (declaration.reads y) in
    subst P (sym is) (reads_alike (alike_by (λ c o. IsReadingEverywhere c text o) d p (subst Q (sym same) q)))

-- or not
pub reads_apart : (text : List ℕ) (d e : Declaration) (f : Unfinished) → IsReadingEverywhere signed text (declaration.reads d) → IsReadingEverywhere unsigned text (declaration.reads e) → IsSignUnsaid d e f → IsNoText text f
reads_apart text d e (Refused line) p q (other, is) =
    (sign_unsaid (first_other d.signature e.signature), reads_by_sign p q other, λ outcome. ap (λ (l : List ℕ). refuses l) is)
reads_apart text d e NoMemory p q apart = tt
reads_apart text d e WriteFault p q apart = absurd apart

pub sign_unsaid_by : (d e : Declaration) (position : Position) (f : Unfinished) → (d ≡ e → ⊥) → position ≡ first_other d.signature e.signature → RefusesWith (sign_line position) f → IsSignUnsaid d e f
sign_unsaid_by d e position (Refused told) other is same = (other, (same ∙ ap (λ (p : Position). sign_line p) is))
sign_unsaid_by d e position NoMemory other is same = tt
sign_unsaid_by d e position WriteFault other is same = absurd same

-- the text is the input's
pub no_prototype : (bytes lent : List ℕ) (e : Unfinished) → length bytes ≤ max_length → IsUtf8 bytes → lent ≡ bytes → IsNoText lent e → IsNoPrototype bytes e
no_prototype bytes lent (Refused line) short utf8 same (p, reads, is) =
    let P = λ (b : List ℕ). IsPrototypeEverywhere b p in
    λ outcome. (a_text p, (short, utf8, subst P same reads), is outcome ∙ ap (λ (b : List ℕ). outcome_of_prototype b outcome (a_text p)) same)
no_prototype bytes lent NoMemory short utf8 same is = tt
no_prototype bytes lent WriteFault short utf8 same is = absurd is

pub a_prototype : (bytes lent : List ℕ) (p : Prototype) → length bytes ≤ max_length → IsUtf8 bytes → lent ≡ bytes → IsPrototypeEverywhere lent p → IsReadWidely bytes (a_text p)
a_prototype bytes lent p short utf8 same is =
    let P = λ (b : List ℕ). IsPrototypeEverywhere b p in (short, utf8, subst P same is)

pub prototype_is_right : (text : List ℕ) (d : Declaration) → IsPrototypeEverywhere text (read_as (declaration.reads d)) → (format : Format) → SignatureIsPlaced (resolved_signature format d.signature)
prototype_is_right text d is =
    read_is_placed_everywhere signed text (declaration.reads d) (read_either (λ c o. IsReadingEverywhere c text o) d is signed) d refl

-- and so is of a variadic function one argument at least fixed, and no more than there are
length-resolved : (format : Format) (ts : List Tree) → length (map (resolved format) ts) ≡ length ts
length-resolved format [] = refl
length-resolved format (t ∷ ts) = ap suc (length-resolved format ts)

pub some_are_fixed : (s : Signature) → ((format : Format) → SignatureIsPlaced (resolved_signature format s)) → FixesSome s
some_are_fixed s right zero e =
    absurd (right Double (bad_fixed 0 (length (map (resolved Double) s.arguments))) (fixed_outside e (inl refl)))
some_are_fixed s right (suc n) e =
    (omega arith, by_cases (cases_lt (length (map (resolved Double) s.arguments)) (suc n)))
  where
    by_cases : (length (map (resolved Double) s.arguments) < suc n) ⊎ (suc n ≤ length (map (resolved Double) s.arguments)) → suc n ≤ length s.arguments
    by_cases (inl over) =
        absurd (right Double (bad_fixed (suc n) (length (map (resolved Double) s.arguments))) (fixed_outside e (inr over)))
    by_cases (inr within) =
        subst (λ k. suc n ≤ k) (length-resolved Double s.arguments) within

-- the fault of a signature, by its reason
pub reason_told : (f : DeclFault) (s : SigFault) (r : Reason) (e : Unfinished) → f ≡ decl.Sig s → reason_of r ≡ reason_of_fault (signature_fault_of s) → RefusesWith (reason_line (text_of_reason (reason_of r))) e → IsFaultToldAs f e
reason_told f s r e same is told =
    let P = λ (x : language.Reason). RefusesWith (reason_line (text_of_reason x)) e in
    of_same (λ (x : DeclFault). IsFaultToldAs x e) same (subst P is told)

-- the words of a fault, by its reason, behind the name of the value that has it
pub fault_named : (f : SignatureFault) (r : Reason) (said told : List ℕ) → reason_of r ≡ reason_of_fault f → said ≡ text_of_reason (reason_of r) → told ≡ placed_words f said → told ≡ fault_words f
fault_named f r said told same is placed =
    placed ∙ ap (placed_words f) (is ∙ ap (λ (x : language.Reason). text_of_reason x) same)

-- what is read can be written
pub read_is_writable : (bytes : List ℕ) (d : Declaration) → declaration.IsReading bytes (declaration.reads d) → IsWritable d
read_is_writable bytes d is = record {
  faultless = right_read bytes d is;
  all_fixed = all_fixed_read bytes d is;
  identifier = identifier_read bytes d is;
}

-- there is no declaration to work on
pub no_declaration_works : (outcome : Declaration → Outcome) (bytes : List ℕ) (output : SinkState) (machine : State) (e : Unfinished) → IsNoDeclaration bytes e → Works (IsOfDeclaration outcome bytes) output output machine machine (Err e)
no_declaration_works outcome bytes output machine (Refused line) is = (is outcome, refl, refl)
no_declaration_works outcome bytes output machine NoMemory is = (inl (refl, refl), refl)
no_declaration_works outcome bytes output machine WriteFault is = absurd is

-- nor a prototype
refused_prototype : (outcome : List (List ℕ) → Declaration → Outcome) (bytes line : List ℕ) → IsNoPrototype bytes (Refused line) → IsOfPrototype outcome bytes (refuses line)
refused_prototype outcome bytes line is =
    let first = is (outcome []) in
    let named = some_names bytes first.0 first.1 in
    let second = is (outcome named.0) in
    let P = λ (x : Input). HasNames bytes x named.0 in
    (second.0, second.1, named.0, subst P (one_prototype_input bytes first.0 second.0 first.1 second.1) named.1, second.2)

pub no_prototype_works : (outcome : List (List ℕ) → Declaration → Outcome) (bytes : List ℕ) (output : SinkState) (machine : State) (e : Unfinished) → IsNoPrototype bytes e → Works (IsOfPrototype outcome bytes) output output machine machine (Err e)
no_prototype_works outcome bytes output machine (Refused line) is =
    (refused_prototype outcome bytes line is, refl, refl)
no_prototype_works outcome bytes output machine NoMemory is = (inl (refl, refl), refl)
no_prototype_works outcome bytes output machine WriteFault is = absurd is

-- what was done for a command was done for the same command
pub works_as : (q r : InputCommand) (natives : List NamedNative) (bytes : List ℕ) (output output' : SinkState) (machine machine' : State) (result : Result ℕ Unfinished) → q ≡ r → Works (IsOutcomeOn r natives bytes) output output' machine machine' result → Works (IsOutcomeOn q natives bytes) output output' machine machine' result
works_as q r natives bytes output output' machine machine' result =
    of_same (λ (x : InputCommand). Works (IsOutcomeOn x natives bytes) output output' machine machine' result)

-- and with a script by the standard of the same target, and for the same task
module _ (natives : List NamedNative) (s : Script) (output output' : SinkState) (machine machine' : State) (r : Result ℕ Unfinished) where
  pub works_by : (task : ScriptTask) (t u : Target) → t ≡ u → Works (λ o. o ≡ script_outcome task natives (standard_of u) s) output output' machine machine' r → Works (λ o. o ≡ script_outcome task natives (standard_of t) s) output output' machine machine' r
  works_by task t u =
      of_same (λ (x : Target). Works (λ o. o ≡ script_outcome task natives (standard_of x) s) output output' machine machine' r)

  pub works_at : (std : Standard) (t u : ScriptTask) → t ≡ u → Works (λ o. o ≡ script_outcome u natives std s) output output' machine machine' r → Works (λ o. o ≡ script_outcome t natives std s) output output' machine machine' r
  works_at std t u =
      of_same (λ (x : ScriptTask). Works (λ o. o ≡ script_outcome x natives std s) output output' machine machine' r)

-- ---- descriptions of images

-- the text that answers was written, as it was lent
pub answer_works : (question : Question) (bytes : List ℕ) (a : CodeAnswer) (text lent : List ℕ) (output output' : SinkState) (machine : State) (w : Result Unit IoError) (r : Result ℕ Unfinished) → a ≡ Text text → IsTheAnswer question bytes (answer_of a) → lent ≡ text → Wrote lent output output' w → r ≡ work_of_writing w → Works (IsOfImage question bytes) output output' machine machine r
answer_works question bytes a text lent output output' machine w r is answers same wrote came =
    let P = λ (l : List ℕ). Wrote l output output' w in
    text_works (IsOfImage question bytes) text output output' machine w r (answer_of a, answers.0, sym (ap (λ (x : CodeAnswer). outcome_of_answer (answer_of x)) is)) (subst P same wrote) came

-- the answer is a refusal
pub answer_refused : (question : Question) (bytes : List ℕ) (a : CodeAnswer) (line : List ℕ) (output : SinkState) (machine : State) → a ≡ Refusal line → IsTheAnswer question bytes (answer_of a) → Works (IsOfImage question bytes) output output machine machine (Err (Refused line))
answer_refused question bytes a line output machine is answers =
    ((answer_of a, answers.0, sym (ap (λ (x : CodeAnswer). outcome_of_answer (answer_of x)) is)), refl, refl)
