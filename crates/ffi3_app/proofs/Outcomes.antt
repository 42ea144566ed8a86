-- The laws of what commands come to: of one input one outcome; that of the bytes that are read is that of all; and what is not refused is short.
use Rattle.std.proofs.Common.{◌≡◌, ℕ, ◌<◌, ◌≤◌, List, length, take, refl, sym, ap, subst, ◌∙◌, arith}
use Rattle.ffi3_script_spec.specs.Reading.{Reading, too_long, not_json, script}
use Rattle.ffi3_script_spec.specs.Script.{Script}
use Rattle.ffi3_script_spec.specs.Natives.{NamedNative, names_of, program_beside}
use Rattle.ffi3_script_spec.proofs.Readings.{one_reading}
use Rattle.ffi3_cdecl_spec.specs.Grammar.{Declaration}
use Rattle.ffi3_cdecl_spec.specs.Prototype.{Prototype, read_as, sign_unsaid}
use Rattle.ffi3_cdecl_spec.proofs.Readings.{one_reading as one_declaration_reading}
use Rattle.ffi3_cdecl_spec.proofs.Prototypes.{one_prototype_by}
use Rattle.ffi3_cdecl_spec.specs.ReadingFor.{IsReadingEverywhere, read_everywhere}
use Rattle.ffi3_cdecl.proofs.Judging.{is_reading_everywhere, one_reading_everywhere}
use Rattle.ffi3_image_spec.specs.declared.Question.{Question}
use Rattle.ffi3_image_spec.specs.declared.Question.TheVariants.{Explained, ByStandard}
use Rattle.ffi3_image_spec.specs.Input as image
use Rattle.ffi3_image_spec.specs.Answer.{Answer}
use Rattle.ffi3_image_spec.proofs.Inputs.{one_answer}
use Rattle.ffi3_explain_spec.specs.Standards.{standard_of}
use Rattle.ffi3_cli_spec.specs.declared.words.InputCommand.{InputCommand}
use Rattle.ffi3_cli_spec.specs.declared.words.InputCommand.TheVariants.{Layout, Place, Run, Cdecl, Cplace, Explain, Arguments}
use Rattle.ffi3_app_spec.specs.Commands.{layout_text, place_text}
use Rattle.ffi3_app_spec.specs.Declarations.{IsPrototypeEverywhere, Input, too_many_bytes, not_utf8, a_text, IsInput, IsReadPlainly, cdecl_text, cplace_text}
use Rattle.ffi3_app_spec.specs.Outcome.{Outcome, refuses, tells, runs, outcome_of, outcome_of_input, outcome_of_prototype, outcome_of_answer, IsOfScript, IsOfDeclaration, HasNames, IsOfPrototype, IsOfImage, IsOutcomeOn}
use Rattle.ffi3_app.proofs.Called.{names_once}
use Rattle.ffi3_app.proofs.Inputs.{all_taken, reading_of_all, input_of_all, answer_of_all}

-- what is not refused
abbrev pub IsAccepted : Outcome → Type 0
IsAccepted o = (line : List ℕ) → o ≡ refuses line → ⊥

-- of one input one outcome; that of the bytes that are read is that of all; and what is not refused is short
pub record Laws (IsOne : List ℕ → Outcome → Type 0) : Type 0 where
  pub one : (bytes : List ℕ) (o p : Outcome) → IsOne bytes o → IsOne bytes p → o ≡ p
  pub of_all : (all : List ℕ) (o : Outcome) → IsOne (take 1048577 all) o → IsOne all o
  pub short : (bytes : List ℕ) (o : Outcome) → IsOne bytes o → IsAccepted o → length bytes ≤ 1048576

-- ---- of a script

script_is_short : (names : List (List ℕ)) (outcome : Script → Outcome) (bytes : List ℕ) (o : Outcome) → IsOfScript names outcome bytes o → IsAccepted o → length bytes ≤ 1048576
script_is_short names outcome bytes o (script s, (d, json, read), is) accepted = json.short
script_is_short names outcome bytes o (_, reads, is) accepted = absurd (accepted _ is)

script_laws : (names : List (List ℕ)) (outcome : Script → Outcome) → Laws (IsOfScript names outcome)
script_laws names outcome = record {
  one = λ bytes o p x y. x.2 ∙ ap (λ (r : Reading). outcome_of outcome r) (one_reading names bytes x.0 y.0 x.1 y.1) ∙ sym y.2;
  of_all = λ all o x. (x.0, reading_of_all names all x.0 x.1, x.2);
  short = script_is_short names outcome;
}

-- ---- of a declaration or a prototype

both_lengths : (most n : ℕ) → most < n → n ≤ most → ⊥
both_lengths most n long short = omega (arith, long, short)

module _ (IsRead : List ℕ → Prototype → Type 0) (one : (text : List ℕ) (p q : Prototype) → IsRead text p → IsRead text q → p ≡ q) where
  one_input : (bytes : List ℕ) (i j : Input) → IsInput IsRead bytes i → IsInput IsRead bytes j → i ≡ j
  one_input bytes too_many_bytes too_many_bytes long long' = refl
  one_input bytes not_utf8 not_utf8 is is' = refl
  one_input bytes (a_text p) (a_text q) (short, utf8, is) (short', utf8', is') =
      ap (λ x. a_text x) (one bytes p q is is')
  one_input bytes not_utf8 (a_text p) (short, none) (short', utf8, is) = absurd (none utf8)
  one_input bytes (a_text p) not_utf8 (short, utf8, is) (short', none) = absurd (none utf8)
  one_input bytes too_many_bytes _ long is = absurd (both_lengths _ _ long is.0)
  one_input bytes _ too_many_bytes is long = absurd (both_lengths _ _ long is.0)

  -- whatever an input comes to
  one_of_input : (outcome_of : Input → Outcome) (bytes : List ℕ) (o p : Outcome) → (i : Input) × IsInput IsRead bytes i × (o ≡ outcome_of i) → (i : Input) × IsInput IsRead bytes i × (p ≡ outcome_of i) → o ≡ p
  one_of_input outcome_of bytes o p (i, reads, is) (j, reads', is') =
      is ∙ ap (λ (x : Input). outcome_of x) (one_input bytes i j reads reads') ∙ sym is'

one_plainly : (text : List ℕ) (p q : Prototype) → IsReadPlainly text p → IsReadPlainly text q → p ≡ q
one_plainly text (read_as o) (read_as p) is is' =
    ap (λ x. read_as x) (one_declaration_reading text o is ∙ sym (one_declaration_reading text p is'))
one_plainly text (read_as o) (sign_unsaid position) is is' = absurd is'
one_plainly text (sign_unsaid position) q is is' = absurd is

module _ (IsRead : List ℕ → Prototype → Type 0) (outcome_of : Input → Outcome) (refused : List ℕ) (long_is : outcome_of too_many_bytes ≡ refuses refused) where
  input_is_short : (bytes : List ℕ) (o : Outcome) → (i : Input) × IsInput IsRead bytes i × (o ≡ outcome_of i) → IsAccepted o → length bytes ≤ 1048576
  input_is_short bytes o (too_many_bytes, reads, is) accepted = absurd (accepted refused (is ∙ long_is))
  input_is_short bytes o (not_utf8, (short, none), is) accepted = short
  input_is_short bytes o (a_text p, (short, utf8, reads), is) accepted = short

declaration_laws : (outcome : Declaration → Outcome) → Laws (IsOfDeclaration outcome)
declaration_laws outcome = record {
  one = one_of_input IsReadPlainly one_plainly (outcome_of_input outcome);
  of_all = λ all o x. (x.0, input_of_all IsReadPlainly all x.0 x.1, x.2);
  short = input_is_short IsReadPlainly (outcome_of_input outcome) _ refl;
}

one_prototype_everywhere : (text : List ℕ) (p q : Prototype) → IsPrototypeEverywhere text p → IsPrototypeEverywhere text q → p ≡ q
one_prototype_everywhere text =
    one_prototype_by (λ c o. IsReadingEverywhere c text o) (λ c. read_everywhere c text) (λ c. is_reading_everywhere c text (read_everywhere c text) refl) (λ c o is. one_reading_everywhere c text o is)

pub one_prototype_input : (bytes : List ℕ) (i j : Input) → IsInput IsPrototypeEverywhere bytes i → IsInput IsPrototypeEverywhere bytes j → i ≡ j
one_prototype_input bytes i j reads reads' =
    one_input IsPrototypeEverywhere one_prototype_everywhere bytes i j reads reads'

module _ (outcome : List (List ℕ) → Declaration → Outcome) where
  one_of_prototype : (bytes : List ℕ) (o p : Outcome) → IsOfPrototype outcome bytes o → IsOfPrototype outcome bytes p → o ≡ p
  one_of_prototype bytes o p (i, reads, ns, has, is) (j, reads', ms, has', is') =
      let same : i ≡ j = one_prototype_input bytes i j reads reads' in
      let P = λ (x : Input). HasNames bytes x ms in
      let named : ns ≡ ms = names_once bytes i ns ms has (subst P (sym same) has') in
      is ∙ ap (λ (x : Input). outcome_of_prototype bytes (outcome ns) x) same ∙ ap (λ (ls : List (List ℕ)). outcome_of_prototype bytes (outcome ls) j) named ∙ sym is'

  prototype_of_all : (all : List ℕ) (o : Outcome) → IsOfPrototype outcome (take 1048577 all) o → IsOfPrototype outcome all o
  prototype_of_all all o (a_text p, (short, utf8, reads), ns, has, is) =
      let P = λ (bs : List ℕ). HasNames bs (a_text p) ns in
      (a_text p, input_of_all IsPrototypeEverywhere all (a_text p) (short, utf8, reads), ns, subst P (all_taken all short) has, is ∙ ap (λ (bs : List ℕ). outcome_of_prototype bs (outcome ns) (a_text p)) (all_taken all short))
  prototype_of_all all o (too_many_bytes, reads, ns, has, is) =
      (too_many_bytes, input_of_all IsPrototypeEverywhere all too_many_bytes reads, ns, has, is)
  prototype_of_all all o (not_utf8, reads, ns, has, is) =
      (not_utf8, input_of_all IsPrototypeEverywhere all not_utf8 reads, ns, has, is)

  prototype_laws : Laws (IsOfPrototype outcome)
  prototype_laws = record {
    one = one_of_prototype;
    of_all = prototype_of_all;
    short = λ bytes o x. input_is_short IsPrototypeEverywhere (outcome_of_prototype bytes (outcome x.2)) _ refl bytes o (x.0, x.1, x.4);
  }

-- ---- of an image

image_is_short : (question : Question) (bytes : List ℕ) (o : Outcome) → IsOfImage question bytes o → IsAccepted o → length bytes ≤ 1048576
image_is_short question bytes o (a, (image.too_long, reads, told), is) accepted =
    absurd (accepted _ (is ∙ ap (λ (x : Answer). outcome_of_answer x) told))
image_is_short question bytes o (a, (image.not_json, (short, none), told), is) accepted = short
image_is_short question bytes o (a, (image.faulty path reason, (d, json, read), told), is) accepted = json.short
image_is_short question bytes o (a, (image.described s, (d, json, read), told), is) accepted = json.short

image_laws : (question : Question) → Laws (IsOfImage question)
image_laws question = record {
  one = λ bytes o p x y. x.2 ∙ ap (λ (a : Answer). outcome_of_answer a) (one_answer question bytes x.0 y.0 x.1 y.1) ∙ sym y.2;
  of_all = λ all o x. (x.0, answer_of_all question all x.0 x.1, x.2);
  short = image_is_short question;
}

-- ---- of each command on the input

pub laws : (natives : List NamedNative) (command : InputCommand) → Laws (IsOutcomeOn command natives)
laws natives Layout = script_laws (names_of natives) (λ s. tells (layout_text s))
laws natives (Place t) =
    script_laws (names_of natives) (λ s. tells (place_text (standard_of t) s))
laws natives (Run t trace) =
    script_laws (names_of natives) (λ s. runs trace (standard_of t) (program_beside (standard_of t) natives s))
laws natives Cdecl = declaration_laws (λ d. tells (cdecl_text d))
laws natives Cplace = prototype_laws (λ names d. tells (cplace_text names d))
laws natives Explain = image_laws Explained
laws natives Arguments = image_laws ByStandard
