-- From what is read of an input, and from the room of its image, to what is answered.
use Rattle.std.proofs.Common.{◌≡◌, ℕ, List, refl, sym, ap, ◌∙◌, subst}
use Rattle.std.specs.Prelude.{Result, IfOk, ⊤}
use Rattle.std.proofs.lemmas.Result.{IfOk-weaker}
use Rattle.serde_json.specs.Data.{Data}
use Rattle.ffi3_type_spec.specs.declared.Isa.{Isa}
use Rattle.ffi3_type_spec.specs.TargetIsa.{isa_of}
use Rattle.ffi3_type_spec.specs.Signature.{Signature}
use Rattle.ffi3_type_spec.specs.Value.{ValueTree}
use Rattle.ffi3_place_spec.specs.Image.{Image}
use Rattle.ffi3_place_spec.specs.Standard.{Standard}
use Rattle.ffi3_script_spec.specs.Reading.{IsJson}
use Rattle.ffi3_explain_spec.specs.declared.Check.{Check}
use Rattle.ffi3_explain_spec.specs.declared.Outside.{Outside}
use Rattle.ffi3_explain_spec.specs.Explain.{explained, holds_values, is_broken_at}
use Rattle.ffi3_explain_spec.specs.Arguments.{are_values, points_outside, held_by_standard}
use Rattle.ffi3_explain.specs.Told as unexplained
use Rattle.ffi3_explain.specs.Told.{TellsOutside}
use Rattle.ffi3_explain.specs.declared.Unexplained.{Unexplained}
use Rattle.ffi3_explain.specs.declared.Unexplained.TheVariants.{NotHeld}
use Rattle.ffi3_explain.specs.declared.reading.Unread.{Unread}
use Rattle.ffi3_explain.specs.declared.reading.Unread.TheVariants.{PointsOutside}
use Rattle.ffi3_image_spec.specs.declared.Question.{Question}
use Rattle.ffi3_image_spec.specs.declared.Question.TheVariants.{Explained, ByStandard}
use Rattle.ffi3_image_spec.specs.Object.{Read, Snapshot, read, fault, and_then, read_map, read_snapshot}
use Rattle.ffi3_image_spec.specs.Room.{check_room_for}
use Rattle.ffi3_explain_spec.specs.Standards.{standard_of}
use Rattle.ffi3_image_spec.specs.Input.{too_long, not_json, faulty, described, read_for, with_room}
use Rattle.ffi3_image_spec.specs.Lines.{explained_text, arguments_text, broken_line, outside_line}
use Rattle.ffi3_image_spec.specs.Answer.{Answer, text, refusal, answer_of_explanation, answer_of_arguments, answer_by, IsAnswer, IsTheAnswer}
use Rattle.ffi3_image_spec.proofs.Inputs.{the_answer}
use Rattle.ffi3_image.specs.declared.answers.Answer.{Answer as CodeAnswer}
use Rattle.ffi3_image.specs.declared.fault.ImageFault.{ImageFault}
use Rattle.ffi3_image.specs.declared.fault.ImageFault.TheVariants.{TooLong, BadJson, BadImage, NoMemory}
use Rattle.ffi3_image.specs.FaultOf.{reason_of}
use Rattle.ffi3_image.specs.SnapshotOf.{Describe}
use Rattle.ffi3_image.specs.Tells.{Tells, IsNoSnapshot}
use Rattle.ffi3_image.specs.AnswerOf.{IsToldAs, answer_about, answer_if_room, answer_of}

-- ---- of a snapshot

module _ (question : Question) (bytes : List ℕ) (d : Data) (s : Snapshot) (json : IsJson bytes d) (is : read_snapshot d ≡ read s) where
  reads : (r : Read ⊤) → check_room_for question (standard_of s.target) s.signature s.image ≡ r → read_for question d ≡ read_map (λ enough. s) r
  reads r e = ap (and_then (with_room question)) is ∙ ap (read_map (λ enough. s)) e

  by_room : (r : Read ⊤) → check_room_for question (standard_of s.target) s.signature s.image ≡ r → IsAnswer question bytes (answer_if_room question (standard_of s.target) s.signature s.image r)
  by_room (read enough) e = (described s, (d, json, reads (read enough) e), refl)
  by_room (fault path reason) e = (faulty path reason, (d, json, reads (fault path reason) e), refl)

pub snapshot_answered : (question : Question) (bytes : List ℕ) (s : Snapshot) (a : Answer) → Describe bytes s → a ≡ answer_about question (standard_of s.target) s.signature s.image → IsTheAnswer question bytes a
snapshot_answered question bytes s a (d, json, is) same =
    the_answer question bytes a (subst (IsAnswer question bytes) (sym same) (by_room question bytes d s json is _ refl))

-- ---- of a fault

refused : (question : Question) (bytes : List ℕ) (f : ImageFault) (a : Answer) → IsNoSnapshot bytes f → IsToldAs f a → IsAnswer question bytes a
refused question bytes TooLong a is told = (too_long, is, told)
refused question bytes BadJson a is told = (not_json, is, told)
refused question bytes (BadImage path why) a (d, json, is) told =
    (faulty path (reason_of why), (d, json, ap (and_then (with_room question)) is), told)
refused question bytes NoMemory a is told = absurd told

pub fault_answered : (question : Question) (bytes : List ℕ) (f : ImageFault) (a : Answer) → IsNoSnapshot bytes f → IsToldAs f a → IsTheAnswer question bytes a
fault_answered question bytes f a is told =
    the_answer question bytes a (refused question bytes f a is told)

-- ---- of room

-- there is none
pub no_room_answered : (question : Question) (std : Standard) (s : Signature) (m : Image) (f : ImageFault) (a : Answer) → Tells (λ p r. check_room_for question std s m ≡ fault p r) f → IsToldAs f a → a ≡ answer_about question std s m
no_room_answered question std s m TooLong a is told = absurd is
no_room_answered question std s m BadJson a is told = absurd is
no_room_answered question std s m (BadImage path why) a is told =
    told ∙ sym (ap (answer_if_room question std s m) is)
no_room_answered question std s m NoMemory a is told = absurd told

-- there is some
pub room_answered : (question : Question) (std : Standard) (s : Signature) (m : Image) (a b : Answer) → check_room_for question std s m ≡ read tt → a ≡ b → answer_if_room question std s m (read tt) ≡ b → a ≡ answer_about question std s m
room_answered question std s m a b room same is =
    same ∙ sym is ∙ sym (ap (answer_if_room question std s m) room)

-- ---- of what is given

-- of the same signature
pub answered_for : {E : Type 0} (answer : Signature → Answer) (s t : Signature) (r : Result CodeAnswer E) → s ≡ t → IfOk r (λ a. answer_of a ≡ answer s) → IfOk r (λ a. answer_of a ≡ answer t)
answered_for answer s t r is h =
    IfOk-weaker r (λ a. answer_of a ≡ answer s) (λ a. answer_of a ≡ answer t) (λ a e. e ∙ ap answer is) h

-- to the same question
pub answered_as : {E : Type 0} (answer : Question → Answer) (p q : Question) (r : Result CodeAnswer E) → p ≡ q → IfOk r (λ a. answer_of a ≡ answer q) → IfOk r (λ a. answer_of a ≡ answer p)
answered_as answer p q r is h =
    let P = λ (x : Question). IfOk r (λ a. answer_of a ≡ answer x) in
    subst P (sym is) h

-- ---- of an explanation, and of arguments

module _ (std : Standard) (s : Signature) (m : Image) where
  pub explained_so : (vs : List ValueTree) (lines : List ℕ) → explained std s m ≡ holds_values vs → lines ≡ explained_text std s m vs → text lines ≡ answer_by Explained std s m
  explained_so vs lines is same = ap text same ∙ sym (ap (answer_of_explanation std s m) is)

  pub broken_so : (f : Unexplained) (c : Check) (isa : Isa) (line : List ℕ) → f ≡ NotHeld c → unexplained.Tells (explained std s m) f → isa ≡ isa_of std.target → line ≡ broken_line isa c → refusal line ≡ answer_by Explained std s m
  broken_so f c isa line is told same_isa same =
      let broken : explained std s m ≡ is_broken_at c = subst (unexplained.Tells (explained std s m)) is told in
      ap refusal (same ∙ ap (λ i. broken_line i c) same_isa) ∙ sym (ap (answer_of_explanation std s m) broken)

  pub values_so : (vs : List ValueTree) (lines : List ℕ) → held_by_standard std s m ≡ are_values vs → lines ≡ arguments_text s vs → text lines ≡ answer_by ByStandard std s m
  values_so vs lines is same = ap text same ∙ sym (ap (answer_of_arguments s) is)

  pub outside_so : (f : Unread) (o : Outside) (line : List ℕ) → f ≡ PointsOutside o → TellsOutside (held_by_standard std s m) f → line ≡ outside_line o → refusal line ≡ answer_by ByStandard std s m
  outside_so f o line is told same =
      let outside : held_by_standard std s m ≡ points_outside o = subst (TellsOutside (held_by_standard std s m)) is told in
      ap refusal same ∙ sym (ap (answer_of_arguments s) outside)

-- ---- of the same fault

pub told_so : (f g : ImageFault) (a : Answer) → f ≡ g → IsToldAs g a → IsToldAs f a
told_so f g a is told =
    let P = λ (x : ImageFault). IsToldAs x a in subst P (sym is) told
