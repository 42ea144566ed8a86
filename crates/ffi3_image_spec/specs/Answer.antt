-- What is answered to a question about an image: a text, or the line of a refusal.
use Rattle.std.specs.Prelude.{◌≡◌, ℕ, List}
use Rattle.ffi3_type_spec.specs.TargetIsa.{isa_of}
use Rattle.ffi3_type_spec.specs.Signature.{Signature}
use Rattle.ffi3_place_spec.specs.Image.{Image}
use Rattle.ffi3_place_spec.specs.Standard.{Standard}
use Rattle.ffi3_explain_spec.specs.Explain.{Explanation, explained, holds_values, is_broken_at}
use Rattle.ffi3_explain_spec.specs.Arguments.{Arguments, are_values, points_outside, held_by_standard}
use Rattle.ffi3_image_spec.specs.declared.Question.{Question}
use Rattle.ffi3_image_spec.specs.declared.Question.TheVariants.{Explained, ByStandard}
use Rattle.ffi3_explain_spec.specs.Standards.{standard_of}
use Rattle.ffi3_image_spec.specs.Input.{Input, too_long, not_json, faulty, described, IsReadAs}
use Rattle.ffi3_image_spec.specs.Lines.{explained_text, arguments_text, broken_line, outside_line, fault_line}
use Rattle.ffi3_image_spec.specs.Lines.{too_long_line, not_json_line}

pub data Answer : Type 0 where
  text : List ℕ → Answer
  refusal : List ℕ → Answer

abbrev pub answer_of_explanation : Standard → Signature → Image → Explanation → Answer
answer_of_explanation std s m (holds_values vs) = text (explained_text std s m vs)
answer_of_explanation std s m (is_broken_at c) = refusal (broken_line (isa_of std.target) c)

abbrev pub answer_of_arguments : Signature → Arguments → Answer
answer_of_arguments s (are_values vs) = text (arguments_text s vs)
answer_of_arguments s (points_outside o) = refusal (outside_line o)

-- what is answered about an image that has room for the question
abbrev pub answer_by : Question → Standard → Signature → Image → Answer
answer_by Explained std s m = answer_of_explanation std s m (explained std s m)
answer_by ByStandard std s m = answer_of_arguments s (held_by_standard std s m)

-- the answer to what an input is read as
abbrev pub answer_to : Question → Input → Answer
answer_to question too_long = refusal too_long_line
answer_to question not_json = refusal not_json_line
answer_to question (faulty path reason) = refusal (fault_line path reason)
answer_to question (described s) =
    answer_by question (standard_of s.target) s.signature s.image

-- the bytes of an input are answered so: by what they are read as
abbrev pub IsAnswer : Question → List ℕ → Answer → Type 0
IsAnswer question bytes a =
    (i : Input) × IsReadAs question bytes i × (a ≡ answer_to question i)

-- THE ANSWER to the bytes of an input: they are answered so, and in no other way
abbrev pub IsTheAnswer : Question → List ℕ → Answer → Type 0
IsTheAnswer question bytes a =
    IsAnswer question bytes a × ((other : Answer) → IsAnswer question bytes other → other ≡ a)
