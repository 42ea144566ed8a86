-- The bytes of an input are read as one thing alone for a question, and so have one answer.
use Rattle.std.proofs.Common.{◌≡◌, ℕ, List, None, refl, sym, ap, ◌∙◌, arith}
use Rattle.serde_json.specs.Data.{Data}
use Rattle.serde_json.specs.Read as json
use Rattle.ffi3_script_spec.specs.Reading.{IsJson}
use Rattle.ffi3_script_spec.proofs.Readings.{some_same}
use Rattle.ffi3_image_spec.specs.declared.Question.{Question}
use Rattle.ffi3_image_spec.specs.Object.{Read, Snapshot, read, fault}
use Rattle.ffi3_image_spec.specs.Input.{Input, too_long, not_json, faulty, described, IsReadAs, read_for}
use Rattle.ffi3_image_spec.specs.Answer.{Answer, IsAnswer, IsTheAnswer, answer_to}

one_value : (bytes : List ℕ) (c d : Data) → IsJson bytes c → IsJson bytes d → c ≡ d
one_value bytes c d is_c is_d = some_same c d (sym is_c.value ∙ is_d.value)

has_value : {A : Type 0} (bytes : List ℕ) (d : Data) → IsJson bytes d → json.read bytes ≡ None → A
has_value bytes d is_d none = absurd (cc (is_d.value))

-- what an object is read as, or its first fault
abbrev pub input_of : Read Snapshot → Input
input_of (read s) = described s
input_of (fault path reason) = faulty path reason

module _ (question : Question) (bytes : List ℕ) where
  one_of_values : (c d : Data) → IsJson bytes c → IsJson bytes d → (r s : Read Snapshot) → read_for question c ≡ r → read_for question d ≡ s → input_of r ≡ input_of s
  one_of_values c d is_c is_d r s x y =
      ap input_of (sym x ∙ ap (read_for question) (one_value bytes c d is_c is_d) ∙ y)

  pub one_input : (i j : Input) → IsReadAs question bytes i → IsReadAs question bytes j → i ≡ j
  one_input too_long too_long x y = refl
  one_input too_long not_json x y = absurd (omega arith)
  one_input too_long (faulty p e) x y = let short = y.1.short in absurd (omega arith)
  one_input too_long (described s) x y = let short = y.1.short in absurd (omega arith)
  one_input not_json too_long x y = absurd (omega arith)
  one_input not_json not_json x y = refl
  one_input not_json (faulty p e) x y = has_value bytes y.0 y.1 (x.1 y.1.text)
  one_input not_json (described s) x y = has_value bytes y.0 y.1 (x.1 y.1.text)
  one_input (faulty p e) too_long x y = let short = x.1.short in absurd (omega arith)
  one_input (faulty p e) not_json x y = has_value bytes x.0 x.1 (y.1 x.1.text)
  one_input (faulty p e) (faulty q f) x y =
      one_of_values x.0 y.0 x.1 y.1 (fault p e) (fault q f) x.2 y.2
  one_input (faulty p e) (described s) x y =
      one_of_values x.0 y.0 x.1 y.1 (fault p e) (read s) x.2 y.2
  one_input (described r) too_long x y = let short = x.1.short in absurd (omega arith)
  one_input (described r) not_json x y = has_value bytes x.0 x.1 (y.1 x.1.text)
  one_input (described r) (faulty q f) x y =
      one_of_values x.0 y.0 x.1 y.1 (read r) (fault q f) x.2 y.2
  one_input (described r) (described s) x y =
      one_of_values x.0 y.0 x.1 y.1 (read r) (read s) x.2 y.2

  pub one_answer : (a b : Answer) → IsAnswer question bytes a → IsAnswer question bytes b → a ≡ b
  one_answer a b (i, reads, is) (j, reads', is') =
      is ∙ ap (λ (x : Input). answer_to question x) (one_input i j reads reads') ∙ sym is'

  pub the_answer : (a : Answer) → IsAnswer question bytes a → IsTheAnswer question bytes a
  the_answer a is = (is, λ other h. one_answer other a h is)
