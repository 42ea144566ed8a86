-- What is read of an input: its first bytes, one more than a script may have.
use Rattle.std.proofs.Common.{◌≡◌, ℕ, ◌+◌, ◌≤◌, List, [], length, take, drop, subst, arith, length-take, lit≤}
use Rattle.std.proofs.Math.ListN.{drop_of_length-le}
use Rattle.std.proofs.Math.Nat.{le_trans}
use Rattle.std.proofs.lemmas.List.{take_all}
use Rattle.ffi3_script_spec.specs.Reading.{Reading, too_long, not_json, bad_script, script, IsReading}
use Rattle.ffi3_cdecl_spec.specs.Prototype.{Prototype}
use Rattle.ffi3_image_spec.specs.declared.Question.{Question}
use Rattle.ffi3_image_spec.specs.Input as image
use Rattle.ffi3_image_spec.specs.Answer.{Answer, IsAnswer}
use Rattle.ffi3_app_spec.specs.Declarations.{Input, too_many_bytes, not_utf8, a_text, IsInput}

-- what is short was all there was
taken_whole : (n : ℕ) (all : List ℕ) → length (take (n + 1) all) ≤ n → length all ≤ n
taken_whole n all short = omega (arith, length-take (n + 1) all)

short_whole : (all : List ℕ) → length (take 1048577 all) ≤ 1048576 → length all ≤ 1048577
short_whole all short =
    let step : 1048576 ≤ 1048577 = lit≤ tt in le_trans {n = length all} {m = 1048576} {k = 1048577} (taken_whole 1048576 all short) step

pub none_dropped : (all : List ℕ) → length (take 1048577 all) ≤ 1048576 → drop 1048577 all ≡ []
none_dropped all short = drop_of_length-le all {i = 1048577} (short_whole all short)

pub all_taken : (all : List ℕ) → length (take 1048577 all) ≤ 1048576 → take 1048577 all ≡ all
all_taken all short = take_all 1048577 all (short_whole all short)

-- what short bytes come to, all of them do
of_all : (P : List ℕ → Type 0) (all : List ℕ) → length (take 1048577 all) ≤ 1048576 → P (take 1048577 all) → P all
of_all P all short is = subst P (all_taken all short) is

-- the first bytes are read as all of them
pub reading_of_all : (names : List (List ℕ)) (all : List ℕ) (r : Reading) → IsReading names (take 1048577 all) r → IsReading names all r
reading_of_all names all too_long long = omega (arith, length-take 1048577 all)
reading_of_all names all not_json (short, rest) =
    of_all (λ b. IsReading names b not_json) all short (short, rest)
reading_of_all names all (bad_script path reason) (d, json, is) =
    of_all (λ b. IsReading names b (bad_script path reason)) all json.short (d, json, is)
reading_of_all names all (script s) (d, json, is) =
    of_all (λ b. IsReading names b (script s)) all json.short (d, json, is)

pub input_of_all : (IsRead : List ℕ → Prototype → Type 0) (all : List ℕ) (i : Input) → IsInput IsRead (take 1048577 all) i → IsInput IsRead all i
input_of_all IsRead all too_many_bytes long = omega (arith, length-take 1048577 all)
input_of_all IsRead all not_utf8 is = of_all (λ b. IsInput IsRead b not_utf8) all is.0 is
input_of_all IsRead all (a_text p) is = of_all (λ b. IsInput IsRead b (a_text p)) all is.0 is

module _ (question : Question) (all : List ℕ) where
  image_of_all : (i : image.Input) → image.IsReadAs question (take 1048577 all) i → image.IsReadAs question all i
  image_of_all image.too_long long = omega (arith, length-take 1048577 all)
  image_of_all image.not_json (short, rest) =
      of_all (λ b. image.IsReadAs question b image.not_json) all short (short, rest)
  image_of_all (image.faulty path reason) (d, json, is) =
      of_all (λ b. image.IsReadAs question b (image.faulty path reason)) all json.short (d, json, is)
  image_of_all (image.described s) (d, json, is) =
      of_all (λ b. image.IsReadAs question b (image.described s)) all json.short (d, json, is)

  pub answer_of_all : (a : Answer) → IsAnswer question (take 1048577 all) a → IsAnswer question all a
  answer_of_all a (i, reads, is) = (i, image_of_all i reads, is)
