-- The lists of registers: no register stands twice in one, and none is forbidden.
use Rattle.std.proofs.Common.{◌≡◌, ℕ, zero, suc, ◌<◌, true, [], ◌∷◌, get_or, sym, ◌∙◌, ap, refl, arith}
use Rattle.ffi3_type_spec.specs.declared.Isa.TheVariants.{Amd64}
use Rattle.ffi3_place_spec.specs.declared.Loc.TheVariants.{G, F, S}
use Rattle.ffi3_place_spec.specs.MachineRegisters.{general_registers}
use Rattle.ffi3_place_spec.specs.Sound.{IsNoneOf, IsOneOf, closed_to_arguments, closed_to_results}
use Rattle.ffi3_place_spec.proofs.Chain.{Registers}
use Rattle.ffi3_place_spec.proofs.Forbidden.{is_none_of, none_of, is_one_of, one_of}
use Rattle.ffi3_place_spec.proofs.Tests.{each_of_two, each_of_eight}
use Rattle.ffi3_amd64_spec.specs.Amd64.{amd64, general_argument, result_register, vector_register}

-- what holds at the first numbers
each_of_six : (P : ℕ → Type 0) → P 0 → P 1 → P 2 → P 3 → P 4 → P 5 → (k : ℕ) → k < 6 → P k
each_of_six P a b c d e f zero h = a
each_of_six P a b c d e f (suc zero) h = b
each_of_six P a b c d e f (suc (suc zero)) h = c
each_of_six P a b c d e f (suc (suc (suc zero))) h = d
each_of_six P a b c d e f (suc (suc (suc (suc zero)))) h = e
each_of_six P a b c d e f (suc (suc (suc (suc (suc zero))))) h = f
each_of_six P a b c d e f (suc (suc (suc (suc (suc (suc k)))))) h = absurd (omega arith)

-- ---- arguments

abbrev number_of : ℕ → ℕ
number_of r = get_or (9 ∷ 3 ∷ 2 ∷ 9 ∷ 9 ∷ 9 ∷ 1 ∷ 0 ∷ 4 ∷ 5 ∷ []) r 9

argument_number : (k : ℕ) → k < 6 → number_of (general_argument k) ≡ k
argument_number = each_of_six (λ k. number_of (general_argument k) ≡ k) refl refl refl refl refl refl

pub argument_registers_apart : Registers general_argument vector_register 6 8
argument_registers_apart = record {
  general_apart = λ j k h l e. absurd (apart j k h l e);
  floating_apart = λ j k h l e. absurd (omega (arith, e));
}
  where
    apart : (j k : ℕ) → j < k → k < 6 → general_argument j ≡ general_argument k → ⊥
    apart j k h l e =
        let same : j ≡ k = sym (argument_number j (omega arith)) ∙ ap number_of e ∙ argument_number k l in
        omega (arith, same)

pub argument_exists : (k : ℕ) → k < 6 → general_argument k < general_registers Amd64
argument_exists = each_of_six (λ k. general_argument k < 16) (omega arith) (omega arith) (omega arith) (omega arith) (omega arith) (omega arith)

pub argument_allowed : (k : ℕ) → k < 6 → IsNoneOf (closed_to_arguments amd64) (G (general_argument k))
argument_allowed k h =
    none_of (closed_to_arguments amd64) (G (general_argument k)) (each_of_six (λ j. is_none_of (closed_to_arguments amd64) (G (general_argument j)) ≡ true) refl refl refl refl refl refl k h)

pub vector_allowed : (k : ℕ) → k < 8 → IsNoneOf (closed_to_arguments amd64) (F (vector_register k))
vector_allowed k h = none_of (closed_to_arguments amd64) (F (vector_register k)) refl

pub stack_allowed : (n w : ℕ) → IsNoneOf (closed_to_arguments amd64) (S n w)
stack_allowed n w = none_of (closed_to_arguments amd64) (S n w) refl

pub argument_passes : (k : ℕ) → k < 6 → IsOneOf amd64.argument_registers (G (general_argument k))
argument_passes k h =
    one_of amd64.argument_registers (G (general_argument k)) (each_of_six (λ j. is_one_of amd64.argument_registers (G (general_argument j)) ≡ true) refl refl refl refl refl refl k h)

pub vector_passes : (k : ℕ) → k < 8 → IsOneOf amd64.argument_registers (F (vector_register k))
vector_passes k h =
    one_of amd64.argument_registers (F k) (each_of_eight (λ j. is_one_of amd64.argument_registers (F j) ≡ true) refl refl refl refl refl refl refl refl k h)

-- ---- results

abbrev number_of_result : ℕ → ℕ
number_of_result r = get_or (0 ∷ 9 ∷ 1 ∷ []) r 9

result_number : (k : ℕ) → k < 2 → number_of_result (result_register k) ≡ k
result_number = each_of_two (λ k. number_of_result (result_register k) ≡ k) refl refl

pub result_registers_apart : Registers result_register vector_register 2 2
result_registers_apart = record {
  general_apart = λ j k h l e. absurd (apart j k h l e);
  floating_apart = λ j k h l e. absurd (omega (arith, e));
}
  where
    apart : (j k : ℕ) → j < k → k < 2 → result_register j ≡ result_register k → ⊥
    apart j k h l e =
        let same : j ≡ k = sym (result_number j (omega arith)) ∙ ap number_of_result e ∙ result_number k l in
        omega (arith, same)

pub result_exists : (k : ℕ) → k < 2 → result_register k < general_registers Amd64
result_exists = each_of_two (λ k. result_register k < 16) (omega arith) (omega arith)

pub result_allowed_general : (k : ℕ) → k < 2 → IsNoneOf (closed_to_results amd64) (G (result_register k))
result_allowed_general k h =
    none_of (closed_to_results amd64) (G (result_register k)) (each_of_two (λ j. is_none_of (closed_to_results amd64) (G (result_register j)) ≡ true) refl refl k h)

pub result_allowed_vector : (k : ℕ) → k < 2 → IsNoneOf (closed_to_results amd64) (F (vector_register k))
result_allowed_vector k h = none_of (closed_to_results amd64) (F (vector_register k)) refl

pub result_allowed_stack : (n w : ℕ) → IsNoneOf (closed_to_results amd64) (S n w)
result_allowed_stack n w = none_of (closed_to_results amd64) (S n w) refl
