-- The lists of registers: no register stands twice in one, and none is forbidden.
use Rattle.std.proofs.Common.{◌≡◌, ℕ, zero, suc, ◌<◌, true, [], ◌∷◌, get_or, sym, ◌∙◌, ap, refl, arith}
use Rattle.ffi3_type_spec.specs.TargetIsa.{isa_of}
use Rattle.ffi3_place_spec.specs.declared.Loc.TheVariants.{G, F, S}
use Rattle.ffi3_place_spec.specs.MachineRegisters.{general_registers}
use Rattle.ffi3_place_spec.specs.Sound.{IsNoneOf, IsOneOf, closed_to_arguments}
use Rattle.ffi3_place_spec.proofs.Chain.{Registers}
use Rattle.ffi3_place_spec.proofs.Forbidden.{is_none_of, none_of, is_one_of, one_of}
use Rattle.ffi3_win64_spec.specs.Win64.{win64, general_argument}

-- xmm0 and those that follow
abbrev pub numbered : ℕ → ℕ
numbered k = k

-- what holds at the first numbers
each_of_four : (P : ℕ → Type 0) → P 0 → P 1 → P 2 → P 3 → (k : ℕ) → k < 4 → P k
each_of_four P a b c d zero h = a
each_of_four P a b c d (suc zero) h = b
each_of_four P a b c d (suc (suc zero)) h = c
each_of_four P a b c d (suc (suc (suc zero))) h = d
each_of_four P a b c d (suc (suc (suc (suc k)))) h = absurd (omega arith)

abbrev number_of : ℕ → ℕ
number_of r = get_or (9 ∷ 0 ∷ 1 ∷ 9 ∷ 9 ∷ 9 ∷ 9 ∷ 9 ∷ 2 ∷ 3 ∷ []) r 9

argument_number : (k : ℕ) → k < 4 → number_of (general_argument k) ≡ k
argument_number = each_of_four (λ k. number_of (general_argument k) ≡ k) refl refl refl refl

pub registers : Registers general_argument numbered 4 4
registers = record {
  general_apart = λ j k h l e. absurd (apart j k h l e);
  floating_apart = λ j k h l e. absurd (omega (arith, e));
}
  where
    apart : (j k : ℕ) → j < k → k < 4 → general_argument j ≡ general_argument k → ⊥
    apart j k h l e =
        let same : j ≡ k = sym (argument_number j (omega arith)) ∙ ap number_of e ∙ argument_number k l in
        omega (arith, same)

pub argument_exists : (k : ℕ) → k < 4 → general_argument k < general_registers (isa_of win64.target)
argument_exists = each_of_four (λ k. general_argument k < 16) (omega arith) (omega arith) (omega arith) (omega arith)

pub argument_allowed : (k : ℕ) → k < 4 → IsNoneOf (closed_to_arguments win64) (G (general_argument k))
argument_allowed k h =
    none_of (closed_to_arguments win64) (G (general_argument k)) (each_of_four (λ j. is_none_of (closed_to_arguments win64) (G (general_argument j)) ≡ true) refl refl refl refl k h)

pub vector_allowed : (k : ℕ) → k < 4 → IsNoneOf (closed_to_arguments win64) (F (numbered k))
vector_allowed k h =
    none_of (closed_to_arguments win64) (F k) (each_of_four (λ j. is_none_of (closed_to_arguments win64) (F j) ≡ true) refl refl refl refl k h)

pub stack_allowed : (n w : ℕ) → IsNoneOf (closed_to_arguments win64) (S n w)
stack_allowed n w = none_of (closed_to_arguments win64) (S n w) refl

pub argument_passes : (k : ℕ) → k < 4 → IsOneOf win64.argument_registers (G (general_argument k))
argument_passes k h =
    one_of win64.argument_registers (G (general_argument k)) (each_of_four (λ j. is_one_of win64.argument_registers (G (general_argument j)) ≡ true) refl refl refl refl k h)

pub vector_passes : (k : ℕ) → k < 4 → IsOneOf win64.argument_registers (F (numbered k))
vector_passes k h =
    one_of win64.argument_registers (F k) (each_of_four (λ j. is_one_of win64.argument_registers (F j) ≡ true) refl refl refl refl k h)
