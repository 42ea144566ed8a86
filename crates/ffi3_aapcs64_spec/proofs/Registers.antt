-- The lists of registers: no register stands twice in one, and none is forbidden.
use Rattle.std.proofs.Common.{◌≡◌, ℕ, ◌+◌, ◌-◌, ◌*◌, ◌/◌, ◌%◌, ◌<◌, inl, inr, true, List, [], ◌∷◌, ◌++◌, subst, refl, arith, ⊎_elim}
use Rattle.std.proofs.lemmas.Bool.{cases_lt}
use Rattle.ffi3_type_spec.specs.declared.Isa.TheVariants.{Aarch64}
use Rattle.ffi3_place_spec.specs.declared.Loc.{Loc}
use Rattle.ffi3_place_spec.specs.MachineRegisters.{further_arguments}
use Rattle.ffi3_place_spec.specs.declared.Loc.TheVariants.{G, F, S}
use Rattle.ffi3_place_spec.specs.Sound.{IsNoneOf, IsOneOf, StandsIn, closed_to_arguments, closed_to_results}
use Rattle.ffi3_place_spec.proofs.Tests.{each_of_eight}
use Rattle.ffi3_place_spec.proofs.Chain.{Registers}
use Rattle.ffi3_place_spec.proofs.Forbidden.{is_none_of, none_of, is_one_of, one_of}
use Rattle.ffi3_aapcs64_spec.specs.Aapcs64.{aapcs64}

-- x0 and those that follow
abbrev pub numbered : ℕ → ℕ
numbered k = k

-- the halves of v0 and those that follow: the lower one of v0, its upper one, the lower one of v1, and so on
abbrev pub halves : ℕ → ℕ
halves u = u / 2 + 32 * (u % 2)

each_of_sixteen : (P : ℕ → Type 0) → ((k : ℕ) → k < 8 → P k) → ((k : ℕ) → k < 8 → P (8 + k)) → (k : ℕ) → k < 16 → P k
each_of_sixteen P low high k h =
    ⊎_elim (λ below. low k below) (λ above. let back : 8 + (k - 8) ≡ k = omega (arith, above) in subst P back (high (k - 8) (omega (arith, h, above)))) (cases_lt k 8)

pub all_registers : Registers numbered halves 8 16
all_registers = record {
  general_apart = λ j k h l e. absurd (omega (arith, e));
  floating_apart = λ j k h l e. absurd (omega (arith, e));
}

-- ---- arguments

pub argument_allowed : (k : ℕ) → k < 8 → IsNoneOf (closed_to_arguments aapcs64) (G (numbered k))
argument_allowed k h =
    none_of (closed_to_arguments aapcs64) (G k) (each_of_eight (λ j. is_none_of (closed_to_arguments aapcs64) (G j) ≡ true) refl refl refl refl refl refl refl refl k h)

pub vector_allowed : (k : ℕ) → k < 16 → IsNoneOf (closed_to_arguments aapcs64) (F (halves k))
vector_allowed k h =
    none_of (closed_to_arguments aapcs64) (F (halves k)) (each_of_sixteen (λ j. is_none_of (closed_to_arguments aapcs64) (F (halves j)) ≡ true) (each_of_eight (λ j. is_none_of (closed_to_arguments aapcs64) (F (halves j)) ≡ true) refl refl refl refl refl refl refl refl) (each_of_eight (λ j. is_none_of (closed_to_arguments aapcs64) (F (halves (8 + j))) ≡ true) refl refl refl refl refl refl refl refl) k h)

pub stack_allowed : (n w : ℕ) → IsNoneOf (closed_to_arguments aapcs64) (S n w)
stack_allowed n w = none_of (closed_to_arguments aapcs64) (S n w) refl

pub hidden_allowed : IsNoneOf (closed_to_arguments aapcs64) (G 8)
hidden_allowed = none_of (closed_to_arguments aapcs64) (G 8) refl

abbrev registers_and_halves : List Loc
registers_and_halves = aapcs64.argument_registers ++ further_arguments Aarch64

pub argument_passes : (k : ℕ) → k < 8 → IsOneOf (aapcs64.argument_registers ++ further_arguments Aarch64) (G (numbered k))
argument_passes k h =
    one_of registers_and_halves (G k) (each_of_eight (λ j. is_one_of registers_and_halves (G j) ≡ true) refl refl refl refl refl refl refl refl k h)

pub vector_passes : (k : ℕ) → k < 16 → IsOneOf (aapcs64.argument_registers ++ further_arguments Aarch64) (F (halves k))
vector_passes k h =
    one_of registers_and_halves (F (halves k)) (each_of_sixteen (λ j. is_one_of registers_and_halves (F (halves j)) ≡ true) (each_of_eight (λ j. is_one_of registers_and_halves (F (halves j)) ≡ true) refl refl refl refl refl refl refl refl) (each_of_eight (λ j. is_one_of registers_and_halves (F (halves (8 + j))) ≡ true) refl refl refl refl refl refl refl refl) k h)

pub hidden_passes : IsOneOf (aapcs64.argument_registers ++ further_arguments Aarch64) (G 8)
hidden_passes = one_of registers_and_halves (G 8) refl

-- the lower halves are registers of the machine, and the upper ones are further words
pub halves_stand : (k : ℕ) → k < 16 → StandsIn Aarch64 0 (F (halves k))
halves_stand =
    each_of_sixteen (λ k. StandsIn Aarch64 0 (F (halves k)))
    (each_of_eight (λ k. StandsIn Aarch64 0 (F (halves k))) (inl (omega arith)) (inr refl) (inl (omega arith)) (inr refl) (inl (omega arith)) (inr refl) (inl (omega arith)) (inr refl))
    (each_of_eight (λ k. StandsIn Aarch64 0 (F (halves (8 + k)))) (inl (omega arith)) (inr refl) (inl (omega arith)) (inr refl) (inl (omega arith)) (inr refl) (inl (omega arith)) (inr refl))

-- x8 holds no argument
pub argument_not_hidden : (k : ℕ) → k < 8 → IsNoneOf (G 8 ∷ []) (G (numbered k))
argument_not_hidden k h = ((λ e. omega (arith, e, h)), tt)

-- ---- results

pub result_allowed_general : (k : ℕ) → k < 8 → IsNoneOf (closed_to_results aapcs64) (G (numbered k))
result_allowed_general k h =
    none_of (closed_to_results aapcs64) (G k) (each_of_eight (λ j. is_none_of (closed_to_results aapcs64) (G j) ≡ true) refl refl refl refl refl refl refl refl k h)

pub result_allowed_vector : (k : ℕ) → k < 16 → IsNoneOf (closed_to_results aapcs64) (F (halves k))
result_allowed_vector k h =
    none_of (closed_to_results aapcs64) (F (halves k)) (each_of_sixteen (λ j. is_none_of (closed_to_results aapcs64) (F (halves j)) ≡ true) (each_of_eight (λ j. is_none_of (closed_to_results aapcs64) (F (halves j)) ≡ true) refl refl refl refl refl refl refl refl) (each_of_eight (λ j. is_none_of (closed_to_results aapcs64) (F (halves (8 + j))) ≡ true) refl refl refl refl refl refl refl refl) k h)

pub result_allowed_stack : (n w : ℕ) → IsNoneOf (closed_to_results aapcs64) (S n w)
result_allowed_stack n w = none_of (closed_to_results aapcs64) (S n w) refl
