-- The lists of registers: no register stands twice in one, and none is forbidden.
use Rattle.std.proofs.Common.{◌≡◌, ℕ, ◌<◌, true, List, [], ◌∷◌, refl, arith}
use Rattle.std.specs.List.{list_all}
use Rattle.ffi3_type_spec.specs.declared.Isa.TheVariants as isa
use Rattle.ffi3_place_spec.specs.declared.Loc.{Loc}
use Rattle.ffi3_place_spec.specs.declared.Loc.TheVariants.{G, F, S}
use Rattle.ffi3_place_spec.specs.MachineRegisters.{general_registers, floating_registers}
use Rattle.ffi3_place_spec.specs.Sound.{IsNoneOf, IsOneOf, closed_to_arguments, closed_to_results}
use Rattle.ffi3_place_spec.proofs.Tests.{each_of_eight}
use Rattle.ffi3_place_spec.proofs.Chain.{Registers}
use Rattle.ffi3_place_spec.proofs.Forbidden.{is_none_of, none_of, each_none_of, is_one_of, one_of}
use Rattle.ffi3_riscv_spec.specs.Riscv.{riscv, integer_register, floating_register}

pub all_registers : Registers integer_register floating_register 8 8
all_registers = record {
  general_apart = λ j k h l e. absurd (omega (arith, e));
  floating_apart = λ j k h l e. absurd (omega (arith, e));
}

pub argument_exists : (k : ℕ) → k < 8 → integer_register k < general_registers isa.Riscv
argument_exists k h = omega (arith, h)

pub floating_exists : (k : ℕ) → k < 8 → floating_register k < floating_registers isa.Riscv
floating_exists k h = omega (arith, h)

abbrev eight : (ℕ → Loc) → List Loc
eight register =
    register 0 ∷ register 1 ∷ register 2 ∷ register 3 ∷ register 4 ∷ register 5 ∷ register 6 ∷ register 7 ∷ []

-- eight registers of which a test says that none is one of the others
eight_allowed : (others : List Loc) (register : ℕ → Loc) → list_all (is_none_of others) (eight register) ≡ true → (k : ℕ) → k < 8 → IsNoneOf others (register k)
eight_allowed others register e =
    let h = each_none_of others (eight register) e in
    each_of_eight (λ j. IsNoneOf others (register j)) h.0 h.1.0 h.1.1.0 h.1.1.1.0 h.1.1.1.1.0 h.1.1.1.1.1.0 h.1.1.1.1.1.1.0 h.1.1.1.1.1.1.1.0

pub argument_allowed : (k : ℕ) → k < 8 → IsNoneOf (closed_to_arguments riscv) (G (integer_register k))
argument_allowed = eight_allowed (closed_to_arguments riscv) (λ k. G (integer_register k)) refl

pub floating_allowed : (k : ℕ) → k < 8 → IsNoneOf (closed_to_arguments riscv) (F (floating_register k))
floating_allowed = eight_allowed (closed_to_arguments riscv) (λ k. F (floating_register k)) refl

pub stack_allowed : (n w : ℕ) → IsNoneOf (closed_to_arguments riscv) (S n w)
stack_allowed n w = none_of (closed_to_arguments riscv) (S n w) refl

pub argument_passes : (k : ℕ) → k < 8 → IsOneOf riscv.argument_registers (G (integer_register k))
argument_passes k h =
    one_of riscv.argument_registers (G (integer_register k)) (each_of_eight (λ j. is_one_of riscv.argument_registers (G (integer_register j)) ≡ true) refl refl refl refl refl refl refl refl k h)

pub floating_passes : (k : ℕ) → k < 8 → IsOneOf riscv.argument_registers (F (floating_register k))
floating_passes k h =
    one_of riscv.argument_registers (F (floating_register k)) (each_of_eight (λ j. is_one_of riscv.argument_registers (F (floating_register j)) ≡ true) refl refl refl refl refl refl refl refl k h)

pub result_allowed_general : (k : ℕ) → k < 8 → IsNoneOf (closed_to_results riscv) (G (integer_register k))
result_allowed_general = eight_allowed (closed_to_results riscv) (λ k. G (integer_register k)) refl

pub result_allowed_floating : (k : ℕ) → k < 8 → IsNoneOf (closed_to_results riscv) (F (floating_register k))
result_allowed_floating = eight_allowed (closed_to_results riscv) (λ k. F (floating_register k)) refl

pub result_allowed_stack : (n w : ℕ) → IsNoneOf (closed_to_results riscv) (S n w)
result_allowed_stack n w = none_of (closed_to_results riscv) (S n w) refl
