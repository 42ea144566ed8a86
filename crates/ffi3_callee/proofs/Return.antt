-- A result survives the return of the saved registers.
use Rattle.std.specs.Prelude.{Option, Some, None}
use Rattle.std.proofs.Common.{◌≡◌, ℕ, ◌+◌, ◌-◌, List, take, drop, refl, ap, sym, ◌∙◌, subst, arith}
use Rattle.std.specs.List.{AllByRecursion}
use Rattle.std.proofs.lemmas.Bool.{cases_lt}
use Rattle.std.proofs.lemmas.List.{ext_get_or}
use Rattle.ffi3_type_spec.specs.declared.Target.{Target}
use Rattle.ffi3_type_spec.specs.Signature.{Signature}
use Rattle.ffi3_type_spec.specs.Value.{ValueTree}
use Rattle.ffi3_place_spec.specs.declared.Loc.{Loc}
use Rattle.ffi3_place_spec.specs.declared.Loc.TheVariants.{G}
use Rattle.ffi3_place_spec.specs.Image.{register}
use Rattle.ffi3_place_spec.specs.Standard.{Standard, frame_of, plan_of}
use Rattle.ffi3_place_spec.specs.Holds.{HoldsResult}
use Rattle.ffi3_place_spec.specs.Sound.{IsNoneOf, result_locs}
use Rattle.ffi3_place_spec.specs.MachineRegisters.{to_list}
use Rattle.ffi3_type_spec.specs.declared.limits.TheConstants.{STACK, STACK_TOP}
use Rattle.ffi3_machine_spec.specs.State.{State, with_sp}
use Rattle.ffi3_machine_transfer.specs.Stored.{IsPlace, word_in, WroteWithin}
use Rattle.ffi3_place_spec.specs.declared.SaveWord.{SaveWord}
use Rattle.ffi3_place_spec.proofs.OnMachine.{IsSoundOnMachine}
use Rattle.ffi3_machine_transfer.proofs.Composing.{by_register, sp_moved, wrote_then}
use Rattle.ffi3_machine_transfer.proofs.Outcomes as outcome
use Rattle.ffi3_callee.specs.Loaded.{image_from}
use Rattle.ffi3_callee.specs.Given.{IsSettable, RegistersStay}
use Rattle.ffi3_callee.specs.Saved.{AreGivenBack}

pub any_sp : (base sp : ℕ) (m : State) (l : Loc) → word_in base (with_sp sp m) l ≡ word_in base m l
any_sp base sp m (G r) = refl
any_sp base sp m _ = refl

pub back_any_sp : (from sp : ℕ) (words : List SaveWord) (value : Loc → ℕ) (a b c : State) → c ≡ with_sp sp b → AreGivenBack from words value a b → AreGivenBack from words value a c
back_any_sp from sp words value a b c is back =
    subst (AreGivenBack from words value a) (sym is) (λ hold i at below at_is. any_sp STACK_TOP sp b at ∙ back hold i at below at_is)

pub registers_any_sp : (sp : ℕ) (ls : List Loc) (a b c : State) → c ≡ with_sp sp b → RegistersStay ls a b → RegistersStay ls a c
registers_any_sp sp ls a b c is stay =
    subst (RegistersStay ls a) (sym is) (λ l lies none. any_sp STACK_TOP sp b l ∙ stay l lies none)

pub within_any_sp : (low high sp : ℕ) (a b c : State) → c ≡ with_sp sp b → WroteWithin low high a b → WroteWithin low high a c
within_any_sp low high sp a b c is w =
    subst (WroteWithin low high a) (sym is) (wrote_then low high a b (with_sp sp b) w (sp_moved sp low high b))

pub same_stack : (a b : State) → WroteWithin STACK_TOP STACK_TOP a b → b.stack ≡ a.stack
same_stack a b w = ext_get_or 0 b.stack a.stack w.size (λ i h. w.outside i (cases_lt (STACK + i) STACK_TOP))

-- a register that is told a hidden result's address is a register
told_lies : (target : Target) (o : Option Loc) → IsSettable target o → AllByRecursion (IsPlace 0) (to_list o)
told_lies target (Some at) set = (set.0, tt)
told_lies target None set = tt

pub register_stays : (base frame : ℕ) (a b : State) (l : Loc) → IsPlace 0 l → word_in STACK_TOP b l ≡ word_in STACK_TOP a l → register (image_from base frame b) l ≡ register (image_from base frame a) l
register_stays base frame a b l lies =
    by_register (λ l. word_in STACK_TOP b l ≡ word_in STACK_TOP a l → register (image_from base frame b) l ≡ register (image_from base frame a) l) (λ r below h. h) (λ r below h. h) l lies

pub result_kept : (base : ℕ) (ls : List Loc) (a b : State) → RegistersStay ls a b → WroteWithin STACK_TOP STACK_TOP a b → (std : Standard) (s : Signature) (target : Target) (v : ValueTree) → IsSoundOnMachine std s → AllByRecursion (IsNoneOf ls) (result_locs (plan_of std s).res) → IsSettable target std.returned_address → AllByRecursion (IsNoneOf ls) (to_list std.returned_address) → HoldsResult std s v (image_from base (frame_of std s) a) → HoldsResult std s v (image_from base (frame_of std s) b)
result_kept base ls a b stay quiet std s target v sound none set clear h =
    outcome.result_kept (image_from base (frame_of std s) a) (image_from base (frame_of std s) b) (IsNoneOf ls) refl (ap (λ xs. take (frame_of std s) (drop (base - STACK) xs)) (same_stack a b quiet)) (λ l lies clear. register_stays base (frame_of std s) a b l lies (stay l lies clear)) std s v sound none (told_lies target std.returned_address set) clear h
