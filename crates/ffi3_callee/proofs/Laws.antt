-- What the laws of a standard say of the words that a callee saves, and of the registers of a result.
use Rattle.std.specs.Prelude.{Option, Some, None}
use Rattle.std.proofs.Common.{◌≡◌, List, [], ◌∷◌, ◌++◌, refl, sym, ◌∙◌, subst, arith}
use Rattle.std.specs.List.{AllByRecursion, Any}
use Rattle.ffi3_type_spec.specs.declared.Target.{Target}
use Rattle.ffi3_type_spec.specs.declared.Isa.{Isa}
use Rattle.ffi3_type_spec.specs.declared.Isa.TheVariants.{Amd64}
use Rattle.ffi3_type_spec.specs.TargetIsa.{isa_of}
use Rattle.ffi3_type_spec.specs.Signature.{Signature}
use Rattle.ffi3_place_spec.specs.declared.Loc.{Loc}
use Rattle.ffi3_place_spec.specs.declared.SaveWord.{SaveWord}
use Rattle.ffi3_place_spec.specs.declared.SaveWord.TheVariants.{Register, Hidden, Spare}
use Rattle.ffi3_place_spec.specs.MachineRegisters.{TakesWrites, link_place, to_list}
use Rattle.ffi3_place_spec.specs.Standard.{Standard, plan_of}
use Rattle.ffi3_place_spec.specs.Agrees.{AgreesWithMachine, given_back, saved_registers, special}
use Rattle.ffi3_place_spec.specs.Sound.{Apart, IsNoneOf, IsOneOf, IsSound, LiesIn, closed_to_results, result_locs}
use Rattle.ffi3_place_spec.proofs.Tests.{each_weaker}
use Rattle.ffi3_machine_transfer.specs.Stored.{IsPlace, IsWritable}
use Rattle.ffi3_machine_transfer.proofs.Tables.{one_of_each}
pub use Rattle.ffi3_machine_transfer.proofs.Tables.{each_with as each_both}
use Rattle.ffi3_marshal.proofs.Lawful.{each_first, each_join, each_rest, machine_place}
use Rattle.ffi3_callee.specs.Given.{IsSettable}
use Rattle.ffi3_callee.specs.Saved.{IsRestorable, IsSaveable}

-- ---- lists

pub each_among : {X : Type 0} (P : X → Type 0) (ys xs : List X) → AllByRecursion (λ x. Any (λ y. y ≡ x) ys) xs → AllByRecursion P ys → AllByRecursion P xs
each_among P ys [] some all = tt
each_among P ys (x ∷ xs) some all =
    (one_of_each P x ys all some.0, each_among P ys xs some.1 all)

-- ---- the registers that are given back

-- a register to which the instruction set can write
abbrev IsWritableRegister : Isa → Loc → Type 0
IsWritableRegister isa l = IsPlace 0 l × TakesWrites isa l

link_is_register : (isa : Isa) → AllByRecursion (IsWritableRegister isa) (to_list (link_place isa))
link_is_register Amd64 = tt
link_is_register _ = ((omega arith, refl), tt)

given_back_are_registers : (std : Standard) → AgreesWithMachine std → AllByRecursion (IsWritableRegister (isa_of std.target)) (given_back std)
given_back_are_registers std agrees =
    each_join (IsWritableRegister (isa_of std.target)) std.callee_saved (to_list std.link_register) (each_both (LiesIn (isa_of std.target) 0) (IsNoneOf (special std)) (IsWritableRegister (isa_of std.target)) one std.callee_saved agrees.callee_saved_exist agrees.callee_saved_plain)
    (subst (λ o. AllByRecursion (IsWritableRegister (isa_of std.target)) (to_list o)) (sym agrees.link_register) (link_is_register (isa_of std.target)))
  where
    one : (l : Loc) → LiesIn (isa_of std.target) 0 l → IsNoneOf (special std) l → IsWritableRegister (isa_of std.target) l
    one l lies none = (
      machine_place (isa_of std.target) 0 l lies,
      agrees.written l (each_first (Apart l) std.reserved (to_list std.link_register ++ (std.trampoline_registers ++ (to_list std.vector_count ++ to_list std.returned_address))) none.1),
    )

words_from : (std : Standard) → AgreesWithMachine std → (ws : List SaveWord) → AllByRecursion (IsOneOf (given_back std)) (saved_registers ws) → AllByRecursion (IsRestorable std.target) ws
words_from std agrees [] h = tt
words_from std agrees (Register at ∷ ws) h = (
  one_of_each (IsWritableRegister (isa_of std.target)) at (given_back std) (given_back_are_registers std agrees) h.0,
  words_from std agrees ws h.1,
)
words_from std agrees (Hidden ∷ ws) h = (tt, words_from std agrees ws h)
words_from std agrees (Spare ∷ ws) h = (tt, words_from std agrees ws h)

pub words_restorable : (std : Standard) → AgreesWithMachine std → AllByRecursion (IsRestorable std.target) std.save_area
words_restorable std agrees = words_from std agrees std.save_area agrees.saves_no_other

word_saveable : (target : Target) (w : SaveWord) → IsRestorable target w → IsSaveable 0 w
word_saveable target (Register at) h = h.0
word_saveable target _ h = tt

pub words_saveable : (std : Standard) → AgreesWithMachine std → AllByRecursion (IsSaveable 0) std.save_area
words_saveable std agrees =
    each_weaker (IsRestorable std.target) (IsSaveable 0) (word_saveable std.target) std.save_area (words_restorable std agrees)

-- by the machine of the standard's target
pub words_restorable_at : (std : Standard) (target kind : Target) → AgreesWithMachine std → std.target ≡ kind → target ≡ kind → AllByRecursion (IsRestorable target) std.save_area
words_restorable_at std target kind agrees is same =
    subst (λ k. AllByRecursion (IsRestorable k) std.save_area) (is ∙ sym same) (words_restorable std agrees)

-- ---- a result's registers are none of these

pub none_saved : (std : Standard) → AgreesWithMachine std → (l : Loc) → IsNoneOf (given_back std) l → IsNoneOf (saved_registers std.save_area) l
none_saved std agrees l none =
    each_among (Apart l) (given_back std) (saved_registers std.save_area) agrees.saves_no_other none

pub result_apart : (std : Standard) (s : Signature) → AgreesWithMachine std → IsSound std s → AllByRecursion (IsNoneOf (saved_registers std.save_area)) (result_locs (plan_of std s).res)
result_apart std s agrees sound =
    each_weaker (IsNoneOf (closed_to_results std)) (IsNoneOf (saved_registers std.save_area)) one (result_locs (plan_of std s).res) sound.result_allowed
  where
    one : (l : Loc) → IsNoneOf (closed_to_results std) l → IsNoneOf (saved_registers std.save_area) l
    one l none =
        let rest = each_rest (Apart l) std.callee_saved (std.reserved ++ to_list std.link_register) none.1 in
        none_saved std agrees l (each_join (Apart l) std.callee_saved (to_list std.link_register) (each_first (Apart l) std.callee_saved (std.reserved ++ to_list std.link_register) none.1) (each_rest (Apart l) std.reserved (to_list std.link_register) rest))

pub returned_apart : (std : Standard) → AgreesWithMachine std → AllByRecursion (IsNoneOf (saved_registers std.save_area)) (to_list std.returned_address)
returned_apart std agrees =
    each_weaker (IsNoneOf (given_back std ++ std.reserved)) (IsNoneOf (saved_registers std.save_area)) (λ l none. none_saved std agrees l (each_first (Apart l) (given_back std) std.reserved none)) (to_list std.returned_address) agrees.returned_plain

-- ---- they are written

pub result_written : (std : Standard) (s : Signature) (target kind : Target) → AgreesWithMachine std → IsSound std s → std.target ≡ kind → target ≡ kind → AllByRecursion (IsWritable target) (result_locs (plan_of std s).res)
result_written std s target kind agrees sound is same =
    subst (λ k. AllByRecursion (IsWritable k) (result_locs (plan_of std s).res)) (is ∙ sym same) (each_weaker (IsNoneOf (closed_to_results std)) (IsWritable std.target) one (result_locs (plan_of std s).res) sound.result_allowed)
  where
    one : (l : Loc) → IsNoneOf (closed_to_results std) l → IsWritable std.target l
    one l none =
        let rest = each_rest (Apart l) std.callee_saved (std.reserved ++ to_list std.link_register) none.1 in
        agrees.written l (each_first (Apart l) std.reserved (to_list std.link_register) rest)

settable_from : (std : Standard) → AgreesWithMachine std → (o : Option Loc) → AllByRecursion (LiesIn (isa_of std.target) 0) (to_list o) → AllByRecursion (IsNoneOf (given_back std ++ std.reserved)) (to_list o) → IsSettable std.target o
settable_from std agrees (Some at) lies plain = (
  machine_place (isa_of std.target) 0 at lies.0,
  agrees.written at (each_rest (Apart at) (given_back std) std.reserved plain.0),
)
settable_from std agrees None lies plain = tt

pub returned_settable : (std : Standard) (target kind : Target) → AgreesWithMachine std → std.target ≡ kind → target ≡ kind → IsSettable target std.returned_address
returned_settable std target kind agrees is same =
    subst (λ k. IsSettable k std.returned_address) (is ∙ sym same) (settable_from std agrees std.returned_address agrees.returned_exists agrees.returned_plain)
