-- Which registers stubs load, store and overwrite, beside those that a standard names.
use Rattle.std.proofs.Common.{◌≡◌, zero, suc, List, [], ◌∷◌, ◌++◌, map, refl, ap, ◌∙◌, subst, arith}
use Rattle.std.specs.List.{AllByRecursion, Any}
use Rattle.std.specs.Prelude.{⊤}
use Rattle.ffi3_type_spec.specs.declared.Isa.{Isa}
use Rattle.ffi3_type_spec.specs.declared.Isa.TheVariants.{Amd64, Aarch64, Riscv}
use Rattle.ffi3_type_spec.specs.TargetIsa.{isa_of}
use Rattle.ffi3_place_spec.specs.declared.SaveWord.TheVariants.{Register, Hidden}
use Rattle.ffi3_place_spec.specs.MachineRegisters.{link_place, to_list, reserved_places}
use Rattle.ffi3_place_spec.specs.StubRegisters.{call_loads, call_scratch, entry_scratch, exit_scratch, callee_saved_words, result_loads, spare_words}
use Rattle.ffi3_place_spec.specs.Standard.{Standard}
use Rattle.ffi3_place_spec.specs.Agrees.{AgreesWithMachine, given_back, saved_registers}
use Rattle.ffi3_place_spec.specs.ByStubs.{AgreesWithStubs, stub_scratch}
use Rattle.ffi3_place_spec.specs.Sound.{Apart, IsNoneOf, IsOneOf}
use Rattle.ffi3_place_spec.proofs.Forbidden.{each_none_of}
use Rattle.ffi3_machine_transfer.specs.Stored.{IsPlace}
use Rattle.ffi3_marshal.proofs.Lawful.{each_first, each_join, each_map, each_rest}

-- what holds of each of a list holds of one of them
pub one_of_each : {X : Type 0} (P : X → Type 0) (x : X) (ys : List X) → AllByRecursion P ys → Any (λ y. y ≡ x) ys → P x
one_of_each P x [] all some = absurd (omega (arith, some.2))
one_of_each P x (y ∷ ys) all (zero, q, below, is, same) = subst P (is ∙ same) all.0
one_of_each P x (y ∷ ys) all (suc k, q, below, is, same) =
    one_of_each P x ys all.1 (k, q, omega arith, is, same)

pub all_true : {X : Type 0} (xs : List X) → AllByRecursion (λ (x : X). ⊤) xs
all_true [] = tt
all_true (x ∷ xs) = (tt, all_true xs)

pub each_with : {X : Type 0} (P Q R : X → Type 0) → ((x : X) → P x → Q x → R x) → (xs : List X) → AllByRecursion P xs → AllByRecursion Q xs → AllByRecursion R xs
each_with P Q R f [] h k = tt
each_with P Q R f (x ∷ xs) h k = (f x h.0 k.0, each_with P Q R f xs h.1 k.1)

-- ---- of an instruction set

pub reserved_not_link : (isa : Isa) → AllByRecursion (IsNoneOf (to_list (link_place isa))) (reserved_places isa)
reserved_not_link Amd64 = tt
reserved_not_link isa = each_none_of (to_list (link_place isa)) (reserved_places isa) refl

pub reserved_not_called : (isa : Isa) → AllByRecursion (IsNoneOf (call_scratch isa ++ call_loads isa)) (reserved_places isa)
reserved_not_called Amd64 = tt
reserved_not_called isa = each_none_of (call_scratch isa ++ call_loads isa) (reserved_places isa) refl

pub reserved_not_entered : (isa : Isa) → AllByRecursion (IsNoneOf (entry_scratch isa)) (reserved_places isa)
reserved_not_entered Amd64 = tt
reserved_not_entered isa = each_none_of (entry_scratch isa) (reserved_places isa) refl

pub reserved_not_left : (isa : Isa) → AllByRecursion (IsNoneOf (exit_scratch isa ++ (callee_saved_words isa ++ result_loads isa))) (reserved_places isa)
reserved_not_left Amd64 = tt
reserved_not_left isa = each_none_of (exit_scratch isa ++ (callee_saved_words isa ++ result_loads isa)) (reserved_places isa) refl

pub reserved_not_returned : (isa : Isa) → AllByRecursion (IsNoneOf (exit_scratch isa)) (reserved_places isa)
reserved_not_returned Amd64 = tt
reserved_not_returned isa = each_none_of (exit_scratch isa) (reserved_places isa) refl

pub reserved_are_places : (isa : Isa) → AllByRecursion (IsPlace 0) (reserved_places isa)
reserved_are_places Amd64 = tt
reserved_are_places Aarch64 = (omega arith, tt)
reserved_are_places Riscv = (omega arith, (omega arith, (omega arith, tt)))

saved_not_loaded : (isa : Isa) → AllByRecursion (IsNoneOf (call_loads isa)) (callee_saved_words isa)
saved_not_loaded Amd64 = each_none_of (call_loads Amd64) (callee_saved_words Amd64) refl
saved_not_loaded isa = each_none_of (call_loads isa) (callee_saved_words isa) refl

saved_by : (isa : Isa) → saved_registers (map Register (callee_saved_words isa) ++ (Hidden ∷ spare_words isa)) ≡ callee_saved_words isa
saved_by Amd64 = refl
saved_by _ = refl

-- ---- of a standard

module _ (std : Standard) (agrees : AgreesWithMachine std) (laws : AgreesWithStubs std) where
  pub saved_are : saved_registers std.save_area ≡ callee_saved_words (isa_of std.target)
  saved_are = ap saved_registers laws.area ∙ saved_by (isa_of std.target)

  preserved_saved : AllByRecursion (IsOneOf (callee_saved_words (isa_of std.target))) std.callee_saved
  preserved_saved =
      each_first (IsOneOf (callee_saved_words (isa_of std.target))) std.callee_saved (to_list std.link_register) (subst (λ ls. AllByRecursion (IsOneOf ls) (given_back std)) saved_are agrees.saves_each)

  -- Call overwrites no callee-saved register
  pub preserved_not_called : AllByRecursion (IsNoneOf (call_scratch (isa_of std.target) ++ call_loads (isa_of std.target))) std.callee_saved
  preserved_not_called =
      let isa = isa_of std.target in
      each_with (IsNoneOf (stub_scratch isa)) (IsOneOf (callee_saved_words isa)) (IsNoneOf (call_scratch isa ++ call_loads isa)) (λ l clear saved. each_join (Apart l) (call_scratch isa) (call_loads isa) (each_first (Apart l) (call_scratch isa) (entry_scratch isa ++ exit_scratch isa) clear) (one_of_each (IsNoneOf (call_loads isa)) l (callee_saved_words isa) (saved_not_loaded isa) saved)) std.callee_saved laws.callee_saved_kept preserved_saved

  -- nor does Return
  pub preserved_not_returned : AllByRecursion (IsNoneOf (exit_scratch (isa_of std.target))) std.callee_saved
  preserved_not_returned =
      let isa = isa_of std.target in
      each_map (IsNoneOf (stub_scratch isa)) (IsNoneOf (exit_scratch isa)) (λ l clear. each_rest (Apart l) (entry_scratch isa) (exit_scratch isa) (each_rest (Apart l) (call_scratch isa) (entry_scratch isa ++ exit_scratch isa) clear)) std.callee_saved laws.callee_saved_kept
