-- Where some general registers have other numbers, and no argument stands in them, an image holds what it held.
use Rattle.std.proofs.Common.{◌≡◌, ℕ, ◌+◌, List, ◌++◌, drop, get_or, length, ap, arith}
use Rattle.std.specs.List.{AllByRecursion, flat_map}
use Rattle.ffi3_type_spec.specs.TargetIsa.{isa_of}
use Rattle.ffi3_type_spec.specs.Signature.{Signature}
use Rattle.ffi3_type_spec.specs.Value.{ValueTree}
use Rattle.ffi3_place_spec.specs.declared.Loc.{Loc}
use Rattle.ffi3_place_spec.specs.declared.Loc.TheVariants.{G}
use Rattle.ffi3_place_spec.specs.Image.{Image}
use Rattle.ffi3_place_spec.specs.Standard.{Standard, plan_of}
use Rattle.ffi3_place_spec.specs.Agrees.{AgreesWithMachine, given_back}
use Rattle.ffi3_place_spec.specs.Holds.{Holds}
use Rattle.ffi3_place_spec.specs.Sound.{Apart, IsNoneOf, IsSound, argument_locs, closed_to_arguments, closed_to_results, hidden_locs, place_locs}
use Rattle.ffi3_place_spec.specs.MachineRegisters.{to_list}
use Rattle.ffi3_machine_transfer.proofs.Alike.{AreAlike, arguments_owned, arguments_filled, address_owned, count_held}
use Rattle.ffi3_marshal.proofs.Lawful.{each_first, each_rest, each_map, machine_places}

-- `new` has other numbers in these general registers alone
pub record IsChanged (changed : List Loc) (old new : Image) : Type 0 where
  pub sp : new.sp ≡ old.sp
  pub stack : new.stack ≡ old.stack
  pub general : (r : ℕ) → IsNoneOf changed (G r) → get_or new.general r 0 ≡ get_or old.general r 0
  pub floating : new.floating ≡ old.floating

alike : (base : ℕ) (changed : List Loc) (old new : Image) → IsChanged changed old new → AreAlike base base (IsNoneOf changed) old new
alike base changed old new is = record {
  sp = ap (λ n. n + base) is.sp;
  stack = ap (drop base) is.stack;
  general = is.general;
  floating = λ r none. ap (λ xs. get_or xs r 0) is.floating;
}

-- ---- by a standard, after a trampoline

module _ (std : Standard) (s : Signature) (sound : IsSound std s) (agrees : AgreesWithMachine std) where
  arguments_clear : AllByRecursion (IsNoneOf std.trampoline_registers) (argument_locs (plan_of std s))
  arguments_clear =
      each_map (IsNoneOf (closed_to_arguments std)) (IsNoneOf std.trampoline_registers) (λ l h. each_first (Apart l) std.trampoline_registers (to_list std.vector_count) (each_rest (Apart l) (closed_to_results std) (std.trampoline_registers ++ to_list std.vector_count) h)) (argument_locs (plan_of std s)) sound.allowed

  count_clear : AllByRecursion (IsNoneOf std.trampoline_registers) (to_list std.vector_count)
  count_clear =
      each_map (IsNoneOf (given_back std ++ (std.reserved ++ std.trampoline_registers))) (IsNoneOf std.trampoline_registers) (λ l h. each_rest (Apart l) std.reserved std.trampoline_registers (each_rest (Apart l) (given_back std) (std.reserved ++ std.trampoline_registers) h)) (to_list std.vector_count) agrees.count_plain

  pub holds_changed : (old new : Image) → IsChanged std.trampoline_registers old new → (vs : List ValueTree) → Holds std s vs old → Holds std s vs new
  holds_changed old new is vs h =
      let changed = IsNoneOf std.trampoline_registers in
      let same = alike std.link std.trampoline_registers old new is in
      let hidden = hidden_locs (plan_of std s).res in
      let flat = flat_map place_locs (plan_of std s).places in
      let in_places = each_rest (IsNoneOf std.trampoline_registers) hidden flat arguments_clear in
      let sized : length new.stack ≡ length old.stack = ap length is.stack in
      let reaches = h.own.reaches in
      record {
        own = record {
          reaches = omega (arith, sized, reaches);
          arguments = arguments_owned std.link std.link changed old new same s.arguments (plan_of std s).places vs in_places h.own.arguments;
          hidden = address_owned std.link std.link changed old new same (plan_of std s).res (each_first (IsNoneOf std.trampoline_registers) hidden flat arguments_clear) h.own.hidden;
        };
        filled = arguments_filled std.link std.link changed old new same s.arguments (plan_of std s).places vs in_places h.filled;
        vectors = count_held std.link std.link changed old new same std.vector_count (plan_of std s).vectors (machine_places (isa_of std.target) 0 (to_list std.vector_count) agrees.count_exists) count_clear h.vectors;
      }
