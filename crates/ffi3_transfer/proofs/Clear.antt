-- The places of a call that are clear of each other: arguments, hidden result's address, number of vector registers.
use Rattle.std.proofs.Common.{ℕ, zero, suc, ◌+◌, List, [], ◌∷◌, ◌++◌, arith}
use Rattle.std.specs.List.{AllByRecursion, flat_map}
use Rattle.ffi3_type_spec.specs.TargetIsa.{isa_of}
use Rattle.ffi3_type_spec.specs.Tree.{Tree}
use Rattle.ffi3_type_spec.specs.Signature.{Signature}
use Rattle.ffi3_place_spec.specs.declared.Loc.{Loc}
use Rattle.ffi3_place_spec.specs.declared.Loc.TheVariants.{G, F, S}
use Rattle.ffi3_place_spec.specs.declared.Place.{Place}
use Rattle.ffi3_place_spec.specs.declared.Place.TheVariants.{Direct, ByRef}
use Rattle.ffi3_place_spec.specs.MachineRegisters.{to_list}
use Rattle.ffi3_place_spec.specs.Standard.{Standard, plan_of}
use Rattle.ffi3_place_spec.specs.Agrees.{AgreesWithMachine}
use Rattle.ffi3_place_spec.specs.Sound.{Apart, IsNoneOf, IsSound, argument_locs, buffer_locs, copy_locs, hidden_locs, closed_to_arguments, closed_to_results, place_locs, stack_words, stack_words_for}
use Rattle.ffi3_marshal.specs.Standing.{all_uses}
use Rattle.ffi3_transfer.specs.Places.{IsPlace}
use Rattle.ffi3_marshal.proofs.Lawful.{each_first, each_rest, each_join, apart_first, apart_across, across_none, across_first, uses_each}
use Rattle.ffi3_transfer.proofs.Ready.{registers_lie}

register_apart : (l : Loc) (at n : ℕ) → IsPlace 0 l → AllByRecursion (Apart l) (stack_words at n)
register_apart l at zero h = tt
register_apart (G r) at (suc n) h = (tt, register_apart (G r) (at + 8) n h)
register_apart (F r) at (suc n) h = (tt, register_apart (F r) (at + 8) n h)
register_apart (S k w) at (suc n) h = absurd (omega (arith, h.0, h.1))

register_apart_copies : (l : Loc) (ts : List Tree) (ps : List Place) → IsPlace 0 l → AllByRecursion (Apart l) (copy_locs ts ps)
register_apart_copies l (t ∷ ts) (Direct pieces ∷ ps) h = register_apart_copies l ts ps h
register_apart_copies l (t ∷ ts) (ByRef at copy ∷ ps) h =
    each_join (Apart l) (stack_words_for copy t) (copy_locs ts ps) (register_apart l copy _ h) (register_apart_copies l ts ps h)
register_apart_copies l _ _ h = tt

module _ (std : Standard) (s : Signature) (sound : IsSound std s) where
  abbrev places : List Place
  places = (plan_of std s).places

  abbrev hidden : List Loc
  hidden = hidden_locs (plan_of std s).res

  pub hidden_clear : AllByRecursion (IsNoneOf (hidden_locs (plan_of std s).res)) (all_uses s.arguments (plan_of std s).places)
  hidden_clear =
      let copies = copy_locs s.arguments (plan_of std s).places in
      let buffer = buffer_locs s.result_type (plan_of std s).res in
      let flat = flat_map place_locs (plan_of std s).places in
      let across = apart_across (argument_locs (plan_of std s)) (copies ++ buffer) sound.apart in
      let to_copies = across_first hidden copies buffer (each_first (λ x. AllByRecursion (Apart x) (copies ++ buffer)) hidden flat across) in
      let to_places = apart_across hidden flat (apart_first (argument_locs (plan_of std s)) (copies ++ buffer) sound.apart) in
      uses_each (IsNoneOf hidden) s.arguments places sound.has_all (across_none hidden flat to_places) (across_none hidden copies to_copies)

  -- the register that tells the number carries no argument
  count_free : AllByRecursion (IsNoneOf (to_list std.vector_count)) (argument_locs (plan_of std s))
  count_free =
      each_of (argument_locs (plan_of std s)) sound.allowed
    where
      each_of : (ls : List Loc) → AllByRecursion (IsNoneOf (closed_to_arguments std)) ls → AllByRecursion (IsNoneOf (to_list std.vector_count)) ls
      each_of [] h = tt
      each_of (l ∷ ls) h = (each_rest (Apart l) std.trampoline_registers (to_list std.vector_count) (each_rest (Apart l) (closed_to_results std) (std.trampoline_registers ++ to_list std.vector_count) h.0), each_of ls h.1)

  pub count_clear : AllByRecursion (IsPlace 0) (to_list std.vector_count) → AllByRecursion (IsNoneOf (to_list std.vector_count)) (all_uses s.arguments (plan_of std s).places)
  count_clear registers =
      uses_each (IsNoneOf (to_list std.vector_count)) s.arguments (plan_of std s).places sound.has_all (each_rest (IsNoneOf (to_list std.vector_count)) (hidden_locs (plan_of std s).res) (flat_map place_locs (plan_of std s).places) count_free) (across_none (to_list std.vector_count) (copy_locs s.arguments (plan_of std s).places) (each_copies (to_list std.vector_count) registers))
    where
      each_copies : (ls : List Loc) → AllByRecursion (IsPlace 0) ls → AllByRecursion (λ x. AllByRecursion (Apart x) (copy_locs s.arguments (plan_of std s).places)) ls
      each_copies [] h = tt
      each_copies (l ∷ ls) h = (register_apart_copies l s.arguments (plan_of std s).places h.0, each_copies ls h.1)

  pub count_clear_of_hidden : AllByRecursion (IsNoneOf (to_list std.vector_count)) (hidden_locs (plan_of std s).res)
  count_clear_of_hidden = each_first (IsNoneOf (to_list std.vector_count)) (hidden_locs (plan_of std s).res) (flat_map place_locs (plan_of std s).places) count_free

module _ (std : Standard) (agrees : AgreesWithMachine std) where
  pub count_is_register : AllByRecursion (IsPlace 0) (to_list std.vector_count)
  count_is_register =
      registers_lie (isa_of std.target) (to_list std.vector_count) agrees.count_exists
