-- A calling standard's calls can lead through the stubs of its target: these load, store and save what the standard names, and overwrite nothing that it keeps.
use Rattle.std.specs.Prelude.{◌≡◌, List, [], ◌∷◌, ◌++◌, map}
use Rattle.std.specs.List.{AllByRecursion}
use Rattle.ffi3_type_spec.specs.declared.Isa.{Isa}
use Rattle.ffi3_type_spec.specs.TargetIsa.{isa_of}
use Rattle.ffi3_type_spec.specs.Signature.{Signature}
use Rattle.ffi3_place_spec.specs.declared.Loc.{Loc}
use Rattle.ffi3_place_spec.specs.declared.Loc.TheVariants.{G}
use Rattle.ffi3_place_spec.specs.declared.SaveWord.TheVariants.{Register, Hidden}
use Rattle.ffi3_place_spec.specs.MachineRegisters.{closure_register, to_list}
use Rattle.ffi3_place_spec.specs.StubRegisters.{call_loads, entry_stores, callee_saved_words}
use Rattle.ffi3_place_spec.specs.StubRegisters.{hidden_register, spare_words, area_bytes, result_loads}
use Rattle.ffi3_place_spec.specs.StubRegisters.{call_scratch, entry_scratch, exit_scratch}
use Rattle.ffi3_place_spec.specs.Standard.{Standard, plan_of}
use Rattle.ffi3_place_spec.specs.Sound.{IsNoneOf, IsOneOf, hidden_locs, result_locs}

-- all registers that a stub overwrites, but for those that it is to load and the stack pointer
abbrev pub stub_scratch : Isa → List Loc
stub_scratch isa = call_scratch isa ++ (entry_scratch isa ++ exit_scratch isa)

-- THE STANDARD'S CALLS CAN LEAD THROUGH THE STUBS
pub record AgreesWithStubs (std : Standard) : Type 0 where
  -- the save area is that of the stubs: the same words in the same order, and as many bytes
  pub area :
      std.save_area ≡ map Register (callee_saved_words (isa_of std.target)) ++ (Hidden ∷ spare_words (isa_of std.target))
  pub area_size : std.save ≡ area_bytes (isa_of std.target)
  -- Call loads all registers in which arguments and a hidden result's address are passed, and the one that tells the number of vector registers
  pub arguments_loaded : AllByRecursion (IsOneOf (call_loads (isa_of std.target))) std.argument_registers
  pub count_loaded : AllByRecursion (IsOneOf (call_loads (isa_of std.target))) (to_list std.vector_count)
  -- Entry stores all registers in which arguments and a hidden result's address are passed, and the one that holds the closure's address
  pub arguments_stored : AllByRecursion (IsOneOf (entry_stores (isa_of std.target))) std.argument_registers
  pub closure_stored : IsOneOf (entry_stores (isa_of std.target)) (G (closure_register (isa_of std.target)))
  -- Exit loads the register in which a hidden result's address is returned, and Return stores it
  pub returned_loaded : AllByRecursion (IsOneOf (result_loads (isa_of std.target))) (to_list std.returned_address)
  -- no callee-saved, no reserved and no argument register is among those that a stub overwrites
  pub callee_saved_kept : AllByRecursion (IsNoneOf (stub_scratch (isa_of std.target))) std.callee_saved
  pub reserved_kept : AllByRecursion (IsNoneOf (stub_scratch (isa_of std.target))) std.reserved
  pub arguments_kept : AllByRecursion (IsNoneOf (stub_scratch (isa_of std.target))) std.argument_registers
  -- Call overwrites no register that tells the number of vector registers, and Entry none that holds the closure's address
  pub count_kept : AllByRecursion (IsNoneOf (call_scratch (isa_of std.target))) (to_list std.vector_count)
  pub closure_kept : IsNoneOf (entry_scratch (isa_of std.target)) (G (closure_register (isa_of std.target)))

-- the same of one signature's result
pub record ResultGoesByStubs (std : Standard) (s : Signature) : Type 0 where
  -- Exit loads all registers in which it stands, and Return stores them
  pub loaded : AllByRecursion (IsOneOf (result_loads (isa_of std.target))) (result_locs (plan_of std s).res)
  -- the address of a hidden result comes in the register that Entry saves
  pub hidden : AllByRecursion (IsOneOf (G (hidden_register (isa_of std.target)) ∷ [])) (hidden_locs (plan_of std s).res)
