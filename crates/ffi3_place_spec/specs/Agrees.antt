-- A calling standard agrees with the machine of its target, and its registers do not get in one another's way.
use Rattle.std.specs.Prelude.{◌≡◌, ◌+◌, ◌*◌, ◌%◌, Bool, true, false, List, [], ◌∷◌, ◌++◌, length}
use Rattle.std.specs.List.{AllByRecursion, flat_map, count_by}
use Rattle.ffi3_type_spec.specs.TargetIsa.{isa_of}
use Rattle.ffi3_place_spec.specs.declared.Loc.{Loc}
use Rattle.ffi3_place_spec.specs.declared.Loc.TheVariants.{G}
use Rattle.ffi3_place_spec.specs.declared.SaveWord.{SaveWord}
use Rattle.ffi3_place_spec.specs.declared.SaveWord.TheVariants.{Register, Hidden, Spare}
use Rattle.ffi3_place_spec.specs.MachineRegisters.{pushed_bytes, stack_pointer, link_place, reserved_places}
use Rattle.ffi3_place_spec.specs.MachineRegisters.{trampoline_registers, TakesWrites, to_list}
use Rattle.ffi3_place_spec.specs.Standard.{Standard}
use Rattle.ffi3_place_spec.specs.Sound.{AreApart, IsNoneOf, IsOneOf, LiesIn, closed_to_arguments}

-- the registers of a save area, in its order
abbrev pub saved_register : SaveWord → List Loc
saved_register (Register at) = at ∷ []
saved_register Hidden = []
saved_register Spare = []

-- the registers that the words of a save area hold
abbrev pub saved_registers : List SaveWord → List Loc
saved_registers words = flat_map saved_register words

-- the word holds a hidden result's address
abbrev pub is_hidden_word : SaveWord → Bool
is_hidden_word (Register at) = false
is_hidden_word Hidden = true
is_hidden_word Spare = false

-- what a callee gives back: the callee-saved registers and, where a register holds it, the return address
abbrev pub given_back : Standard → List Loc
given_back std = std.callee_saved ++ to_list std.link_register

-- the registers to which a call, a closure's entry or a return gives a meaning of its own
abbrev pub special : Standard → List Loc
special std =
    std.stack_pointer
    ∷ (std.reserved ++ (to_list std.link_register ++ (std.trampoline_registers
    ++ (to_list std.vector_count ++ to_list std.returned_address))))

-- THE STANDARD AGREES WITH THE MACHINE OF ITS TARGET
pub record AgreesWithMachine (std : Standard) : Type 0 where
  pub link : std.link ≡ pushed_bytes (isa_of std.target)
  pub stack_pointer : std.stack_pointer ≡ G (stack_pointer (isa_of std.target))
  pub link_register : std.link_register ≡ link_place (isa_of std.target)
  pub reserved : std.reserved ≡ reserved_places (isa_of std.target)
  pub trampoline : std.trampoline_registers ≡ trampoline_registers (isa_of std.target)
  -- a register to which writes are dropped is reserved
  pub written : (l : Loc) → IsNoneOf std.reserved l → TakesWrites (isa_of std.target) l
  -- callee-saved registers are registers, differ from one another, and have no other meaning
  pub callee_saved_exist : AllByRecursion (LiesIn (isa_of std.target) 0) std.callee_saved
  pub callee_saved_apart : AreApart std.callee_saved
  pub callee_saved_plain : AllByRecursion (IsNoneOf (special std)) std.callee_saved
  -- argument registers are registers, differ from one another, and are none of those that a call gives another meaning
  pub arguments_exist : AllByRecursion (LiesIn (isa_of std.target) 0) std.argument_registers
  pub arguments_apart : AreApart std.argument_registers
  pub arguments_plain : AllByRecursion (IsNoneOf (closed_to_arguments std)) std.argument_registers
  -- the registers that tell the vector count and return a hidden result's address are registers, and none of those that are given back or reserved, and the first none that a trampoline writes
  pub count_exists : AllByRecursion (LiesIn (isa_of std.target) 0) (to_list std.vector_count)
  pub count_plain :
      AllByRecursion (IsNoneOf (given_back std ++ (std.reserved ++ std.trampoline_registers))) (to_list std.vector_count)
  pub returned_exists : AllByRecursion (LiesIn (isa_of std.target) 0) (to_list std.returned_address)
  pub returned_plain : AllByRecursion (IsNoneOf (given_back std ++ std.reserved)) (to_list std.returned_address)
  -- the save area has each register that is given back, once, no other one, and one word for a hidden result's address
  pub area : 8 * length std.save_area ≡ std.save
  pub saves_each : AllByRecursion (IsOneOf (saved_registers std.save_area)) (given_back std)
  pub saves_no_other : AllByRecursion (IsOneOf (given_back std)) (saved_registers std.save_area)
  pub saves_once : AreApart (saved_registers std.save_area)
  pub saves_address : count_by is_hidden_word std.save_area ≡ 1
  pub save_aligned : (std.link + std.save) % 16 ≡ 0
