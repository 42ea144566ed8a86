-- The arguments that a callee collects from registers and stack. (System V psABI AMD64 3.2.3, "Parameter Passing"; AAPCS64, "Parameter passing"; RISC-V ELF psABI, "Integer Calling Convention" and "Hardware Floating-point Calling Convention"; Microsoft, "Parameter passing": `Own` has them)
use Rattle.std.specs.Prelude.{◌≡◌, ◌≢◌, ℕ, ◌<◌, ◌≤◌, List, length}
use Rattle.ffi3_type_spec.specs.Signature.{Signature}
use Rattle.ffi3_type_spec.specs.Value.{ValueTree}
use Rattle.ffi3_place_spec.specs.Image.{Image}
use Rattle.ffi3_place_spec.specs.Standard.{Standard}
use Rattle.ffi3_place_spec.specs.Holds.{Own}
use Rattle.ffi3_explain_spec.specs.Arguments.{are_values, points_outside, held_by_standard, least_stack}
use Rattle.ffi3_transfer.specs.declared.Uncollected.{Uncollected}
use Rattle.ffi3_transfer.specs.declared.Uncollected.TheVariants.{WrongSize, ShortStack, NotInStack}
use Rattle.ffi3_transfer.specs.Packed.{packed_size, values_packed, HaveZeroPadding}

-- THE CALLEE HAS ITS ARGUMENTS: those that the image has by the standard alone, with padding of 0
pub record IsCollected (std : Standard) (s : Signature) (m : Image) (bytes : List ℕ) : Type 0 where
  pub is : held_by_standard std s m ≡ are_values (values_packed s.arguments bytes)
  -- so they are the values that the image owns
  pub owned : (vs : List ValueTree) → Own std s vs m → values_packed s.arguments bytes ≡ vs
  pub padding : HaveZeroPadding s.arguments bytes
  -- nor was a refusal due
  pub sized : length bytes ≡ packed_size s.arguments
  pub room : least_stack std s ≤ length m.stack

-- OR WHY NOT: the first of these that is so
abbrev pub IsNotCollected : Standard → Signature → Image → List ℕ → Uncollected → Type 0
IsNotCollected std s m old (WrongSize wanted) = (wanted ≡ packed_size s.arguments) × (length old ≢ wanted)
IsNotCollected std s m old (ShortStack wanted) =
    (length old ≡ packed_size s.arguments) × (wanted ≡ least_stack std s) × (length m.stack < wanted)
IsNotCollected std s m old (NotInStack argument address) =
    (length old ≡ packed_size s.arguments) × (least_stack std s ≤ length m.stack)
    × (held_by_standard std s m ≡ points_outside (record { argument = argument; address = address }))
