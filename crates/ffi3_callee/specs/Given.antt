-- What a callee changes of the machine when it gives a result.
use Rattle.std.specs.Prelude.{◌≡◌, ℕ, ◌+◌, ⊤, List, [], Option, Some, None}
use Rattle.std.specs.List.{AllByRecursion}
use Rattle.ffi3_type_spec.specs.declared.Target.{Target}
use Rattle.ffi3_type_spec.specs.Tree.{Tree}
use Rattle.ffi3_type_spec.specs.Layout.{size_of}
use Rattle.ffi3_place_spec.specs.declared.Loc.{Loc}
use Rattle.ffi3_place_spec.specs.declared.Res.{Res}
use Rattle.ffi3_place_spec.specs.declared.Res.TheVariants.{Nothing, Direct, Hidden}
use Rattle.ffi3_place_spec.specs.Standard.{Standard}
use Rattle.ffi3_place_spec.specs.Sound.{IsNoneOf, piece_locs}
use Rattle.ffi3_place_spec.specs.MachineRegisters.{to_list}
use Rattle.ffi3_type_spec.specs.declared.limits.TheConstants.{STACK_TOP}
use Rattle.ffi3_machine_spec.specs.State.{State}
use Rattle.ffi3_machine_transfer.specs.Stored.{IsPlace, word_in, IsWritable, KeepsPadding, KeepsUnused, WroteWithin}

-- where there is such a register, it is one of 32 to which writes are not dropped
abbrev pub IsSettable : Target → Option Loc → Type 0
IsSettable target (Some at) = IsPlace 0 at × IsWritable target at
IsSettable target None = ⊤

-- where there is such a register, it holds the number
abbrev pub RegisterHoldsWord : State → Option Loc → ℕ → Type 0
RegisterHoldsWord m (Some at) n = word_in STACK_TOP m at ≡ n
RegisterHoldsWord m None n = ⊤

-- where there is a hidden result, the number is the address of its buffer
abbrev pub IsAddressOf : ℕ → ℕ → Res → Type 0
IsAddressOf base address Nothing = ⊤
IsAddressOf base address (Direct pieces) = ⊤
IsAddressOf base address (Hidden at buffer) = address ≡ base + buffer

-- the same of what a callee remembers, which is 0 where there is no such buffer
abbrev pub IsAddressOrZero : ℕ → ℕ → Res → Type 0
IsAddressOrZero base address Nothing = address ≡ 0
IsAddressOrZero base address (Direct pieces) = address ≡ 0
IsAddressOrZero base address (Hidden at buffer) = address ≡ base + buffer

-- every register apart from the list stays
abbrev pub RegistersStay : List Loc → State → State → Type 0
RegistersStay locs old new =
    (l : Loc) → IsPlace 0 l → IsNoneOf locs l → word_in STACK_TOP new l ≡ word_in STACK_TOP old l

-- the registers that neither side of a call writes stay
abbrev pub ReservedStay : Standard → State → State → Type 0
ReservedStay std old new =
    AllByRecursion (λ at. word_in STACK_TOP new at ≡ word_in STACK_TOP old at) std.reserved

-- the registers that a result uses
abbrev pub result_uses : Standard → Res → List Loc
result_uses std Nothing = []
result_uses std (Direct pieces) = piece_locs pieces
result_uses std (Hidden at buffer) = to_list std.returned_address

-- OF THE STACK A RESULT CHANGES ITS BUFFER ALONE
abbrev pub ResultWrites : ℕ → Tree → Res → State → State → Type 0
ResultWrites base t Nothing old new = WroteWithin base base old new
ResultWrites base t (Direct pieces) old new = WroteWithin base base old new
ResultWrites base t (Hidden at buffer) old new = WroteWithin (base + buffer) (base + buffer + size_of t) old new

-- WHAT NO LEAF OF A RESULT HAS KEEPS WHAT STOOD THERE, in its registers or in its buffer
abbrev pub ResultKeepsUnused : ℕ → Tree → Res → State → State → Type 0
ResultKeepsUnused base t Nothing old new = ⊤
ResultKeepsUnused base t (Direct pieces) old new = AllByRecursion (KeepsUnused base t old new) pieces
ResultKeepsUnused base t (Hidden at buffer) old new = KeepsPadding (base + buffer) t old new
