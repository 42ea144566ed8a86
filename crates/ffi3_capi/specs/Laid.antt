-- What `ffi3_layout` answers, and what it writes. What it is given declares a signature, or has a fault.
use Rattle.std.specs.Prelude.{◌≡◌, ℕ, cond, ◌==◌, List, map, length, Option, Some, None, slice_get}
use Rattle.ffi3_type_spec.specs.Tree.{Tree, Scalar, u8, s8, u16, s16, u32, s32, u64, s64, u128, s128, float, double}
use Rattle.ffi3_type_spec.specs.Tree.{pointer, x87, binary128}
use Rattle.ffi3_type_spec.specs.Layout.{Leaf, size_of, align_of, leaves_of, scalar_size}
use Rattle.ffi3_type_spec.specs.Signature.{Signature}
use Rattle.ffi3_capi.specs.declared.codes.TheConstants.{RESULT_PART, LEAF_X87, LEAF_BINARY128}
use Rattle.ffi3_capi.specs.declared.fault.TextFault.{TextFault}
use Rattle.ffi3_capi.specs.declared.fault.FaultKind.TheVariants.{NoFault}
use Rattle.ffi3_capi.specs.declared.layouts.LaidLeaf.{LaidLeaf}
use Rattle.ffi3_capi.specs.declared.layouts.LaidType.{LaidType}
use Rattle.ffi3_capi.specs.declared.layouts.Laid.{Laid}
use Rattle.ffi3_capi.specs.declared.status.Refusal.{Refusal}
use Rattle.ffi3_capi.specs.declared.status.Refusal.TheVariants.{NoSuchTarget, NoSuchValue, Fault, NoMemory}
use Rattle.ffi3_capi.specs.Faults.{fault_with}
use Rattle.ffi3_capi.specs.Filled.{has_room, filled, room_status}
use Rattle.ffi3_capi.specs.OnTarget.{OnTarget}
use Rattle.ffi3_capi.specs.Refused.{status_of, fault_in, count_in}

-- the type of an argument, by its number, or of the result
abbrev pub type_of : Signature → ℕ → Option Tree
type_of s value =
    cond (value == RESULT_PART) (Some s.result_type) (slice_get s.arguments value)

-- a scalar by number: a long double has one of its own in each format, where nodes have one for all
abbrev pub leaf_kind : Scalar → ℕ
leaf_kind u8 = 0
leaf_kind s8 = 1
leaf_kind u16 = 2
leaf_kind s16 = 3
leaf_kind u32 = 4
leaf_kind s32 = 5
leaf_kind u64 = 6
leaf_kind s64 = 7
leaf_kind u128 = 8
leaf_kind s128 = 9
leaf_kind float = 10
leaf_kind double = 11
leaf_kind pointer = 12
leaf_kind x87 = LEAF_X87
leaf_kind binary128 = LEAF_BINARY128

-- its bytes are those of its value: of x87's format ten
abbrev pub laid_leaf : Leaf → LaidLeaf
laid_leaf l =
    record { kind = leaf_kind l.kind; size = scalar_size l.kind; offset = l.at }

abbrev pub laid_leaves : Tree → List LaidLeaf
laid_leaves t = map laid_leaf (leaves_of t)

-- of a function with so many arguments
abbrev pub laid_type : ℕ → Tree → LaidType
laid_type count t = record {
  size = size_of t;
  align = align_of t;
  leaves = length (laid_leaves t);
  arguments = count;
  fault = fault_with NoFault;
}

-- no layout: how many arguments there are, or why there is no function
abbrev pub no_type : ℕ → TextFault → LaidType
no_type count fault =
    record { size = 0; align = 0; leaves = 0; arguments = count; fault = fault }

abbrev pub laid_of : ℕ → Tree → Laid
laid_of count t = record { layout = laid_type count t; leaves = laid_leaves t }

-- THE LAYOUT of the type of a value of the function that is declared
pub record IsLaid (declares : Signature → Type 0) (value : ℕ) (l : Laid) : Type 0 where
  pub signature : Signature
  pub declared : declares signature
  pub laid : Tree
  pub laid_is : type_of signature value ≡ Some laid
  pub is : l ≡ laid_of (length signature.arguments) laid

-- the function that is declared has so many arguments, and none by this number
pub record HasNoValue (declares : Signature → Type 0) (value count : ℕ) : Type 0 where
  pub signature : Signature
  pub declared : declares signature
  pub none : type_of signature value ≡ None
  pub counted : count ≡ length signature.arguments

-- OR WHY THERE IS NONE. Memory alone is free.
abbrev pub IsLayoutRefusal : (Signature → Type 0) → (TextFault → Type 0) → ℕ → Refusal → Type 0
IsLayoutRefusal declares is_fault value NoSuchTarget = ⊥
IsLayoutRefusal declares is_fault value (NoSuchValue count) = HasNoValue declares value count
IsLayoutRefusal declares is_fault value (Fault f) = is_fault f
IsLayoutRefusal declares is_fault value NoMemory = Unit {0}

-- WHAT ffi3_layout ANSWERS, and what it writes into the caller's struct and array
pub data LaysOut (declares : Signature → Type 0) (is_fault : TextFault → Type 0) (value : ℕ) (old : List LaidLeaf)
    : ℕ → LaidType → List LaidLeaf → Type 0 where
  laid_out : (l : Laid) → IsLaid declares value l
      → LaysOut declares is_fault value old (room_status (has_room l.leaves old)) l.layout (filled l.leaves old)
  refused : (r : Refusal) → IsLayoutRefusal declares is_fault value r
      → LaysOut declares is_fault value old (status_of r) (no_type (count_in r) (fault_in r)) old

-- WHAT ffi3_layout_for ANSWERS, and what it writes: the same for a target, where that is known
abbrev pub LaysOutFor : (Signature → Type 0) → (TextFault → Type 0) → ℕ → ℕ → List LaidLeaf
    → ℕ → LaidType → List LaidLeaf → Type 0
LaysOutFor declares is_fault target value old =
    OnTarget target (LaysOut declares is_fault value old) (no_type 0 (fault_with NoFault)) old
