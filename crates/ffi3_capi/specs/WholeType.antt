-- What `ffi3_layout_nodes` and `ffi3_offsets_nodes` answer, and what they write; and the same for a target.
use Rattle.std.specs.Prelude.{ℕ, List, [], map, length, replicate, Option, Some, None}
use Rattle.std.specs.List.{range_with_len}
use Rattle.ffi3_type_spec.specs.Tree.{Tree, void, scalar, left_out, structure, array, list_of}
use Rattle.ffi3_type_spec.specs.Layout.{size_of, align_of, offset_of}
use Rattle.ffi3_nodes.specs.declared.Node.{Node}
use Rattle.ffi3_capi.specs.declared.fault.TextFault.{TextFault}
use Rattle.ffi3_capi.specs.declared.fault.FaultKind.TheVariants.{NoFault}
use Rattle.ffi3_capi.specs.declared.layouts.LaidLeaf.{LaidLeaf}
use Rattle.ffi3_capi.specs.declared.whole.WholeType.{WholeType}
use Rattle.ffi3_capi.specs.declared.status.Refusal.{Refusal}
use Rattle.ffi3_capi.specs.declared.status.Refusal.TheVariants.{NoSuchTarget, NoSuchValue, Fault, NoMemory}
use Rattle.ffi3_format_spec.specs.declared.Format.{Format}
use Rattle.ffi3_capi.specs.ByNodes.{AreNodesOfType, AreNodesOfTypeIn, IsFaultOfType, IsFaultOfTypeIn}
use Rattle.ffi3_capi.specs.Faults.{fault_with}
use Rattle.ffi3_capi.specs.Filled.{has_room, filled, room_status}
use Rattle.ffi3_capi.specs.Formats.{long_double_on}
use Rattle.ffi3_capi.specs.OnTarget.{OnTarget}
use Rattle.ffi3_capi.specs.Laid.{laid_leaves}
use Rattle.ffi3_capi.specs.Refused.{status_of, fault_in}

-- the members of a struct
abbrev pub members_of : Tree → List Tree
members_of void = []
members_of (scalar s) = []
members_of (left_out k) = []
members_of (structure ts) = list_of ts
members_of (array ts n) = []

-- where each member starts
abbrev pub offsets_of : Tree → List ℕ
offsets_of t = map (offset_of t) (range_with_len 0 (length (members_of t)))

abbrev pub whole_type : Tree → WholeType
whole_type t = record {
  size = size_of t;
  align = align_of t;
  members = length (members_of t);
  leaves = length (laid_leaves t);
  reserved = replicate 2 0;
  fault = fault_with NoFault;
}

-- no type, and why
abbrev pub no_whole_type : TextFault → WholeType
no_whole_type fault =
    record { size = 0; align = 0; members = 0; leaves = 0; reserved = replicate 2 0; fault = fault }

-- the type that nodes are where long doubles have this format, if any
abbrev pub AreNodesOfTypeBy : Option Format → List Node → Tree → Type 0
AreNodesOfTypeBy None ns t = AreNodesOfType ns t
AreNodesOfTypeBy (Some f) ns t = AreNodesOfTypeIn f ns t

abbrev pub IsFaultOfTypeBy : Option Format → List Node → TextFault → Type 0
IsFaultOfTypeBy None ns g = IsFaultOfType ns g
IsFaultOfTypeBy (Some f) ns g = IsFaultOfTypeIn f ns g

-- WHY THERE IS NONE. Memory alone is free.
abbrev pub IsTypeRefusal : Option Format → List Node → Refusal → Type 0
IsTypeRefusal o ns NoSuchTarget = ⊥
IsTypeRefusal o ns (NoSuchValue count) = ⊥
IsTypeRefusal o ns (Fault f) = IsFaultOfTypeBy o ns f
IsTypeRefusal o ns NoMemory = Unit {0}

-- what is answered of the type that nodes are, and of some items that it has, and what is written into the caller's struct and array
pub data TellsType {A : Type 0} (o : Option Format) (ns : List Node) (items : Tree → List A) (old : List A)
    : ℕ → WholeType → List A → Type 0 where
  told : (t : Tree) → AreNodesOfTypeBy o ns t
      → TellsType o ns items old (room_status (has_room (items t) old)) (whole_type t) (filled (items t) old)
  refused : (r : Refusal) → IsTypeRefusal o ns r
      → TellsType o ns items old (status_of r) (no_whole_type (fault_in r)) old

-- WHAT ffi3_layout_nodes ANSWERS, and what it writes
abbrev pub LaysOutNodes : List Node → List LaidLeaf → ℕ → WholeType → List LaidLeaf → Type 0
LaysOutNodes ns = TellsType None ns laid_leaves

-- WHAT ffi3_offsets_nodes ANSWERS, and what it writes
abbrev pub TellsOffsets : List Node → List ℕ → ℕ → WholeType → List ℕ → Type 0
TellsOffsets ns = TellsType None ns offsets_of

-- the same for a target, where that is known
abbrev pub TellsTypeOn : {A : Type 0} → ℕ → List Node → (Tree → List A) → List A → ℕ → WholeType → List A → Type 0
TellsTypeOn target ns items old =
    OnTarget target (TellsType (Some (long_double_on target)) ns items old) (no_whole_type (fault_with NoFault)) old

-- WHAT ffi3_layout_nodes_for ANSWERS, and what it writes
abbrev pub LaysOutNodesFor : ℕ → List Node → List LaidLeaf → ℕ → WholeType → List LaidLeaf → Type 0
LaysOutNodesFor target ns = TellsTypeOn target ns laid_leaves

-- WHAT ffi3_offsets_for ANSWERS, and what it writes
abbrev pub TellsOffsetsFor : ℕ → List Node → List ℕ → ℕ → WholeType → List ℕ → Type 0
TellsOffsetsFor target ns = TellsTypeOn target ns offsets_of
