-- What `ffi3_check_layout` answers, and what it writes: whether a type is laid out as its client has it.
use Rattle.std.specs.Prelude.{◌≡◌, ℕ, List, take, length, Option, Some, None, IsSome, slice_get}
use Rattle.ffi3_type_spec.specs.Tree.{Tree}
use Rattle.ffi3_type_spec.specs.Layout.{size_of, align_of}
use Rattle.ffi3_nodes.specs.declared.Node.{Node}
use Rattle.ffi3_capi.specs.declared.codes.TheConstants.{DONE, NOT_DECLARED, UNKNOWN_TARGET}
use Rattle.ffi3_capi.specs.declared.fault.TextFault.{TextFault}
use Rattle.ffi3_capi.specs.declared.fault.FaultKind.TheVariants.{NoFault, LaidOutOtherwise}
use Rattle.ffi3_capi.specs.declared.status.Refusal.{Refusal}
use Rattle.ffi3_format_spec.specs.declared.Format.{Format}
use Rattle.ffi3_capi.specs.Faults.{fault_with, fault_of_value}
use Rattle.ffi3_capi.specs.Formats.{long_double_on}
use Rattle.ffi3_capi.specs.Placed.{targets}
use Rattle.ffi3_capi.specs.Refused.{status_of, fault_in}
use Rattle.ffi3_capi.specs.WholeType.{offsets_of, AreNodesOfTypeBy, IsTypeRefusal}

-- THE NATURAL LAYOUT, told by size, alignment and where each member starts
pub record IsNatural (t : Tree) (size align : ℕ) (offsets : List ℕ) : Type 0 where
  pub size_is : size ≡ size_of t
  pub align_is : align ≡ align_of t
  pub offsets_are : offsets ≡ offsets_of t

-- up to number i two lists are alike, and there they are not
pub record DifferFirst (xs ys : List ℕ) (i : ℕ) : Type 0 where
  pub alike : take i xs ≡ take i ys
  pub here : slice_get xs i ≡ slice_get ys i → ⊥

-- ANOTHER LAYOUT: the first member that starts elsewhere, or that one side alone has; or how many they are, where each starts right and size or alignment is another
pub data IsAnother (t : Tree) (size align : ℕ) (offsets : List ℕ) : ℕ → Type 0 where
  member : (i : ℕ) → DifferFirst offsets (offsets_of t) i → IsAnother t size align offsets i
  whole : offsets ≡ offsets_of t → (size ≡ size_of t → align ≡ align_of t → ⊥)
      → IsAnother t size align offsets (length offsets)

-- what is answered of the type that nodes are, where long doubles have this format, if any; and what is written into the caller's struct
pub data ChecksType (o : Option Format) (ns : List Node) (size align : ℕ) (offsets : List ℕ) : ℕ → TextFault → Type 0 where
  natural : (t : Tree) → AreNodesOfTypeBy o ns t → IsNatural t size align offsets
      → ChecksType o ns size align offsets DONE (fault_with NoFault)
  another : (t : Tree) (i : ℕ) → AreNodesOfTypeBy o ns t → IsAnother t size align offsets i
      → ChecksType o ns size align offsets NOT_DECLARED (fault_of_value 0 LaidOutOtherwise i)
  refused : (r : Refusal) → IsTypeRefusal o ns r → ChecksType o ns size align offsets (status_of r) (fault_in r)

-- WHAT ffi3_check_layout ANSWERS, and what it writes
abbrev pub ChecksLayout : List Node → ℕ → ℕ → List ℕ → ℕ → TextFault → Type 0
ChecksLayout ns = ChecksType None ns

-- WHAT ffi3_check_for ANSWERS, and what it writes: the same for a target, where that is known
pub data ChecksLayoutFor (target : ℕ) (ns : List Node) (size align : ℕ) (offsets : List ℕ) : ℕ → TextFault → Type 0 where
  known : (status : ℕ) (fault : TextFault) → IsSome (slice_get targets target)
      → ChecksType (Some (long_double_on target)) ns size align offsets status fault
      → ChecksLayoutFor target ns size align offsets status fault
  unknown : slice_get targets target ≡ None
      → ChecksLayoutFor target ns size align offsets UNKNOWN_TARGET (fault_with NoFault)
