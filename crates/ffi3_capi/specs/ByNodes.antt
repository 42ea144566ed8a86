-- What nodes declare, or which type they are, and why they are none, as C sees it.
use Rattle.std.specs.Prelude.{◌≡◌, ℕ, ◌+◌, ◌<◌, ◌≤◌, ◌^◌, ◌==◌, cond, List, [], length, Option, Some, None}
use Rattle.ffi3_type_spec.specs.declared.Role.TheVariants.{AsResult}
use Rattle.ffi3_type_spec.specs.Tree.{Tree}
use Rattle.ffi3_type_spec.specs.Fault.{Fault, IsFirstFault, IsResultType}
use Rattle.ffi3_type_spec.specs.Signature.{Signature, SignatureFault, SignatureHasNoFault, IsFirstSignatureFault}
use Rattle.ffi3_type_spec.specs.Signature.{SignatureIsPlaced, IsFirstFaultFor, for_places}
use Rattle.ffi3_format_spec.specs.declared.Format.{Format}
use Rattle.ffi3_nodes.specs.declared.Node.{Node}
use Rattle.ffi3_nodes.specs.Nodes.{IsWritten, AreWritten, IsSignatureOf}
use Rattle.ffi3_nodes.specs.Faults.{NodeFault, ended, unknown_kind, bad_count, too_deep, first_node_fault}
use Rattle.ffi3_nodes.specs.Read.{AreNodesOfTypes, HasNoResultType, IsSignatureFor, HasNoPlaced}
use Rattle.ffi3_capi.specs.declared.codes.TheConstants.{RESULT_PART, NOT_VARIADIC}
use Rattle.ffi3_capi.specs.declared.fault.TextFault.{TextFault}
use Rattle.ffi3_capi.specs.declared.fault.FaultKind.TheVariants.{NodesEnded, UnknownKind, BadCount, NodesTooDeep}
use Rattle.ffi3_capi.specs.declared.fault.FaultKind.TheVariants.{TooManyNodes, NotOneType}
use Rattle.ffi3_capi.specs.Faults.{fault_at, fault_of_value, type_fault, signature_fault}

-- of a variadic function how many arguments are fixed
abbrev pub fixed_of : ℕ → Option ℕ
fixed_of n = cond (n == NOT_VARIADIC) None (Some n)

-- WHAT NODES DECLARE: a function of the one signature that they are
pub record AreNodesOf (ns : List Node) (fixed : ℕ) (s : Signature) : Type 0 where
  pub written : IsSignatureOf ns (fixed_of fixed) s
  pub only : (other : Signature) → IsSignatureOf ns (fixed_of fixed) other → other ≡ s
  pub faultless : SignatureHasNoFault s

-- WHICH TYPE NODES ARE: the one that can be a result
pub record AreNodesOfType (ns : List Node) (t : Tree) : Type 0 where
  pub written : IsWritten t ns
  pub only : (other : Tree) → IsWritten other ns → other ≡ t
  pub faultless : IsResultType t

-- a fault of so many nodes, behind how many of them it stands
abbrev pub node_fault : ℕ → NodeFault → TextFault
node_fault count ended = fault_at NodesEnded count
node_fault count (unknown_kind at) = fault_at UnknownKind at
node_fault count (bad_count at) = fault_at BadCount at
node_fault count (too_deep at) = fault_at NodesTooDeep at

-- WHY NODES DECLARE NO FUNCTION: they are too many, or have a fault as nodes, and in both cases no signature without fault has them; or each signature that has them, and one does, has a fault, whose first is told
pub data IsFaultOfNodes (ns : List Node) (fixed : ℕ) : TextFault → Type 0 where
  too_long : 2 ^ 32 ≤ length ns
      → ((s : Signature) → IsSignatureOf ns (fixed_of fixed) s → SignatureHasNoFault s → ⊥)
      → IsFaultOfNodes ns fixed (fault_of_value 0 TooManyNodes (length ns))
  no_nodes : (f : NodeFault) → length ns < 2 ^ 32 → first_node_fault ns ≡ Some f
      → ((s : Signature) → IsSignatureOf ns (fixed_of fixed) s → SignatureHasNoFault s → ⊥)
      → IsFaultOfNodes ns fixed (node_fault (length ns) f)
  not_called : AreNodesOfTypes ns → (s : Signature) (f : SignatureFault) → IsSignatureOf ns (fixed_of fixed) s
      → IsFirstSignatureFault s f
      → ((other : Signature) → IsSignatureOf ns (fixed_of fixed) other → IsFirstSignatureFault other f)
      → IsFaultOfNodes ns fixed (signature_fault f)

-- ---- for calls on a target, whose long doubles have a format

-- WHAT NODES DECLARE there: a function of the one signature that they are where long doubles have that format
pub record AreNodesIn (f : Format) (ns : List Node) (fixed : ℕ) (s : Signature) : Type 0 where
  pub written : IsSignatureFor f ns (fixed_of fixed) s
  pub only : (other : Signature) → IsSignatureFor f ns (fixed_of fixed) other → other ≡ s
  pub faultless : SignatureIsPlaced s

-- WHY NODES DECLARE NO FUNCTION there: they are too many, or have a fault as nodes, and in both cases no signature that can be placed has them; or each signature that has them, and one does, has a fault, whose first is told
pub data IsFaultOfNodesIn (f : Format) (ns : List Node) (fixed : ℕ) : TextFault → Type 0 where
  so_many : 2 ^ 32 ≤ length ns → HasNoPlaced f ns (fixed_of fixed)
      → IsFaultOfNodesIn f ns fixed (fault_of_value 0 TooManyNodes (length ns))
  no_signature : (g : NodeFault) → length ns < 2 ^ 32 → first_node_fault ns ≡ Some g
      → HasNoPlaced f ns (fixed_of fixed) → IsFaultOfNodesIn f ns fixed (node_fault (length ns) g)
  not_placed : AreNodesOfTypes ns → (s : Signature) (g : SignatureFault) → IsSignatureFor f ns (fixed_of fixed) s
      → IsFirstFaultFor for_places s g
      → ((other : Signature) → IsSignatureFor f ns (fixed_of fixed) other → IsFirstFaultFor for_places other g)
      → IsFaultOfNodesIn f ns fixed (signature_fault g)

-- a function of no arguments that gives such a value back
abbrev pub giving : Tree → Signature
giving t = record { result_type = t; arguments = []; fixed = None }

-- WHICH TYPE NODES ARE there: that of the result of the function of no arguments that they declare
abbrev pub AreNodesOfTypeIn : Format → List Node → Tree → Type 0
AreNodesOfTypeIn f ns t = AreNodesIn f ns NOT_VARIADIC (giving t)

-- WHY NODES ARE NO TYPE there: they declare no function, or one of arguments
pub data IsFaultOfTypeIn (f : Format) (ns : List Node) : TextFault → Type 0 where
  no_function : (g : TextFault) → IsFaultOfNodesIn f ns NOT_VARIADIC g → IsFaultOfTypeIn f ns g
  of_arguments : (s : Signature) → AreNodesIn f ns NOT_VARIADIC s → 1 ≤ length s.arguments
      → IsFaultOfTypeIn f ns (fault_of_value 0 NotOneType (length s.arguments + 1))

-- WHY NODES ARE NO TYPE: they are too many, none of types, those of several, or of one that has a fault as a result's; and then no type that can be a result has them
pub data IsFaultOfType (ns : List Node) : TextFault → Type 0 where
  too_many : 2 ^ 32 ≤ length ns → HasNoResultType ns → IsFaultOfType ns (fault_of_value 0 TooManyNodes (length ns))
  no_types : (f : NodeFault) → length ns < 2 ^ 32 → first_node_fault ns ≡ Some f → HasNoResultType ns
      → IsFaultOfType ns (node_fault (length ns) f)
  several : AreNodesOfTypes ns → (ts : List Tree) → AreWritten ts ns → (length ts ≡ 1 → ⊥) → HasNoResultType ns
      → IsFaultOfType ns (fault_of_value 0 NotOneType (length ts))
  no_result : AreNodesOfTypes ns → (t : Tree) (path : List ℕ) (f : Fault) → IsWritten t ns
      → IsFirstFault 0 AsResult t path f → HasNoResultType ns → IsFaultOfType ns (type_fault RESULT_PART f)
