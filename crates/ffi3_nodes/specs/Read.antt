-- What the reader answers, in the words of the definitions.
use Rattle.std.specs.List.{AllByRecursion}
use Rattle.std.specs.Prelude.{◌≡◌, ℕ, ◌^◌, ◌<◌, ◌≤◌, ⊤, false, List, [], ◌∷◌, Option, Some, None, length, take}
use Rattle.ffi3_type_spec.specs.Signature.{Signature, SignatureHasNoFault, IsFirstSignatureFault, SignatureIsPlaced}
use Rattle.ffi3_type_spec.specs.Signature.{IsFirstFaultFor, for_places}
use Rattle.ffi3_format_spec.specs.declared.Format.{Format}
use Rattle.ffi3_format_spec.specs.Format.{resolved_signature, signature_wants_format}
use Rattle.ffi3_type_spec.specs.declared.limits.TheConstants.{MOST_ARGUMENTS}
use Rattle.ffi3_type_spec.specs.declared.Role.{Role}
use Rattle.ffi3_type_spec.specs.declared.Role.TheVariants.{AsResult}
use Rattle.ffi3_type_spec.specs.Layout.{has_long_double}
use Rattle.ffi3_type_spec.specs.Fault.{HasNoFault, IsArgumentType, IsFirstFault, IsResultType}
use Rattle.ffi3_types.specs.FaultOf.{path_of, fault_of}
use Rattle.ffi3_types.specs.SignatureFaultOf.{signature_fault_of}
use Rattle.ffi3_type_spec.specs.Tree.{Tree}
use Rattle.ffi3_nodes.specs.declared.Node.{Node}
use Rattle.ffi3_nodes.specs.declared.TheConstants.{STRUCT, ARRAY}
use Rattle.ffi3_nodes.specs.declared.scan.NodeFault as code
use Rattle.ffi3_nodes.specs.declared.scan.NodeFault.TheVariants.{Ended, UnknownKind, BadCount, TooDeep}
use Rattle.ffi3_nodes.specs.Faults.{NodeFault, ended, unknown_kind, bad_count, too_deep, first_node_fault}
use Rattle.ffi3_nodes.specs.Nodes.{IsWritten, AreWritten, IsSignatureOf}
use Rattle.ffi3_nodes.specs.declared.signature.Refused.{Refused}
use Rattle.ffi3_nodes.specs.declared.signature.Refused.TheVariants.{TooLong, Nodes, Sig, NoMemory}
use Rattle.ffi3_nodes.specs.declared.single.RefusedType.{RefusedType}
use Rattle.ffi3_nodes.specs.declared.single.RefusedType.TheVariants as of_type

abbrev pub node_fault_of : code.NodeFault → NodeFault
node_fault_of Ended = ended
node_fault_of (UnknownKind at) = unknown_kind at
node_fault_of (BadCount at) = bad_count at
node_fault_of (TooDeep at) = too_deep at

-- they are not too many, and have no fault as nodes of types, so that one of those types is told
abbrev pub AreNodesOfTypes : List Node → Type 0
AreNodesOfTypes ns = (length ns < 2 ^ 32) × (first_node_fault ns ≡ None)

-- WHY NODES ARE NO SIGNATURE THAT CAN BE CALLED: too many, none of a signature, or of one that has this first fault. The first of these that is so is told. Memory alone is free.
abbrev pub IsRefused : List Node → Option ℕ → Refused → Type 0
IsRefused ns fixed TooLong = 2 ^ 32 ≤ length ns
IsRefused ns fixed (Nodes f) = (length ns < 2 ^ 32) × (first_node_fault ns ≡ Some (node_fault_of f))
IsRefused ns fixed (Sig f) =
    AreNodesOfTypes ns × ((s : Signature) × IsSignatureOf ns fixed s × IsFirstSignatureFault s (signature_fault_of f))
IsRefused ns fixed NoMemory = ⊤

-- Each refusal of nodes but that they are too deep says that no signature has them.
abbrev pub IsOfNone : List Node → Refused → Type 0
IsOfNone ns TooLong = ⊤
IsOfNone ns (Nodes Ended) = (fixed : Option ℕ) (s : Signature) → IsSignatureOf ns fixed s → ⊥
IsOfNone ns (Nodes (UnknownKind at)) = (fixed : Option ℕ) (s : Signature) → IsSignatureOf ns fixed s → ⊥
IsOfNone ns (Nodes (BadCount at)) = (fixed : Option ℕ) (s : Signature) → IsSignatureOf ns fixed s → ⊥
IsOfNone ns (Nodes (TooDeep at)) = ⊤
IsOfNone ns (Sig f) = ⊤
IsOfNone ns NoMemory = ⊤

-- Refused nodes are those of no signature that can be called: each that has them has this first fault, or none has them, or each has some fault. Of want of memory nothing is said.
abbrev pub IsUncallable : List Node → Option ℕ → Refused → Type 0
IsUncallable ns fixed TooLong = (s : Signature) → IsSignatureOf ns fixed s → SignatureHasNoFault s → ⊥
IsUncallable ns fixed (Nodes f) = (s : Signature) → IsSignatureOf ns fixed s → SignatureHasNoFault s → ⊥
IsUncallable ns fixed (Sig f) =
    (s : Signature) → IsSignatureOf ns fixed s → IsFirstSignatureFault s (signature_fault_of f)
IsUncallable ns fixed NoMemory = ⊤

-- ---- signatures whose long doubles have a format

-- THE SIGNATURE THAT NODES TELL, where long doubles have this format
pub record IsSignatureFor (format : Format) (ns : List Node) (fixed : Option ℕ) (s : Signature) : Type 0 where
  pub told : Signature
  pub written : IsSignatureOf ns fixed told
  pub by_format : s ≡ resolved_signature format told

-- WHY NODES ARE NO SIGNATURE AT ALL: too many, or none of a signature. Memory alone is free.
abbrev pub IsUnread : List Node → Refused → Type 0
IsUnread ns TooLong = 2 ^ 32 ≤ length ns
IsUnread ns (Nodes f) = (length ns < 2 ^ 32) × (first_node_fault ns ≡ Some (node_fault_of f))
IsUnread ns (Sig f) = ⊥
IsUnread ns NoMemory = ⊤

-- WHY NODES ARE NO SIGNATURE THAT CAN BE PLACED: too many, none of a signature, or of one that has this first fault where long doubles have this format. The first of these that is so is told. Memory alone is free.
abbrev pub IsRefusedFor : Format → List Node → Option ℕ → Refused → Type 0
IsRefusedFor format ns fixed TooLong = IsUnread ns TooLong
IsRefusedFor format ns fixed (Nodes f) = IsUnread ns (Nodes f)
IsRefusedFor format ns fixed (Sig f) =
    AreNodesOfTypes ns
    × ((s : Signature) × IsSignatureFor format ns fixed s × IsFirstFaultFor for_places s (signature_fault_of f))
IsRefusedFor format ns fixed NoMemory = ⊤

-- no signature that can be placed has these nodes
abbrev pub HasNoPlaced : Format → List Node → Option ℕ → Type 0
HasNoPlaced format ns fixed = (s : Signature) → IsSignatureFor format ns fixed s → SignatureIsPlaced s → ⊥

-- Refused nodes are those of no signature that can be placed: none has them, or each that has them has this first fault. Of want of memory nothing is said.
abbrev pub IsUnplaceable : Format → List Node → Option ℕ → Refused → Type 0
IsUnplaceable format ns fixed TooLong = HasNoPlaced format ns fixed
IsUnplaceable format ns fixed (Nodes f) = HasNoPlaced format ns fixed
IsUnplaceable format ns fixed (Sig f) =
    (s : Signature) → IsSignatureFor format ns fixed s → IsFirstFaultFor for_places s (signature_fault_of f)
IsUnplaceable format ns fixed NoMemory = ⊤

-- what the reader's own step says: the signature has this first fault
abbrev pub IsFaultOf : Signature → Refused → Type 0
IsFaultOf s TooLong = ⊥
IsFaultOf s (Nodes f) = ⊥
IsFaultOf s (Sig f) = IsFirstFaultFor for_places s (signature_fault_of f)
IsFaultOf s NoMemory = ⊥

-- no long double is among the nodes, and no complex one
abbrev pub TellNoLongDouble : List Node → Option ℕ → Type 0
TellNoLongDouble ns fixed =
    (s : Signature) → IsSignatureOf ns fixed s → signature_wants_format s ≡ false

-- Where the nodes tell no long double, their signature is the same in all formats, and can be called where it can be placed;
abbrev pub IsCallableWithout : List Node → Option ℕ → Signature → Type 0
IsCallableWithout ns fixed s = TellNoLongDouble ns fixed → IsSignatureOf ns fixed s × SignatureHasNoFault s

-- and they are refused for places where they are refused for calls, and for the same reason.
abbrev pub IsRefusedWithout : List Node → Option ℕ → Refused → Type 0
IsRefusedWithout ns fixed r = TellNoLongDouble ns fixed → IsRefused ns fixed r × IsUncallable ns fixed r

-- the nodes of so many types, and not of one
pub record AreOfOthers (ns : List Node) (count : ℕ) : Type 0 where
  pub types : List Tree
  pub written : AreWritten types ns
  pub counted : count ≡ length types
  pub others : count ≡ 1 → ⊥

-- WHY NODES ARE NO TYPE THAT HAS A LAYOUT: too many, none of any types, those of several, or of one that has this first fault as a result's. The first of these that is so is told. Memory alone is free.
abbrev pub IsRefusedType : List Node → RefusedType → Type 0
IsRefusedType ns of_type.TooLong = 2 ^ 32 ≤ length ns
IsRefusedType ns (of_type.Nodes f) = (length ns < 2 ^ 32) × (first_node_fault ns ≡ Some (node_fault_of f))
IsRefusedType ns (of_type.NotOne count) = AreNodesOfTypes ns × AreOfOthers ns count
IsRefusedType ns (of_type.Fault e) =
    AreNodesOfTypes ns × ((t : Tree) × IsWritten t ns × IsFirstFault 0 AsResult t (path_of e) (fault_of e))
IsRefusedType ns of_type.NoMemory = ⊤

-- no type that can be a result has these nodes
abbrev pub HasNoResultType : List Node → Type 0
HasNoResultType ns = (t : Tree) → IsWritten t ns → IsResultType t → ⊥

-- Such nodes are those of no type that can be a result: none has them, or each that has them has a fault. Of want of memory nothing is said.
abbrev pub IsOfNoResult : List Node → RefusedType → Type 0
IsOfNoResult ns of_type.TooLong = HasNoResultType ns
IsOfNoResult ns (of_type.Nodes f) = HasNoResultType ns
IsOfNoResult ns (of_type.NotOne count) = HasNoResultType ns
IsOfNoResult ns (of_type.Fault e) = HasNoResultType ns
IsOfNoResult ns of_type.NoMemory = ⊤

-- what the reader's own steps know, and no refusal speaks of: a node before these types, in nodes without a fault
pub record Fits (n : Node) (ts : List Tree) : Type 0 where
  pub known : n.kind ≤ ARRAY
  pub plain : n.kind < STRUCT → n.count ≡ 0
  pub elements : n.kind ≡ STRUCT → n.count ≤ length ts
  pub element : n.kind ≡ ARRAY → 1 ≤ length ts

-- and these: a type, the nodes that it is, and that it has no fault in such a role, nor a long double of 16 bytes in it;
pub record IsReadAs (role : Role) (t : Tree) (ns : List Node) : Type 0 where
  pub written : AreWritten (t ∷ []) ns
  pub right : HasNoFault 0 role t
  pub plain : has_long_double t ≡ false

-- the result and so many arguments are read, which the first i nodes are, and none of them has a fault
pub record AreReadSoFar (ret : Tree) (args : List Tree) (ns : List Node) (i : ℕ) : Type 0 where
  pub written : AreWritten (ret ∷ args) (take i ns)
  pub right_result : IsResultType ret
  pub right : AllByRecursion IsArgumentType args
  pub plain_result : has_long_double ret ≡ false
  pub plain : AllByRecursion (λ t. has_long_double t ≡ false) args
  pub few : length args ≤ MOST_ARGUMENTS
