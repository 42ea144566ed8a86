-- What a refusal of the readers of declarations and of nodes tells.
use Rattle.std.specs.Prelude.{ℕ, Option, Some, None}
use Rattle.ffi3_types.specs.FaultOf.{fault_of}
use Rattle.ffi3_types.specs.SignatureFaultOf.{signature_fault_of}
use Rattle.ffi3_cdecl_spec.specs.Reading.{bad_token, unexpected, bad_number, bad_signature}
use Rattle.ffi3_cdecl.specs.declared.fault.DeclFault.{DeclFault}
use Rattle.ffi3_cdecl.specs.declared.fault.DeclFault.TheVariants.{BadToken, Unexpected, BadNumber, Sig, NoMemory}
use Rattle.ffi3_capi.specs.declared.fault.TextFault.{TextFault}
use Rattle.ffi3_capi.specs.Faults.{outcome_fault, fault_of_value, type_fault, signature_fault}
use Rattle.ffi3_capi.specs.declared.codes.TheConstants.{RESULT_PART}
use Rattle.ffi3_capi.specs.declared.fault.FaultKind.TheVariants.{TooManyNodes, NotOneType}
use Rattle.ffi3_capi.specs.ByNodes.{node_fault}
use Rattle.ffi3_nodes.specs.Read.{node_fault_of}
use Rattle.ffi3_nodes.specs.declared.signature.Refused.{Refused}
use Rattle.ffi3_nodes.specs.declared.signature.Refused.TheVariants as of_nodes
use Rattle.ffi3_nodes.specs.declared.single.RefusedType.{RefusedType}
use Rattle.ffi3_nodes.specs.declared.single.RefusedType.TheVariants as of_type

abbrev pub told : DeclFault → Option TextFault
told (BadToken at) = outcome_fault (bad_token at)
told (Unexpected at) = outcome_fault (unexpected at)
told (BadNumber at) = outcome_fault (bad_number at)
told (Sig f) = outcome_fault (bad_signature (signature_fault_of f))
told NoMemory = None

-- of so many nodes that are no signature
abbrev pub nodes_told : ℕ → Refused → Option TextFault
nodes_told count of_nodes.TooLong = Some (fault_of_value 0 TooManyNodes count)
nodes_told count (of_nodes.Nodes f) = Some (node_fault count (node_fault_of f))
nodes_told count (of_nodes.Sig f) = Some (signature_fault (signature_fault_of f))
nodes_told count of_nodes.NoMemory = None

-- and of those that are no type
abbrev pub type_told : ℕ → RefusedType → Option TextFault
type_told count of_type.TooLong = Some (fault_of_value 0 TooManyNodes count)
type_told count (of_type.Nodes f) = Some (node_fault count (node_fault_of f))
type_told count (of_type.NotOne n) = Some (fault_of_value 0 NotOneType n)
type_told count (of_type.Fault f) = Some (type_fault RESULT_PART (fault_of f))
type_told count of_type.NoMemory = None
