-- The fault of a signature that a Rust error tells.
use Rattle.ffi3_type_spec.specs.Signature.{Position, at_result, at_argument, SignatureFault, too_many, bad_type}
use Rattle.ffi3_type_spec.specs.Signature.{bad_fixed, bad_argument_type}
use Rattle.ffi3_types.specs.FaultOf.{path_of, fault_of}
use Rattle.ffi3_types.specs.declared.sig.At.{At}
use Rattle.ffi3_types.specs.declared.sig.At.TheVariants.{Ret, Arg}
use Rattle.ffi3_types.specs.declared.sig.SigFault.{SigFault}
use Rattle.ffi3_types.specs.declared.sig.SigFault.TheVariants.{TooMany, BadType, BadFixed, BadArgType}

abbrev pub position_of : At → Position
position_of Ret = at_result
position_of (Arg i) = at_argument i

abbrev pub signature_fault_of : SigFault → SignatureFault
signature_fault_of (TooMany n) = too_many n
signature_fault_of (BadType at fault) = bad_type (position_of at) (path_of fault) (fault_of fault)
signature_fault_of (BadFixed fixed n) = bad_fixed fixed n
signature_fault_of (BadArgType i) = bad_argument_type i
