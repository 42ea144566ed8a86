-- Why a call interface is not prepared.
use Rattle.ffi3_type_spec.specs.Signature.{Signature, SignatureHasNoFault, IsFirstSignatureFault}
use Rattle.ffi3_types.specs.SignatureFaultOf.{signature_fault_of}
use Rattle.ffi3_cif.specs.declared.PrepFault.{PrepFault}
use Rattle.ffi3_cif.specs.declared.PrepFault.TheVariants.{Sig, NoMemory}

-- the signature's first fault; want of memory only where it has none
abbrev pub IsPrepRefusal : Signature → PrepFault → Type 0
IsPrepRefusal s (Sig fault) = IsFirstSignatureFault s (signature_fault_of fault)
IsPrepRefusal s NoMemory = SignatureHasNoFault s
