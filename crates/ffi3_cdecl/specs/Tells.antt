-- The outcome of the reading that each Rust fault tells.
use Rattle.std.specs.Prelude.{⊤}
use Rattle.ffi3_types.specs.SignatureFaultOf.{signature_fault_of}
use Rattle.ffi3_cdecl_spec.specs.Reading.{Outcome, bad_token, unexpected, bad_number, bad_signature}
use Rattle.ffi3_cdecl.specs.declared.fault.DeclFault.{DeclFault}
use Rattle.ffi3_cdecl.specs.declared.fault.DeclFault.TheVariants.{BadToken, Unexpected, BadNumber, Sig, NoMemory}

-- The text's outcome is the fault that is told. Memory alone is free.
abbrev pub Tells : (Outcome → Type 0) → DeclFault → Type 0
Tells is (BadToken at) = is (bad_token at)
Tells is (Unexpected at) = is (unexpected at)
Tells is (BadNumber at) = is (bad_number at)
Tells is (Sig f) = is (bad_signature (signature_fault_of f))
Tells is NoMemory = ⊤
