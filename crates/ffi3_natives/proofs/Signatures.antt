-- No signature of the natives has a fault.
use Rattle.std.proofs.Common.{◌≡◌, All, ℕ, zero, suc, ◌<◌, false, length, refl, arith}
use Rattle.ffi3_type_spec.specs.Tree.{Scalar, scalar, tree_at, s64, pointer}
use Rattle.ffi3_type_spec.specs.Layout.{has_long_double}
use Rattle.ffi3_type_spec.specs.declared.Role.{Role}
use Rattle.ffi3_type_spec.specs.declared.Role.TheVariants.{AsArgument}
use Rattle.ffi3_type_spec.specs.Signature.{SignatureHasNoFault, for_calls}
use Rattle.ffi3_type_spec.proofs.Faults.{scalar_faults}
use Rattle.ffi3_type_spec.proofs.Signatures.{IsSuited, right_with_no_fixed}
use Rattle.ffi3_natives.specs.Natives.{number_signature, closure_signature, numbers_signature, calling_signatures, sum3_signatures}

-- a scalar that is no long double stands anywhere
scalar_suited : {role : Role} (s : Scalar) → has_long_double (scalar s) ≡ false → IsSuited for_calls role (scalar s)
scalar_suited s plain = record { right = scalar_faults s; plain = λ _. plain }

number_arguments : (j : ℕ) → j < length number_signature.arguments → IsSuited for_calls AsArgument (tree_at number_signature.arguments j)
number_arguments zero h = scalar_suited s64 refl
number_arguments (suc j) h = absurd (omega arith)

number_right : SignatureHasNoFault number_signature
number_right =
    right_with_no_fixed number_signature (omega arith) (scalar_suited s64 refl) number_arguments refl

closure_arguments : (j : ℕ) → j < length closure_signature.arguments → IsSuited for_calls AsArgument (tree_at closure_signature.arguments j)
closure_arguments zero h = scalar_suited pointer refl
closure_arguments (suc zero) h = scalar_suited s64 refl
closure_arguments (suc (suc j)) h = absurd (omega arith)

closure_right : SignatureHasNoFault closure_signature
closure_right =
    right_with_no_fixed closure_signature (omega arith) (scalar_suited s64 refl) closure_arguments refl

numbers_arguments : (j : ℕ) → j < length numbers_signature.arguments → IsSuited for_calls AsArgument (tree_at numbers_signature.arguments j)
numbers_arguments zero h = scalar_suited s64 refl
numbers_arguments (suc zero) h = scalar_suited s64 refl
numbers_arguments (suc (suc zero)) h = scalar_suited s64 refl
numbers_arguments (suc (suc (suc j))) h = absurd (omega arith)

numbers_right : SignatureHasNoFault numbers_signature
numbers_right =
    right_with_no_fixed numbers_signature (omega arith) (scalar_suited s64 refl) numbers_arguments refl

pub calling_right : All SignatureHasNoFault calling_signatures
calling_right zero d h = closure_right
calling_right (suc zero) d h = number_right
calling_right (suc (suc i)) d h = absurd (omega arith)

pub sum3_right : All SignatureHasNoFault sum3_signatures
sum3_right zero d h = numbers_right
sum3_right (suc i) d h = absurd (omega arith)
