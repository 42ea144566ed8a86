-- No signature of the natives has a fault.
use Rattle.std.proofs.Common.{◌≡◌, All, ℕ, zero, suc, ◌<◌, false, [], ◌∷◌, length, refl, arith}
use Rattle.ffi3_type_spec.specs.Tree.{Scalar, scalar, tree_at, void, s64, pointer}
use Rattle.ffi3_type_spec.specs.Layout.{has_long_double}
use Rattle.ffi3_type_spec.specs.declared.Role.{Role}
use Rattle.ffi3_type_spec.specs.declared.Role.TheVariants.{AsArgument, AsResult}
use Rattle.ffi3_type_spec.specs.Signature.{Signature, SignatureHasNoFault, for_calls}
use Rattle.ffi3_type_spec.proofs.Faults.{scalar_faults, void_faults}
use Rattle.ffi3_type_spec.proofs.Signatures.{IsSuited, right_with_no_fixed}
use Rattle.ffi3_runner_tests.specs.Hostile.{again_signature, drop_signature, nothing_signature}

-- a scalar that is no long double stands anywhere
scalar_suited : {role : Role} (s : Scalar) → has_long_double (scalar s) ≡ false → IsSuited for_calls role (scalar s)
scalar_suited s plain = record { right = scalar_faults s; plain = λ _. plain }

again_arguments : (j : ℕ) → j < length again_signature.arguments → IsSuited for_calls AsArgument (tree_at again_signature.arguments j)
again_arguments zero h = scalar_suited pointer refl
again_arguments (suc zero) h = scalar_suited s64 refl
again_arguments (suc (suc j)) h = absurd (omega arith)

again_is_right : SignatureHasNoFault again_signature
again_is_right =
    right_with_no_fixed again_signature (omega arith) (scalar_suited s64 refl) again_arguments refl

drop_arguments : (j : ℕ) → j < length drop_signature.arguments → IsSuited for_calls AsArgument (tree_at drop_signature.arguments j)
drop_arguments zero h = scalar_suited pointer refl
drop_arguments (suc j) h = absurd (omega arith)

drop_is_right : SignatureHasNoFault drop_signature
drop_is_right =
    right_with_no_fixed drop_signature (omega arith) (scalar_suited s64 refl) drop_arguments refl

void_suited : IsSuited for_calls AsResult void
void_suited = record { right = λ path f fault. let inside = (void_faults path f fault).2 in cc; plain = λ _. refl }

nothing_is_right : SignatureHasNoFault nothing_signature
nothing_is_right =
    right_with_no_fixed nothing_signature (omega arith) void_suited (λ j h. absurd (omega (arith, h))) refl

all_of_one : (s : Signature) → SignatureHasNoFault s → All SignatureHasNoFault (s ∷ [])
all_of_one s right zero d h = right
all_of_one s right (suc i) d h = absurd (omega arith)

pub again_right : All SignatureHasNoFault (again_signature ∷ [])
again_right = all_of_one again_signature again_is_right

pub drop_right : All SignatureHasNoFault (drop_signature ∷ [])
drop_right = all_of_one drop_signature drop_is_right

pub nothing_right : All SignatureHasNoFault (nothing_signature ∷ [])
nothing_right = all_of_one nothing_signature nothing_is_right
