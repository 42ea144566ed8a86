-- A script's signatures have no fault.
use Rattle.std.proofs.Common.{◌≡◌, ℕ, ◌<◌, List, true, length, subst, sym}
use Rattle.std.specs.List.{list_all}
use Rattle.ffi3_type_spec.specs.Signature.{Signature, signature_at, SignatureHasNoFault}
use Rattle.ffi3_type_spec.specs.FirstFault.{first_signature_fault}
use Rattle.ffi3_script_spec.specs.Typed.{signature_is_right}
use Rattle.ffi3_script_spec.proofs.RightTypes.{signature_at-right, is_none-none}
use Rattle.ffi3_type_spec.proofs.FirstSignatureFaults.{signature_right_by_none}

pub right_at : (ss : List Signature) (i : ℕ) (s : Signature) → list_all signature_is_right ss ≡ true → i < length ss → s ≡ signature_at ss i → SignatureHasNoFault s
right_at ss i s right below is =
    subst SignatureHasNoFault (sym is) (signature_right_by_none (signature_at ss i) (is_none-none (first_signature_fault (signature_at ss i)) (signature_at-right ss i right below)))
