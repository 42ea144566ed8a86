-- A list of boxes that was handed on.
use Rattle.std.proofs.Common.{◌≡◌, ℕ, List}
use Rattle.ffi3_type_spec.specs.Signature.{Signature}
use Rattle.ffi3_place_spec.specs.Standard.{Standard}
use Rattle.ffi3_semantics_spec.specs.Move.{Behaviour}
use Rattle.ffi3_script_spec.specs.Script.{Script}
use Rattle.ffi3_script_spec.specs.Natives.{program_beside}
use Rattle.ffi3_script_spec.specs.Handed.{handed}

-- the program is the same, where the boxes and the script are
pub same_program : {A : Type 0} (std : Standard) (title : A → List ℕ) (meaning : A → Behaviour) (signatures : A → List Signature) (bs cs : List A) (s t : Script) → bs ≡ cs → s ≡ t → program_beside std (handed title meaning signatures bs) s ≡ program_beside std (handed title meaning signatures cs) t
same_program std title meaning signatures bs cs s t same same_script =
    λ i. program_beside std (handed title meaning signatures (same i)) (same_script i)
