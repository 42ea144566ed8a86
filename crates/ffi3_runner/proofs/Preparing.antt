-- A run is prepared, once there is an interface for each of its signatures.
use Rattle.std.proofs.Common.{◌≡◌, ℕ, ◌^◌, ◌<◌, ◌≤◌, List, length, map, sym, subst}
use Rattle.std.proofs.lemmas.List.{length-map}
use Rattle.ffi3_type_spec.specs.Signature.{Signature}
use Rattle.ffi3_place_spec.specs.Standard.{Standard}
use Rattle.ffi3_script_spec.specs.Natives.{NamedNative}
use Rattle.ffi3_script.specs.ScriptOf.{natives_of}
use Rattle.ffi3_script.specs.declared.script.Script.{Script}
use Rattle.ffi3_script_spec.specs.Handed.{signatures_in}
use Rattle.ffi3_runner.specs.Running.{IsPrepared, program}

pub mapped_length : {A B : Type 0} (f : A → B) (xs : List A) → length xs ≡ length (map f xs)
mapped_length f xs = sym (length-map xs f)

pub is_prepared : (std : Standard) (s : Script) (natives : List NamedNative) (n : ℕ) (cifs : List Signature) → n ≡ length natives → natives_of s ≤ n → n < 2 ^ 31 → length (signatures_in natives) < 2 ^ 31 → cifs ≡ (program std s natives).signatures → IsPrepared std s natives cifs
is_prepared std s natives n cifs count beside few few_signatures are =
    record {
      are = are;
      beside = subst (λ (k : ℕ). natives_of s ≤ k) count beside;
      few_natives = subst (λ (k : ℕ). k < 2 ^ 31) count few;
      few_signatures = few_signatures;
    }
