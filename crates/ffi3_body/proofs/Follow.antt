-- For callers: results follow as they come.
use Rattle.std.proofs.Common.{◌≡◌, ℕ, List, [], ◌∷◌, ◌++◌, length, refl, inl, inr, arith, length-append}
use Rattle.std.proofs.lemmas.Bool.{cases_lt}
use Rattle.std.proofs.lemmas.List.{get_or_append_left, take-append-le}
use Rattle.std.proofs.Math.Seq.{take-append_seam}
use Rattle.ffi3_type_spec.specs.Signature.{Signature}
use Rattle.ffi3_type_spec.specs.Value.{ValueTree, void_value}
use Rattle.ffi3_type_spec.proofs.Values.{get_or-append_at}
use Rattle.ffi3_semantics_spec.specs.Move.{Behaviour, result_type_of}
use Rattle.ffi3_semantics_spec.specs.Follow.{IsOfType, ResultsFollow}

module _ (signatures : List Signature) (behaviour : Behaviour) (arguments : List ValueTree) (user : ℕ) where
  pub none_follow : ResultsFollow signatures behaviour arguments user []
  none_follow i below = absurd (omega arith)

  -- one more result, of the type of the move that those before it give
  pub one_more_follows : (results : List ValueTree) (r : ValueTree) → ResultsFollow signatures behaviour arguments user results → IsOfType r (result_type_of signatures (behaviour arguments user results)) → ResultsFollow signatures behaviour arguments user (results ++ r ∷ [])
  one_more_follows results r before last i below =
      elim (cases_lt i (length results)) [
        | inl earlier ↦
            rw (get_or_append_left results (r ∷ []) void_value i earlier, take-append-le i results (r ∷ []) (omega arith)) (before i earlier)
        | inr here ↦
            let same : i ≡ length results = omega (arith, length-append results (r ∷ [])) in
            rw (same, get_or-append_at results r (length results) void_value refl, take-append_seam results (r ∷ [])) last
      ]
