use Rattle.std.proofs.Common.{◌∙◌, ap, subst}
use Rattle.ffi3_type_spec.specs.Signature.{Signature, SignatureIsPlaced, IsFirstFaultFor, for_places}
use Rattle.ffi3_types.specs.SignatureFaultOf.{signature_fault_of}
use Rattle.ffi3_cdecl.specs.PassOf.{outcome_of}
use Rattle.ffi3_cdecl.proofs.Judging.{placed_is_judged, placing_fault_is_judged}
use Rattle.ffi3_cdecl.proofs.read.judged_for.Goals as goal
use Rattle.ffi3_cdecl.proofs.read.judged_for.Goals.{in-Ok, in-Err}

pub returns : goal.returns
returns c =
    elim c.match-check_placed.branch [
      | in-Ok w ↦ let right = subst SignatureIsPlaced c.sig.ensures w.in-Ok.ensures.ok in
          ap outcome_of w.result-is ∙ placed_is_judged c.args.format c.args.d c.in_ok-d.d c.in_ok-d.ensures right
      | in-Err w ↦ let first = subst (λ (s : Signature). IsFirstFaultFor for_places s (signature_fault_of w.in-Err.fault)) c.sig.ensures w.in-Err.ensures.err in
          ap outcome_of w.result-is ∙ placing_fault_is_judged c.args.format c.args.d c.in_ok-d.d (signature_fault_of w.in-Err.fault) c.in_ok-d.ensures first
    ]
