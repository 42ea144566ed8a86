-- What `format_laws` says of resolved signatures.
use Rattle.std.specs.Prelude.{◌≡◌, false}
use Rattle.ffi3_type_spec.specs.Signature.{Signature, SignatureFault, SignatureHasNoFault, SignatureIsPlaced}
use Rattle.ffi3_type_spec.specs.Signature.{HasNoLongDouble, IsFirstFaultFor, IsFirstSignatureFault, for_places}
use Rattle.ffi3_format_spec.specs.declared.Format.{Format}
use Rattle.ffi3_format_spec.specs.declared.Format.TheVariants.{Double}
use Rattle.ffi3_format_spec.specs.Format.{resolved_signature, signature_wants_format}

pub record FormatLaws : Type 0 where
  -- a signature without long doubles and complex ones of no format is its own resolution
  pub own : (f : Format) (s : Signature) → signature_wants_format s ≡ false → resolved_signature f s ≡ s
  -- what is resolved wants no format, and so resolving twice changes nothing
  pub settled : (f : Format) (s : Signature) → signature_wants_format (resolved_signature f s) ≡ false
  pub twice : (f g : Format) (s : Signature) → resolved_signature g (resolved_signature f s) ≡ resolved_signature f s
  -- what can be called is its own resolution
  pub callable : (f : Format) (s : Signature) → SignatureHasNoFault s → resolved_signature f s ≡ s
  -- where a long double is a double, none of 16 bytes comes in, and so what can be placed can be called
  pub plain : (s : Signature) → HasNoLongDouble s → HasNoLongDouble (resolved_signature Double s)
  pub narrow : (s : Signature)
      → HasNoLongDouble s → SignatureIsPlaced (resolved_signature Double s)
      → SignatureHasNoFault (resolved_signature Double s)
  -- a signature without long doubles of 16 bytes has the same first fault for places as for calls
  pub same_first : (s : Signature) → HasNoLongDouble s → (f : SignatureFault) → IsFirstFaultFor for_places s f
      → IsFirstSignatureFault s f
