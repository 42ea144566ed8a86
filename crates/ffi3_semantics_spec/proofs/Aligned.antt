-- Where the top of the stack is a multiple of 16, so is the caller's stack pointer at each entry.
use Rattle.std.proofs.Common.{◌≡◌, ℕ, ◌+◌, ◌%◌, List, [], ◌∷◌, refl, arith}
use Rattle.ffi3_type_spec.specs.Signature.{Signature}
use Rattle.ffi3_place_spec.specs.Standard.{Standard, frame_of}
use Rattle.ffi3_place_spec.proofs.Aligned.{frame_is_aligned, need_is_aligned}
use Rattle.ffi3_semantics_spec.specs.Journal.{Entered, needs}

module _ (std : Standard) (saved : (std.link + std.save) % 16 ≡ 0) where
  pub needs_are_aligned : (outer : List Entered) → needs std outer % 16 ≡ 0
  needs_are_aligned [] = refl
  needs_are_aligned (e ∷ outer) =
      let here = need_is_aligned std e.signature saved in
      let rest = needs_are_aligned outer in
      omega (arith, here, rest)

  pub entry_is_aligned : (s : Signature) (outer : List Entered) (sp top : ℕ) → sp + (std.link + frame_of std s + needs std outer) ≡ top → top % 16 ≡ 0 → (sp + std.link) % 16 ≡ 0
  entry_is_aligned s outer sp top below aligned =
      let frame = frame_is_aligned std s in
      let rest = needs_are_aligned outer in
      omega (arith, frame, rest, below, aligned)
