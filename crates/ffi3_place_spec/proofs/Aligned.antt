-- A frame and all the stack that a call takes are multiples of 16.
use Rattle.std.proofs.Common.{◌≡◌, ℕ, ◌+◌, ◌%◌, arith}
use Rattle.ffi3_type_spec.specs.Layout.{least_multiple}
use Rattle.ffi3_type_spec.specs.Signature.{Signature}
use Rattle.ffi3_place_spec.specs.Standard.{Standard, frame_of, need_of, block_bytes, round16}

pub rounded : (n : ℕ) → round16 n % 16 ≡ 0
unfolding least_multiple
rounded n = omega arith

pub frame_is_aligned : (std : Standard) (s : Signature) → frame_of std s % 16 ≡ 0
frame_is_aligned std s = rounded _

pub block_is_aligned : (s : Signature) → block_bytes s % 16 ≡ 0
block_is_aligned s = rounded _

sum_aligned : (f l s b : ℕ) → f % 16 ≡ 0 → (l + s) % 16 ≡ 0 → b % 16 ≡ 0 → (f + l + s + b) % 16 ≡ 0
sum_aligned f l s b hf hl hb = omega (arith, hf, hl, hb)

pub need_is_aligned : (std : Standard) (s : Signature) → (std.link + std.save) % 16 ≡ 0 → need_of std s % 16 ≡ 0
need_is_aligned std s h =
    sum_aligned (frame_of std s) std.link std.save (block_bytes s) (frame_is_aligned std s) h (block_is_aligned s)
