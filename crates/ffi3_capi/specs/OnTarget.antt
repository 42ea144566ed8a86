-- What is answered for a target by its number: nothing, where no standard has that.
use Rattle.std.specs.Prelude.{◌≡◌, ℕ, None, IsSome, slice_get}
use Rattle.ffi3_capi.specs.declared.codes.TheConstants.{UNKNOWN_TARGET}
use Rattle.ffi3_capi.specs.Placed.{targets}

-- a number, what is written into the caller's struct, and into the caller's array
pub data OnTarget {A B : Type 0} (target : ℕ) (tells : ℕ → A → B → Type 0) (nothing : A) (old : B)
    : ℕ → A → B → Type 0 where
  known : (status : ℕ) (told : A) (new : B) → IsSome (slice_get targets target) → tells status told new
      → OnTarget target tells nothing old status told new
  unknown : slice_get targets target ≡ None → OnTarget target tells nothing old UNKNOWN_TARGET nothing old
