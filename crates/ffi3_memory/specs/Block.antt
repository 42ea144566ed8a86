-- What the owner of a block of raw memory has beside the bytes in it. t is the allocator's right to free a block.
use Rattle.std.specs.Prelude.{◌≡◌, ℕ, ◌^◌, ◌<◌}
use mir.Syntax.{Ty, w8, ty_int, ty_array}
use base.Fml.{Fml}
use denote.RawPtr.{Ptr, block_ptr, block_of, count_of}

-- a block has bytes, and fewer than 2 ^ 63
abbrev pub IsBlockSize : ℕ → Type 0
IsBlockSize n = (0 < n) × (n < 2 ^ 63)

-- p points into a block
abbrev pub IsPlaced : Ptr → Type 0
IsPlaced p = p ≡ block_ptr (block_of p) (count_of p)

-- the type that a block of n bytes is for
abbrev pub bytes_type : ℕ → Ty
bytes_type n = ty_array (ty_int w8) n

-- the right to free the block of n bytes at p
abbrev pub block_owns : (Ty → Ptr → Fml) → Ptr → ℕ → Fml
block_owns t p n = t (bytes_type n) p
