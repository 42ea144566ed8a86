-- The plan of a call in closed form: where an argument stands follows from its number and its type, and where copies and buffer begin and the frame ends from sums over the whole list; nothing goes from one argument to the next. (Microsoft, "x64 calling convention", "Parameter passing". The order of copies and buffer in the frame is this library's.)
use Rattle.std.specs.Prelude.{◌≡◌, ℕ, ◌+◌, ◌<◌, true, false, cond, [], ◌∷◌, length, Some, slice_get, is_some}
use Rattle.ffi3_type_spec.specs.Tree.{void, tree_at}
use Rattle.ffi3_type_spec.specs.Layout.{size_of}
use Rattle.ffi3_type_spec.specs.Signature.{Signature}
use Rattle.ffi3_place_spec.specs.declared.Place.{Place}
use Rattle.ffi3_place_spec.specs.declared.Place.TheVariants.{Direct, ByRef}
use Rattle.ffi3_place_spec.specs.declared.Res.TheVariants.{Nothing, Direct as DirectRes, Hidden}
use Rattle.ffi3_place_spec.specs.declared.Plan.{Plan}
use Rattle.ffi3_place_spec.specs.Sums.{sum_below}
use Rattle.ffi3_place_spec.specs.Standard.{plan_of, block_bytes, round16}
use Rattle.ffi3_win64_spec.specs.Win64.{win64, is_copied, position_place, argument_pieces, whole, result_place}
use Rattle.ffi3_win64_spec.specs.Win64.{first_position, stack_of}

module _ (s : Signature) where
  abbrev pub position : ℕ → ℕ
  position i = first_position s.result_type + i

  -- what the copy of argument i takes
  abbrev pub copy_bytes : ℕ → ℕ
  copy_bytes i =
      cond (is_copied (tree_at s.arguments i)) (round16 (size_of (tree_at s.arguments i))) 0

  -- the offset behind the stack of all positions and the copies of the arguments before number i
  abbrev pub copies_before : ℕ → ℕ
  copies_before i = round16 (stack_of (position (length s.arguments))) + sum_below copy_bytes i

  abbrev pub buffer_bytes : ℕ
  buffer_bytes = cond (is_copied s.result_type) (round16 (size_of s.result_type)) 0

  abbrev pub place_by_position : ℕ → Place
  place_by_position i =
      cond {A = Place} (is_copied (tree_at s.arguments i))
      (ByRef (position_place (position i)) (copies_before i))
      (Direct (argument_pieces (is_some s.fixed) (position i) (tree_at s.arguments i)))

  pub record IsByPosition (p : Plan) : Type 0 where
    pub one_each : length p.places ≡ length s.arguments
    pub placed : (i : ℕ) → i < length s.arguments → slice_get p.places i ≡ Some (place_by_position i)
    pub no_result : s.result_type ≡ void → p.res ≡ Nothing
    pub in_register : ¬ (s.result_type ≡ void) → is_copied s.result_type ≡ false
        → p.res ≡ DirectRes (whole (result_place s.result_type) s.result_type ∷ [])
    pub hidden : is_copied s.result_type ≡ true → p.res ≡ Hidden (position_place 0) (copies_before (length s.arguments))
    pub frame_end : p.frame ≡ copies_before (length s.arguments) + buffer_bytes
    pub block_total : p.block ≡ block_bytes s
    pub need_total : p.need ≡ p.frame + win64.link + win64.save + p.block
    pub none_counted : p.vectors ≡ 0

-- POSITIONS PLACE A CALL: its plan is by position, and no other plan is.
pub record IsPlacedByPosition (s : Signature) : Type 0 where
  pub placed : IsByPosition s (plan_of win64 s)
  pub only : (p : Plan) → IsByPosition s p → p ≡ plan_of win64 s
