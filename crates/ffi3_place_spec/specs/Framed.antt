-- A plan by its ends alone, over given places of arguments by their numbers: where the copies of arguments by reference, the buffer of a hidden result and the frame end. (Where copies and buffer stand in the frame, and the callee's block, are this library's rules.)
use Rattle.std.specs.Prelude.{◌≡◌, ℕ, ◌+◌, ◌<◌, length, Some, slice_get}
use Rattle.std.specs.List.{sum_by}
use Rattle.ffi3_type_spec.specs.Tree.{tree_at}
use Rattle.ffi3_type_spec.specs.Layout.{size_of}
use Rattle.ffi3_type_spec.specs.Signature.{Signature}
use Rattle.ffi3_place_spec.specs.declared.Plan.{Plan}
use Rattle.ffi3_place_spec.specs.Standard.{Standard, Spot, ResultSpot, place_at, copy_end, result_at, buffer_end}
use Rattle.ffi3_place_spec.specs.Standard.{round8, round16}
use Rattle.ffi3_place_spec.specs.Sums.{end_below}

module _ (std : Standard) (s : Signature) (spot : ℕ → Spot) (stack_bytes : ℕ) where
  -- where the copy of argument i ends, behind what ends at `end`; an argument in pieces has none
  abbrev pub copied_step : ℕ → ℕ → ℕ
  copied_step i end = copy_end std.copy_start end (tree_at s.arguments i) (spot i)

  -- where the copies of the arguments before number i end, behind the stack arguments
  abbrev pub copied_before : ℕ → ℕ
  copied_before i = end_below copied_step (round16 stack_bytes) i

  -- where those of all arguments end
  abbrev pub copied_end : ℕ
  copied_end = copied_before (length s.arguments)

-- THE ENDS FRAME A CALL: there is a place for each argument; that of number i is in its pieces, or by reference with the copy behind those of the arguments before it. The result is nowhere, in its pieces, or in the buffer behind all copies, and the frame ends there. Behind it are the return address, the callee's save area and its copy of all arguments.
pub record IsFramedByEnds (std : Standard) (s : Signature) (spot : ℕ → Spot)
    (result : ResultSpot) (stack_bytes vectors : ℕ) (p : Plan) : Type 0 where
  pub one_each : length p.places ≡ length s.arguments
  pub placed : (i : ℕ) → i < length s.arguments
      → slice_get p.places i
      ≡ Some (place_at std.copy_start (copied_before std s spot stack_bytes i) (tree_at s.arguments i) (spot i))
  pub result_placed : p.res ≡ result_at std.copy_start (copied_end std s spot stack_bytes) s.result_type result
  pub frame_end :
      p.frame ≡ round16 (buffer_end std.copy_start (copied_end std s spot stack_bytes) s.result_type result)
  pub block_total : p.block ≡ round16 (sum_by (λ t. round8 (size_of t)) s.arguments)
  pub need_total : p.need ≡ p.frame + std.link + std.save + p.block
  pub counted : p.vectors ≡ vectors
