-- The plan of a call by its ends alone, over the whole list of arguments: how an argument is passed, and where, follows from where the integer words and the floating registers of those before it end; and where copies, the buffer and the frame end. (RISC-V ELF psABI, "Integer Calling Convention" and "Hardware Floating-point Calling Convention". Where copies and buffer stand in the frame, and the callee's block, are this library's rules.)
use Rattle.std.specs.Prelude.{◌≡◌, ℕ, ◌+◌, ◌<◌, Bool, true, cond, List, length, Some, slice_get}
use Rattle.std.specs.List.{sum_by}
use Rattle.ffi3_type_spec.specs.Tree.{void, tree_at}
use Rattle.ffi3_type_spec.specs.Layout.{size_of}
use Rattle.ffi3_type_spec.specs.Signature.{Signature}
use Rattle.ffi3_place_spec.specs.declared.Loc.TheVariants.{G}
use Rattle.ffi3_place_spec.specs.declared.Piece.{Piece}
use Rattle.ffi3_place_spec.specs.declared.Place.TheVariants.{Direct, ByRef as ByRefPlace}
use Rattle.ffi3_place_spec.specs.declared.Res.TheVariants.{Nothing, Direct as DirectRes, Hidden}
use Rattle.ffi3_place_spec.specs.declared.Plan.{Plan}
use Rattle.ffi3_place_spec.specs.Sums.{sum_below, end_below}
use Rattle.ffi3_place_spec.specs.Standard.{Spot, in_pieces, plan_of, round8, round16, start}
use Rattle.ffi3_riscv_spec.specs.declared.Shape.{Shape}
use Rattle.ffi3_riscv_spec.specs.declared.TakenWords.{TakenWords}
use Rattle.ffi3_riscv_spec.specs.Riscv.{words_of, floats_of, passed_as, is_fixed, first_word, taken_at_start, spot_of}
use Rattle.ffi3_riscv_spec.specs.Riscv.{word, integer_register, untouched, result_shape, is_by_reference, stack_of}
use Rattle.ffi3_riscv_spec.specs.Riscv.{placing_of, riscv}

-- the result stands in a buffer, whose address is an implicit first argument
abbrev pub is_hidden : Signature → Bool
is_hidden s = is_by_reference (result_shape s.result_type)

-- ---- the arguments before one, by how each is passed

module _ (s : Signature) (passed : ℕ → Shape) where
  -- where the integer words of argument i end, behind those that end at `end`
  abbrev pub words_step : ℕ → ℕ → ℕ
  words_step i end =
      first_word (is_fixed s.fixed i) (tree_at s.arguments i) end + words_of (passed i)

  -- where the integer words of the arguments before number i end, behind that of a hidden result's address
  abbrev pub words_before : ℕ → ℕ
  words_before i = end_below words_step (cond (is_hidden s) 1 0) i

  -- the floating registers of the arguments before number i, which leave no gaps
  abbrev pub floats_before : ℕ → ℕ
  floats_before i = sum_below (λ j. floats_of (passed j)) i

  abbrev pub taken_before : ℕ → TakenWords
  taken_before i = record { words = words_before i; floats = floats_before i }

  -- where argument i begins
  abbrev pub start_of : ℕ → TakenWords
  start_of i = taken_at_start (taken_before i) (is_fixed s.fixed i) (tree_at s.arguments i)

  -- An argument is passed by its shape exactly where it is named and enough registers are left where it begins, and else by the integer convention.
  abbrev pub AreChosenByEnds : Type 0
  AreChosenByEnds =
      (i : ℕ) → i < length s.arguments → passed i ≡ passed_as (start_of i) (is_fixed s.fixed i) (tree_at s.arguments i)

  -- argument i stands behind the end of those before it
  abbrev pub spot_by_ends : ℕ → Spot
  spot_by_ends i = spot_of (start_of i) (tree_at s.arguments i) (passed i)

  -- the stack arguments end where the words of all arguments end
  abbrev pub stack_by_ends : ℕ
  stack_by_ends = stack_of (taken_before (length s.arguments))

  -- where the copy of argument i ends, behind what ends at `end`, if it is passed by reference
  abbrev pub copy_step : ℕ → ℕ → ℕ
  copy_step i end =
      cond (is_by_reference (passed i))
      (start end (tree_at s.arguments i) + round8 (size_of (tree_at s.arguments i))) end

  -- where the copies of the arguments before number i end, behind the stack arguments
  abbrev pub copies_before : ℕ → ℕ
  copies_before i = end_below copy_step (round16 stack_by_ends) i

  -- where the buffer of a hidden result begins behind all copies, and where it ends, if there is one
  abbrev pub buffer_start : ℕ
  buffer_start = start (copies_before (length s.arguments)) s.result_type

  abbrev pub result_end : ℕ
  result_end =
      cond (is_hidden s) (buffer_start + round8 (size_of s.result_type)) (copies_before (length s.arguments))

-- ---- all of a call

module _ (s : Signature) where
  pub record IsByEnds (p : Plan) : Type 0 where
    -- how each argument is passed, by its number
    pub passed : ℕ → Shape
    pub by_ends : AreChosenByEnds s passed
    -- there is a place for each argument
    pub one_each : length p.places ≡ length s.arguments
    -- in floating registers, integer registers and words of the stack: the next ones behind those of the arguments before it
    pub direct : (i : ℕ) → i < length s.arguments → (pieces : List Piece)
        → spot_by_ends s passed i ≡ in_pieces pieces → slice_get p.places i ≡ Some (Direct pieces)
    -- by reference: the address takes the next word, and the copy stands behind those of the arguments before it
    pub copied : (i : ℕ) → i < length s.arguments → is_by_reference (passed i) ≡ true
        → slice_get p.places i
        ≡ Some
        (ByRefPlace (word (start_of s passed i).words) (start (copies_before s passed i) (tree_at s.arguments i)))
    -- a function of type void returns nothing
    pub no_result : s.result_type ≡ void → p.res ≡ Nothing
    -- a result stands where a first named argument of its type would
    pub result_in_registers : ¬ (s.result_type ≡ void) → (pieces : List Piece)
        → spot_of untouched s.result_type (result_shape s.result_type) ≡ in_pieces pieces → p.res ≡ DirectRes pieces
    -- where that would be by reference, it stands in a buffer behind all copies, whose address is in a0
    pub result_in_buffer : is_hidden s ≡ true → p.res ≡ Hidden (G (integer_register 0)) (buffer_start s passed)
    -- the frame ends behind the buffer, or the copies where there is none, at a multiple of 16
    pub frame_end : p.frame ≡ round16 (result_end s passed)
    -- the callee's copy of its arguments, each rounded up to doublewords
    pub block_total : p.block ≡ round16 (sum_by (λ t. round8 (size_of t)) s.arguments)
    -- a call needs the frame, the callee's save area and that copy; the return address is in ra
    pub need_total : p.need ≡ p.frame + riscv.link + riscv.save + p.block
    -- no register tells how many vector registers the arguments use
    pub none_counted : p.vectors ≡ 0

  -- THE ENDS PLACE A CALL: its plan is by the ends, and no other plan is. No other way to pass the arguments meets the ends.
  pub record IsPlacedByEnds : Type 0 where
    pub placed : IsByEnds (plan_of riscv s)
    pub only : (p : Plan) → IsByEnds p → p ≡ plan_of riscv s
    pub only_choice : (other : ℕ → Shape) → AreChosenByEnds s other
        → (i : ℕ) → i < length s.arguments → other i ≡ placed.passed i
    -- what the standard takes as the bytes of the stack arguments is where they end
    pub stack_total : (placing_of s).stack_bytes ≡ stack_by_ends s placed.passed
