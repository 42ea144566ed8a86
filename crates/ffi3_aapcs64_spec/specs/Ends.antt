-- The plan of a call by its ends alone, over the whole list of arguments: where an argument stands follows from where the registers and the stack of those before it end; and where copies, the buffer and the frame end. (Arm AAPCS64, IHI 0055, "Parameter passing rules", stages B and C, and "Result return". Where copies and buffer stand in the frame, and the callee's block, are this library's rules.)
use Rattle.std.specs.Prelude.{◌≡◌, ℕ, ◌+◌, ◌<◌, ◌≤◌, Bool, true, false, cond, nat_le, length, Some, slice_get}
use Rattle.std.specs.List.{sum_by}
use Rattle.ffi3_type_spec.specs.Tree.{Tree, void, tree_at}
use Rattle.ffi3_type_spec.specs.Layout.{size_of}
use Rattle.ffi3_type_spec.specs.Signature.{Signature}
use Rattle.ffi3_place_spec.specs.declared.Loc.TheVariants.{G, S}
use Rattle.ffi3_place_spec.specs.declared.Place.TheVariants.{Direct, ByRef}
use Rattle.ffi3_place_spec.specs.declared.Res.TheVariants.{Nothing, Direct as DirectRes, Hidden}
use Rattle.ffi3_place_spec.specs.declared.Plan.{Plan}
use Rattle.ffi3_place_spec.specs.Sums.{sum_below, end_below}
use Rattle.ffi3_place_spec.specs.Doublewords.{stack_pieces}
use Rattle.ffi3_place_spec.specs.Standard.{plan_of, round8, round16, start}
use Rattle.ffi3_aapcs64_spec.specs.Aapcs64.{aapcs64, in_vectors, is_copied, passed, registers_needed, stack_size}
use Rattle.ffi3_aapcs64_spec.specs.Aapcs64.{first_general, stack_start, register_pieces, placing_of}

-- ---- the arguments before one

-- the vector registers that an argument needs
abbrev pub vectors : Tree → ℕ
vectors t = cond (in_vectors t) (registers_needed t) 0

module _ (s : Signature) where
  -- where argument i's general registers begin and end, behind those that end at `end`
  abbrev pub general_start : ℕ → ℕ → ℕ
  general_start i end = first_general end (passed (tree_at s.arguments i))

  abbrev pub general_step : ℕ → ℕ → ℕ
  general_step i end =
      cond (in_vectors (tree_at s.arguments i)) end (general_start i end + registers_needed (tree_at s.arguments i))

  -- where the general registers of the arguments before number i end
  abbrev pub general_before : ℕ → ℕ
  general_before i = end_below general_step 0 i

  -- the vector registers that the arguments before number i need, which leave no gaps
  abbrev pub vector_before : ℕ → ℕ
  vector_before i = sum_below (λ j. vectors (tree_at s.arguments j)) i

  -- the first register of argument i's kind behind those that the arguments before it need
  abbrev pub first_of : ℕ → ℕ
  first_of i =
      cond (in_vectors (tree_at s.arguments i)) (vector_before i) (general_start i (general_before i))

  -- argument i is in registers: from there on, its own end at 8 or before
  abbrev pub is_in_registers : ℕ → Bool
  is_in_registers i = nat_le (first_of i + registers_needed (tree_at s.arguments i)) 8

  -- where argument i begins on the stack, behind what ends at `end`, and where it ends, if it is not in registers
  abbrev pub stack_at : ℕ → ℕ → ℕ
  stack_at i end = stack_start end (passed (tree_at s.arguments i))

  abbrev pub stack_step : ℕ → ℕ → ℕ
  stack_step i end =
      cond (is_in_registers i) end (stack_at i end + stack_size (tree_at s.arguments i))

  -- where the arguments before number i that are not in registers end on the stack
  abbrev pub stack_before : ℕ → ℕ
  stack_before i = end_below stack_step 0 i

  -- where the copy of argument i ends, behind what ends at `end`, if it is copied
  abbrev pub copy_step : ℕ → ℕ → ℕ
  copy_step i end =
      cond (is_copied (tree_at s.arguments i))
      (start end (tree_at s.arguments i) + round8 (size_of (tree_at s.arguments i))) end

  -- where the copies of the arguments before number i end, behind the stack arguments
  abbrev pub copies_before : ℕ → ℕ
  copies_before i = end_below copy_step (round16 (stack_before (length s.arguments))) i

  -- where the copy of argument i begins
  abbrev pub copy_at : ℕ → ℕ
  copy_at i = start (copies_before i) (tree_at s.arguments i)

  -- where the buffer of a hidden result begins behind all copies, and where it ends, if there is one
  abbrev pub buffer_start : ℕ
  buffer_start = start (copies_before (length s.arguments)) s.result_type

  abbrev pub result_end : ℕ
  result_end =
      cond (is_copied s.result_type) (buffer_start + round8 (size_of s.result_type))
      (copies_before (length s.arguments))

  -- once an argument does not fit, no later one of its kind is in registers (C.3, C.13)
  abbrev pub NoneFitsLater : Type 0
  NoneFitsLater =
      (i j : ℕ)
      → i ≤ j → j < length s.arguments → in_vectors (tree_at s.arguments i) ≡ in_vectors (tree_at s.arguments j)
      → is_in_registers i ≡ false
      → is_in_registers j ≡ false

-- ---- all of a call

module _ (s : Signature) where
  pub record IsByEnds (p : Plan) : Type 0 where
    -- there is a place for each argument
    pub one_each : length p.places ≡ length s.arguments
    -- in registers, behind those of the arguments before it, where they suffice for all of it (C.1, C.2, C.9, C.11, C.12)
    pub register_places : (i : ℕ) → i < length s.arguments → is_copied (tree_at s.arguments i) ≡ false
        → is_in_registers s i ≡ true
        → slice_get p.places i ≡ Some (Direct (register_pieces (first_of s i) (tree_at s.arguments i)))
    -- and else on the stack, behind the end of the arguments on the stack before it (C.4, C.6, C.14, C.17)
    pub stack_places : (i : ℕ) → i < length s.arguments → is_copied (tree_at s.arguments i) ≡ false
        → is_in_registers s i ≡ false
        → slice_get p.places i
        ≡ Some (Direct (stack_pieces (stack_at s i (stack_before s i)) (tree_at s.arguments i)))
    -- what is copied has the address of its copy in a register or on the stack, where a pointer would stand (B.4), and the copy stands behind those of the arguments before it
    pub copies_by_register : (i : ℕ) → i < length s.arguments → is_copied (tree_at s.arguments i) ≡ true
        → is_in_registers s i ≡ true
        → slice_get p.places i ≡ Some (ByRef (G (first_of s i)) (copy_at s i))
    pub copies_by_stack : (i : ℕ) → i < length s.arguments → is_copied (tree_at s.arguments i) ≡ true
        → is_in_registers s i ≡ false
        → slice_get p.places i ≡ Some (ByRef (S (stack_at s i (stack_before s i)) 8) (copy_at s i))
    -- a function of type void returns nothing
    pub no_result : s.result_type ≡ void → p.res ≡ Nothing
    -- a result stands where a first argument of its type would: in registers, from number 0 on (Result return)
    pub result_in_registers : ¬ (s.result_type ≡ void) → is_copied s.result_type ≡ false
        → p.res ≡ DirectRes (register_pieces 0 s.result_type)
    -- where that would be copied, it stands in a buffer behind all copies, whose address is in x8 (Result return)
    pub result_in_buffer : is_copied s.result_type ≡ true → p.res ≡ Hidden (G 8) (buffer_start s)
    -- the frame ends behind the buffer, or the copies where there is none, at a multiple of 16 ("The Stack")
    pub frame_end : p.frame ≡ round16 (result_end s)
    -- the callee's copy of its arguments, each rounded up to doublewords
    pub block_total : p.block ≡ round16 (sum_by (λ t. round8 (size_of t)) s.arguments)
    -- a call needs the frame, the callee's save area and that copy; the return address is in x30
    pub need_total : p.need ≡ p.frame + aapcs64.link + aapcs64.save + p.block
    -- no register tells how many vector registers the arguments use
    pub none_counted : p.vectors ≡ 0

  -- THE ENDS PLACE A CALL: its plan is by the ends, and no other plan is.
  pub record IsPlacedByEnds : Type 0 where
    pub placed : IsByEnds (plan_of aapcs64 s)
    pub only : (p : Plan) → IsByEnds p → p ≡ plan_of aapcs64 s
    pub none_fits_later : NoneFitsLater s
    -- what the standard takes as the bytes of the stack arguments is where they end
    pub stack_total : (placing_of s).stack_bytes ≡ stack_before s (length s.arguments)
