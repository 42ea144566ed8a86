-- The plan of a call by its ends alone, over the whole list of arguments: registers by sums, the stack, the buffer and the frame by where the arguments before each end. (System V psABI AMD64 3.2.3, "Passing" and "Returning of Values". That the buffer stands behind the stack arguments, and the callee's block, are this library's rules.)
use Rattle.std.specs.Prelude.{◌≡◌, ℕ, ◌+◌, ◌<◌, Bool, true, false, cond, [], length, Some, slice_get}
use Rattle.std.specs.List.{sum_by}
use Rattle.ffi3_type_spec.specs.Tree.{void, tree_at}
use Rattle.ffi3_type_spec.specs.Layout.{size_of}
use Rattle.ffi3_type_spec.specs.Signature.{Signature}
use Rattle.ffi3_place_spec.specs.declared.Loc.TheVariants.{G}
use Rattle.ffi3_place_spec.specs.declared.Place.TheVariants.{Direct}
use Rattle.ffi3_place_spec.specs.declared.Res.TheVariants.{Nothing, Direct as DirectRes, Hidden}
use Rattle.ffi3_place_spec.specs.declared.Plan.{Plan}
use Rattle.ffi3_place_spec.specs.declared.Taken.{Taken}
use Rattle.ffi3_place_spec.specs.Sums.{sum_below, end_below}
use Rattle.ffi3_place_spec.specs.Doublewords.{stack_pieces}
use Rattle.ffi3_place_spec.specs.Standard.{plan_of, round8, round16, start}
use Rattle.ffi3_amd64_spec.specs.Amd64.{amd64, integers, sses, is_class_memory, in_registers, stack_start, stack_end}
use Rattle.ffi3_amd64_spec.specs.Amd64.{classes, register_pieces, general_argument, result_pieces, placing_of}

-- the sum of the terms below n that are chosen
abbrev pub sum_where : (ℕ → Bool) → (ℕ → ℕ) → ℕ → ℕ
sum_where chosen term n = sum_below (λ j. cond (chosen j) (term j) 0) n

-- ---- the arguments before one

module _ (s : Signature) (chosen : ℕ → Bool) where
  -- the INTEGER eightbytes of the arguments in registers before number i, and a hidden result's address
  abbrev pub general_before : ℕ → ℕ
  general_before i =
      cond (is_class_memory s.result_type) 1 0 + sum_where chosen (λ j. integers (tree_at s.arguments j)) i

  -- the SSE eightbytes of the arguments in registers before number i
  abbrev pub vector_before : ℕ → ℕ
  vector_before i = sum_where chosen (λ j. sses (tree_at s.arguments j)) i

  -- where argument i ends on the stack, behind what ends at `end`, if it is not in registers
  abbrev pub stack_step : ℕ → ℕ → ℕ
  stack_step i end = cond (chosen i) end (stack_end end (tree_at s.arguments i))

  -- where the arguments before number i that are not in registers end on the stack
  abbrev pub stack_before : ℕ → ℕ
  stack_before i = end_below stack_step 0 i

  abbrev pub taken_before : ℕ → Taken
  taken_before i =
      record { general = general_before i; vector = vector_before i; stack = stack_before i }

  -- an argument is in registers exactly where the sums leave enough for all its eightbytes
  abbrev pub AreChosenBySums : Type 0
  AreChosenBySums =
      (i : ℕ) → i < length s.arguments → chosen i ≡ in_registers (taken_before i) (tree_at s.arguments i)

  -- where the stack arguments end, at a multiple of 16; no argument has a copy
  abbrev pub arguments_end : ℕ
  arguments_end = round16 (stack_before (length s.arguments))

  -- where the buffer of a result in memory begins behind them, and where it ends, if there is one
  abbrev pub buffer_start : ℕ
  buffer_start = start arguments_end s.result_type

  abbrev pub result_end : ℕ
  result_end =
      cond (is_class_memory s.result_type) (buffer_start + round8 (size_of s.result_type)) arguments_end

-- ---- all of a call

module _ (s : Signature) where
  pub record IsByEnds (p : Plan) : Type 0 where
    -- which arguments are in registers: those for which the arguments before them leave enough (Passing)
    pub chosen : ℕ → Bool
    pub by_sums : AreChosenBySums s chosen
    -- there is a place for each argument
    pub one_each : length p.places ≡ length s.arguments
    -- in registers: behind those of the arguments in registers before it, the next of its class for each eightbyte (Passing, steps 2 and 3)
    pub register_places : (i : ℕ) → i < length s.arguments → chosen i ≡ true
        → slice_get p.places i
        ≡ Some
        (Direct
        (register_pieces general_argument (general_before s chosen i) (vector_before s chosen i)
        (tree_at s.arguments i) [] (classes (tree_at s.arguments i))))
    -- on the stack: behind the end of the arguments on the stack before it (Passing, step 1)
    pub stack_places : (i : ℕ) → i < length s.arguments → chosen i ≡ false
        → slice_get p.places i
        ≡ Some
        (Direct
        (stack_pieces (stack_start (stack_before s chosen i) (tree_at s.arguments i)) (tree_at s.arguments i)))
    -- a function of type void returns nothing
    pub no_result : s.result_type ≡ void → p.res ≡ Nothing
    -- a result in registers: rax and rdx for INTEGER, xmm0 and xmm1 for SSE, st(0) and st(1) for X87 and COMPLEX_X87 (Returning of Values, steps 3, 4 and 6 to 8)
    pub result_in_registers : ¬ (s.result_type ≡ void) → is_class_memory s.result_type ≡ false
        → p.res ≡ DirectRes (result_pieces s.result_type)
    -- a result in memory: its buffer behind the stack arguments, whose address is passed in rdi (Returning of Values, step 2)
    pub result_in_memory : is_class_memory s.result_type ≡ true
        → p.res ≡ Hidden (G (general_argument 0)) (buffer_start s chosen)
    -- the frame ends behind the buffer, or the stack arguments where there is none, at a multiple of 16 (3.2.2)
    pub frame_end : p.frame ≡ round16 (result_end s chosen)
    -- the callee's copy of its arguments, each rounded up to eightbytes
    pub block_total : p.block ≡ round16 (sum_by (λ t. round8 (size_of t)) s.arguments)
    -- a call needs the frame, the return address, the callee's save area and that copy
    pub need_total : p.need ≡ p.frame + amd64.link + amd64.save + p.block
    -- al tells the vector registers of all arguments (3.2.3)
    pub counted : p.vectors ≡ vector_before s chosen (length s.arguments)

  -- SUMS AND ENDS PLACE A CALL: its plan is by sums and ends, and no other plan is. No other choice of arguments in registers agrees with the sums.
  pub record IsPlacedByEnds : Type 0 where
    pub placed : IsByEnds (plan_of amd64 s)
    pub only : (p : Plan) → IsByEnds p → p ≡ plan_of amd64 s
    pub only_choice : (other : ℕ → Bool) → AreChosenBySums s other
        → (i : ℕ) → i < length s.arguments → other i ≡ placed.chosen i
    -- what the standard takes as the bytes of the stack arguments is where they end
    pub stack_total : (placing_of s).stack_bytes ≡ stack_before s placed.chosen (length s.arguments)
