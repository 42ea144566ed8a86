-- NO CALL OF THE MADE SIGNATURES NEEDS MORE THAN A QUARTER OF THE STACK, by each of the three standards.
use Rattle.std.proofs.Common.{◌≡◌, ℕ, zero, suc, ◌+◌, ◌*◌, ◌<◌, ◌≤◌, Bool, true, false, cond, List, [], ◌∷◌, ◌++◌, length, refl, ap, arith, lit≤}
use Rattle.std.specs.Prelude.{◌&&◌, ⊤, Option, None}
use Rattle.std.specs.List.{sum_by}
use Rattle.std.proofs.lemmas.List.{length-append}
use Rattle.std.proofs.lemmas.List.Sums.{sum_by-cons}
use Rattle.ffi3_type_spec.specs.declared.limits.TheConstants.{LARGEST_GAP}
use Rattle.ffi3_type_spec.specs.Tree.{Tree, scalar, u64, pointer}
use Rattle.ffi3_type_spec.specs.Layout.{size_of, least_multiple}
use Rattle.ffi3_type_spec.specs.Signature.{Signature}
use Rattle.ffi3_type_spec.proofs.Layouts.{least_multiple-below}
use Rattle.ffi3_place_spec.specs.declared.Taken.{Taken}
use Rattle.ffi3_place_spec.specs.Standard.{Standard, Spot, in_pieces, by_reference, ResultSpot, no_result, in_result_pieces, in_buffer, round8, copies_end, buffer_end, copies_start, frame_copies_end, need_of}
use Rattle.ffi3_place_spec.proofs.Ends.{start-near, even-near}
use Rattle.ffi3_amd64_spec.specs.Amd64 as amd
use Rattle.ffi3_aapcs64_spec.specs.Aapcs64 as arm
use Rattle.ffi3_riscv_spec.specs.declared.Shape.{Shape}
use Rattle.ffi3_riscv_spec.specs.declared.TakenWords.{TakenWords}
use Rattle.ffi3_riscv_spec.specs.Riscv as risc
use Rattle.ffi3_script_spec.specs.Made.{next_state, drawn, made_type, drawn_types, drawn_arguments, state_before, made_types, made_signature}
use Rattle.ffi3_script_spec.proofs.Made.{drawn_below}
use Rattle.ffi3_script_spec.proofs.MadeRuns.{NeedsLittle}

-- ---- small types

-- at most three doublewords
pub record IsSmall (t : Tree) : Type 0 where
  pub size : size_of t ≤ 24
  pub words : risc.words_of (risc.shape_of t) ≤ 3
  pub integer_words : risc.words_of (risc.integer_shape t) ≤ 3

abbrev AreSmall : List Tree → Type 0
AreSmall [] = ⊤
AreSmall (t ∷ ts) = IsSmall t × AreSmall ts

small_type : (n : ℕ) → n < 8 → IsSmall (made_type n)
unfolding least_multiple
small_type zero below = record { size = lit≤ tt; words = lit≤ tt; integer_words = lit≤ tt }
small_type (suc zero) below = record { size = lit≤ tt; words = lit≤ tt; integer_words = lit≤ tt }
small_type (suc (suc zero)) below = record { size = lit≤ tt; words = lit≤ tt; integer_words = lit≤ tt }
small_type (suc (suc (suc zero))) below = record { size = lit≤ tt; words = lit≤ tt; integer_words = lit≤ tt }
small_type (suc (suc (suc (suc zero)))) below = record { size = lit≤ tt; words = lit≤ tt; integer_words = lit≤ tt }
small_type (suc (suc (suc (suc (suc zero))))) below = record { size = lit≤ tt; words = lit≤ tt; integer_words = lit≤ tt }
small_type (suc (suc (suc (suc (suc (suc zero)))))) below = record { size = lit≤ tt; words = lit≤ tt; integer_words = lit≤ tt }
small_type (suc (suc (suc (suc (suc (suc (suc zero))))))) below = record { size = lit≤ tt; words = lit≤ tt; integer_words = lit≤ tt }
small_type (suc (suc (suc (suc (suc (suc (suc (suc n)))))))) below = absurd (omega (arith, below))

length-drawn_types : (n x : ℕ) → length (drawn_types n x) ≡ n
length-drawn_types zero x = refl
length-drawn_types (suc n) x = ap suc (length-drawn_types n (next_state x))

small_word : IsSmall (scalar u64)
unfolding least_multiple
small_word = record { size = lit≤ tt; words = lit≤ tt; integer_words = lit≤ tt }

small_types : (n x : ℕ) → AreSmall (drawn_types n x ++ scalar u64 ∷ [])
small_types zero x = (small_word, tt)
small_types (suc n) x = (small_type (drawn 8 (next_state x)) (drawn_below 8 (next_state x) (omega arith)), small_types n (next_state x))

-- ---- the frame and the block, by any standard

rounded : (t : Tree) → size_of t ≤ 24 → round8 (size_of t) ≤ 31
rounded t small = omega (arith, least_multiple-below 8 (size_of t) (omega arith), small)

module _ (start : ℕ → Tree → ℕ) (near : (end : ℕ) (t : Tree) → start end t ≤ end + LARGEST_GAP) where
  copies_few : (end : ℕ) (ts : List Tree) (ss : List Spot) → AreSmall ts → copies_end start end ts ss ≤ end + (31 + LARGEST_GAP) * length ts
  copies_few end [] [] small = omega arith
  copies_few end [] (s ∷ ss) small = omega arith
  copies_few end (t ∷ ts) [] small = omega arith
  copies_few end (t ∷ ts) (in_pieces pieces ∷ ss) small = omega (arith, copies_few end ts ss small.1)
  copies_few end (t ∷ ts) (by_reference at ∷ ss) small =
      omega (arith, copies_few (start end t + round8 (size_of t)) ts ss small.1, near end t, rounded t small.0.size)

  buffer_few : (end : ℕ) (t : Tree) (s : ResultSpot) → size_of t ≤ 24 → buffer_end start end t s ≤ end + (31 + LARGEST_GAP)
  buffer_few end t no_result small = omega arith
  buffer_few end t (in_result_pieces pieces) small = omega arith
  buffer_few end t (in_buffer at) small = omega (arith, near end t, rounded t small)

block_few : (ts : List Tree) → AreSmall ts → sum_by (λ t. round8 (size_of t)) ts ≤ 31 * length ts
block_few [] small = omega arith
block_few (t ∷ ts) small =
    omega (arith, sum_by-cons (λ u. round8 (size_of u)) t ts, block_few ts small.1, rounded t small.0.size)

need_few : (std : Standard) (s : Signature) → ((end : ℕ) (t : Tree) → std.copy_start end t ≤ end + LARGEST_GAP) → size_of s.result_type ≤ 24 → AreSmall s.arguments → length s.arguments ≤ 5 → (std.placing s).stack_bytes ≤ 240 → std.link + std.save ≤ 1000 → need_of std s ≤ 16384
need_few std s near result small few stack saved =
    let stacked = least_multiple-below 16 (std.placing s).stack_bytes (omega arith) in
    let copied = copies_few std.copy_start near (copies_start (std.placing s)) s.arguments (std.placing s).arguments small in
    let buffered = buffer_few std.copy_start near (frame_copies_end std s) s.result_type (std.placing s).result_spot result in
    let framed = least_multiple-below 16 (buffer_end std.copy_start (frame_copies_end std s) s.result_type (std.placing s).result_spot) (omega arith) in
    let blocked = least_multiple-below 16 (sum_by (λ t. round8 (size_of t)) s.arguments) (omega arith) in
    omega (arith, stacked, copied, buffered, framed, blocked, block_few s.arguments small, few, stack, saved)

-- ---- stack arguments

either_stack : (b : Bool) (x y : Taken) (n : ℕ) → x.stack ≤ n → y.stack ≤ n → (cond {A = Taken} b x y).stack ≤ n
either_stack true x y n h k = h
either_stack false x y n h k = k

either : (b : Bool) (x y n : ℕ) → x ≤ n → y ≤ n → cond b x y ≤ n
either true x y n h k = h
either false x y n h k = k

amd_stack : (ts : List Tree) (before : Taken) → AreSmall ts → (amd.taken_after before ts).stack ≤ before.stack + (31 + LARGEST_GAP) * length ts
amd_stack [] before small = omega arith
amd_stack (t ∷ ts) before small =
    let in_registers : Taken = record { general = before.general + amd.integers t; vector = before.vector + amd.sses t; stack = before.stack } in
    let on_stack : Taken = record { general = before.general; vector = before.vector; stack = amd.stack_end before.stack t } in
    let one = either_stack (amd.in_registers before t) in_registers on_stack (before.stack + (31 + LARGEST_GAP)) (omega arith) (omega (arith, start-near before.stack t, rounded t small.0.size)) in
    omega (arith, one, amd_stack ts (amd.taken_with before t) small.1)

passed_size : (b : Bool) (t : Tree) → size_of t ≤ 24 → size_of (cond {A = Tree} b (scalar pointer) t) ≤ 24
passed_size true t small = lit≤ tt
passed_size false t small = small

arm_stack : (ts : List Tree) (before : Taken) → AreSmall ts → (arm.taken_after before ts).stack ≤ before.stack + (31 + LARGEST_GAP) * length ts
arm_stack [] before small = omega arith
arm_stack (t ∷ ts) before small =
    let size = rounded (arm.passed t) (passed_size (arm.is_copied t) t small.0.size) in
    let one = either (arm.in_registers before t) before.stack (arm.stack_end before t) (before.stack + (31 + LARGEST_GAP)) (omega arith) (omega (arith, start-near before.stack (arm.passed t), size)) in
    omega (arith, one, arm_stack ts (arm.taken_with before t) small.1)

shape_words : (b : Bool) (s r : Shape) → risc.words_of s ≤ 3 → risc.words_of r ≤ 3 → risc.words_of (cond {A = Shape} b s r) ≤ 3
shape_words true s r h k = h
shape_words false s r h k = k

risc_words : (fixed : Option ℕ) (ts : List Tree) (before : TakenWords) (i : ℕ) → AreSmall ts → (risc.taken_after fixed before i ts).words ≤ before.words + 4 * length ts
risc_words fixed [] before i small = omega arith
risc_words fixed (t ∷ ts) before i small =
    let named = risc.is_fixed fixed i in
    let one = shape_words (named && risc.registers_suffice (risc.taken_at_start before named t) (risc.shape_of t)) (risc.shape_of t) (risc.integer_shape t) small.0.words small.0.integer_words in
    let first = even-near (risc.is_at_even_word named t before.words) before.words in
    omega (arith, one, first, risc_words fixed ts (risc.taken_with before (risc.is_fixed fixed i) t) (i + 1) small.1)

-- ---- the three standards

module _ (n x : ℕ) (few : n ≤ 4) where
  abbrev signature : Signature
  signature = made_signature (drawn_types n x)

  few_arguments : length signature.arguments ≤ 5
  few_arguments =
      omega (arith, length-append (drawn_types n x) (scalar u64 ∷ []), length-drawn_types n x, few)

  amd_need : need_of amd.amd64 signature ≤ 16384
  amd_need =
      let begun : (amd.taken_at_first (scalar u64)).stack ≤ 0 = omega arith in
      need_few amd.amd64 signature start-near small_word.size (small_types n x) few_arguments (omega (arith, amd_stack signature.arguments (amd.taken_at_first (scalar u64)) (small_types n x), few_arguments, begun)) (lit≤ tt)

  arm_need : need_of arm.aapcs64 signature ≤ 16384
  arm_need =
      need_few arm.aapcs64 signature start-near small_word.size (small_types n x) few_arguments (omega (arith, arm_stack signature.arguments arm.untouched (small_types n x), few_arguments)) (lit≤ tt)

  risc_need : need_of risc.riscv signature ≤ 16384
  risc_need =
      let begun : (risc.taken_at_first (scalar u64)).words ≤ 1 = either (risc.is_by_reference (risc.result_shape (scalar u64))) 1 0 1 (omega arith) (omega arith) in
      need_few risc.riscv signature start-near small_word.size (small_types n x) few_arguments (omega (arith, risc_words None signature.arguments (risc.taken_at_first (scalar u64)) 0 (small_types n x), few_arguments, begun)) (lit≤ tt)

drawn_little : (std : Standard) → ((n x : ℕ) → n ≤ 4 → need_of std (made_signature (drawn_types n x)) ≤ 16384) → (x : ℕ) → need_of std (made_signature (drawn_arguments x)) ≤ 16384
drawn_little std need x =
    need (suc (drawn 4 (next_state x))) (next_state x) (omega (arith, drawn_below 4 (next_state x) (omega arith)))

-- a standard by which each signature that is drawn needs little
each_little : (std : Standard) → ((n x : ℕ) → n ≤ 4 → need_of std (made_signature (drawn_types n x)) ≤ 16384) → (seed : ℕ) → NeedsLittle std (made_types seed)
each_little std need seed zero below = drawn_little std need (state_before seed 0)
each_little std need seed (suc zero) below = drawn_little std need (state_before seed 1)
each_little std need seed (suc (suc zero)) below = drawn_little std need (state_before seed 2)
each_little std need seed (suc (suc (suc zero))) below = drawn_little std need (state_before seed 3)
each_little std need seed (suc (suc (suc (suc s)))) below = absurd (omega (arith, below))

pub amd64_needs_little : (seed : ℕ) → NeedsLittle amd.amd64 (made_types seed)
amd64_needs_little = each_little amd.amd64 amd_need

pub aapcs64_needs_little : (seed : ℕ) → NeedsLittle arm.aapcs64 (made_types seed)
aapcs64_needs_little = each_little arm.aapcs64 arm_need

pub riscv_needs_little : (seed : ℕ) → NeedsLittle risc.riscv (made_types seed)
riscv_needs_little = each_little risc.riscv risc_need
