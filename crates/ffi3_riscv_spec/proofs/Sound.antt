-- The places of a signature are a chain, so no two share a register or a byte of stack; and they have all of the values, which they therefore determine.
use Rattle.std.proofs.Common.{◌≡◌, ℕ, zero, suc, ◌+◌, ◌-◌, ◌*◌, ◌<◌, ◌≤◌, Bool, true, false, cond, ltb, List, [], ◌∷◌, subst, refl, arith}
use Rattle.std.specs.Prelude.{Option}
use Rattle.std.specs.List.{AllByRecursion, flat_map}
use Rattle.std.proofs.lemmas.Bool.{ltb-true, ltb-false}
use Rattle.ffi3_type_spec.specs.Tree.{Tree, void}
use Rattle.ffi3_type_spec.specs.Layout.{size_of}
use Rattle.ffi3_type_spec.specs.Signature.{Signature}
use Rattle.ffi3_type_spec.specs.declared.Isa.TheVariants as isa
use Rattle.ffi3_place_spec.specs.declared.Loc.{Loc}
use Rattle.ffi3_place_spec.specs.declared.Loc.TheVariants.{G, F, S}
use Rattle.ffi3_place_spec.specs.declared.Taken.{Taken}
use Rattle.ffi3_place_spec.specs.StubRegisters.{result_loads}
use Rattle.ffi3_place_spec.specs.Standard.{Spot, in_pieces, by_reference, ResultSpot, no_result as nowhere, plan_of, copy_end, place_at, places_from, result_at, copies_start, frame_copies_end, frame_of}
use Rattle.ffi3_place_spec.specs.Doublewords.{doublewords_at}
use Rattle.ffi3_place_spec.specs.Sound.{IsWhole, IsOnStackOrIn, AreApart, piece_locs, place_locs, hidden_locs, result_locs, argument_locs, IsNoneOf, IsOneOf, LiesIn, call_locs, closed_to_arguments, closed_to_results, PlaceHasAll, ResultHasAll, PlaceIsFilled, ResultIsFilled, IsSound, IsDetermined}
use Rattle.ffi3_place_spec.proofs.Chain.{AtMost, at_most_self, From, Until, Chain, chain_less, chain_append, chain_apart, chain_allowed, chain_passed, chain_in, chain_lies_in}
use Rattle.ffi3_place_spec.proofs.Frame.{up_to, frame_chain}
use Rattle.ffi3_place_spec.proofs.Ends.{start-behind, even-behind}
use Rattle.ffi3_place_spec.proofs.Aligned.{frame_is_aligned, need_is_aligned}
use Rattle.ffi3_place_spec.proofs.Tests.{each_of_two}
use Rattle.ffi3_place_spec.proofs.Forbidden.{is_one_of, one_of}
use Rattle.ffi3_place_spec.proofs.Determines.{determined}
use Rattle.ffi3_place_spec.proofs.OnMachine.{sound_on_machine}
use Rattle.ffi3_riscv_spec.specs.declared.Shape.{Shape}
use Rattle.ffi3_riscv_spec.specs.declared.Shape.TheVariants.{OneF, TwoF, FI, IF, Words, ByRef}
use Rattle.ffi3_riscv_spec.specs.declared.TakenWords.{TakenWords}
use Rattle.ffi3_riscv_spec.specs.Riscv.{riscv, integer_register, floating_register, word, words_of, floats_of, extension, word_pieces, spot_of, is_at_even_word, first_word, is_fixed, taken_by_shape, taken_at_start, shape_after, spot_after, taken_with, taken_after, taken_at_first, taken_by_all, untouched, spots_after, result_shape, result_from, result_spot_of, is_by_reference, placing_of}
use Rattle.ffi3_riscv_spec.proofs.Shapes.{HasRoom, passed_has_room, passed_few, passed_suits, passed_small, passed_floats}
use Rattle.ffi3_riscv_spec.proofs.Covered.{spot_has_all, arguments_have_all}
use Rattle.ffi3_riscv_spec.proofs.Filled.{spot_filled, arguments_filled}
use Rattle.ffi3_riscv_spec.proofs.Rising.{arguments_rise}
use Rattle.ffi3_riscv_spec.proofs.Agrees.{agrees}
use Rattle.ffi3_riscv_spec.proofs.Registers.{all_registers, argument_exists, floating_exists, argument_allowed, floating_allowed, stack_allowed, argument_passes, floating_passes, result_allowed_general, result_allowed_floating, result_allowed_stack}

-- what so many words and floating registers take
abbrev taken_of : ℕ → ℕ → Taken
taken_of w f = record { general = w; vector = f; stack = 8 * (w - 8) }

abbrev taken : TakenWords → Taken
taken used = taken_of used.words used.floats

abbrev WordsChain : Taken → List Loc → Taken → Type 0
WordsChain = Chain integer_register floating_register 8 8

abbrev IsFrom : Taken → Loc → Type 0
IsFrom = From integer_register floating_register 8 8

abbrev IsUntil : Taken → Loc → Type 0
IsUntil = Until integer_register floating_register 8 8

more_words : (w v f g : ℕ) → w ≤ v → f ≤ g → AtMost (taken_of w f) (taken_of v g)
more_words w v f g h k = record { general = h; vector = k; stack = omega (arith, h) }

-- ---- the stream of words

word_from_if : (w f : ℕ) (b : Bool) → ltb w 8 ≡ b → IsFrom (taken_of w f) (cond {A = Loc} b (G (integer_register w)) (S (8 * (w - 8)) 8))
word_from_if w f true e = (w, refl, omega arith, ltb-true w 8 e)
word_from_if w f false e = omega arith

word_from : (w f : ℕ) → IsFrom (taken_of w f) (word w)
word_from w f = word_from_if w f (ltb w 8) refl

word_until_if : (w f : ℕ) (b : Bool) → ltb w 8 ≡ b → IsUntil (taken_of (w + 1) f) (cond {A = Loc} b (G (integer_register w)) (S (8 * (w - 8)) 8))
word_until_if w f true e = (w, refl, omega arith)
word_until_if w f false e = (omega (arith, ltb-false w 8 e), omega arith, omega arith)

word_until : (w f : ℕ) → IsUntil (taken_of (w + 1) f) (word w)
word_until w f = word_until_if w f (ltb w 8) refl

words_chain : (w f : ℕ) (t : Tree) (j count : ℕ) → WordsChain (taken_of (w + j) f) (piece_locs (doublewords_at (λ k. word (w + k)) (size_of t) (extension t) j count)) (taken_of (w + (j + count)) f)
words_chain w f t j zero = more_words (w + j) (w + (j + 0)) f f (omega arith) (omega arith)
words_chain w f t j (suc count) =
    let next : w + j + 1 ≡ w + (j + 1) = omega arith in
    let end : w + (j + 1 + count) ≡ w + (j + suc count) = omega arith in (
      taken_of (w + (j + 1)) f,
      word_from (w + j) f,
      subst (λ n. IsUntil (taken_of n f) (word (w + j))) next (word_until (w + j) f),
      more_words (w + j) (w + (j + 1)) f f (omega arith) (omega arith),
      subst (λ n. WordsChain (taken_of (w + (j + 1)) f) (piece_locs (doublewords_at (λ k. word (w + k)) (size_of t) (extension t) (j + 1) count)) (taken_of n f)) end (words_chain w f t (j + 1) count),
    )

-- ---- one value

floating_first : (w f : ℕ) (ls : List Loc) (b : Taken) → f + 1 ≤ 8 → WordsChain (taken_of w (f + 1)) ls b → WordsChain (taken_of w f) (F (floating_register f) ∷ ls) b
floating_first w f ls b room rest = (
  taken_of w (f + 1),
  (f, refl, omega arith, omega (arith, room)),
  (f, refl, omega arith),
  more_words w w f (f + 1) (omega arith) (omega arith),
  rest,
)

general_first : (w f : ℕ) (ls : List Loc) (b : Taken) → w + 1 ≤ 8 → WordsChain (taken_of (w + 1) f) ls b → WordsChain (taken_of w f) (G (integer_register w) ∷ ls) b
general_first w f ls b room rest = (
  taken_of (w + 1) f,
  (w, refl, omega arith, omega (arith, room)),
  (w, refl, omega arith),
  more_words w (w + 1) f f (omega arith) (omega arith),
  rest,
)

spot_chain : (start : ℕ → Tree → ℕ) (copies : ℕ) (before : TakenWords) (t : Tree) (shape : Shape) → HasRoom before shape → WordsChain (taken before) (place_locs (place_at start copies t (spot_of before t shape))) (taken (taken_by_shape before shape))
spot_chain start copies before t OneF room =
    floating_first before.words before.floats [] _ room (more_words before.words (before.words + 0) (before.floats + 1) (before.floats + 1) (omega arith) (omega arith))
spot_chain start copies before t TwoF room =
    floating_first before.words before.floats (F (floating_register (before.floats + 1)) ∷ []) (taken_of (before.words + 0) (before.floats + 2)) (omega (arith, room))
    (floating_first before.words (before.floats + 1) [] _ (omega (arith, room))
    (more_words before.words (before.words + 0) (before.floats + 1 + 1) (before.floats + 2) (omega arith) (omega arith)))
spot_chain start copies before t FI room =
    floating_first before.words before.floats (G (integer_register before.words) ∷ []) (taken_of (before.words + 1) (before.floats + 1)) room.0
    (general_first before.words (before.floats + 1) [] _ room.1
    (more_words (before.words + 1) (before.words + 1) (before.floats + 1) (before.floats + 1) (omega arith) (omega arith)))
spot_chain start copies before t IF room =
    general_first before.words before.floats (F (floating_register before.floats) ∷ []) (taken_of (before.words + 1) (before.floats + 1)) room.1
    (floating_first (before.words + 1) before.floats [] _ room.0
    (more_words (before.words + 1) (before.words + 1) (before.floats + 1) (before.floats + 1) (omega arith) (omega arith)))
spot_chain start copies before t (Words n) room =
    let from : before.words + 0 ≡ before.words = omega arith in
    let end : before.words + (0 + n) ≡ before.words + n = omega arith in
    let floats : before.floats ≡ before.floats + 0 = omega arith in
    let pieces = words_chain before.words before.floats t 0 n in
    let from_start = subst (λ w. WordsChain (taken_of w before.floats) (piece_locs (word_pieces before.words t n)) (taken_of (before.words + (0 + n)) before.floats)) from pieces in
    let to_end = subst (λ w. WordsChain (taken before) (piece_locs (word_pieces before.words t n)) (taken_of w before.floats)) end from_start in
    subst (λ f. WordsChain (taken before) (piece_locs (word_pieces before.words t n)) (taken_of (before.words + n) f)) floats to_end
spot_chain start copies before t ByRef room = (
  taken_of (before.words + 1) before.floats,
  word_from before.words before.floats,
  word_until before.words before.floats,
  more_words before.words (before.words + 1) before.floats before.floats (omega arith) (omega arith),
  more_words (before.words + 1) (before.words + 1) before.floats (before.floats + 0) (omega arith) (omega arith),
)

-- an argument's words begin behind those of the arguments before it
first_word-behind : (fixed : Bool) (t : Tree) (end : ℕ) → end ≤ first_word fixed t end
first_word-behind fixed t end = even-behind (is_at_even_word fixed t end) end

taken_at_start-behind : (end : TakenWords) (fixed : Bool) (t : Tree) → AtMost (taken end) (taken (taken_at_start end fixed t))
taken_at_start-behind end fixed t = more_words end.words (first_word fixed t end.words) end.floats end.floats (first_word-behind fixed t end.words) (omega arith)

argument_chain : (start : ℕ → Tree → ℕ) (copies : ℕ) (end : TakenWords) (fixed : Bool) (t : Tree) → WordsChain (taken end) (place_locs (place_at start copies t (spot_after end fixed t))) (taken (taken_with end fixed t))
argument_chain start copies end fixed t =
    let before = taken_at_start end fixed t in
    chain_less integer_register floating_register 8 8 (taken end) (taken before) _ _ (taken_at_start-behind end fixed t) (spot_chain start copies before t (shape_after end fixed t) (passed_has_room before fixed t))

places_chain : (start : ℕ → Tree → ℕ) (copies : ℕ) (fixed : Option ℕ) (end : TakenWords) (i : ℕ) (ts : List Tree) → WordsChain (taken end) (flat_map place_locs (places_from start copies ts (spots_after fixed end i ts))) (taken (taken_after fixed end i ts))
places_chain start copies fixed end i [] = at_most_self (taken end)
places_chain start copies fixed end i (t ∷ ts) =
    let named = is_fixed fixed i in
    chain_append integer_register floating_register 8 8 (taken end) (place_locs (place_at start copies t (spot_after end named t))) (taken (taken_with end named t)) _ _
    (argument_chain start copies end named t) (places_chain start (copy_end start copies t (spot_after end named t)) fixed (taken_with end named t) (i + 1) ts)

-- ---- the whole signature

-- A result is nowhere, or as its place as a first named argument says.
result_cases : (P : ResultSpot → Type 0) (t : Tree) → (t ≡ void → P nowhere) → P (result_from (spot_of untouched t (result_shape t))) → P (result_spot_of t)
result_cases P void none h = none refl
result_cases P _ none h = h

abbrev first_taken : Shape → TakenWords
first_taken shape = record { words = cond (is_by_reference shape) 1 0; floats = 0 }

hidden_of : (t : Tree) (buffer : ℕ) (shape : Shape) → WordsChain (taken untouched) (hidden_locs (result_at riscv.copy_start buffer t (result_from (spot_of untouched t shape)))) (taken (first_taken shape))
hidden_of t buffer ByRef = general_first 0 0 [] (taken_of 1 0) (omega arith) (at_most_self (taken_of 1 0))
hidden_of t buffer _ = at_most_self (taken untouched)

hidden_chain : (t : Tree) (buffer : ℕ) → WordsChain (taken untouched) (hidden_locs (result_at riscv.copy_start buffer t (result_spot_of t))) (taken (taken_at_first t))
hidden_chain t buffer =
    let first = taken_at_first t in
    result_cases (λ spot. WordsChain (taken untouched) (hidden_locs (result_at riscv.copy_start buffer t spot)) (taken first)) t (λ e. more_words 0 first.words 0 0 (omega arith) (omega arith)) (hidden_of t buffer (result_shape t))

plan_chain : (s : Signature) → WordsChain (taken untouched) (argument_locs (plan_of riscv s)) (taken (taken_by_all s))
plan_chain s =
    chain_append integer_register floating_register 8 8 (taken untouched) (hidden_locs (plan_of riscv s).res) (taken (taken_at_first s.result_type)) _ _
    (hidden_chain s.result_type (frame_copies_end riscv s)) (places_chain riscv.copy_start (copies_start (placing_of s)) s.fixed (taken_at_first s.result_type) 0 s.arguments)

plan_allowed : (s : Signature) → AllByRecursion (IsNoneOf (closed_to_arguments riscv)) (argument_locs (plan_of riscv s))
plan_allowed s =
    chain_allowed integer_register floating_register 8 8 (closed_to_arguments riscv) argument_allowed floating_allowed stack_allowed (taken untouched) _ _ (plan_chain s)

plan_passed : (s : Signature) → AllByRecursion (IsOnStackOrIn riscv.argument_registers) (argument_locs (plan_of riscv s))
plan_passed s =
    chain_passed integer_register floating_register 8 8 riscv.argument_registers argument_passes floating_passes (taken untouched) _ _ (plan_chain s)

plan_lies_in : (s : Signature) → AllByRecursion (LiesIn isa.Riscv (placing_of s).stack_bytes) (argument_locs (plan_of riscv s))
plan_lies_in s =
    chain_lies_in integer_register floating_register 8 8 isa.Riscv argument_exists floating_exists (taken untouched) _ _ (placing_of s).stack_bytes (omega arith) (plan_chain s)

-- ---- the frame

abbrev framed : Signature → Taken
framed s = up_to (taken (taken_by_all s)) (frame_of riscv s)

call_chain : (s : Signature) → WordsChain (taken untouched) (call_locs s (plan_of riscv s)) (framed s)
call_chain s =
    chain_append integer_register floating_register 8 8 (taken untouched) (argument_locs (plan_of riscv s)) (taken (taken_by_all s)) _ (framed s) (plan_chain s) (frame_chain integer_register floating_register 8 8 riscv start-behind s (taken (taken_by_all s)) (omega arith))

plan_apart : (s : Signature) → AreApart (call_locs s (plan_of riscv s))
plan_apart s = chain_apart integer_register floating_register 8 8 all_registers (taken untouched) _ _ (call_chain s)

plan_in_frame : (s : Signature) → AllByRecursion (LiesIn isa.Riscv (frame_of riscv s)) (call_locs s (plan_of riscv s))
plan_in_frame s =
    chain_lies_in integer_register floating_register 8 8 isa.Riscv argument_exists floating_exists (taken untouched) _ (framed s) (frame_of riscv s) (omega arith) (call_chain s)

-- ---- the result

-- what holds of the places of an argument, holds of a result's that stands so
locs_of : (P : List Loc → Type 0) → P [] → (t : Tree) (buffer : ℕ) (spot : Spot) → P (place_locs (place_at riscv.copy_start 0 t spot)) → P (result_locs (result_at riscv.copy_start buffer t (result_from spot)))
locs_of P none t buffer (in_pieces pieces) h = h
locs_of P none t buffer (by_reference at) h = none

all_of : (t : Tree) (buffer : ℕ) (spot : Spot) → PlaceHasAll t (place_at riscv.copy_start 0 t spot) → ResultHasAll t (result_at riscv.copy_start buffer t (result_from spot))
all_of t buffer (in_pieces pieces) h = h
all_of t buffer (by_reference at) h = tt

filled_of : (t : Tree) (buffer : ℕ) (spot : Spot) → PlaceIsFilled riscv t (place_at riscv.copy_start 0 t spot) → ResultIsFilled riscv t (result_at riscv.copy_start buffer t (result_from spot))
filled_of t buffer (in_pieces pieces) h = h
filled_of t buffer (by_reference at) h = tt

module _ (t : Tree) (buffer : ℕ) where
  abbrev shape : Shape
  shape = result_shape t

  result_is : (P : List Loc → Type 0) → P [] → P (place_locs (place_at riscv.copy_start 0 t (spot_of untouched t shape))) → P (result_locs (result_at riscv.copy_start buffer t (result_spot_of t)))
  result_is P none h =
      result_cases (λ spot. P (result_locs (result_at riscv.copy_start buffer t spot))) t (λ e. none) (locs_of P none t buffer (spot_of untouched t shape) h)

  result_chain : WordsChain (taken untouched) (place_locs (place_at riscv.copy_start 0 t (spot_of untouched t shape))) (taken (taken_by_shape untouched shape))
  result_chain = spot_chain riscv.copy_start 0 untouched t shape (passed_has_room untouched true t)

  no_stack : (w : ℕ) → w ≤ 2 → 8 * (0 + w - 8) ≤ 0
  no_stack w h = omega (arith, h)

  result_apart : AreApart (result_locs (result_at riscv.copy_start buffer t (result_spot_of t)))
  result_apart = result_is AreApart tt (chain_apart integer_register floating_register 8 8 all_registers (taken untouched) _ _ result_chain)

  result_in_registers : AllByRecursion (LiesIn isa.Riscv 0) (result_locs (result_at riscv.copy_start buffer t (result_spot_of t)))
  result_in_registers =
      result_is (AllByRecursion (LiesIn isa.Riscv 0)) tt (chain_lies_in integer_register floating_register 8 8 isa.Riscv argument_exists floating_exists (taken untouched) _ _ 0 (no_stack (words_of shape) (passed_few untouched true t)) result_chain)

  result_allowed : AllByRecursion (IsNoneOf (closed_to_results riscv)) (result_locs (result_at riscv.copy_start buffer t (result_spot_of t)))
  result_allowed =
      result_is (AllByRecursion (IsNoneOf (closed_to_results riscv))) tt (chain_allowed integer_register floating_register 8 8 (closed_to_results riscv) result_allowed_general result_allowed_floating result_allowed_stack (taken untouched) _ _ result_chain)

  result_has_all : ResultHasAll t (result_at riscv.copy_start buffer t (result_spot_of t))
  result_has_all =
      let stands = spot_has_all riscv.copy_start 0 untouched t shape (passed_suits untouched true t) (passed_small untouched true t) in
      result_cases (λ spot. ResultHasAll t (result_at riscv.copy_start buffer t spot)) t (λ e. e) (all_of t buffer (spot_of untouched t shape) stands)

  result_filled : ResultIsFilled riscv t (result_at riscv.copy_start buffer t (result_spot_of t))
  result_filled =
      let fills = spot_filled riscv.copy_start 0 untouched t shape (passed_suits untouched true t) (passed_floats untouched true t) in
      result_cases (λ spot. ResultIsFilled riscv t (result_at riscv.copy_start buffer t spot)) t (λ e. tt) (filled_of t buffer (spot_of untouched t shape) fills)

hidden_whole_of : (t : Tree) (buffer : ℕ) (shape : Shape) → AllByRecursion IsWhole (hidden_locs (result_at riscv.copy_start buffer t (result_from (spot_of untouched t shape))))
hidden_whole_of t buffer ByRef = (refl, tt)
hidden_whole_of t buffer _ = tt

hidden_whole : (t : Tree) (buffer : ℕ) → AllByRecursion IsWhole (hidden_locs (result_at riscv.copy_start buffer t (result_spot_of t)))
hidden_whole t buffer =
    result_cases (λ spot. AllByRecursion IsWhole (hidden_locs (result_at riscv.copy_start buffer t spot))) t (λ e. tt) (hidden_whole_of t buffer (result_shape t))

-- every law of the places
pub sound : (s : Signature) → IsSound riscv s
sound s =
    let buffer = frame_copies_end riscv s in
    sound_on_machine riscv s (record {
      apart = plan_apart s;
      in_frame = plan_in_frame s;
      on_stack = plan_lies_in s;
      allowed = plan_allowed s;
      passed = plan_passed s;
      address = hidden_whole s.result_type buffer;
      has_all = arguments_have_all riscv.copy_start (copies_start (placing_of s)) s.fixed (taken_at_first s.result_type) 0 s.arguments;
      filled = arguments_filled riscv.copy_start (copies_start (placing_of s)) s.fixed (taken_at_first s.result_type) 0 s.arguments;
      rising = arguments_rise riscv.copy_start (copies_start (placing_of s)) s.fixed (taken_at_first s.result_type) 0 s.arguments;
      result_apart = result_apart s.result_type buffer;
      result_in_registers = result_in_registers s.result_type buffer;
      result_allowed = result_allowed s.result_type buffer;
      result_has_all = result_has_all s.result_type buffer;
      result_filled = result_filled s.result_type buffer;
      frame_aligned = frame_is_aligned riscv s;
      need_aligned = need_is_aligned riscv s agrees.save_aligned;
    })

pub determines : (s : Signature) → IsDetermined riscv s
determines s = determined riscv s (sound s).has_all (sound s).result_has_all

-- ---- the result, by the stubs

in_results : (k : ℕ) → k < 2 → IsOneOf (result_loads isa.Riscv) (G (integer_register k))
in_results k h =
    one_of (result_loads isa.Riscv) (G (integer_register k)) (each_of_two (λ j. is_one_of (result_loads isa.Riscv) (G (integer_register j)) ≡ true) refl refl k h)

in_floating_results : (k : ℕ) → k < 2 → IsOneOf (result_loads isa.Riscv) (F (floating_register k))
in_floating_results k h =
    one_of (result_loads isa.Riscv) (F (floating_register k)) (each_of_two (λ j. is_one_of (result_loads isa.Riscv) (F (floating_register j)) ≡ true) refl refl k h)

few_floats : (shape : Shape) → floats_of shape ≤ 2
few_floats OneF = omega arith
few_floats _ = omega arith

no_stack_taken : (w : ℕ) → w ≤ 2 → 8 * (0 + w - 8) ≡ 0
no_stack_taken w h = omega (arith, h)

pub result_loaded : (s : Signature) → AllByRecursion (IsOneOf (result_loads isa.Riscv)) (result_locs (plan_of riscv s).res)
result_loaded s =
    let t = s.result_type in
    let shape = result_shape t in
    let words = passed_few untouched true t in
    let floats = few_floats shape in
    result_is t (frame_copies_end riscv s) (AllByRecursion (IsOneOf (result_loads isa.Riscv))) tt (chain_in integer_register floating_register 8 8 (result_loads isa.Riscv) (taken (taken_by_shape untouched shape)) (no_stack_taken (words_of shape) words) (λ k h. in_results k (omega (arith, h, words))) (λ k h. in_floating_results k (omega (arith, h, floats))) (taken untouched) _ (result_chain t (frame_copies_end riscv s)))

hidden_saved_if : (t : Tree) (buffer : ℕ) (shape : Shape) → AllByRecursion (IsOneOf (G 10 ∷ [])) (hidden_locs (result_at riscv.copy_start buffer t (result_from (spot_of untouched t shape))))
hidden_saved_if t buffer ByRef = (one_of (G 10 ∷ []) (G 10) refl, tt)
hidden_saved_if t buffer _ = tt

pub hidden_saved : (s : Signature) → AllByRecursion (IsOneOf (G 10 ∷ [])) (hidden_locs (plan_of riscv s).res)
hidden_saved s =
    let t = s.result_type in
    result_cases (λ spot. AllByRecursion (IsOneOf (G 10 ∷ [])) (hidden_locs (result_at riscv.copy_start (frame_copies_end riscv s) t spot))) t (λ e. tt) (hidden_saved_if t (frame_copies_end riscv s) (result_shape t))
