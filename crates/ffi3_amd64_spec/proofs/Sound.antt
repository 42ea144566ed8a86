-- The places of a signature are a chain, so no two share a register or a byte of stack; and they have all of the values, which they therefore determine.
use Rattle.std.proofs.Common.{◌≡◌, ℕ, ◌+◌, ◌<◌, ◌≤◌, Bool, true, false, cond, inr, List, [], ◌∷◌, ◌++◌, subst, sym, refl, arith, append-nil, append_assoc}
use Rattle.std.specs.List.{AllByRecursion, count_by, flat_map}
use Rattle.std.proofs.lemmas.Bool.{or_from}
use Rattle.std.proofs.lemmas.List.Sums.{sum_by-cons, sum_by_push}
use Rattle.ffi3_type_spec.specs.Tree.{Tree}
use Rattle.ffi3_type_spec.specs.Layout.{leaves_of, has_long_double}
use Rattle.ffi3_type_spec.specs.Signature.{Signature, HasNoLongDouble}
use Rattle.ffi3_type_spec.specs.declared.Isa.TheVariants.{Amd64}
use Rattle.ffi3_place_spec.specs.declared.Loc.{Loc}
use Rattle.ffi3_place_spec.specs.declared.Loc.TheVariants.{G, F}
use Rattle.ffi3_place_spec.specs.declared.Piece.{Piece}
use Rattle.ffi3_place_spec.specs.declared.Taken.{Taken}
use Rattle.ffi3_place_spec.specs.StubRegisters.{result_loads}
use Rattle.ffi3_place_spec.specs.Standard.{plan_of, places_from, result_at, copies_start, frame_copies_end, frame_of}
use Rattle.ffi3_place_spec.specs.Doublewords.{stack_pieces}
use Rattle.ffi3_place_spec.specs.Sound.{AreApart, IsWhole, IsOnStackOrIn, piece_locs, place_locs, hidden_locs, result_locs, argument_locs, IsNoneOf, IsOneOf, LiesIn, StandsIn, call_locs, closed_to_arguments, closed_to_results, HaveAll, HaveLowerWords, ResultHasAll, ResultHasLowerWords, IsSound, IsDetermined}
use Rattle.ffi3_place_spec.proofs.Chain.{AtMost, at_most_self, Chain, chain_append, chain_less, chain_apart, chain_allowed, chain_passed, chain_in, chain_lies_in}
use Rattle.ffi3_place_spec.proofs.Frame.{up_to, value_chain, frame_chain}
use Rattle.ffi3_place_spec.proofs.Ends.{start-behind}
use Rattle.ffi3_place_spec.proofs.Aligned.{frame_is_aligned, need_is_aligned}
use Rattle.ffi3_place_spec.proofs.Tests.{each_of_two, each_weaker}
use Rattle.ffi3_place_spec.proofs.Forbidden.{is_one_of, one_of, each_none_of, apart_all}
use Rattle.ffi3_place_spec.proofs.Further.{HasNoneBelow, each_behind, each_stands, each_passed_in_more, lies_lowest, lowest_words, places_lowest}
use Rattle.ffi3_place_spec.proofs.Determines.{determined}
use Rattle.ffi3_amd64_spec.specs.declared.Class.{Class}
use Rattle.ffi3_amd64_spec.specs.declared.Class.TheVariants.{Integer, Sse}
use Rattle.ffi3_amd64_spec.specs.Amd64.{amd64, is_integer_class, is_sse_class, classes, integers, sses, is_class_memory, is_class_x87, general_argument, vector_register, result_register, register_pieces, x87_pieces, result_pieces, in_registers, stack_start, stack_end, taken_with, taken_after, taken_at_first, argument_pieces, spots_after, result_spot_of, placing_of}
use Rattle.ffi3_amd64_spec.proofs.LongDoubles.{x87_cases, x87_is_long, x87_have_all}
use Rattle.ffi3_amd64_spec.proofs.Covered.{fits_registers, integers_few, sses_few, classes_when, registers_have_all, arguments_have_all}
use Rattle.ffi3_amd64_spec.proofs.Filled.{arguments_filled, result_filled}
use Rattle.ffi3_amd64_spec.proofs.Steps.{result_when}
use Rattle.ffi3_amd64_spec.proofs.Rising.{arguments_rise}
use Rattle.ffi3_amd64_spec.proofs.Registers.{argument_registers_apart, argument_exists, argument_allowed, vector_allowed, stack_allowed, argument_passes, vector_passes, result_registers_apart, result_exists, result_allowed_general, result_allowed_vector, result_allowed_stack}

abbrev at_eightbyte : Taken → List Class → Taken
at_eightbyte a earlier =
    record { general = a.general + count_by is_integer_class earlier; vector = a.vector + count_by is_sse_class earlier; stack = a.stack }

abbrev one_if : (Class → Bool) → Class → ℕ
one_if p x = cond (p x) 1 0

module _ (general : ℕ → ℕ) (generals vectors : ℕ) where
  register_chain : (a : Taken) (t : Tree) (earlier cs : List Class) → a.general + (count_by is_integer_class earlier + count_by is_integer_class cs) ≤ generals → a.vector + (count_by is_sse_class earlier + count_by is_sse_class cs) ≤ vectors → Chain general vector_register generals vectors (at_eightbyte a earlier) (piece_locs (register_pieces general a.general a.vector t earlier cs)) (at_eightbyte a (earlier ++ cs))
  register_chain a t earlier [] hg hf =
      subst (λ l. AtMost (at_eightbyte a earlier) (at_eightbyte a l)) (sym (append-nil earlier)) (at_most_self (at_eightbyte a earlier))
  register_chain a t earlier (Integer ∷ cs) hg hf =
      let more_g : count_by is_integer_class (earlier ++ Integer ∷ []) ≡ count_by is_integer_class earlier + 1 = sum_by_push (one_if is_integer_class) earlier Integer in
      let more_f : count_by is_sse_class (earlier ++ Integer ∷ []) ≡ count_by is_sse_class earlier + 0 = sum_by_push (one_if is_sse_class) earlier Integer in
      let head_g : count_by is_integer_class (Integer ∷ cs) ≡ 1 + count_by is_integer_class cs = sum_by-cons (one_if is_integer_class) Integer cs in
      let head_f : count_by is_sse_class (Integer ∷ cs) ≡ 0 + count_by is_sse_class cs = sum_by-cons (one_if is_sse_class) Integer cs in
      let rest = register_chain a t (earlier ++ Integer ∷ []) cs (omega (arith, hg, more_g, head_g)) (omega (arith, hf, more_f, head_f)) in
      let ends = append_assoc earlier (Integer ∷ []) cs in (
        at_eightbyte a (earlier ++ Integer ∷ []),
        (a.general + count_by is_integer_class earlier, refl, omega arith, omega (arith, hg, head_g)),
        (a.general + count_by is_integer_class earlier, refl, omega (arith, more_g)),
        record { general = omega (arith, more_g); vector = omega (arith, more_f); stack = omega arith },
        subst (λ l. Chain general vector_register generals vectors (at_eightbyte a (earlier ++ Integer ∷ [])) (piece_locs (register_pieces general a.general a.vector t (earlier ++ Integer ∷ []) cs)) (at_eightbyte a l)) ends rest,
      )
  register_chain a t earlier (Sse ∷ cs) hg hf =
      let more_g : count_by is_integer_class (earlier ++ Sse ∷ []) ≡ count_by is_integer_class earlier + 0 = sum_by_push (one_if is_integer_class) earlier Sse in
      let more_f : count_by is_sse_class (earlier ++ Sse ∷ []) ≡ count_by is_sse_class earlier + 1 = sum_by_push (one_if is_sse_class) earlier Sse in
      let head_g : count_by is_integer_class (Sse ∷ cs) ≡ 0 + count_by is_integer_class cs = sum_by-cons (one_if is_integer_class) Sse cs in
      let head_f : count_by is_sse_class (Sse ∷ cs) ≡ 1 + count_by is_sse_class cs = sum_by-cons (one_if is_sse_class) Sse cs in
      let rest = register_chain a t (earlier ++ Sse ∷ []) cs (omega (arith, hg, more_g, head_g)) (omega (arith, hf, more_f, head_f)) in
      let ends = append_assoc earlier (Sse ∷ []) cs in (
        at_eightbyte a (earlier ++ Sse ∷ []),
        (a.vector + count_by is_sse_class earlier, refl, omega arith, omega (arith, hf, head_f)),
        (a.vector + count_by is_sse_class earlier, refl, omega (arith, more_f)),
        record { general = omega (arith, more_g); vector = omega (arith, more_f); stack = omega arith },
        subst (λ l. Chain general vector_register generals vectors (at_eightbyte a (earlier ++ Sse ∷ [])) (piece_locs (register_pieces general a.general a.vector t (earlier ++ Sse ∷ []) cs)) (at_eightbyte a l)) ends rest,
      )

abbrev ArgumentsChain : Taken → List Loc → Taken → Type 0
ArgumentsChain = Chain general_argument vector_register 6 8

abbrev ChainIf : Taken → Tree → Bool → Type 0
ChainIf a t b = ArgumentsChain a
    (piece_locs (cond b
    (register_pieces general_argument a.general a.vector t [] (classes t))
    (stack_pieces (stack_start a.stack t) t)))
    (cond {A = Taken} b
    (record { general = a.general + integers t; vector = a.vector + sses t; stack = a.stack })
    (record { general = a.general; vector = a.vector; stack = stack_end a.stack t }))

chain_if : (a : Taken) (t : Tree) (b : Bool) → in_registers a t ≡ b → ChainIf a t b
chain_if a t true e =
    let fits = fits_registers a t e in
    let start : AtMost a (at_eightbyte a []) = record { general = omega arith; vector = omega arith; stack = omega arith } in
    chain_less general_argument vector_register 6 8 a (at_eightbyte a []) _ _ start
    (register_chain general_argument 6 8 a t [] (classes t) (omega (arith, fits.0)) (omega (arith, fits.1)))
chain_if a t false e =
    value_chain general_argument vector_register 6 8 a (stack_start a.stack t) t (record { general = a.general; vector = a.vector; stack = stack_end a.stack t }) (start-behind a.stack t) (omega arith) (omega arith) (omega arith)

argument_chain : (a : Taken) (t : Tree) → ArgumentsChain a (piece_locs (argument_pieces a t)) (taken_with a t)
argument_chain a t = chain_if a t (in_registers a t) refl

places_chain : (end : ℕ) (a : Taken) (ts : List Tree) → ArgumentsChain a (flat_map place_locs (places_from amd64.copy_start end ts (spots_after a ts))) (taken_after a ts)
places_chain end a [] = at_most_self a
places_chain end a (t ∷ ts) =
    chain_append general_argument vector_register 6 8 a (piece_locs (argument_pieces a t)) (taken_with a t) _ _
    (argument_chain a t) (places_chain end (taken_with a t) ts)

-- ---- the whole signature

abbrev untouched : Taken
untouched = record { general = 0; vector = 0; stack = 0 }

abbrev taken_by_all : Signature → Taken
taken_by_all s = taken_after (taken_at_first s.result_type) s.arguments

hidden_chain : (t : Tree) (end : ℕ) → ArgumentsChain untouched (hidden_locs (result_at amd64.copy_start end t (result_spot_of t))) (taken_at_first t)
hidden_chain t end =
    let one : Taken = record { general = 1; vector = 0; stack = 0 } in
    let first : ArgumentsChain untouched (G (general_argument 0) ∷ []) one = (one, (0, refl, omega arith, omega arith), (0, refl, omega arith), record { general = omega arith; vector = omega arith; stack = omega arith }, at_most_self one) in
    result_when (λ spot. ArgumentsChain untouched (hidden_locs (result_at amd64.copy_start end t spot)) (taken_at_first t)) t
    (λ e. record { general = omega arith; vector = omega arith; stack = omega arith })
    (λ e. subst (λ b. ArgumentsChain untouched (G (general_argument 0) ∷ []) (record { general = cond b 1 0; vector = 0; stack = 0 })) (sym e) first)
    (λ _ e. record { general = omega arith; vector = omega arith; stack = omega arith })

plan_chain : (s : Signature) → ArgumentsChain untouched (argument_locs (plan_of amd64 s)) (taken_by_all s)
plan_chain s =
    chain_append general_argument vector_register 6 8 untouched (hidden_locs (plan_of amd64 s).res) (taken_at_first s.result_type) _ _
    (hidden_chain s.result_type (frame_copies_end amd64 s)) (places_chain (copies_start (placing_of s)) (taken_at_first s.result_type) s.arguments)

plan_allowed : (s : Signature) → AllByRecursion (IsNoneOf (closed_to_arguments amd64)) (argument_locs (plan_of amd64 s))
plan_allowed s =
    chain_allowed general_argument vector_register 6 8 (closed_to_arguments amd64) argument_allowed vector_allowed stack_allowed untouched _ _ (plan_chain s)

plan_passed : (s : Signature) → AllByRecursion (IsOnStackOrIn amd64.argument_registers) (argument_locs (plan_of amd64 s))
plan_passed s =
    chain_passed general_argument vector_register 6 8 amd64.argument_registers argument_passes vector_passes untouched _ _ (plan_chain s)

plan_lies_in : (s : Signature) → AllByRecursion (LiesIn Amd64 (placing_of s).stack_bytes) (argument_locs (plan_of amd64 s))
plan_lies_in s =
    chain_lies_in general_argument vector_register 6 8 Amd64 argument_exists (λ k h. omega arith) untouched _ _ (placing_of s).stack_bytes (omega arith) (plan_chain s)

-- ---- the frame

abbrev framed : Signature → Taken
framed s = up_to (taken_by_all s) (frame_of amd64 s)

call_chain : (s : Signature) → ArgumentsChain untouched (call_locs s (plan_of amd64 s)) (framed s)
call_chain s =
    chain_append general_argument vector_register 6 8 untouched (argument_locs (plan_of amd64 s)) (taken_by_all s) _ (framed s) (plan_chain s) (frame_chain general_argument vector_register 6 8 amd64 start-behind s (taken_by_all s) (omega arith))

plan_apart : (s : Signature) → AreApart (call_locs s (plan_of amd64 s))
plan_apart s = chain_apart general_argument vector_register 6 8 argument_registers_apart untouched _ _ (call_chain s)

plan_in_frame : (s : Signature) → AllByRecursion (LiesIn Amd64 (frame_of amd64 s)) (call_locs s (plan_of amd64 s))
plan_in_frame s =
    chain_lies_in general_argument vector_register 6 8 Amd64 argument_exists (λ k h. omega arith) untouched _ (framed s) (frame_of amd64 s) (omega arith) (call_chain s)

-- ---- the result

-- the places of a result that isn't in memory
result_chain : (t : Tree) → Chain result_register vector_register 2 2 (at_eightbyte untouched []) (piece_locs (register_pieces result_register 0 0 t [] (classes t))) (at_eightbyte untouched ([] ++ classes t))
result_chain t =
    register_chain result_register 2 2 untouched t [] (classes t) (omega (arith, integers_few t)) (omega (arith, sses_few t))

registers_lie : (t : Tree) → AllByRecursion (LiesIn Amd64 0) (piece_locs (register_pieces result_register 0 0 t [] (classes t)))
registers_lie t =
    chain_lies_in result_register vector_register 2 2 Amd64 result_exists (λ k h. omega arith) (at_eightbyte untouched []) _ _ 0 (omega arith) (result_chain t)

result_cases : (P : List Loc → Type 0) → P [] → (t : Tree) → P (piece_locs (result_pieces t)) → (end : ℕ) → P (result_locs (result_at amd64.copy_start end t (result_spot_of t)))
result_cases P none t direct end =
    result_when (λ spot. P (result_locs (result_at amd64.copy_start end t spot))) t (λ e. none) (λ e. none) (λ _ e. direct)

-- by the class of a result in registers
pieces_by : (Q : List Piece → Type 0) (t : Tree) → (is_class_x87 t ≡ true → Q (x87_pieces 0 (leaves_of t))) → (is_class_x87 t ≡ false → Q (register_pieces result_register 0 0 t [] (classes t))) → Q (result_pieces t)
pieces_by Q t x87 others = by_class (is_class_x87 t) refl
  where
    by_class : (b : Bool) → is_class_x87 t ≡ b → Q (cond b (x87_pieces 0 (leaves_of t)) (register_pieces result_register 0 0 t [] (classes t)))
    by_class true e = x87 e
    by_class false e = others e

-- what holds of no places, of the words of st(0), of those of st(0) and st(1), and of the other registers, holds of a result's
places_by : (P : List Loc → Type 0) → P [] → P (F 16 ∷ F 17 ∷ []) → P (F 16 ∷ F 17 ∷ F 18 ∷ F 19 ∷ []) → (t : Tree) → P (piece_locs (register_pieces result_register 0 0 t [] (classes t))) → (end : ℕ) → P (result_locs (result_at amd64.copy_start end t (result_spot_of t)))
places_by P none one two t others end =
    result_cases P none t (pieces_by (λ ps. P (piece_locs ps)) t (λ e. x87_cases (λ ps. P (piece_locs ps)) (λ l. one) (λ l m. two) t e) (λ e. others)) end

-- the same of a result that is on no x87 stack
plain_places_by : (P : List Loc → Type 0) → P [] → (t : Tree) → has_long_double t ≡ false → P (piece_locs (register_pieces result_register 0 0 t [] (classes t))) → (end : ℕ) → P (result_locs (result_at amd64.copy_start end t (result_spot_of t)))
plain_places_by P none t plain others end =
    result_cases P none t (pieces_by (λ ps. P (piece_locs ps)) t (λ e. absurd (both e)) (λ e. others)) end
  where
    both : is_class_x87 t ≡ true → ⊥
    both e = let long : has_long_double t ≡ true = x87_is_long t e in cc

direct_has_all : (t : Tree) → is_class_memory t ≡ false → HaveAll t (result_pieces t)
direct_has_all t e =
    pieces_by (HaveAll t) t (x87_have_all t) (λ others. registers_have_all result_register 0 0 t (classes t) (classes_when t (or_from (is_class_memory t) (is_class_x87 t) e others)))

result_has_all : (t : Tree) (end : ℕ) → ResultHasAll t (result_at amd64.copy_start end t (result_spot_of t))
result_has_all t end =
    result_when (λ spot. ResultHasAll t (result_at amd64.copy_start end t spot)) t (λ e. e) (λ e. tt) (λ _ e. direct_has_all t e)

-- the sign and exponent of an x87 register stand above its significand
x87_lower_words : (t : Tree) → is_class_x87 t ≡ true → HaveLowerWords Amd64 (x87_pieces 0 (leaves_of t))
x87_lower_words t e =
    x87_cases (HaveLowerWords Amd64) (λ l. (tt, ((0, _, omega arith, refl, (refl, refl, refl)), tt))) (λ l m. (tt, ((0, _, omega arith, refl, (refl, refl, refl)), (tt, ((2, _, omega arith, refl, (refl, refl, refl)), tt))))) t e

direct_lower_words : (t : Tree) → HaveLowerWords Amd64 (result_pieces t)
direct_lower_words t =
    pieces_by (HaveLowerWords Amd64) t (x87_lower_words t) (λ others. lowest_words Amd64 (register_pieces result_register 0 0 t [] (classes t)) (each_weaker (LiesIn Amd64 0) (HasNoneBelow Amd64) (lies_lowest Amd64 0) _ (registers_lie t)))

result_lower_words : (t : Tree) (end : ℕ) → ResultHasLowerWords Amd64 (result_at amd64.copy_start end t (result_spot_of t))
result_lower_words t end =
    result_when (λ spot. ResultHasLowerWords Amd64 (result_at amd64.copy_start end t spot)) t (λ e. tt) (λ e. tt) (λ _ e. direct_lower_words t)

hidden_whole : (t : Tree) (end : ℕ) → AllByRecursion IsWhole (hidden_locs (result_at amd64.copy_start end t (result_spot_of t)))
hidden_whole t end =
    result_when (λ spot. AllByRecursion IsWhole (hidden_locs (result_at amd64.copy_start end t spot))) t (λ e. tt) (λ e. (refl, tt)) (λ _ e. tt)

-- every law of the places
pub sound : (s : Signature) → IsSound amd64 s
sound s =
    let end = frame_copies_end amd64 s in
    let t = s.result_type in
    let stack = (placing_of s).stack_bytes in
    record {
      apart = plan_apart s;
      in_frame = each_stands Amd64 (frame_of amd64 s) (call_locs s (plan_of amd64 s)) (plan_in_frame s);
      on_stack = each_stands Amd64 stack (argument_locs (plan_of amd64 s)) (plan_lies_in s);
      allowed = plan_allowed s;
      passed = each_passed_in_more amd64.argument_registers [] (argument_locs (plan_of amd64 s)) (plan_passed s);
      lower_words = places_lowest Amd64 stack (plan_of amd64 s).places (each_behind (LiesIn Amd64 stack) (hidden_locs (plan_of amd64 s).res) (flat_map place_locs (plan_of amd64 s).places) (plan_lies_in s));
      address = hidden_whole t end;
      has_all = arguments_have_all amd64.copy_start (copies_start (placing_of s)) (taken_at_first t) s.arguments;
      result_apart = places_by AreApart tt (apart_all (F 16 ∷ F 17 ∷ []) refl) (apart_all (F 16 ∷ F 17 ∷ F 18 ∷ F 19 ∷ []) refl) t (chain_apart result_register vector_register 2 2 result_registers_apart (at_eightbyte untouched []) _ _ (result_chain t)) end;
      result_in_registers = places_by (AllByRecursion (StandsIn Amd64 0)) tt (inr refl, (inr refl, tt)) (inr refl, (inr refl, (inr refl, (inr refl, tt)))) t (each_stands Amd64 0 _ (registers_lie t)) end;
      result_lower_words = result_lower_words t end;
      result_allowed = places_by (AllByRecursion (IsNoneOf (closed_to_results amd64))) tt (each_none_of (closed_to_results amd64) (F 16 ∷ F 17 ∷ []) refl) (each_none_of (closed_to_results amd64) (F 16 ∷ F 17 ∷ F 18 ∷ F 19 ∷ []) refl) t (chain_allowed result_register vector_register 2 2 (closed_to_results amd64) result_allowed_general result_allowed_vector result_allowed_stack (at_eightbyte untouched []) _ _ (result_chain t)) end;
      result_has_all = result_has_all t end;
      filled = arguments_filled (copies_start (placing_of s)) (taken_at_first t) s.arguments;
      rising = arguments_rise (copies_start (placing_of s)) (taken_at_first t) s.arguments;
      result_filled = result_filled t end;
      frame_aligned = frame_is_aligned amd64 s;
      need_aligned = need_is_aligned amd64 s refl;
      on_machine = λ plain. record { in_frame = plan_in_frame s; on_stack = plan_lies_in s; passed = plan_passed s; result_in_registers = plain_places_by (AllByRecursion (LiesIn Amd64 0)) tt t plain.result_type (registers_lie t) end };
    }

pub determines : (s : Signature) → IsDetermined amd64 s
determines s = determined amd64 s (sound s).has_all (sound s).result_has_all

-- ---- the result, by the stubs

in_results : (k : ℕ) → k < 2 → IsOneOf (result_loads Amd64) (G (result_register k))
in_results k h =
    one_of (result_loads Amd64) (G (result_register k)) (each_of_two (λ j. is_one_of (result_loads Amd64) (G (result_register j)) ≡ true) refl refl k h)

in_vector_results : (k : ℕ) → k < 2 → IsOneOf (result_loads Amd64) (F (vector_register k))
in_vector_results k h =
    one_of (result_loads Amd64) (F k) (each_of_two (λ j. is_one_of (result_loads Amd64) (F j) ≡ true) refl refl k h)

pub result_loaded : (s : Signature) → HasNoLongDouble s → AllByRecursion (IsOneOf (result_loads Amd64)) (result_locs (plan_of amd64 s).res)
result_loaded s plain =
    let t = s.result_type in
    plain_places_by (AllByRecursion (IsOneOf (result_loads Amd64))) tt t plain.result_type (chain_in result_register vector_register 2 2 (result_loads Amd64) (at_eightbyte untouched ([] ++ classes t)) refl (λ k h. in_results k (omega (arith, h, integers_few t))) (λ k h. in_vector_results k (omega (arith, h, sses_few t))) (at_eightbyte untouched []) _ (result_chain t)) (frame_copies_end amd64 s)

pub hidden_saved : (s : Signature) → AllByRecursion (IsOneOf (G 7 ∷ [])) (hidden_locs (plan_of amd64 s).res)
hidden_saved s =
    result_when (λ spot. AllByRecursion (IsOneOf (G 7 ∷ [])) (hidden_locs (result_at amd64.copy_start (frame_copies_end amd64 s) s.result_type spot))) s.result_type (λ e. tt) (λ e. (one_of (G 7 ∷ []) (G 7) refl, tt)) (λ _ e. tt)
