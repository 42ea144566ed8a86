-- The places of a signature are a chain by positions, so no two share a register or a byte of stack; and they have all of the values, which they therefore determine.
use Rattle.std.proofs.Common.{◌≡◌, ℕ, ◌+◌, ◌*◌, ◌<◌, ◌≤◌, Bool, true, false, ◌&&◌, ltb, cond, List, [], ◌∷◌, length, subst, sym, refl, arith}
use Rattle.std.specs.Prelude.{is_some}
use Rattle.std.specs.List.{AllByRecursion, flat_map}
use Rattle.std.proofs.lemmas.Bool.{ltb-true}
use Rattle.ffi3_type_spec.specs.TargetIsa.{isa_of}
use Rattle.ffi3_type_spec.specs.Tree.{Tree, void}
use Rattle.ffi3_type_spec.specs.Signature.{Signature}
use Rattle.ffi3_type_spec.proofs.Layouts.{least_multiple-above}
use Rattle.ffi3_type_spec.specs.Integer.{is_floating_type}
use Rattle.ffi3_place_spec.specs.declared.Loc.{Loc}
use Rattle.ffi3_place_spec.specs.declared.Loc.TheVariants.{G, F, S}
use Rattle.ffi3_place_spec.specs.declared.Taken.{Taken}
use Rattle.ffi3_place_spec.specs.Standard.{ResultSpot, no_result as not_passed, in_result_pieces, in_buffer, in_pieces, by_reference, place_at, places_from, copy_end, result_at, copies_start, frame_copies_end, frame_of, plan_of}
use Rattle.ffi3_place_spec.specs.Sound.{AreApart, IsWhole, IsOnStackOrIn, piece_locs, place_locs, hidden_locs, result_locs, argument_locs, IsNoneOf, LiesIn, call_locs, closed_to_arguments, closed_to_results, ResultHasAll, ResultIsFilled, IsSound, IsDetermined}
use Rattle.ffi3_place_spec.proofs.Chain.{AtMost, at_most_self, Chain, chain_append, chain_apart, chain_allowed, chain_passed, chain_lies_in}
use Rattle.ffi3_place_spec.proofs.Forbidden.{none_of}
use Rattle.ffi3_place_spec.proofs.Frame.{up_to, frame_chain}
use Rattle.ffi3_place_spec.proofs.Aligned.{frame_is_aligned, need_is_aligned}
use Rattle.ffi3_place_spec.proofs.Determines.{determined}
use Rattle.ffi3_place_spec.proofs.OnMachine.{sound_on_machine}
use Rattle.ffi3_win64_spec.specs.Win64.{win64, is_copied, general_argument, position_place, floating_places, whole, whole_in, argument_pieces, spot_at, spots_from, first_position, result_place, result_spot_of, stack_of, placing_of}
use Rattle.ffi3_win64_spec.proofs.Covered.{whole_has_all, arguments_have_all}
use Rattle.ffi3_win64_spec.proofs.Filled.{arguments_filled, result_filled}
use Rattle.ffi3_win64_spec.proofs.Rising.{arguments_rise}
use Rattle.ffi3_win64_spec.proofs.Registers.{numbered, registers, argument_exists, argument_allowed, vector_allowed, stack_allowed, argument_passes, vector_passes}

abbrev PlacesChain : Taken → List Loc → Taken → Type 0
PlacesChain = Chain general_argument numbered 4 4

-- what the positions before number p have
abbrev before_position : ℕ → Taken
before_position p = record { general = p; vector = p; stack = 8 * p }

more : (p q : ℕ) → p ≤ q → AtMost (before_position p) (before_position q)
more p q h = record { general = h; vector = h; stack = omega (arith, h) }

-- ---- one argument, in its position

place_chain_if : (p : ℕ) (b : Bool) → ltb p 4 ≡ b → PlacesChain (before_position p) (cond b (G (general_argument p)) (S (8 * p) 8) ∷ []) (before_position (p + 1))
place_chain_if p true e =
    (before_position (p + 1), (p, refl, omega arith, ltb-true p 4 e), (p, refl, omega arith), more p (p + 1) (omega arith), at_most_self (before_position (p + 1)))
place_chain_if p false e =
    (before_position (p + 1), omega arith, (omega arith, omega arith, omega arith), more p (p + 1) (omega arith), at_most_self (before_position (p + 1)))

place_chain : (p : ℕ) → PlacesChain (before_position p) (position_place p ∷ []) (before_position (p + 1))
place_chain p = place_chain_if p (ltb p 4) refl

-- a value that is in both registers of its position is two links
floating_chain : (variadic : Bool) (p : ℕ) (t : Tree) → p < 4 → PlacesChain (before_position p) (piece_locs (whole_in t (floating_places variadic p))) (before_position (p + 1))
floating_chain true p t h =
    let mid : Taken = record { general = p + 1; vector = p; stack = 8 * p } in (
      mid,
      (p, refl, omega arith, h),
      (p, refl, omega arith),
      record { general = omega arith; vector = omega arith; stack = omega arith },
      (before_position (p + 1), (p, refl, omega arith, h), (p, refl, omega arith), record { general = omega arith; vector = omega arith; stack = omega arith }, at_most_self (before_position (p + 1))),
    )
floating_chain false p t h =
    (before_position (p + 1), (p, refl, omega arith, h), (p, refl, omega arith), more p (p + 1) (omega arith), at_most_self (before_position (p + 1)))

pieces_chain_if : (variadic : Bool) (p : ℕ) (t : Tree) (f l : Bool) → ltb p 4 ≡ l → PlacesChain (before_position p) (piece_locs (whole_in t (cond (f && l) (floating_places variadic p) (position_place p ∷ [])))) (before_position (p + 1))
pieces_chain_if variadic p t true true e = floating_chain variadic p t (ltb-true p 4 e)
pieces_chain_if variadic p t true false e = place_chain p
pieces_chain_if variadic p t false l e = place_chain p

module _ (start : ℕ → Tree → ℕ) (variadic : Bool) where
  spot_chain_if : (end p : ℕ) (t : Tree) (copied : Bool) → PlacesChain (before_position p) (place_locs (place_at start end t (cond copied (by_reference (position_place p)) (in_pieces (argument_pieces variadic p t))))) (before_position (p + 1))
  spot_chain_if end p t true = place_chain p
  spot_chain_if end p t false = pieces_chain_if variadic p t (is_floating_type t) (ltb p 4) refl

  places_chain : (end p q : ℕ) (ts : List Tree) → p + length ts ≤ q → PlacesChain (before_position p) (flat_map place_locs (places_from start end ts (spots_from variadic p ts))) (before_position q)
  places_chain end p q [] h = more p q (omega (arith, h))
  places_chain end p q (t ∷ ts) h =
      chain_append general_argument numbered 4 4 (before_position p) (place_locs (place_at start end t (spot_at variadic p t))) (before_position (p + 1)) _ (before_position q)
      (spot_chain_if end p t (is_copied t)) (places_chain (copy_end start end t (spot_at variadic p t)) (p + 1) q ts (omega (arith, h)))

-- ---- where a result stands

by_copied : (P : ResultSpot → Type 0) (t : Tree) (b : Bool) → is_copied t ≡ b → (is_copied t ≡ true → P (in_buffer (position_place 0))) → (is_copied t ≡ false → P (in_result_pieces (whole (result_place t) t ∷ []))) → P (cond b (in_buffer (position_place 0)) (in_result_pieces (whole (result_place t) t ∷ [])))
by_copied P t true e hidden direct = hidden e
by_copied P t false e hidden direct = direct e

pub result_cases : (P : ResultSpot → Type 0) (t : Tree) → (t ≡ void → P not_passed) → (is_copied t ≡ true → P (in_buffer (position_place 0))) → (is_copied t ≡ false → P (in_result_pieces (whole (result_place t) t ∷ []))) → P (result_spot_of t)
result_cases P void none hidden direct = none refl
result_cases P t none hidden direct = by_copied P t (is_copied t) refl hidden direct

-- the address of a hidden result has the first position
hidden_chain : (s : Signature) → PlacesChain (before_position 0) (hidden_locs (plan_of win64 s).res) (before_position (first_position s.result_type))
hidden_chain s =
    result_cases (λ spot. PlacesChain (before_position 0) (hidden_locs (result_at win64.copy_start (frame_copies_end win64 s) s.result_type spot)) (before_position (first_position s.result_type))) s.result_type
    (λ e. more 0 _ (omega arith))
    (λ e. subst (λ b. PlacesChain (before_position 0) (position_place 0 ∷ []) (before_position (cond b 1 0))) (sym e) (place_chain 0))
    (λ e. more 0 _ (omega arith))

-- ---- the whole signature

abbrev positions : Signature → ℕ
positions s = first_position s.result_type + length s.arguments

abbrev all_positions : Signature → Taken
all_positions s = before_position (positions s)

plan_chain : (s : Signature) → PlacesChain (before_position 0) (argument_locs (plan_of win64 s)) (all_positions s)
plan_chain s =
    chain_append general_argument numbered 4 4 (before_position 0) (hidden_locs (plan_of win64 s).res) (before_position (first_position s.result_type)) _ (all_positions s)
    (hidden_chain s) (places_chain win64.copy_start (is_some s.fixed) (copies_start (placing_of s)) (first_position s.result_type) (positions s) s.arguments (omega arith))

-- each position has its eight bytes of stack
enough : (n : ℕ) → 8 * n ≤ stack_of n
enough n = omega arith

plan_allowed : (s : Signature) → AllByRecursion (IsNoneOf (closed_to_arguments win64)) (argument_locs (plan_of win64 s))
plan_allowed s =
    chain_allowed general_argument numbered 4 4 (closed_to_arguments win64) argument_allowed vector_allowed stack_allowed (before_position 0) _ _ (plan_chain s)

plan_passed : (s : Signature) → AllByRecursion (IsOnStackOrIn win64.argument_registers) (argument_locs (plan_of win64 s))
plan_passed s =
    chain_passed general_argument numbered 4 4 win64.argument_registers argument_passes vector_passes (before_position 0) _ _ (plan_chain s)

plan_lies_in : (s : Signature) → AllByRecursion (LiesIn (isa_of win64.target) (placing_of s).stack_bytes) (argument_locs (plan_of win64 s))
plan_lies_in s =
    chain_lies_in general_argument numbered 4 4 (isa_of win64.target) argument_exists (λ k h. omega arith) (before_position 0) _ _ (placing_of s).stack_bytes (enough (positions s)) (plan_chain s)

-- ---- the frame

abbrev framed : Signature → Taken
framed s = up_to (all_positions s) (frame_of win64 s)

call_chain : (s : Signature) → PlacesChain (before_position 0) (call_locs s (plan_of win64 s)) (framed s)
call_chain s =
    chain_append general_argument numbered 4 4 (before_position 0) (argument_locs (plan_of win64 s)) (all_positions s) _ (framed s) (plan_chain s)
    (frame_chain general_argument numbered 4 4 win64 (λ end t. least_multiple-above 16 end) s (all_positions s) (enough (positions s)))

plan_apart : (s : Signature) → AreApart (call_locs s (plan_of win64 s))
plan_apart s =
    chain_apart general_argument numbered 4 4 registers (before_position 0) _ _ (call_chain s)

plan_in_frame : (s : Signature) → AllByRecursion (LiesIn (isa_of win64.target) (frame_of win64 s)) (call_locs s (plan_of win64 s))
plan_in_frame s =
    chain_lies_in general_argument numbered 4 4 (isa_of win64.target) argument_exists (λ k h. omega arith) (before_position 0) _ (framed s) (frame_of win64 s) (omega arith) (call_chain s)

-- ---- the result

either_register : (P : Loc → Type 0) → P (F 0) → P (G 0) → (b : Bool) → P (cond b (F 0) (G 0))
either_register P f g true = f
either_register P f g false = g

-- what holds of no places, of xmm0 and of rax holds of a result's
result_by : (P : List Loc → Type 0) → P [] → P (F 0 ∷ []) → P (G 0 ∷ []) → (s : Signature) → P (result_locs (plan_of win64 s).res)
result_by P none floating general s =
    result_cases (λ spot. P (result_locs (result_at win64.copy_start (frame_copies_end win64 s) s.result_type spot))) s.result_type (λ e. none) (λ e. none) (λ e. either_register (λ l. P (l ∷ [])) floating general (is_floating_type s.result_type))

result_has_all : (s : Signature) → ResultHasAll s.result_type (plan_of win64 s).res
result_has_all s =
    result_cases (λ spot. ResultHasAll s.result_type (result_at win64.copy_start (frame_copies_end win64 s) s.result_type spot)) s.result_type (λ e. e) (λ e. tt) (λ e. whole_has_all s.result_type e (result_place s.result_type) [] (either_register IsWhole refl refl (is_floating_type s.result_type), tt))

result_is_filled : (s : Signature) → ResultIsFilled win64 s.result_type (plan_of win64 s).res
result_is_filled s =
    result_cases (λ spot. ResultIsFilled win64 s.result_type (result_at win64.copy_start (frame_copies_end win64 s) s.result_type spot)) s.result_type (λ e. tt) (λ e. tt) (λ e. result_filled s.result_type)

-- every law of the places
pub sound : (s : Signature) → IsSound win64 s
sound s = sound_on_machine win64 s (record {
  apart = plan_apart s;
  in_frame = plan_in_frame s;
  on_stack = plan_lies_in s;
  allowed = plan_allowed s;
  passed = plan_passed s;
  has_all = arguments_have_all win64.copy_start (copies_start (placing_of s)) (is_some s.fixed) (first_position s.result_type) s.arguments;
  address = result_cases (λ spot. AllByRecursion IsWhole (hidden_locs (result_at win64.copy_start (frame_copies_end win64 s) s.result_type spot))) s.result_type (λ e. tt) (λ e. (refl, tt)) (λ e. tt);
  filled = arguments_filled win64.copy_start (copies_start (placing_of s)) (is_some s.fixed) (first_position s.result_type) s.arguments;
  rising = arguments_rise win64.copy_start (copies_start (placing_of s)) (is_some s.fixed) (first_position s.result_type) s.arguments;
  result_apart = result_by AreApart tt (tt, tt) (tt, tt) s;
  result_in_registers = result_by (AllByRecursion (LiesIn (isa_of win64.target) 0)) tt (omega arith, tt) (omega arith, tt) s;
  result_allowed = result_by (AllByRecursion (IsNoneOf (closed_to_results win64))) tt (none_of (closed_to_results win64) (F 0) refl, tt) (none_of (closed_to_results win64) (G 0) refl, tt) s;
  result_has_all = result_has_all s;
  result_filled = result_is_filled s;
  frame_aligned = frame_is_aligned win64 s;
  need_aligned = need_is_aligned win64 s refl;
})

pub determines : (s : Signature) → IsDetermined win64 s
determines s = determined win64 s (sound s).has_all (sound s).result_has_all
