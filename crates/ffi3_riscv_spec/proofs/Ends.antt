-- The plan of a call is the one that the ends give, and no other is; nor does any other way to pass the arguments meet them.
use Rattle.std.proofs.Common.{◌≡◌, ℕ, zero, suc, ◌+◌, ◌<◌, ◌≤◌, true, cond, List, [], ◌∷◌, take, length, ap, subst, sym, ◌∙◌, refl, arith}
use Rattle.std.specs.Prelude.{Option, Some, slice_get}
use Rattle.ffi3_type_spec.specs.Tree.{Tree, void, tree_at}
use Rattle.ffi3_type_spec.specs.Layout.{size_of}
use Rattle.ffi3_type_spec.specs.Signature.{Signature}
use Rattle.ffi3_place_spec.specs.declared.Loc.TheVariants.{G}
use Rattle.ffi3_place_spec.specs.declared.Piece.{Piece}
use Rattle.ffi3_place_spec.specs.declared.Place.{Place}
use Rattle.ffi3_place_spec.specs.declared.Place.TheVariants.{Direct, ByRef as ByRefPlace}
use Rattle.ffi3_place_spec.specs.declared.Res.{Res}
use Rattle.ffi3_place_spec.specs.declared.Res.TheVariants.{Nothing, Direct as DirectRes, Hidden}
use Rattle.ffi3_place_spec.specs.declared.Plan.{Plan}
use Rattle.ffi3_place_spec.specs.Standard.{in_pieces, result_at, place_at, copy_end, buffer_end, plan_of, round8, round16, start}
use Rattle.ffi3_place_spec.specs.Framed.{copied_before, copied_end, IsFramedByEnds}
use Rattle.ffi3_place_spec.proofs.Framed.{framed_by_ends, framed_once}
use Rattle.ffi3_riscv_spec.specs.declared.Shape.{Shape}
use Rattle.ffi3_riscv_spec.specs.declared.Shape.TheVariants.{OneF, ByRef}
use Rattle.ffi3_riscv_spec.specs.declared.TakenWords.{TakenWords}
use Rattle.ffi3_riscv_spec.specs.Riscv.{is_fixed, word, integer_register, spot_of, spots_after, taken_at_start, taken_by_shape, taken_with, shape_after, spot_after, taken_after, taken_at_first, untouched, result_shape, result_from, result_spot_of, is_by_reference, stack_of, placing_of, riscv}
use Rattle.ffi3_riscv_spec.specs.Ends.{taken_before, start_of, AreChosenByEnds, spot_by_ends, stack_by_ends, copy_step, copies_before, IsByEnds, IsPlacedByEnds}

-- what the arguments before number i use
abbrev pub taken_until : Signature → ℕ → TakenWords
taken_until s i =
    taken_after s.fixed (taken_at_first s.result_type) 0 (take i s.arguments)

-- how argument i is passed
abbrev pub passed : Signature → ℕ → Shape
passed s i = shape_after (taken_until s i) (is_fixed s.fixed i) (tree_at s.arguments i)

module _ (fixed : Option ℕ) where
  abbrev with_argument : TakenWords → ℕ → Tree → TakenWords
  with_argument a k t = taken_with a (is_fixed fixed k) t

  taken_more : (a : TakenWords) (k : ℕ) (ts : List Tree) (i : ℕ) → i < length ts → taken_after fixed a k (take (suc i) ts) ≡ with_argument (taken_after fixed a k (take i ts)) (k + i) (tree_at ts i)
  taken_more a k [] i h = absurd (omega arith)
  taken_more a k (t ∷ ts) zero h =
      let same : k ≡ k + 0 = omega arith in ap (λ n. with_argument a n t) same
  taken_more a k (t ∷ ts) (suc i) h =
      let same : k + 1 + i ≡ k + suc i = omega arith in
      taken_more (with_argument a k t) (k + 1) ts i (omega arith) ∙ ap (λ n. with_argument (taken_after fixed (with_argument a k t) (k + 1) (take i ts)) n (tree_at ts i)) same

  taken_all : (a : TakenWords) (k : ℕ) (ts : List Tree) → taken_after fixed a k (take (length ts) ts) ≡ taken_after fixed a k ts
  taken_all a k [] = refl
  taken_all a k (t ∷ ts) = taken_all (with_argument a k t) (k + 1) ts

  spot_at : (a : TakenWords) (k : ℕ) (ts : List Tree) (i : ℕ) → i < length ts → slice_get (spots_after fixed a k ts) i ≡ Some (spot_after (taken_after fixed a k (take i ts)) (is_fixed fixed (k + i)) (tree_at ts i))
  spot_at a k [] i h = absurd (omega arith)
  spot_at a k (t ∷ ts) zero h =
      let same : k ≡ k + 0 = omega arith in
      ap (λ n. Some (spot_after a (is_fixed fixed n) t)) same
  spot_at a k (t ∷ ts) (suc i) h =
      let same : k + 1 + i ≡ k + suc i = omega arith in
      spot_at (with_argument a k t) (k + 1) ts i (omega arith) ∙ ap (λ n. Some (spot_after (taken_after fixed (with_argument a k t) (k + 1) (take i ts)) (is_fixed fixed n) (tree_at ts i))) same

spots_length : (fixed : Option ℕ) (a : TakenWords) (k : ℕ) (ts : List Tree) → length (spots_after fixed a k ts) ≡ length ts
spots_length fixed a k [] = refl
spots_length fixed a k (t ∷ ts) = ap suc (spots_length fixed (taken_with a (is_fixed fixed k) t) (k + 1) ts)

-- what is taken after an argument, by how it is passed
abbrev taken_by : Signature → ℕ → TakenWords → Shape → TakenWords
taken_by s i a x = taken_by_shape (taken_at_start a (is_fixed s.fixed i) (tree_at s.arguments i)) x

-- one more argument
ends_next : (s : Signature) (p : ℕ → Shape) (i : ℕ) (a : TakenWords) (x : Shape) → a ≡ taken_before s p i → x ≡ p i → taken_by s i a x ≡ taken_before s p (suc i)
ends_next s p i a x e f =
    ap (λ b. taken_by s i b x) e ∙ ap (λ y. taken_by s i (taken_before s p i) y) f

module _ (s : Signature) where
  pub ends_are_taken : (i : ℕ) → i ≤ length s.arguments → taken_until s i ≡ taken_before s (passed s) i
  ends_are_taken zero h = refl
  ends_are_taken (suc i) h =
      let index : 0 + i ≡ i = omega arith in
      taken_more s.fixed (taken_at_first s.result_type) 0 s.arguments i (omega arith) ∙ ap (λ n. taken_with (taken_until s i) (is_fixed s.fixed n) (tree_at s.arguments i)) index ∙ ends_next s (passed s) i (taken_until s i) (passed s i) (ends_are_taken i (omega arith)) refl

  -- each argument is passed so
  chosen_by_ends : AreChosenByEnds s (passed s)
  chosen_by_ends i h =
      ap (λ a. shape_after a (is_fixed s.fixed i) (tree_at s.arguments i)) (ends_are_taken i (omega arith))

  pub one_each : length (placing_of s).arguments ≡ length s.arguments
  one_each = spots_length s.fixed (taken_at_first s.result_type) 0 s.arguments

  -- and stands there
  spot_is_by_ends : (i : ℕ) → i < length s.arguments → slice_get (placing_of s).arguments i ≡ Some (spot_by_ends s (passed s) i)
  spot_is_by_ends i h =
      let index : 0 + i ≡ i = omega arith in
      spot_at s.fixed (taken_at_first s.result_type) 0 s.arguments i h ∙ ap (λ n. Some (spot_after (taken_until s i) (is_fixed s.fixed n) (tree_at s.arguments i))) index ∙ ap (λ a. Some (spot_of (taken_at_start a (is_fixed s.fixed i) (tree_at s.arguments i)) (tree_at s.arguments i) (passed s i))) (ends_are_taken i (omega arith))

  stack_is_by_ends : (placing_of s).stack_bytes ≡ stack_by_ends s (passed s)
  stack_is_by_ends =
      ap stack_of (sym (taken_all s.fixed (taken_at_first s.result_type) 0 s.arguments) ∙ ends_are_taken (length s.arguments) (omega arith))

-- ---- one argument

-- where a copy ends, by how the argument is passed
copy_ends : (b : TakenWords) (t : Tree) (x : Shape) (end : ℕ) → copy_end start end t (spot_of b t x) ≡ cond (is_by_reference x) (start end t + round8 (size_of t)) end
copy_ends b t OneF end = refl
copy_ends b t _ end = refl

-- a place that is in pieces, or by reference, as the argument is passed
place_is : (b : TakenWords) (t : Tree) (x : Shape) (end : ℕ) (p : Option Place) → ((pieces : List Piece) → spot_of b t x ≡ in_pieces pieces → p ≡ Some (Direct pieces)) → (is_by_reference x ≡ true → p ≡ Some (ByRefPlace (word b.words) (start end t))) → p ≡ Some (place_at start end t (spot_of b t x))
place_is b t ByRef end p direct copied = copied refl
place_is b t _ end p direct copied = direct _ refl

place_by_reference : (b : TakenWords) (t : Tree) (x : Shape) (end : ℕ) → is_by_reference x ≡ true → place_at start end t (spot_of b t x) ≡ ByRefPlace (word b.words) (start end t)
place_by_reference b t ByRef end h = refl
place_by_reference b t _ end h = cc

-- ---- a result

buffer_ends_from : (t : Tree) (x : Shape) (end : ℕ) → buffer_end start end t (result_from (spot_of untouched t x)) ≡ cond (is_by_reference x) (start end t + round8 (size_of t)) end
buffer_ends_from t OneF end = refl
buffer_ends_from t _ end = refl

-- where the buffer ends, if there is one
buffer_ends : (t : Tree) (end : ℕ) → buffer_end start end t (result_spot_of t) ≡ cond (is_by_reference (result_shape t)) (start end t + round8 (size_of t)) end
buffer_ends void end = refl
buffer_ends t end = buffer_ends_from t (result_shape t) end

hidden_from : (t : Tree) (x : Shape) (end : ℕ) → is_by_reference x ≡ true → result_at start end t (result_from (spot_of untouched t x)) ≡ Hidden (G (integer_register 0)) (start end t)
hidden_from t ByRef end h = refl
hidden_from t _ end h = cc

hidden_result : (t : Tree) (end : ℕ) → is_by_reference (result_shape t) ≡ true → result_at start end t (result_spot_of t) ≡ Hidden (G (integer_register 0)) (start end t)
hidden_result void end h = cc
hidden_result t end h = hidden_from t (result_shape t) end h

direct_result : (t : Tree) (end : ℕ) (pieces : List Piece) → ¬ (t ≡ void) → spot_of untouched t (result_shape t) ≡ in_pieces pieces → result_at start end t (result_spot_of t) ≡ DirectRes pieces
direct_result void end pieces some h = absurd (some refl)
direct_result t end pieces some h = ap (λ x. result_at start end t (result_from x)) h

result_is_from : (t : Tree) (x : Shape) (end : ℕ) (r : Res) → ((pieces : List Piece) → spot_of untouched t x ≡ in_pieces pieces → r ≡ DirectRes pieces) → (is_by_reference x ≡ true → r ≡ Hidden (G (integer_register 0)) (start end t)) → r ≡ result_at start end t (result_from (spot_of untouched t x))
result_is_from t ByRef end r direct hidden = hidden refl
result_is_from t _ end r direct hidden = direct _ refl

-- a result that is absent, or direct, or hidden, as its type says
result_is : (t : Tree) (end : ℕ) (r : Res) → (t ≡ void → r ≡ Nothing) → (¬ (t ≡ void) → (pieces : List Piece) → spot_of untouched t (result_shape t) ≡ in_pieces pieces → r ≡ DirectRes pieces) → (is_by_reference (result_shape t) ≡ true → r ≡ Hidden (G (integer_register 0)) (start end t)) → r ≡ result_at start end t (result_spot_of t)
result_is void end r none direct hidden = none refl
result_is t end r none direct hidden = result_is_from t (result_shape t) end r (direct (λ e. cc)) hidden

-- ---- the ends leave no choice

module _ (s : Signature) (p q : ℕ → Shape) (by_p : AreChosenByEnds s p) (by_q : AreChosenByEnds s q) where
  same_ends : (i : ℕ) → i ≤ length s.arguments → taken_before s p i ≡ taken_before s q i
  same_ends zero h = refl
  same_ends (suc i) h =
      let before = same_ends i (omega arith) in
      let same : p i ≡ q i = by_p i (omega arith) ∙ ap (λ a. shape_after a (is_fixed s.fixed i) (tree_at s.arguments i)) before ∙ sym (by_q i (omega arith)) in
      ends_next s q i (taken_before s p i) (p i) before same

  -- every argument is passed in the same way
  same_choice : (i : ℕ) → i < length s.arguments → p i ≡ q i
  same_choice i h =
      by_p i h ∙ ap (λ a. shape_after a (is_fixed s.fixed i) (tree_at s.arguments i)) (same_ends i (omega arith)) ∙ sym (by_q i h)

  -- and stands at the same place
  same_spot : (i : ℕ) → i < length s.arguments → spot_by_ends s p i ≡ spot_by_ends s q i
  same_spot i h =
      ap (λ a. spot_of (taken_at_start a (is_fixed s.fixed i) (tree_at s.arguments i)) (tree_at s.arguments i) (p i)) (same_ends i (omega arith)) ∙ ap (λ x. spot_of (start_of s q i) (tree_at s.arguments i) x) (same_choice i h)

  same_stack : stack_by_ends s p ≡ stack_by_ends s q
  same_stack = ap stack_of (same_ends (length s.arguments) (omega arith))

-- ---- all of a call

module _ (s : Signature) (passed : ℕ → Shape) where
  -- copies end where the steps over all places say
  copies_agree : (i : ℕ) → copied_before riscv s (spot_by_ends s passed) (stack_by_ends s passed) i ≡ copies_before s passed i
  copies_agree zero = refl
  copies_agree (suc i) =
      copy_ends (start_of s passed i) (tree_at s.arguments i) (passed i) (copied_before riscv s (spot_by_ends s passed) (stack_by_ends s passed) i) ∙ ap (copy_step s passed i) (copies_agree i)

  abbrev IsFramed : Plan → Type 0
  IsFramed p =
      IsFramedByEnds riscv s (spot_by_ends s passed) (result_spot_of s.result_type) (stack_by_ends s passed) 0 p

  module _ (p : Plan) where
    abbrev end : ℕ
    end = copied_end riscv s (spot_by_ends s passed) (stack_by_ends s passed)

    ends_agree : end ≡ copies_before s passed (length s.arguments)
    ends_agree = copies_agree (length s.arguments)

    -- a plan that is framed so is by the ends
    abbrev from_framed : AreChosenByEnds s passed → IsFramed p → IsByEnds s p
    from_framed chosen framed = record {
      passed = passed;
      by_ends = chosen;
      one_each = framed.one_each;
      direct = λ i h pieces is. framed.placed i h ∙ ap (λ x. Some (place_at start (copied_before riscv s (spot_by_ends s passed) (stack_by_ends s passed) i) (tree_at s.arguments i) x)) is;
      copied = λ i h is. framed.placed i h ∙ ap Some (place_by_reference (start_of s passed i) (tree_at s.arguments i) (passed i) (copied_before riscv s (spot_by_ends s passed) (stack_by_ends s passed) i) is) ∙ ap (λ n. Some (ByRefPlace (word (start_of s passed i).words) (start n (tree_at s.arguments i)))) (copies_agree i);
      no_result = λ is_void. framed.result_placed ∙ ap (λ t. result_at start end t (result_spot_of t)) is_void;
      result_in_registers = λ some pieces is. framed.result_placed ∙ direct_result s.result_type end pieces some is;
      result_in_buffer = λ is. framed.result_placed ∙ hidden_result s.result_type end is ∙ ap (λ n. Hidden (G (integer_register 0)) (start n s.result_type)) ends_agree;
      frame_end = framed.frame_end ∙ ap round16 (buffer_ends s.result_type end) ∙ ap (λ n. round16 (cond (is_by_reference (result_shape s.result_type)) (start n s.result_type + round8 (size_of s.result_type)) n)) ends_agree;
      block_total = framed.block_total;
      need_total = framed.need_total;
      none_counted = framed.counted;
    }

module _ (s : Signature) (p : Plan) (by : IsByEnds s p) where
  abbrev copied_there : ℕ → ℕ
  copied_there i = copied_before riscv s (spot_by_ends s by.passed) (stack_by_ends s by.passed) i

  abbrev end_there : ℕ
  end_there = copied_there (length s.arguments)

  -- and the other way round
  to_framed : IsFramed s by.passed p
  to_framed = record {
    one_each = by.one_each;
    placed = λ i h. place_is (start_of s by.passed i) (tree_at s.arguments i) (by.passed i) (copied_there i) (slice_get p.places i) (by.direct i h) (λ is. by.copied i h is ∙ ap (λ n. Some (ByRefPlace (word (start_of s by.passed i).words) (start n (tree_at s.arguments i)))) (sym (copies_agree s by.passed i)));
    result_placed = result_is s.result_type end_there p.res by.no_result by.result_in_registers (λ is. by.result_in_buffer is ∙ ap (λ n. Hidden (G (integer_register 0)) (start n s.result_type)) (sym (copies_agree s by.passed (length s.arguments))));
    frame_end = by.frame_end ∙ ap (λ n. round16 (cond (is_by_reference (result_shape s.result_type)) (start n s.result_type + round8 (size_of s.result_type)) n)) (sym (copies_agree s by.passed (length s.arguments))) ∙ sym (ap round16 (buffer_ends s.result_type end_there));
    block_total = by.block_total;
    need_total = by.need_total;
    counted = by.none_counted;
  }

module _ (s : Signature) where
  framed : IsFramed s (passed s) (plan_of riscv s)
  framed =
      subst (λ n. IsFramedByEnds riscv s (spot_by_ends s (passed s)) (result_spot_of s.result_type) n 0 (plan_of riscv s)) (stack_is_by_ends s) (framed_by_ends riscv s (spot_by_ends s (passed s)) (one_each s) (spot_is_by_ends s))

  abbrev placed_by_ends : IsByEnds s (plan_of riscv s)
  placed_by_ends = from_framed s (passed s) (plan_of riscv s) (chosen_by_ends s) framed

  only_by_ends : (p : Plan) → IsByEnds s p → p ≡ plan_of riscv s
  only_by_ends p by =
      let theirs = subst (λ n. IsFramedByEnds riscv s (spot_by_ends s by.passed) (result_spot_of s.result_type) n 0 p) (same_stack s by.passed (passed s) by.by_ends (chosen_by_ends s)) (to_framed s p by) in
      framed_once riscv s (spot_by_ends s by.passed) (spot_by_ends s (passed s)) (same_spot s by.passed (passed s) by.by_ends (chosen_by_ends s)) (stack_by_ends s (passed s)) (result_spot_of s.result_type) 0 p (plan_of riscv s) theirs framed

  pub is_placed_by_ends : IsPlacedByEnds s
  is_placed_by_ends = record {
    placed = placed_by_ends;
    only = only_by_ends;
    only_choice = λ other chosen i h. same_choice s other (passed s) chosen (chosen_by_ends s) i h;
    stack_total = stack_is_by_ends s;
  }
