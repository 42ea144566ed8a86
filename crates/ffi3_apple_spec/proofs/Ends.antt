-- What the arguments before a number have taken ends where the steps over the whole list end; so the plan of a call is by the ends, and no other plan is.
use Rattle.std.proofs.Common.{◌≡◌, ℕ, zero, suc, ◌+◌, ◌<◌, ◌≤◌, Bool, true, false, not, ◌&&◌, ◌||◌, cond, List, [], ◌∷◌, take, length, ap, subst, sym, ◌∙◌, refl, arith}
use Rattle.std.specs.Prelude.{Option, None, Some, slice_get, nat_lt}
use Rattle.std.proofs.lemmas.Bool.Decides.{nat_tests}
use Rattle.ffi3_type_spec.specs.Tree.{Tree, tree_at}
use Rattle.ffi3_type_spec.specs.Layout.{size_of}
use Rattle.ffi3_type_spec.specs.Signature.{Signature}
use Rattle.ffi3_place_spec.specs.declared.Loc.TheVariants.{G, S}
use Rattle.ffi3_place_spec.specs.declared.Plan.{Plan}
use Rattle.ffi3_place_spec.specs.declared.Taken.{Taken}
use Rattle.ffi3_place_spec.specs.Standard.{Spot, in_pieces, by_reference, place_at, copy_end, result_at, buffer_end, start, plan_of, round8, round16}
use Rattle.ffi3_place_spec.specs.Doublewords.{stack_pieces}
use Rattle.ffi3_place_spec.specs.Framed.{copied_before, IsFramedByEnds}
use Rattle.ffi3_place_spec.proofs.Framed.{framed_by_ends, framed_once}
use Rattle.ffi3_aapcs64_spec.specs.Aapcs64.{is_composite, in_vectors, is_copied, registers_needed, register_pieces, untouched, result_spot_of}
use Rattle.ffi3_aapcs64_spec.proofs.Ends.{same_taken, sum_rises, past_eight, kind_rises, result_when, spot_of_copied, spot_of_direct, buffer_ends}
use Rattle.ffi3_apple_spec.specs.Apple.{apple, is_named, is_packed, packed_pieces, taken_with, taken_after, spot_after, spots_after, placing_of}
use Rattle.ffi3_apple_spec.specs.Ends.{needs_of_kind, before_of_kind, first_of, is_in_registers, is_packed_there, stack_at, stack_before, copy_step, copies_before, IsByEnds, NoneFitsLater, IsPlacedByEnds}

module _ (fixed : Option ℕ) where
  abbrev with_argument : Taken → ℕ → Tree → Taken
  with_argument a k t = taken_with (is_named fixed k) a t

  taken_more : (a : Taken) (k : ℕ) (ts : List Tree) (i : ℕ) → i < length ts → taken_after fixed a k (take (suc i) ts) ≡ with_argument (taken_after fixed a k (take i ts)) (k + i) (tree_at ts i)
  taken_more a k [] i h = absurd (omega arith)
  taken_more a k (t ∷ ts) zero h =
      let same : k ≡ k + 0 = omega arith in ap (λ n. with_argument a n t) same
  taken_more a k (t ∷ ts) (suc i) h =
      let same : k + 1 + i ≡ k + suc i = omega arith in
      taken_more (with_argument a k t) (k + 1) ts i (omega arith) ∙ ap (λ n. with_argument (taken_after fixed (with_argument a k t) (k + 1) (take i ts)) n (tree_at ts i)) same

  taken_all : (a : Taken) (k : ℕ) (ts : List Tree) → taken_after fixed a k (take (length ts) ts) ≡ taken_after fixed a k ts
  taken_all a k [] = refl
  taken_all a k (t ∷ ts) = taken_all (with_argument a k t) (k + 1) ts

  spot_at : (a : Taken) (k : ℕ) (ts : List Tree) (i : ℕ) → i < length ts → slice_get (spots_after fixed a k ts) i ≡ Some (spot_after (is_named fixed (k + i)) (taken_after fixed a k (take i ts)) (tree_at ts i))
  spot_at a k [] i h = absurd (omega arith)
  spot_at a k (t ∷ ts) zero h =
      let same : k ≡ k + 0 = omega arith in
      ap (λ n. Some (spot_after (is_named fixed n) a t)) same
  spot_at a k (t ∷ ts) (suc i) h =
      let same : k + 1 + i ≡ k + suc i = omega arith in
      spot_at (with_argument a k t) (k + 1) ts i (omega arith) ∙ ap (λ n. Some (spot_after (is_named fixed n) (taken_after fixed (with_argument a k t) (k + 1) (take i ts)) (tree_at ts i))) same

  pub spots_length : (a : Taken) (k : ℕ) (ts : List Tree) → length (spots_after fixed a k ts) ≡ length ts
  spots_length a k [] = refl
  spots_length a k (t ∷ ts) = ap suc (spots_length (with_argument a k t) (k + 1) ts)

-- ---- one more argument, by its kind

next_vector : (b : Bool) (v g n : ℕ) → cond b (cond b v g + n) v ≡ v + cond b n 0
next_vector true v g n = refl
next_vector false v g n = omega arith

next_general : (b : Bool) (v g n : ℕ) → cond b g (cond b v g + n) ≡ g + cond b 0 n
next_general true v g n = omega arith
next_general false v g n = refl

-- where an argument's registers end is the end up to it of its kind
up_to_own : (b : Bool) (v g n : ℕ) → cond b (v + cond b n 0) (g + cond b 0 n) ≡ cond b v g + n
up_to_own true v g n = refl
up_to_own false v g n = refl

-- a variadic argument has none but variadic ones behind it
variadic_behind : (fixed : Option ℕ) (i j : ℕ) → i ≤ j → is_named fixed i ≡ false → is_named fixed j ≡ false
variadic_behind None i j h e = cc
variadic_behind (Some n) i j h e = past_number n i j h e
  where
    past_number : (n i j : ℕ) → i ≤ j → nat_lt i n ≡ false → nat_lt j n ≡ false
    past_number n i j h e = grind (arith, nat_tests)

-- what fails by its first or its second test, where these go on to fail
both_fail : (a b c d : Bool) → (a ≡ false → c ≡ false) → (b ≡ false → d ≡ false) → (a && b) ≡ false → (c && d) ≡ false
both_fail false b c d first second e = ap (λ x. x && d) (first refl)
both_fail true false false d first second e = refl
both_fail true false true d first second e = second refl
both_fail true true c d first second e = cc

-- ---- what is packed is not copied

packed_or_copied : (named vector composite large : Bool) → (named && (vector || not composite)) ≡ true → (composite && (not vector && large)) ≡ false
packed_or_copied false vector composite large e = cc
packed_or_copied true vector false large e = refl
packed_or_copied true true true large e = refl
packed_or_copied true false true large e = cc

copied_or_packed : (named vector composite large : Bool) → (composite && (not vector && large)) ≡ true → (named && (vector || not composite)) ≡ false
copied_or_packed false vector composite large e = refl
copied_or_packed true vector false large e = cc
copied_or_packed true true true large e = cc
copied_or_packed true false true large e = refl

packed_not_copied : (named : Bool) (t : Tree) → is_packed named t ≡ true → is_copied t ≡ false
packed_not_copied named t = packed_or_copied named (in_vectors t) (is_composite t) (nat_lt 16 (size_of t))

copied_not_packed : (named : Bool) (t : Tree) → is_copied t ≡ true → is_packed named t ≡ false
copied_not_packed named t = copied_or_packed named (in_vectors t) (is_composite t) (nat_lt 16 (size_of t))

-- ---- one argument, by whether it is packed, whether it is copied and whether it, or the address, is in registers

abbrev SpotIf : Bool → Bool → Bool → ℕ → ℕ → Tree → Spot
SpotIf packed copied inside first at t =
    cond inside (cond copied (by_reference (G first)) (in_pieces (register_pieces first t)))
    (cond packed (in_pieces (packed_pieces at t)) (cond copied (by_reference (S at 8)) (in_pieces (stack_pieces at t))))

copy_ends : (packed copied inside : Bool) (first at end : ℕ) (t : Tree) → (packed ≡ true → copied ≡ false) → copy_end start end t (SpotIf packed copied inside first at t) ≡ cond copied (start end t + round8 (size_of t)) end
copy_ends true true false first at end t apart =
    let never : true ≡ false = apart refl in cc
copy_ends _ true true first at end t apart = refl
copy_ends _ false false first at end t apart = refl
copy_ends _ _ _ first at end t apart = refl

-- ---- all of a call

module _ (s : Signature) where
  abbrev taken_before : ℕ → Taken
  taken_before i = taken_after s.fixed untouched 0 (take i s.arguments)

  abbrev ends_before : ℕ → Taken
  ends_before i =
      record { general = before_of_kind s false i; vector = before_of_kind s true i; stack = stack_before s i }

  ends_are_taken : (i : ℕ) → i ≤ length s.arguments → taken_before i ≡ ends_before i
  ends_are_taken zero h = refl
  ends_are_taken (suc i) h =
      let t = tree_at s.arguments i in
      let named = is_named s.fixed i in
      let index : 0 + i ≡ i = omega arith in
      let before = ends_are_taken i (omega arith) in
      let more = same_taken (taken_with named (ends_before i) t) (ends_before (suc i)) (next_general (in_vectors t) (before_of_kind s true i) (before_of_kind s false i) (registers_needed t)) (next_vector (in_vectors t) (before_of_kind s true i) (before_of_kind s false i) (registers_needed t)) refl in
      taken_more s.fixed untouched 0 s.arguments i (omega arith) ∙ ap (λ n. taken_with (is_named s.fixed n) (taken_before i) t) index ∙ ap (λ a. taken_with named a t) before ∙ more

  -- where argument i, or the address of its copy, stands by the ends
  abbrev first_at : ℕ → ℕ
  first_at i = stack_at s i (stack_before s i)

  abbrev spot_if : ℕ → Bool → Bool → Bool → Spot
  spot_if i packed copied inside =
      SpotIf packed copied inside (first_of s i) (first_at i) (tree_at s.arguments i)

  abbrev spot_of : ℕ → Spot
  spot_of i = spot_if i (is_packed_there s i) (is_copied (tree_at s.arguments i)) (is_in_registers s i)

  spot_by_ends : (i : ℕ) → i < length s.arguments → slice_get (placing_of s).arguments i ≡ Some (spot_of i)
  spot_by_ends i h =
      let index : 0 + i ≡ i = omega arith in
      spot_at s.fixed untouched 0 s.arguments i h ∙ ap (λ n. Some (spot_after (is_named s.fixed n) (taken_before i) (tree_at s.arguments i))) index ∙ ap (λ a. Some (spot_after (is_named s.fixed i) a (tree_at s.arguments i))) (ends_are_taken i (omega arith))

  stack_by_ends : (placing_of s).stack_bytes ≡ stack_before s (length s.arguments)
  stack_by_ends =
      ap (λ a. a.stack) (sym (taken_all s.fixed untouched 0 s.arguments) ∙ ends_are_taken (length s.arguments) (omega arith))

  abbrev stack_all : ℕ
  stack_all = stack_before s (length s.arguments)

  abbrev IsFramed : Plan → Type 0
  IsFramed p = IsFramedByEnds apple s spot_of (result_spot_of s.result_type) stack_all 0 p

  copies_are : (i : ℕ) → copied_before apple s spot_of stack_all i ≡ copies_before s i
  copies_are zero = refl
  copies_are (suc i) =
      copy_ends (is_packed_there s i) (is_copied (tree_at s.arguments i)) (is_in_registers s i) (first_of s i) (first_at i) (copied_before apple s spot_of stack_all i) (tree_at s.arguments i) (packed_not_copied (is_named s.fixed i) (tree_at s.arguments i)) ∙ ap (copy_step s i) (copies_are i)

  abbrev all_copies : ℕ
  all_copies = copies_before s (length s.arguments)

  module _ (p : Plan) where
    -- a framed plan is by the ends
    module _ (f : IsFramed p) where
      place_is : (packed copied inside : Bool) (i : ℕ) → i < length s.arguments → is_packed_there s i ≡ packed → is_copied (tree_at s.arguments i) ≡ copied → is_in_registers s i ≡ inside → slice_get p.places i ≡ Some (place_at start (copies_before s i) (tree_at s.arguments i) (spot_if i packed copied inside))
      place_is packed copied inside i h ep ec ei =
          f.placed i h ∙ ap (λ n. Some (place_at start n (tree_at s.arguments i) (spot_of i))) (copies_are i) ∙ ap (λ a. Some (place_at start (copies_before s i) (tree_at s.arguments i) (spot_if i a (is_copied (tree_at s.arguments i)) (is_in_registers s i)))) ep ∙ ap (λ c. Some (place_at start (copies_before s i) (tree_at s.arguments i) (spot_if i packed c (is_in_registers s i)))) ec ∙ ap (λ b. Some (place_at start (copies_before s i) (tree_at s.arguments i) (spot_if i packed copied b))) ei

      res_is : p.res ≡ result_at start all_copies s.result_type (result_spot_of s.result_type)
      res_is =
          f.result_placed ∙ ap (λ n. result_at start n s.result_type (result_spot_of s.result_type)) (copies_are (length s.arguments))

      by_the_ends : IsByEnds s p
      by_the_ends = record {
        one_each = f.one_each;
        register_places = λ i h ec ei. place_is (is_packed_there s i) false true i h refl ec ei;
        packed_places = λ i h ep ei. place_is true (is_copied (tree_at s.arguments i)) false i h ep refl ei;
        stack_places = place_is false false false;
        copies_by_register = λ i h ec ei. place_is (is_packed_there s i) true true i h refl ec ei;
        copies_by_stack = λ i h ec ei. place_is false true false i h (copied_not_packed (is_named s.fixed i) (tree_at s.arguments i) ec) ec ei;
        no_result = λ e. res_is ∙ ap (λ t. result_at start all_copies t (result_spot_of t)) e;
        result_in_registers = λ some direct. res_is ∙ ap (λ spot. result_at start all_copies s.result_type spot) (spot_of_direct s.result_type some direct);
        result_in_buffer = λ copied. res_is ∙ ap (λ spot. result_at start all_copies s.result_type spot) (spot_of_copied s.result_type copied);
        frame_end = f.frame_end ∙ ap (λ n. round16 (buffer_end start n s.result_type (result_spot_of s.result_type))) (copies_are (length s.arguments)) ∙ ap round16 (buffer_ends all_copies s.result_type);
        block_total = f.block_total;
        need_total = f.need_total;
        none_counted = f.counted;
      }

    -- and one by the ends is framed
    module _ (by : IsByEnds s p) where
      place_by : (packed copied inside : Bool) (i : ℕ) → i < length s.arguments → is_packed_there s i ≡ packed → is_copied (tree_at s.arguments i) ≡ copied → is_in_registers s i ≡ inside → slice_get p.places i ≡ Some (place_at start (copies_before s i) (tree_at s.arguments i) (spot_if i packed copied inside))
      place_by packed true true i h ep ec ei = by.copies_by_register i h ec ei
      place_by packed false true i h ep ec ei = by.register_places i h ec ei
      place_by true true false i h ep ec ei =
          let direct = packed_not_copied (is_named s.fixed i) (tree_at s.arguments i) ep in cc
      place_by true false false i h ep ec ei = by.packed_places i h ep ei
      place_by false true false i h ep ec ei = by.copies_by_stack i h ec ei
      place_by false false false i h ep ec ei = by.stack_places i h ep ec ei

      framed : IsFramed p
      framed = record {
        one_each = by.one_each;
        placed = λ i h. place_by (is_packed_there s i) (is_copied (tree_at s.arguments i)) (is_in_registers s i) i h refl refl refl ∙ ap (λ n. Some (place_at start n (tree_at s.arguments i) (spot_of i))) (sym (copies_are i));
        result_placed = result_when (λ spot. p.res ≡ result_at start all_copies s.result_type spot) s.result_type by.no_result by.result_in_buffer by.result_in_registers ∙ ap (λ n. result_at start n s.result_type (result_spot_of s.result_type)) (sym (copies_are (length s.arguments)));
        frame_end = by.frame_end ∙ ap round16 (sym (buffer_ends all_copies s.result_type)) ∙ ap (λ n. round16 (buffer_end start n s.result_type (result_spot_of s.result_type))) (sym (copies_are (length s.arguments)));
        block_total = by.block_total;
        need_total = by.need_total;
        counted = by.none_counted;
      }

  plan_is_framed : IsFramed (plan_of apple s)
  plan_is_framed =
      subst (λ n. IsFramedByEnds apple s spot_of (result_spot_of s.result_type) n 0 (plan_of apple s)) stack_by_ends
      (framed_by_ends apple s spot_of (spots_length s.fixed untouched 0 s.arguments) spot_by_ends)

  pub only : (p : Plan) → IsByEnds s p → p ≡ plan_of apple s
  only p by =
      framed_once apple s spot_of spot_of (λ i h. refl) stack_all (result_spot_of s.result_type) 0 p (plan_of apple s) (framed p by) plan_is_framed

  pub none_fits_later : NoneFitsLater s
  none_fits_later i j h inside kind out =
      let t = tree_at s.arguments i in
      let u = tree_at s.arguments j in
      let vector_rises = sum_rises (needs_of_kind s true) (suc i) (suc j) (omega arith) in
      let general_rises = sum_rises (needs_of_kind s false) (suc i) (suc j) (omega arith) in
      let rises = kind_rises (in_vectors t) (in_vectors u) _ _ _ _ kind vector_rises general_rises in
      let here = up_to_own (in_vectors t) (before_of_kind s true i) (before_of_kind s false i) (registers_needed t) in
      let there = up_to_own (in_vectors u) (before_of_kind s true j) (before_of_kind s false j) (registers_needed u) in
      both_fail (is_named s.fixed i) _ (is_named s.fixed j) _ (variadic_behind s.fixed i j h) (past_eight _ _ (omega (arith, rises, here, there))) out

  -- THE ENDS PLACE A CALL
  pub by_ends : IsPlacedByEnds s
  by_ends = record {
    placed = by_the_ends (plan_of apple s) plan_is_framed;
    only = only;
    none_fits_later = none_fits_later;
    stack_total = stack_by_ends;
  }
