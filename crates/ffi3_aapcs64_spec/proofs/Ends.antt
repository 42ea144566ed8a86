-- What the arguments before a number have taken ends where the steps over the whole list end; so the plan of a call is by the ends, and no other plan is.
use Rattle.std.proofs.Common.{◌≡◌, ℕ, zero, suc, ◌+◌, ◌<◌, ◌≤◌, Bool, true, false, cond, leb, List, [], ◌∷◌, take, length, ap, subst, sym, inl, inr, ◌∙◌, refl, arith}
use Rattle.std.specs.Prelude.{Some, slice_get}
use Rattle.std.proofs.lemmas.Bool.{cases_lt}
use Rattle.std.proofs.lemmas.Bool.Decides.{nat_tests}
use Rattle.ffi3_type_spec.specs.Tree.{Tree, void, tree_at}
use Rattle.ffi3_type_spec.specs.Signature.{Signature}
use Rattle.ffi3_place_spec.specs.declared.Loc.TheVariants.{G, S}
use Rattle.ffi3_place_spec.specs.declared.Plan.{Plan}
use Rattle.ffi3_place_spec.specs.declared.Taken.{Taken}
use Rattle.ffi3_place_spec.specs.Standard.{Spot, in_pieces, by_reference, ResultSpot, no_result, in_result_pieces, in_buffer, place_at, copy_end, result_at, buffer_end, start, plan_of, round8, round16}
use Rattle.ffi3_place_spec.specs.Doublewords.{stack_pieces}
use Rattle.ffi3_place_spec.specs.Sums.{sum_below}
use Rattle.ffi3_place_spec.specs.Framed.{copied_before, IsFramedByEnds}
use Rattle.ffi3_aapcs64_spec.specs.Aapcs64.{aapcs64, in_vectors, is_copied, passed, registers_needed, register_pieces, taken_with, taken_after, untouched, spot_after, spots_after, result_spot_of, placing_of}
use Rattle.ffi3_aapcs64_spec.specs.Ends.{vectors, general_start, general_step, general_before, vector_before, first_of, is_in_registers, stack_at, stack_before, copy_step, copies_before, IsByEnds, NoneFitsLater, IsPlacedByEnds}
use Rattle.ffi3_type_spec.specs.Layout.{size_of, align_of}
use Rattle.ffi3_place_spec.proofs.Framed.{framed_by_ends, framed_once}
use Rattle.ffi3_place_spec.proofs.Ends.{even-behind, ends_rise}
use Rattle.ffi3_aapcs64_spec.proofs.Sound.{result_cases}

-- what the arguments before number i take
abbrev pub taken_before : Signature → ℕ → Taken
taken_before s i = taken_after untouched (take i s.arguments)

taken_next : (a : Taken) (ts : List Tree) (i : ℕ) → i < length ts → taken_after a (take (suc i) ts) ≡ taken_with (taken_after a (take i ts)) (tree_at ts i)
taken_next a [] i h = absurd (omega arith)
taken_next a (t ∷ ts) zero h = refl
taken_next a (t ∷ ts) (suc i) h = taken_next (taken_with a t) ts i (omega arith)

taken_all : (a : Taken) (ts : List Tree) → taken_after a (take (length ts) ts) ≡ taken_after a ts
taken_all a [] = refl
taken_all a (t ∷ ts) = taken_all (taken_with a t) ts

spot_at : (a : Taken) (ts : List Tree) (i : ℕ) → i < length ts → slice_get (spots_after a ts) i ≡ Some (spot_after (taken_after a (take i ts)) (tree_at ts i))
spot_at a [] i h = absurd (omega arith)
spot_at a (t ∷ ts) zero h = refl
spot_at a (t ∷ ts) (suc i) h = spot_at (taken_with a t) ts i (omega arith)

pub spots_length : (a : Taken) (ts : List Tree) → length (spots_after a ts) ≡ length ts
spots_length a [] = refl
spots_length a (t ∷ ts) = ap suc (spots_length (taken_with a t) ts)

-- ---- one more argument, by its kind and by whether it is in registers

next_vector : (b : Bool) (f v n : ℕ) → cond b (cond b v f + n) v ≡ v + cond b n 0
next_vector true f v n = refl
next_vector false f v n = omega arith

next_general : (b : Bool) (g f v n : ℕ) → cond b g (cond b v f + n) ≡ cond b g (f + n)
next_general true g f v n = refl
next_general false g f v n = refl

pub same_taken : (a b : Taken) → a.general ≡ b.general → a.vector ≡ b.vector → a.stack ≡ b.stack → a ≡ b
same_taken a b g f s = λ i. record { general = g i; vector = f i; stack = s i }

-- ---- sums

pub sum_rises : (term : ℕ → ℕ) (i j : ℕ) → i ≤ j → sum_below term i ≤ sum_below term j
sum_rises term i zero h =
    let same : i ≡ 0 = omega arith in
    subst (λ k. sum_below term k ≤ 0) (sym same) (omega arith)
sum_rises term i (suc j) h =
    elim (cases_lt i (suc j)) [
      | inl below ↦ omega (arith, sum_rises term i j (omega arith))
      | inr at_least ↦ let same : i ≡ suc j = omega arith in
          subst (λ k. sum_below term k ≤ sum_below term (suc j)) (sym same) (omega arith)
    ]

-- what has passed 8 stays past it
pub past_eight : (n m : ℕ) → n ≤ m → leb n 8 ≡ false → leb m 8 ≡ false
past_eight n m h e = grind (arith, nat_tests)

-- where an argument's registers end is the end up to it of its kind
up_to_own : (b : Bool) (v g f n : ℕ) → cond b (v + cond b n 0) (cond b g (f + n)) ≡ cond b v f + n
up_to_own true v g f n = refl
up_to_own false v g f n = refl

-- an argument's general registers end behind those before it
step_behind : (b : Bool) (end f n : ℕ) → end ≤ f → end ≤ cond b end (f + n)
step_behind true end f n h = omega arith
step_behind false end f n h = omega (arith, h)

-- the ends of two kinds, of which one is looked at
pub kind_rises : (b c : Bool) (v g w k : ℕ) → b ≡ c → v ≤ w → g ≤ k → cond b v g ≤ cond c w k
kind_rises true true v g w k e hv hg = hv
kind_rises false false v g w k e hv hg = hg
kind_rises true false v g w k e hv hg = cc
kind_rises false true v g w k e hv hg = cc

-- ---- a result

pub result_when : (P : ResultSpot → Type 0) (t : Tree) → (t ≡ void → P no_result) → (is_copied t ≡ true → P (in_buffer (G 8))) → (¬ (t ≡ void) → is_copied t ≡ false → P (in_result_pieces (register_pieces 0 t))) → P (result_spot_of t)
result_when P void none hidden direct = none refl
result_when P t none hidden direct = result_cases P t none hidden (direct (λ e. cc))

pub spot_of_copied : (t : Tree) → is_copied t ≡ true → result_spot_of t ≡ in_buffer (G 8)
spot_of_copied t copied =
    result_when (λ spot. spot ≡ in_buffer (G 8)) t (λ e. let direct : is_copied t ≡ false = ap is_copied e in cc) (λ _. refl) (λ _ direct. cc)

pub spot_of_direct : (t : Tree) → ¬ (t ≡ void) → is_copied t ≡ false → result_spot_of t ≡ in_result_pieces (register_pieces 0 t)
spot_of_direct t some direct =
    result_when (λ spot. spot ≡ in_result_pieces (register_pieces 0 t)) t (λ e. absurd (some e)) (λ copied. cc) (λ _ _. refl)

pub buffer_ends : (end : ℕ) (t : Tree) → buffer_end start end t (result_spot_of t) ≡ cond (is_copied t) (start end t + round8 (size_of t)) end
buffer_ends end t =
    result_when (λ spot. buffer_end start end t spot ≡ cond (is_copied t) (start end t + round8 (size_of t)) end) t
    (λ e. sym (ap (λ u. cond (is_copied u) (start end t + round8 (size_of t)) end) e))
    (λ copied. sym (ap (λ b. cond b (start end t + round8 (size_of t)) end) copied))
    (λ _ direct. sym (ap (λ b. cond b (start end t + round8 (size_of t)) end) direct))

-- ---- one argument, by whether it is copied and whether it, or the address, is in registers

abbrev SpotIf : Bool → Bool → ℕ → ℕ → Tree → Spot
SpotIf copied inside first at t =
    cond inside (cond copied (by_reference (G first)) (in_pieces (register_pieces first t))) (cond copied (by_reference (S at 8)) (in_pieces (stack_pieces at t)))

copy_ends : (copied inside : Bool) (first at end : ℕ) (t : Tree) → copy_end start end t (SpotIf copied inside first at t) ≡ cond copied (start end t + round8 (size_of t)) end
copy_ends true true first at end t = refl
copy_ends false true first at end t = refl
copy_ends _ _ first at end t = refl

-- ---- all of a call

module _ (s : Signature) where
  abbrev ends_before : ℕ → Taken
  ends_before i =
      record { general = general_before s i; vector = vector_before s i; stack = stack_before s i }

  ends_are_taken : (i : ℕ) → i ≤ length s.arguments → taken_before s i ≡ ends_before i
  ends_are_taken zero h = refl
  ends_are_taken (suc i) h =
      let t = tree_at s.arguments i in
      let before = ends_are_taken i (omega arith) in
      let first = general_start s i (general_before s i) in
      let more = same_taken (taken_with (ends_before i) t) (ends_before (suc i)) (next_general (in_vectors t) (general_before s i) first (vector_before s i) (registers_needed t)) (next_vector (in_vectors t) first (vector_before s i) (registers_needed t)) refl in
      taken_next untouched s.arguments i (omega arith) ∙ ap (λ a. taken_with a t) before ∙ more

  -- where argument i, or the address of its copy, stands by the ends
  abbrev first_at : ℕ → ℕ
  first_at i = stack_at s i (stack_before s i)

  abbrev spot_if : ℕ → Bool → Bool → Spot
  spot_if i copied inside = SpotIf copied inside (first_of s i) (first_at i) (tree_at s.arguments i)

  abbrev spot_of : ℕ → Spot
  spot_of i = spot_if i (is_copied (tree_at s.arguments i)) (is_in_registers s i)

  spot_by_ends : (i : ℕ) → i < length s.arguments → slice_get (placing_of s).arguments i ≡ Some (spot_of i)
  spot_by_ends i h =
      spot_at untouched s.arguments i h ∙ ap (λ a. Some (spot_after a (tree_at s.arguments i))) (ends_are_taken i (omega arith))

  stack_by_ends : (placing_of s).stack_bytes ≡ stack_before s (length s.arguments)
  stack_by_ends =
      ap (λ a. a.stack) (sym (taken_all untouched s.arguments) ∙ ends_are_taken (length s.arguments) (omega arith))

  abbrev stack_all : ℕ
  stack_all = stack_before s (length s.arguments)

  abbrev IsFramed : Plan → Type 0
  IsFramed p = IsFramedByEnds aapcs64 s spot_of (result_spot_of s.result_type) stack_all 0 p

  copies_are : (i : ℕ) → copied_before aapcs64 s spot_of stack_all i ≡ copies_before s i
  copies_are zero = refl
  copies_are (suc i) =
      copy_ends (is_copied (tree_at s.arguments i)) (is_in_registers s i) (first_of s i) (first_at i) (copied_before aapcs64 s spot_of stack_all i) (tree_at s.arguments i) ∙ ap (copy_step s i) (copies_are i)

  abbrev all_copies : ℕ
  all_copies = copies_before s (length s.arguments)

  module _ (p : Plan) where
    -- a framed plan is by the ends
    module _ (f : IsFramed p) where
      place_is : (copied inside : Bool) (i : ℕ) → i < length s.arguments → is_copied (tree_at s.arguments i) ≡ copied → is_in_registers s i ≡ inside → slice_get p.places i ≡ Some (place_at start (copies_before s i) (tree_at s.arguments i) (spot_if i copied inside))
      place_is copied inside i h ec ei =
          f.placed i h ∙ ap (λ n. Some (place_at start n (tree_at s.arguments i) (spot_of i))) (copies_are i) ∙ ap (λ c. Some (place_at start (copies_before s i) (tree_at s.arguments i) (spot_if i c (is_in_registers s i)))) ec ∙ ap (λ b. Some (place_at start (copies_before s i) (tree_at s.arguments i) (spot_if i copied b))) ei

      res_is : p.res ≡ result_at start all_copies s.result_type (result_spot_of s.result_type)
      res_is =
          f.result_placed ∙ ap (λ n. result_at start n s.result_type (result_spot_of s.result_type)) (copies_are (length s.arguments))

      by_the_ends : IsByEnds s p
      by_the_ends = record {
        one_each = f.one_each;
        register_places = place_is false true;
        stack_places = place_is false false;
        copies_by_register = place_is true true;
        copies_by_stack = place_is true false;
        no_result = λ e. res_is ∙ ap (λ t. result_at start all_copies t (result_spot_of t)) e;
        result_in_registers = λ some direct. res_is ∙ ap (λ spot. result_at start all_copies s.result_type spot) (spot_of_direct s.result_type some direct);
        result_in_buffer = λ copied. res_is ∙ ap (λ spot. result_at start all_copies s.result_type spot) (spot_of_copied s.result_type copied);
        frame_end = f.frame_end ∙ ap (λ n. round16 (buffer_end start n s.result_type (result_spot_of s.result_type))) (copies_are (length s.arguments)) ∙ ap round16 (buffer_ends all_copies s.result_type);
        block_total = f.block_total;
        need_total = f.need_total;
        none_counted = f.counted;
      }

    -- and one by the ends is framed
    module _ (by : IsByEnds s p) where
      place_by : (copied inside : Bool) (i : ℕ) → i < length s.arguments → is_copied (tree_at s.arguments i) ≡ copied → is_in_registers s i ≡ inside → slice_get p.places i ≡ Some (place_at start (copies_before s i) (tree_at s.arguments i) (spot_if i copied inside))
      place_by true true i h ec ei = by.copies_by_register i h ec ei
      place_by true false i h ec ei = by.copies_by_stack i h ec ei
      place_by false true i h ec ei = by.register_places i h ec ei
      place_by false false i h ec ei = by.stack_places i h ec ei

      framed : IsFramed p
      framed = record {
        one_each = by.one_each;
        placed = λ i h. place_by (is_copied (tree_at s.arguments i)) (is_in_registers s i) i h refl refl ∙ ap (λ n. Some (place_at start n (tree_at s.arguments i) (spot_of i))) (sym (copies_are i));
        result_placed = result_when (λ spot. p.res ≡ result_at start all_copies s.result_type spot) s.result_type by.no_result by.result_in_buffer by.result_in_registers ∙ ap (λ n. result_at start n s.result_type (result_spot_of s.result_type)) (sym (copies_are (length s.arguments)));
        frame_end = by.frame_end ∙ ap round16 (sym (buffer_ends all_copies s.result_type)) ∙ ap (λ n. round16 (buffer_end start n s.result_type (result_spot_of s.result_type))) (sym (copies_are (length s.arguments)));
        block_total = by.block_total;
        need_total = by.need_total;
        counted = by.none_counted;
      }

  plan_is_framed : IsFramed (plan_of aapcs64 s)
  plan_is_framed =
      subst (λ n. IsFramedByEnds aapcs64 s spot_of (result_spot_of s.result_type) n 0 (plan_of aapcs64 s)) stack_by_ends
      (framed_by_ends aapcs64 s spot_of (spots_length untouched s.arguments) spot_by_ends)

  pub only : (p : Plan) → IsByEnds s p → p ≡ plan_of aapcs64 s
  only p by =
      framed_once aapcs64 s spot_of spot_of (λ i h. refl) stack_all (result_spot_of s.result_type) 0 p (plan_of aapcs64 s) (framed p by) plan_is_framed

  generals_rise : (i j : ℕ) → i ≤ j → general_before s i ≤ general_before s j
  generals_rise =
      ends_rise (general_step s) 0 (λ k end. step_behind (in_vectors (tree_at s.arguments k)) end (general_start s k end) (registers_needed (tree_at s.arguments k)) (even-behind (leb 16 (align_of (passed (tree_at s.arguments k)))) end))

  pub none_fits_later : NoneFitsLater s
  none_fits_later i j h inside kind out =
      let t = tree_at s.arguments i in
      let u = tree_at s.arguments j in
      let vector_rises = sum_rises (λ k. vectors (tree_at s.arguments k)) (suc i) (suc j) (omega arith) in
      let general_rises = generals_rise (suc i) (suc j) (omega arith) in
      let rises = kind_rises (in_vectors t) (in_vectors u) _ _ _ _ kind vector_rises general_rises in
      let here = up_to_own (in_vectors t) (vector_before s i) (general_before s i) (general_start s i (general_before s i)) (registers_needed t) in
      let there = up_to_own (in_vectors u) (vector_before s j) (general_before s j) (general_start s j (general_before s j)) (registers_needed u) in
      past_eight _ _ (omega (arith, rises, here, there)) out

  -- THE ENDS PLACE A CALL
  pub by_ends : IsPlacedByEnds s
  by_ends = record {
    placed = by_the_ends (plan_of aapcs64 s) plan_is_framed;
    only = only;
    none_fits_later = none_fits_later;
    stack_total = stack_by_ends;
  }
