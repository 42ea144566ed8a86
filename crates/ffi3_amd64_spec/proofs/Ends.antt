-- The plan of a call is the one that sums and ends give, and no other is.
use Rattle.std.proofs.Common.{◌≡◌, ℕ, zero, suc, ◌+◌, ◌<◌, ◌≤◌, Bool, true, false, cond, List, [], ◌∷◌, take, length, ap, subst, sym, ◌∙◌, refl, arith}
use Rattle.std.specs.Prelude.{Some, slice_get}
use Rattle.ffi3_type_spec.specs.Tree.{Tree, tree_at}
use Rattle.ffi3_type_spec.specs.Layout.{size_of}
use Rattle.ffi3_type_spec.specs.Signature.{Signature}
use Rattle.ffi3_place_spec.specs.declared.Taken.{Taken}
use Rattle.ffi3_place_spec.specs.declared.Loc.TheVariants.{G}
use Rattle.ffi3_place_spec.specs.declared.Place.{Place}
use Rattle.ffi3_place_spec.specs.declared.Place.TheVariants.{Direct}
use Rattle.ffi3_place_spec.specs.declared.Res.TheVariants.{Hidden}
use Rattle.ffi3_place_spec.specs.declared.Plan.{Plan}
use Rattle.ffi3_place_spec.specs.Standard.{Spot, in_pieces, no_result, result_at, buffer_end, plan_of, round8, round16, start}
use Rattle.ffi3_place_spec.specs.Doublewords.{stack_pieces}
use Rattle.ffi3_place_spec.specs.Framed.{copied_before, copied_end, IsFramedByEnds}
use Rattle.ffi3_place_spec.proofs.Framed.{framed_by_ends, framed_once}
use Rattle.ffi3_amd64_spec.specs.Amd64.{amd64, integers, sses, classes, is_class_memory, in_registers, register_pieces, general_argument, stack_start, stack_end, taken_with, taken_after, taken_at_first, argument_pieces, spot_after, spots_after, result_spot_of}
use Rattle.ffi3_amd64_spec.proofs.Steps.{result_when, spot_of_memory, spot_of_registers}
use Rattle.ffi3_amd64_spec.specs.Ends.{general_before, vector_before, stack_before, taken_before, AreChosenBySums, arguments_end, IsByEnds, IsPlacedByEnds}

-- what the arguments before number i take
abbrev pub taken_until : Signature → ℕ → Taken
taken_until s i = taken_after (taken_at_first s.result_type) (take i s.arguments)

abbrev pub is_in_registers : Signature → ℕ → Bool
is_in_registers s i = in_registers (taken_until s i) (tree_at s.arguments i)

taken_next : (a : Taken) (ts : List Tree) (i : ℕ) → i < length ts → taken_after a (take (suc i) ts) ≡ taken_with (taken_after a (take i ts)) (tree_at ts i)
taken_next a [] i h = absurd (omega arith)
taken_next a (t ∷ ts) zero h = refl
taken_next a (t ∷ ts) (suc i) h = taken_next (taken_with a t) ts i (omega arith)

taken_all : (a : Taken) (ts : List Tree) → taken_after a (take (length ts) ts) ≡ taken_after a ts
taken_all a [] = refl
taken_all a (t ∷ ts) = taken_all (taken_with a t) ts

spots_length : (a : Taken) (ts : List Tree) → length (spots_after a ts) ≡ length ts
spots_length a [] = refl
spots_length a (t ∷ ts) = ap suc (spots_length (taken_with a t) ts)

spot_stands : (a : Taken) (ts : List Tree) (i : ℕ) → i < length ts → slice_get (spots_after a ts) i ≡ Some (spot_after (taken_after a (take i ts)) (tree_at ts i))
spot_stands a [] i h = absurd (omega arith)
spot_stands a (t ∷ ts) zero h = refl
spot_stands a (t ∷ ts) (suc i) h = spot_stands (taken_with a t) ts i (omega arith)

abbrev more_if : Taken → Tree → Bool → Taken
more_if a t b =
    record { general = a.general + cond b (integers t) 0; vector = a.vector + cond b (sses t) 0; stack = cond b a.stack (stack_end a.stack t) }

taken_if : (a : Taken) (t : Tree) (b : Bool) → cond {A = Taken} b (record { general = a.general + integers t; vector = a.vector + sses t; stack = a.stack }) (record { general = a.general; vector = a.vector; stack = stack_end a.stack t }) ≡ more_if a t b
taken_if a t true = refl
taken_if a t false =
    let general : a.general ≡ a.general + 0 = omega arith in
    let vector : a.vector ≡ a.vector + 0 = omega arith in
    λ i. record { general = general i; vector = vector i; stack = stack_end a.stack t }

general_more : (c g n : ℕ) (t : Taken) → t.general ≡ c + g → t.general + n ≡ c + (g + n)
general_more c g n t e = omega arith

same_taken : (a b : Taken) → a.general ≡ b.general → a.vector ≡ b.vector → a.stack ≡ b.stack → a ≡ b
same_taken a b g f s = λ i. record { general = g i; vector = f i; stack = s i }

module _ (s : Signature) where
  pub sums_are_taken : (i : ℕ) → i ≤ length s.arguments → taken_until s i ≡ taken_before s (is_in_registers s) i
  sums_are_taken zero h =
      same_taken (taken_until s 0) (taken_before s (is_in_registers s) 0) (omega arith) refl refl
  sums_are_taken (suc i) h =
      let before = sums_are_taken i (omega arith) in
      let t = tree_at s.arguments i in
      let b = is_in_registers s i in
      let next = taken_next (taken_at_first s.result_type) s.arguments i (omega arith) ∙ taken_if (taken_until s i) t b in
      let after = same_taken (more_if (taken_until s i) t b) (taken_before s (is_in_registers s) (suc i))
      (general_more _ _ (cond b (integers t) 0) (taken_until s i) (ap (λ a. a.general) before))
      (ap (λ a. a.vector + cond b (sses t) 0) before)
      (ap (λ a. cond b a.stack (stack_end a.stack t)) before) in
      next ∙ after

  pub chosen_by_sums : AreChosenBySums s (is_in_registers s)
  chosen_by_sums i h =
      ap (λ a. in_registers a (tree_at s.arguments i)) (sums_are_taken i (omega arith))

  pub all_taken : taken_after (taken_at_first s.result_type) s.arguments ≡ taken_before s (is_in_registers s) (length s.arguments)
  all_taken =
      sym (taken_all (taken_at_first s.result_type) s.arguments) ∙ sums_are_taken (length s.arguments) (omega arith)

-- ---- the sums leave no choice

module _ (s : Signature) (p q : ℕ → Bool) (by_p : AreChosenBySums s p) (by_q : AreChosenBySums s q) where
  same_sums : (i : ℕ) → i ≤ length s.arguments → taken_before s p i ≡ taken_before s q i
  same_sums zero h = refl
  same_sums (suc i) h =
      let before = same_sums i (omega arith) in
      let t = tree_at s.arguments i in
      let chosen : p i ≡ q i = by_p i (omega arith) ∙ ap (λ a. in_registers a t) before ∙ sym (by_q i (omega arith)) in
      same_taken (taken_before s p (suc i)) (taken_before s q (suc i))
      (next_general (taken_before s p i) (taken_before s q i) (cond (p i) (integers t) 0) (cond (q i) (integers t) 0) before (ap (λ b. cond b (integers t) 0) chosen) (taken_before s p (suc i)).general (taken_before s q (suc i)).general (omega arith) (omega arith))
      (ap (λ a. a.vector + cond (p i) (sses t) 0) before ∙ ap (λ b. (taken_before s q i).vector + cond b (sses t) 0) chosen)
      (ap (λ a. cond (p i) a.stack (stack_end a.stack t)) before ∙ ap (λ b. cond b (taken_before s q i).stack (stack_end (taken_before s q i).stack t)) chosen)
    where
      next_general : (a b : Taken) (m n : ℕ) → a ≡ b → m ≡ n → (x y : ℕ) → x ≡ a.general + m → y ≡ b.general + n → x ≡ y
      next_general a b m n e f x y g k = g ∙ ap (λ c. c.general + m) e ∙ ap (λ l. b.general + l) f ∙ sym k

  -- the arguments in registers are the same
  pub same_choice : (i : ℕ) → i < length s.arguments → p i ≡ q i
  same_choice i h =
      by_p i h ∙ ap (λ a. in_registers a (tree_at s.arguments i)) (same_sums i (omega arith)) ∙ sym (by_q i h)

-- ---- a result

buffer_ends : (end : ℕ) (t : Tree) → buffer_end start end t (result_spot_of t) ≡ cond (is_class_memory t) (start end t + round8 (size_of t)) end
buffer_ends end t =
    result_when (λ spot. buffer_end start end t spot ≡ cond (is_class_memory t) (start end t + round8 (size_of t)) end) t
    (λ e. sym (ap (λ u. cond (is_class_memory u) (start end t + round8 (size_of t)) end) e))
    (λ m. sym (ap (λ b. cond b (start end t + round8 (size_of t)) end) m))
    (λ _ small. sym (ap (λ b. cond b (start end t + round8 (size_of t)) end) small))

-- ---- all of a call

module _ (s : Signature) (chosen : ℕ → Bool) where
  -- where an argument stands, by the choice
  abbrev spot_by : ℕ → Spot
  spot_by i = in_pieces (argument_pieces (taken_before s chosen i) (tree_at s.arguments i))

  -- no argument has a copy
  no_copies : (n i : ℕ) → copied_before amd64 s spot_by n i ≡ round16 n
  no_copies n zero = refl
  no_copies n (suc i) = no_copies n i

  abbrev stack_all : ℕ
  stack_all = stack_before s chosen (length s.arguments)

  abbrev IsFramed : Plan → Type 0
  IsFramed p =
      IsFramedByEnds amd64 s spot_by (result_spot_of s.result_type) stack_all (vector_before s chosen (length s.arguments)) p

  copies_end_there : copied_end amd64 s spot_by stack_all ≡ arguments_end s chosen
  copies_end_there = no_copies stack_all (length s.arguments)

  -- pieces by whether the argument is in registers
  abbrev pieces_if : ℕ → Bool → Place
  pieces_if i b =
      Direct (cond b (register_pieces general_argument (general_before s chosen i) (vector_before s chosen i) (tree_at s.arguments i) [] (classes (tree_at s.arguments i))) (stack_pieces (stack_start (stack_before s chosen i) (tree_at s.arguments i)) (tree_at s.arguments i)))

  by_ends : (p : Plan) → AreChosenBySums s chosen → IsFramed p → IsByEnds s p
  by_ends p sums f = record {
    chosen = chosen;
    by_sums = sums;
    one_each = f.one_each;
    register_places = λ i h e. f.placed i h ∙ ap (λ b. Some (pieces_if i b)) (sym (sums i h) ∙ e);
    stack_places = λ i h e. f.placed i h ∙ ap (λ b. Some (pieces_if i b)) (sym (sums i h) ∙ e);
    no_result = λ e. f.result_placed ∙ ap (λ t. result_at start (copied_end amd64 s spot_by stack_all) t (result_spot_of t)) e;
    result_in_registers = λ some small. f.result_placed ∙ ap (λ spot. result_at start (copied_end amd64 s spot_by stack_all) s.result_type spot) (spot_of_registers s.result_type some small);
    result_in_memory = λ m. f.result_placed ∙ ap (λ spot. result_at start (copied_end amd64 s spot_by stack_all) s.result_type spot) (spot_of_memory s.result_type m) ∙ ap (λ n. Hidden (G (general_argument 0)) (start n s.result_type)) copies_end_there;
    frame_end = f.frame_end ∙ ap (λ n. round16 (buffer_end start n s.result_type (result_spot_of s.result_type))) copies_end_there ∙ ap round16 (buffer_ends (arguments_end s chosen) s.result_type);
    block_total = f.block_total;
    need_total = f.need_total;
    counted = f.counted;
  }

module _ (s : Signature) (p : Plan) (by : IsByEnds s p) where
  place_by : (i : ℕ) → i < length s.arguments → (b : Bool) → by.chosen i ≡ b → slice_get p.places i ≡ Some (pieces_if s by.chosen i b)
  place_by i h true e = by.register_places i h e
  place_by i h false e = by.stack_places i h e

  framed : IsFramed s by.chosen p
  framed = record {
    one_each = by.one_each;
    placed = λ i h. place_by i h (by.chosen i) refl ∙ ap (λ b. Some (pieces_if s by.chosen i b)) (by.by_sums i h);
    result_placed = result_when (λ spot. p.res ≡ result_at start (copied_end amd64 s (spot_by s by.chosen) (stack_all s by.chosen)) s.result_type spot) s.result_type
        by.no_result
        (λ m. by.result_in_memory m ∙ ap (λ n. Hidden (G (general_argument 0)) (start n s.result_type)) (sym (copies_end_there s by.chosen)))
        by.result_in_registers;
    frame_end = by.frame_end ∙ ap round16 (sym (buffer_ends (arguments_end s by.chosen) s.result_type)) ∙ ap (λ n. round16 (buffer_end start n s.result_type (result_spot_of s.result_type))) (sym (copies_end_there s by.chosen));
    block_total = by.block_total;
    need_total = by.need_total;
    counted = by.counted;
  }

module _ (s : Signature) where
  -- the plan is by sums and ends
  pub placed_by_ends : IsByEnds s (plan_of amd64 s)
  placed_by_ends =
      let c = is_in_registers s in
      by_ends s c (plan_of amd64 s) (chosen_by_sums s) (subst (λ (a : Taken). IsFramedByEnds amd64 s (spot_by s c) (result_spot_of s.result_type) a.stack a.vector (plan_of amd64 s)) (all_taken s) (framed_by_ends amd64 s (spot_by s c) (spots_length (taken_at_first s.result_type) s.arguments) (λ i h. spot_stands (taken_at_first s.result_type) s.arguments i h ∙ ap (λ a. Some (spot_after a (tree_at s.arguments i))) (sums_are_taken s i (omega arith)))))

  -- and no other plan is
  pub only : (p : Plan) → IsByEnds s p → p ≡ plan_of amd64 s
  only p by =
      let ours = placed_by_ends in
      let sums : (i : ℕ) → i ≤ length s.arguments → taken_before s by.chosen i ≡ taken_before s ours.chosen i = same_sums s by.chosen ours.chosen by.by_sums ours.by_sums in
      let q = plan_of amd64 s in
      framed_once amd64 s (spot_by s by.chosen) (spot_by s ours.chosen) (λ i h. ap (λ a. spot_after a (tree_at s.arguments i)) (sums i (omega arith))) (stack_all s ours.chosen) (result_spot_of s.result_type) (vector_before s ours.chosen (length s.arguments)) p q (subst (λ (a : Taken). IsFramedByEnds amd64 s (spot_by s by.chosen) (result_spot_of s.result_type) a.stack a.vector p) (sums (length s.arguments) (omega arith)) (framed s p by)) (framed s q ours)

-- all of it, for every signature
pub call_by_ends : (s : Signature) → IsPlacedByEnds s
call_by_ends s =
    let ours = placed_by_ends s in
    record {
      placed = ours;
      only = only s;
      only_choice = λ other sums. same_choice s other ours.chosen sums ours.by_sums;
      stack_total = ap (λ a. a.stack) (all_taken s ∙ same_sums s (is_in_registers s) ours.chosen (chosen_by_sums s) ours.by_sums (length s.arguments) (omega arith));
    }
