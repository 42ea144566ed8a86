-- The places of a signature are a chain, so no two share a register or a byte of stack; and they have all of the values, which they therefore determine.
use Rattle.std.proofs.Common.{◌≡◌, ℕ, zero, suc, ◌+◌, ◌*◌, ◌<◌, ◌≤◌, inl, Bool, true, false, cond, leb, List, [], ◌∷◌, ◌++◌, subst, ap, sym, ◌∙◌, refl, arith}
use Rattle.std.specs.List.{AllByRecursion, flat_map}
use Rattle.ffi3_type_spec.specs.declared.Isa.TheVariants.{Aarch64}
use Rattle.ffi3_type_spec.specs.declared.Target.{Target}
use Rattle.ffi3_type_spec.specs.declared.Target.TheVariants as target
use Rattle.ffi3_type_spec.specs.TargetIsa.{isa_of}
use Rattle.ffi3_type_spec.specs.Tree.{Tree, void, scalar, pointer}
use Rattle.ffi3_type_spec.specs.Layout.{Leaf, leaves_of, size_of, align_of, has_long_double}
use Rattle.ffi3_type_spec.specs.Signature.{Signature, HasNoLongDouble}
use Rattle.std.specs.Prelude.{length}
use Rattle.ffi3_place_spec.specs.declared.Loc.{Loc}
use Rattle.ffi3_place_spec.specs.declared.Loc.TheVariants.{G, F, S}
use Rattle.ffi3_place_spec.specs.declared.Ext.{Ext}
use Rattle.ffi3_place_spec.specs.declared.Piece.{Piece}
use Rattle.ffi3_place_spec.specs.declared.Taken.{Taken}
use Rattle.ffi3_place_spec.specs.MachineRegisters.{further_arguments}
use Rattle.ffi3_place_spec.specs.StubRegisters.{result_loads}
use Rattle.ffi3_place_spec.specs.Standard.{Standard, start, Spot, in_pieces, by_reference, ResultSpot, no_result as not_passed, in_result_pieces, in_buffer, place_at, places_from, copy_end, result_at, copies_start, frame_copies_end, frame_of, plan_of, round8}
use Rattle.ffi3_place_spec.specs.Doublewords.{doublewords, doublewords_at, widening, stack_pieces}
use Rattle.ffi3_place_spec.specs.Sound.{Apart, AreApart, IsWhole, IsOnStackOrIn, piece_locs, place_locs, hidden_locs, result_locs, argument_locs, IsNoneOf, IsOneOf, IsFurther, StandsIn, copy_locs, buffer_locs, call_locs, closed_to_arguments, closed_to_results, PlaceRises, PlacesHaveAll, IsFilled, PlacesAreFilled, PlaceHasLowerWords, ResultHasAll, ResultIsFilled, ResultHasLowerWords, IsSound, IsDetermined}
use Rattle.ffi3_place_spec.proofs.Chain.{AtMost, at_most_self, Chain, chain_append, chain_apart, chain_allowed, chain_passed, chain_in, chain_stands_in}
use Rattle.ffi3_place_spec.proofs.Frame.{up_to, value_chain, frame_chain}
use Rattle.ffi3_place_spec.proofs.Ends.{start-behind, even-behind}
use Rattle.ffi3_place_spec.proofs.Aligned.{frame_is_aligned, need_is_aligned}
use Rattle.ffi3_place_spec.proofs.Further.{IsNotFurther, each_both, each_of_all, one_of_more, one_of_fewer, frame_not_further, each_without}
use Rattle.ffi3_place_spec.proofs.OnMachine.{on_machine_without}
use Rattle.ffi3_place_spec.proofs.Tests.{each_of_two, each_of_eight, each_weaker, each_at}
use Rattle.ffi3_place_spec.proofs.Forbidden.{is_one_of, one_of}
use Rattle.ffi3_place_spec.proofs.Determines.{determined}
use Rattle.ffi3_aapcs64_spec.specs.declared.Kind.TheVariants.{Quad}
use Rattle.ffi3_aapcs64_spec.specs.Aapcs64.{aapcs64, is_of, in_vectors, is_copied, passed, first_general, register_start, stack_start, member_pieces, general_pieces, register_pieces, register_spot, stack_spot, in_registers, taken_with, taken_after, untouched, spot_after, spots_after, result_from, result_spot_of, placing_of}
use Rattle.ffi3_aapcs64_spec.proofs.Covered.{MemberBy, registers_have_all, arguments_have_all, registers_filled, arguments_filled, copied_not_vectors, few_members, few_doublewords, NeedBy, StartBy, fits_by, first_at_zero, first_fits, pointer_rounded}
use Rattle.ffi3_aapcs64_spec.proofs.Halves.{registers_lower, stack_lower, registers_not_further, stack_not_further}
use Rattle.ffi3_aapcs64_spec.proofs.Rising.{arguments_rise}
use Rattle.ffi3_aapcs64_spec.proofs.Registers.{numbered, halves, halves_stand, all_registers, argument_allowed, vector_allowed, stack_allowed, hidden_allowed, argument_passes, vector_passes, hidden_passes, argument_not_hidden, result_allowed_general, result_allowed_vector, result_allowed_stack}

-- places in the halves of vector registers
abbrev pub HalvesChain : Taken → List Loc → Taken → Type 0
HalvesChain = Chain numbered halves 8 16

-- as many halves as registers are taken, and as many more
abbrev pub doubled : Taken → Taken
doubled a = record { general = a.general; vector = 2 * a.vector; stack = a.stack }

pub doubled_more : (a b : Taken) → AtMost a b → AtMost (doubled a) (doubled b)
doubled_more a b h = record { general = h.general; vector = omega (arith, h.vector); stack = h.stack }

abbrev pub PlacesChain : Taken → List Loc → Taken → Type 0
PlacesChain a ls b = HalvesChain (doubled a) ls (doubled b)

-- ---- one value

-- one member, and what is behind it
member_chain : (a : Taken) (v : ℕ) (l : Leaf) (others : List Piece) (quad : Bool) (b : Taken) → a.vector ≤ 2 * v → v < 8 → HalvesChain (record { general = a.general; vector = 2 * v + 2; stack = a.stack }) (piece_locs others) b → HalvesChain a (piece_locs (MemberBy quad v l ++ others)) b
member_chain a v l others true b low fits h =
    let mid : Taken = record { general = a.general; vector = 2 * v + 1; stack = a.stack } in
    let end : Taken = record { general = a.general; vector = 2 * v + 2; stack = a.stack } in
    let lower : v ≡ halves (2 * v) = omega arith in
    let upper : 32 + v ≡ halves (2 * v + 1) = omega arith in (
      mid,
      (2 * v, lower, low, omega (arith, fits)),
      (2 * v, lower, omega arith),
      record { general = omega arith; vector = omega (arith, low); stack = omega arith },
      (end, (2 * v + 1, upper, omega arith, omega (arith, fits)), (2 * v + 1, upper, omega arith), record { general = omega arith; vector = omega arith; stack = omega arith }, h),
    )
member_chain a v l others false b low fits h =
    let end : Taken = record { general = a.general; vector = 2 * v + 2; stack = a.stack } in
    let lower : v ≡ halves (2 * v) = omega arith in
    (end, (2 * v, lower, low, omega (arith, fits)), (2 * v, lower, omega arith), record { general = omega arith; vector = omega (arith, low); stack = omega arith }, h)

pub members_chain : (a : Taken) (v : ℕ) (ls : List Leaf) (b : Taken) → a.vector ≤ 2 * v → v + length ls ≤ 8 → a.general ≤ b.general → 2 * (v + length ls) ≤ b.vector → a.stack ≤ b.stack → HalvesChain a (piece_locs (member_pieces v ls)) b
members_chain a v [] b low fits g f s =
    record { general = g; vector = omega (arith, low, f); stack = s }
members_chain a v (l ∷ ls) b low fits g f s =
    member_chain a v l (member_pieces (v + 1) ls) (is_of Quad l.kind) b low (omega (arith, fits)) (members_chain (record { general = a.general; vector = 2 * v + 2; stack = a.stack }) (v + 1) ls b (omega arith) (omega (arith, fits)) g (omega (arith, f)) s)

pub generals_chain : (a : Taken) (g size : ℕ) (e : Ext) (j count : ℕ) (b : Taken) → a.general ≤ g + j → g + (j + count) ≤ 8 → g + (j + count) ≤ b.general → a.vector ≤ b.vector → a.stack ≤ b.stack → HalvesChain a (piece_locs (doublewords_at (λ k. G (g + k)) size e j count)) b
generals_chain a g size e j zero b low fits gs f s =
    record { general = omega arith; vector = f; stack = s }
generals_chain a g size e j (suc count) b low fits gs f s =
    let mid : Taken = record { general = g + (j + 1); vector = a.vector; stack = a.stack } in
    (mid, (g + j, refl, low, omega arith), (g + j, refl, omega arith), record { general = omega arith; vector = omega arith; stack = omega arith }, generals_chain mid g size e (j + 1) count b (omega arith) (omega arith) (omega arith) f s)

-- ---- one argument, by whether it is in registers, copied, and in vector registers

abbrev PassedBy : Bool → Tree → Tree
PassedBy copied t = cond {A = Tree} copied (scalar pointer) t

-- where it begins on the stack
abbrev AtBy : Bool → Taken → Tree → ℕ
AtBy copied a t = stack_start a.stack (PassedBy copied t)

abbrev SpotBy : Bool → Bool → Bool → Taken → Tree → Spot
SpotBy fits copied vector a t =
    cond fits
    (cond copied (by_reference (G (StartBy vector copied a t))) (in_pieces (cond vector (member_pieces (StartBy vector copied a t) (leaves_of t)) (general_pieces (StartBy vector copied a t) t))))
    (cond copied (by_reference (S (AtBy copied a t) 8)) (in_pieces (stack_pieces (AtBy copied a t) t)))

abbrev TakenBy : Bool → Bool → Bool → Taken → Tree → Taken
TakenBy fits copied vector a t = record {
  general = cond vector a.general (StartBy vector copied a t + NeedBy vector copied t);
  vector = cond vector (StartBy vector copied a t + NeedBy vector copied t) a.vector;
  stack = cond fits a.stack (AtBy copied a t + round8 (size_of (PassedBy copied t)));
}

general_behind : (a : Taken) (t : Tree) → a.general ≤ first_general a.general t
general_behind a t = even-behind (leb 16 (align_of t)) a.general

-- what an argument leaves is never less
taken_by_more : (fits copied vector : Bool) (a : Taken) (t : Tree) → AtMost a (TakenBy fits copied vector a t)
taken_by_more true copied true a t =
    record { general = omega arith; vector = omega arith; stack = omega arith }
taken_by_more true copied false a t =
    record { general = omega (arith, general_behind a (PassedBy copied t)); vector = omega arith; stack = omega arith }
taken_by_more false copied true a t =
    record { general = omega arith; vector = omega arith; stack = omega (arith, start-behind a.stack (PassedBy copied t)) }
taken_by_more false copied false a t =
    record { general = omega (arith, general_behind a (PassedBy copied t)); vector = omega arith; stack = omega (arith, start-behind a.stack (PassedBy copied t)) }

module _ (start : ℕ → Tree → ℕ) where
  argument_chain_by : (end : ℕ) (a : Taken) (t : Tree) (fits copied vector : Bool) → in_registers a t ≡ fits → is_copied t ≡ copied → in_vectors t ≡ vector → PlacesChain a (place_locs (place_at start end t (SpotBy fits copied vector a t))) (TakenBy fits copied vector a t)
  argument_chain_by end a t true true true ef ec ev = let apart = copied_not_vectors t ec in cc
  argument_chain_by end a t true true false ef ec ev =
      let room : a.general + 1 ≤ 8 = fits_by a t false true ev ec ef in
      let end = TakenBy true true false a t in
      (doubled end, (a.general, refl, omega arith, omega (arith, room)), (a.general, refl, omega arith), doubled_more a end (taken_by_more true true false a t), at_most_self (doubled end))
  argument_chain_by end a t true false true ef ec ev =
      members_chain (doubled a) a.vector (leaves_of t) (doubled (TakenBy true false true a t)) (omega arith) (fits_by a t true false ev ec ef) (omega arith) (omega arith) (omega arith)
  argument_chain_by end a t true false false ef ec ev =
      let first = first_general a.general t in
      let room : first + doublewords t ≤ 8 = fits_by a t false false ev ec ef in
      generals_chain (doubled a) first (size_of t) (widening t) 0 (doublewords t) (doubled (TakenBy true false false a t)) (omega (arith, general_behind a t)) (omega (arith, room)) (omega arith) (omega arith) (omega arith)
  argument_chain_by end a t false true vector ef ec ev =
      let end = TakenBy false true vector a t in
      (doubled end, start-behind a.stack (scalar pointer), (omega (arith, pointer_rounded), omega arith, omega arith), doubled_more a end (taken_by_more false true vector a t), at_most_self (doubled end))
  argument_chain_by end a t false false vector ef ec ev =
      let end = TakenBy false false vector a t in
      let more = doubled_more a end (taken_by_more false false vector a t) in
      value_chain numbered halves 8 16 (doubled a) (stack_start a.stack t) t (doubled end) (start-behind a.stack t) (omega arith) more.general more.vector

  argument_chain : (end : ℕ) (a : Taken) (t : Tree) → PlacesChain a (place_locs (place_at start end t (spot_after a t))) (taken_with a t)
  argument_chain end a t =
      argument_chain_by end a t (in_registers a t) (is_copied t) (in_vectors t) refl refl refl

  places_chain : (end : ℕ) (a : Taken) (ts : List Tree) → PlacesChain a (flat_map place_locs (places_from start end ts (spots_after a ts))) (taken_after a ts)
  places_chain end a [] = at_most_self (doubled a)
  places_chain end a (t ∷ ts) =
      chain_append numbered halves 8 16 (doubled a) (place_locs (place_at start end t (spot_after a t))) (doubled (taken_with a t)) _ _
      (argument_chain end a t) (places_chain (copy_end start end t (spot_after a t)) (taken_with a t) ts)

-- ---- where a result stands

-- a first argument is in registers, from number 0 on
as_first : (t : Tree) → result_from (spot_after untouched t) ≡ result_from (register_spot 0 t)
as_first t =
    ap (λ b. result_from (cond b (register_spot (register_start untouched t) t) (stack_spot (stack_start 0 (passed t)) t))) (first_fits t) ∙ ap (λ n. result_from (register_spot n t)) (first_at_zero t)

by_copied : (P : ResultSpot → Type 0) (t : Tree) (b : Bool) → is_copied t ≡ b → (is_copied t ≡ true → P (in_buffer (G 8))) → (is_copied t ≡ false → P (in_result_pieces (register_pieces 0 t))) → P (result_from (cond b (by_reference (G 0)) (in_pieces (register_pieces 0 t))))
by_copied P t true e hidden direct = hidden e
by_copied P t false e hidden direct = direct e

-- cases on where a result stands
pub result_cases : (P : ResultSpot → Type 0) (t : Tree) → (t ≡ void → P not_passed) → (is_copied t ≡ true → P (in_buffer (G 8))) → (is_copied t ≡ false → P (in_result_pieces (register_pieces 0 t))) → P (result_spot_of t)
result_cases P void none hidden direct = none refl
result_cases P t none hidden direct =
    subst P (sym (as_first t)) (by_copied P t (is_copied t) refl hidden direct)

apart_from_hidden : (l : Loc) → IsNoneOf (G 8 ∷ []) l → Apart (G 8) l
apart_from_hidden (G r) h = λ e. h.0 (sym e)
apart_from_hidden (F r) h = tt
apart_from_hidden (S n w) h = tt

-- ---- upper halves

-- the members of an argument in registers do not go past v7
members_fit : (a : Taken) (t : Tree) → in_registers a t ≡ true → in_vectors t ≡ true → register_start a t + length (leaves_of t) ≤ 8
members_fit a t ef ev =
    let start : register_start a t ≡ a.vector = ap (λ b. cond b a.vector (first_general a.general (passed t))) ev in
    omega (arith, start, fits_by a t true (is_copied t) ev refl ef)

pub register_spot_lower : (start : ℕ → Tree → ℕ) (end first : ℕ) (t : Tree) (copied : Bool) → (in_vectors t ≡ true → first + length (leaves_of t) ≤ 8) → PlaceHasLowerWords Aarch64 (place_at start end t (cond copied (by_reference (G first)) (in_pieces (register_pieces first t))))
register_spot_lower start end first t true fit = tt
register_spot_lower start end first t false fit = registers_lower first t fit

pub stack_spot_lower : (start : ℕ → Tree → ℕ) (end at : ℕ) (t : Tree) (copied : Bool) → PlaceHasLowerWords Aarch64 (place_at start end t (cond copied (by_reference (S at 8)) (in_pieces (stack_pieces at t))))
stack_spot_lower start end at t true = tt
stack_spot_lower start end at t false = stack_lower at t

spot_lower_if : (start : ℕ → Tree → ℕ) (end first at : ℕ) (t : Tree) (fits : Bool) → (fits ≡ true → in_vectors t ≡ true → first + length (leaves_of t) ≤ 8) → PlaceHasLowerWords Aarch64 (place_at start end t (cond fits (register_spot first t) (stack_spot at t)))
spot_lower_if start end first at t true fit = register_spot_lower start end first t (is_copied t) (fit refl)
spot_lower_if start end first at t false fit = stack_spot_lower start end at t (is_copied t)

arguments_lower : (start : ℕ → Tree → ℕ) (end : ℕ) (before : Taken) (ts : List Tree) → AllByRecursion (PlaceHasLowerWords Aarch64) (places_from start end ts (spots_after before ts))
arguments_lower start end before [] = tt
arguments_lower start end before (t ∷ ts) =
    (spot_lower_if start end (register_start before t) (stack_start before.stack (passed t)) t (in_registers before t) (members_fit before t), arguments_lower start (copy_end start end t (spot_after before t)) (taken_with before t) ts)

pub register_spot_not_further : (start : ℕ → Tree → ℕ) (end first : ℕ) (t : Tree) (copied : Bool) → (in_vectors t ≡ true → first + length (leaves_of t) ≤ 8) → has_long_double t ≡ false → AllByRecursion (IsNotFurther Aarch64) (place_locs (place_at start end t (cond copied (by_reference (G first)) (in_pieces (register_pieces first t)))))
register_spot_not_further start end first t true fit short = ((λ f. f), tt)
register_spot_not_further start end first t false fit short = registers_not_further first t fit short

pub stack_spot_not_further : (start : ℕ → Tree → ℕ) (end at : ℕ) (t : Tree) (copied : Bool) → AllByRecursion (IsNotFurther Aarch64) (place_locs (place_at start end t (cond copied (by_reference (S at 8)) (in_pieces (stack_pieces at t)))))
stack_spot_not_further start end at t true = ((λ f. f), tt)
stack_spot_not_further start end at t false = stack_not_further at t

spot_not_further_if : (start : ℕ → Tree → ℕ) (end first at : ℕ) (t : Tree) (fits : Bool) → (fits ≡ true → in_vectors t ≡ true → first + length (leaves_of t) ≤ 8) → has_long_double t ≡ false → AllByRecursion (IsNotFurther Aarch64) (place_locs (place_at start end t (cond fits (register_spot first t) (stack_spot at t))))
spot_not_further_if start end first at t true fit short = register_spot_not_further start end first t (is_copied t) (fit refl) short
spot_not_further_if start end first at t false fit short = stack_spot_not_further start end at t (is_copied t)

arguments_not_further : (start : ℕ → Tree → ℕ) (end : ℕ) (before : Taken) (ts : List Tree) → AllByRecursion (λ t. has_long_double t ≡ false) ts → AllByRecursion (IsNotFurther Aarch64) (flat_map place_locs (places_from start end ts (spots_after before ts)))
arguments_not_further start end before [] short = tt
arguments_not_further start end before (t ∷ ts) short =
    each_of_all (IsNotFurther Aarch64) (place_locs (place_at start end t (spot_after before t))) (flat_map place_locs (places_from start (copy_end start end t (spot_after before t)) ts (spots_after (taken_with before t) ts)))
    (spot_not_further_if start end (register_start before t) (stack_start before.stack (passed t)) t (in_registers before t) (members_fit before t) short.0)
    (arguments_not_further start (copy_end start end t (spot_after before t)) (taken_with before t) ts short.1)

-- ---- the result

abbrev results_taken : Taken
results_taken = record { general = 2; vector = 4; stack = 0 }

result_chain_if : (t : Tree) (vector : Bool) → is_copied t ≡ false → in_vectors t ≡ vector → PlacesChain untouched (piece_locs (cond vector (member_pieces 0 (leaves_of t)) (general_pieces 0 t))) results_taken
result_chain_if t true ec ev =
    members_chain (doubled untouched) 0 (leaves_of t) (doubled results_taken) (omega arith) (omega (arith, few_members t ev)) (omega arith) (omega (arith, few_members t ev)) (omega arith)
result_chain_if t false ec ev =
    generals_chain (doubled untouched) 0 (size_of t) (widening t) 0 (doublewords t) (doubled results_taken) (omega arith) (omega (arith, few_doublewords t ev ec)) (omega (arith, few_doublewords t ev ec)) (omega arith) (omega arith)

-- the places of a result that isn't in memory
result_chain : (t : Tree) → is_copied t ≡ false → PlacesChain untouched (piece_locs (register_pieces 0 t)) results_taken
result_chain t ec = result_chain_if t (in_vectors t) ec refl

-- a result has at most four members
result_fits : (t : Tree) → in_vectors t ≡ true → 0 + length (leaves_of t) ≤ 8
result_fits t ev = omega (arith, few_members t ev)

-- ---- the registers of a result, by the stubs

in_results : (k : ℕ) → k < 2 → IsOneOf (result_loads Aarch64) (G (numbered k))
in_results k h =
    one_of (result_loads Aarch64) (G k) (each_of_two (λ j. is_one_of (result_loads Aarch64) (G j) ≡ true) refl refl k h)

-- the upper halves of v0 to v3, which no stub moves
abbrev upper_results : List Loc
upper_results = F 32 ∷ F 33 ∷ F 34 ∷ F 35 ∷ []

in_results_or_upper : (k : ℕ) → k < 2 → IsOneOf (result_loads Aarch64 ++ upper_results) (G (numbered k))
in_results_or_upper k h = one_of_more (result_loads Aarch64) upper_results (G k) (in_results k h)

in_vector_results : (k : ℕ) → k < 8 → IsOneOf (result_loads Aarch64 ++ upper_results) (F (halves k))
in_vector_results k h =
    one_of (result_loads Aarch64 ++ upper_results) (F (halves k)) (each_of_eight (λ j. is_one_of (result_loads Aarch64 ++ upper_results) (F (halves j)) ≡ true) refl refl refl refl refl refl refl refl k h)

-- what is none of these is loaded and stored
all_upper_further : AllByRecursion (IsFurther Aarch64) upper_results
all_upper_further = (refl, (refl, (refl, (refl, tt))))

upper_is_further : (l : Loc) → IsOneOf upper_results l → IsFurther Aarch64 l
upper_is_further l a =
    subst (IsFurther Aarch64) a.4 (each_at (IsFurther Aarch64) upper_results a.0 a.1 a.2 a.3 all_upper_further)

results_without_upper : (ls : List Loc) → AllByRecursion (IsOneOf (result_loads Aarch64 ++ upper_results)) ls → AllByRecursion (IsNotFurther Aarch64) ls → AllByRecursion (IsOneOf (result_loads Aarch64)) ls
results_without_upper ls h k =
    each_both (IsOneOf (result_loads Aarch64 ++ upper_results)) (IsNotFurther Aarch64) (IsOneOf (result_loads Aarch64)) (λ l a none. one_of_fewer (result_loads Aarch64) upper_results l a (λ b. none (upper_is_further l b))) ls h k

-- ---- the laws of a standard that has the registers of this one, and returns results as this one does

-- the standard that places the arguments so
abbrev pub with_arguments : Target → (Signature → List Spot) → (Signature → Taken) → Standard
with_arguments target spots taken = record aapcs64 {
  target = target;
  placing = λ s. record { arguments = spots s; result_spot = result_spot_of s.result_type; stack_bytes = (taken s).stack; vector_registers = 0 };
}

-- what is shown of the arguments alone
pub record ArgumentsAreSound (std : Standard) (s : Signature) (taken : Taken) : Type 0 where
  pub chain : PlacesChain untouched (flat_map place_locs (plan_of std s).places) taken
  pub lower_words : AllByRecursion (PlaceHasLowerWords Aarch64) (plan_of std s).places
  pub has_all : PlacesHaveAll s.arguments (plan_of std s).places
  pub filled : PlacesAreFilled std s.arguments (plan_of std s).places
  pub rising : AllByRecursion PlaceRises (plan_of std s).places
  pub not_further : HasNoLongDouble s → AllByRecursion (IsNotFurther Aarch64) (flat_map place_locs (plan_of std s).places)

-- registers are filled as by AAPCS64
pub filled_here : (target : Target) (spots : Signature → List Spot) (taken : Signature → Taken) (t : Tree) (ps : List Piece) → AllByRecursion (IsFilled aapcs64 t) ps → AllByRecursion (IsFilled (with_arguments target spots taken) t) ps
filled_here target spots taken t [] h = tt
filled_here target spots taken t (p ∷ ps) h =
    (record { narrow = h.0.narrow; single = h.0.single; narrow_place = h.0.narrow_place }, filled_here target spots taken t ps h.1)

module _ (target : Target) (spots : Signature → List Spot) (taken : Signature → Taken) (s : Signature) where
  abbrev std : Standard
  std = with_arguments target spots taken

  abbrev pieces_and_references : List Loc
  pieces_and_references = flat_map place_locs (plan_of std s).places

  abbrev copies_and_buffer : List Loc
  copies_and_buffer =
      copy_locs s.arguments (plan_of std s).places ++ buffer_locs s.result_type (plan_of std s).res

  abbrev framed : Taken
  framed = up_to (taken s) (frame_of std s)

  -- the hidden result's address is in x8
  hidden_cases : (P : List Loc → Type 0) → P [] → P (G 8 ∷ []) → P (hidden_locs (plan_of std s).res)
  hidden_cases P none there =
      result_cases (λ spot. P (hidden_locs (result_at start (frame_copies_end std s) s.result_type spot))) s.result_type (λ e. none) (λ e. there) (λ e. none)

  -- what holds of no places, and of those in registers, holds of a result's
  result_by : (P : List Loc → Type 0) → P [] → (is_copied s.result_type ≡ false → P (piece_locs (register_pieces 0 s.result_type))) → P (result_locs (plan_of std s).res)
  result_by P none direct =
      result_cases (λ spot. P (result_locs (result_at start (frame_copies_end std s) s.result_type spot))) s.result_type (λ e. none) (λ e. none) direct

  result_stands : AllByRecursion (StandsIn Aarch64 0) (result_locs (plan_of std s).res)
  result_stands =
      result_by (AllByRecursion (StandsIn Aarch64 0)) tt (λ e. chain_stands_in numbered halves 8 16 Aarch64 (λ k h. omega arith) halves_stand (doubled untouched) _ (doubled results_taken) 0 (omega arith) (result_chain s.result_type e))

  result_not_further : HasNoLongDouble s → AllByRecursion (IsNotFurther Aarch64) (result_locs (plan_of std s).res)
  result_not_further plain =
      result_by (AllByRecursion (IsNotFurther Aarch64)) tt (λ e. registers_not_further 0 s.result_type (result_fits s.result_type) plain.result_type)

  -- what the stubs load and save
  pub loaded : HasNoLongDouble s → AllByRecursion (IsOneOf (result_loads Aarch64)) (result_locs (plan_of std s).res)
  loaded plain =
      let among = result_by (AllByRecursion (IsOneOf (result_loads Aarch64 ++ upper_results))) tt (λ e. chain_in numbered halves 8 16 (result_loads Aarch64 ++ upper_results) (doubled results_taken) refl in_results_or_upper in_vector_results (doubled untouched) _ (result_chain s.result_type e)) in
      results_without_upper (result_locs (plan_of std s).res) among (result_not_further plain)

  pub address_saved : AllByRecursion (IsOneOf (G 8 ∷ [])) (hidden_locs (plan_of std s).res)
  address_saved = hidden_cases (AllByRecursion (IsOneOf (G 8 ∷ []))) tt (one_of (G 8 ∷ []) (G 8) refl, tt)

  module _ (isa : Aarch64 ≡ isa_of target) (arguments : ArgumentsAreSound std s (taken s)) where
    call_chain : PlacesChain untouched (pieces_and_references ++ copies_and_buffer) framed
    call_chain =
        chain_append numbered halves 8 16 (doubled untouched) pieces_and_references (doubled (taken s)) _ (doubled framed) arguments.chain (frame_chain numbered halves 8 16 std start-behind s (doubled (taken s)) (omega arith))

    plan_apart : AreApart (call_locs s (plan_of std s))
    plan_apart =
        let others = chain_apart numbered halves 8 16 all_registers (doubled untouched) _ _ call_chain in
        let none = chain_allowed numbered halves 8 16 (G 8 ∷ []) argument_not_hidden (λ k h. (tt, tt)) (λ n w. (tt, tt)) (doubled untouched) _ _ call_chain in
        let from_hidden = each_weaker (IsNoneOf (G 8 ∷ [])) (Apart (G 8)) apart_from_hidden _ none in
        hidden_cases (λ hs. AreApart ((hs ++ pieces_and_references) ++ copies_and_buffer)) others (from_hidden, others)

    plan_in_frame : AllByRecursion (StandsIn (isa_of target) (frame_of std s)) (call_locs s (plan_of std s))
    plan_in_frame =
        let others = chain_stands_in numbered halves 8 16 Aarch64 (λ k h. omega arith) halves_stand (doubled untouched) _ (doubled framed) (frame_of std s) (omega arith) call_chain in
        subst (λ i. AllByRecursion (StandsIn i (frame_of std s)) (call_locs s (plan_of std s))) isa
        (hidden_cases (λ hs. AllByRecursion (StandsIn Aarch64 (frame_of std s)) ((hs ++ pieces_and_references) ++ copies_and_buffer)) others (inl (omega arith), others))

    plan_on_stack : AllByRecursion (StandsIn (isa_of target) (taken s).stack) (argument_locs (plan_of std s))
    plan_on_stack =
        let others = chain_stands_in numbered halves 8 16 Aarch64 (λ k h. omega arith) halves_stand (doubled untouched) _ (doubled (taken s)) (taken s).stack (omega arith) arguments.chain in
        subst (λ i. AllByRecursion (StandsIn i (taken s).stack) (argument_locs (plan_of std s))) isa
        (hidden_cases (λ hs. AllByRecursion (StandsIn Aarch64 (taken s).stack) (hs ++ pieces_and_references)) others (inl (omega arith), others))

    plan_allowed : AllByRecursion (IsNoneOf (closed_to_arguments std)) (argument_locs (plan_of std s))
    plan_allowed =
        let others = chain_allowed numbered halves 8 16 (closed_to_arguments std) argument_allowed vector_allowed stack_allowed (doubled untouched) _ _ arguments.chain in
        hidden_cases (λ hs. AllByRecursion (IsNoneOf (closed_to_arguments std)) (hs ++ pieces_and_references)) others (hidden_allowed, others)

    plan_passed : AllByRecursion (IsOnStackOrIn (std.argument_registers ++ further_arguments (isa_of target))) (argument_locs (plan_of std s))
    plan_passed =
        let others = chain_passed numbered halves 8 16 (std.argument_registers ++ further_arguments Aarch64) argument_passes vector_passes (doubled untouched) _ _ arguments.chain in
        subst (λ i. AllByRecursion (IsOnStackOrIn (std.argument_registers ++ further_arguments i)) (argument_locs (plan_of std s))) isa
        (hidden_cases (λ hs. AllByRecursion (IsOnStackOrIn (std.argument_registers ++ further_arguments Aarch64)) (hs ++ pieces_and_references)) others (hidden_passes, others))

    result_in_registers : AllByRecursion (StandsIn (isa_of target) 0) (result_locs (plan_of std s).res)
    result_in_registers = subst (λ i. AllByRecursion (StandsIn i 0) (result_locs (plan_of std s).res)) isa result_stands

    result_lower_words : ResultHasLowerWords (isa_of target) (plan_of std s).res
    result_lower_words =
        subst (λ i. ResultHasLowerWords i (plan_of std s).res) isa
        (result_cases (λ spot. ResultHasLowerWords Aarch64 (result_at start (frame_copies_end std s) s.result_type spot)) s.result_type (λ e. tt) (λ e. tt) (λ e. registers_lower 0 s.result_type (result_fits s.result_type)))

    call_not_further : HasNoLongDouble s → AllByRecursion (IsNotFurther (isa_of target)) (call_locs s (plan_of std s))
    call_not_further plain =
        let frame = frame_not_further Aarch64 s.arguments (plan_of std s).places s.result_type (plan_of std s).res in
        let others = each_of_all (IsNotFurther Aarch64) pieces_and_references copies_and_buffer (arguments.not_further plain) frame in
        subst (λ i. AllByRecursion (IsNotFurther i) (call_locs s (plan_of std s))) isa
        (hidden_cases (λ hs. AllByRecursion (IsNotFurther Aarch64) ((hs ++ pieces_and_references) ++ copies_and_buffer)) others ((λ f. f), others))

    -- every law of the places
    pub every_law : IsSound std s
    every_law = record {
      apart = plan_apart;
      in_frame = plan_in_frame;
      on_stack = plan_on_stack;
      allowed = plan_allowed;
      passed = plan_passed;
      lower_words = subst (λ i. AllByRecursion (PlaceHasLowerWords i) (plan_of std s).places) isa arguments.lower_words;
      has_all = arguments.has_all;
      address = hidden_cases (AllByRecursion IsWhole) tt (refl, tt);
      filled = arguments.filled;
      rising = arguments.rising;
      result_apart = result_by AreApart tt (λ e. chain_apart numbered halves 8 16 all_registers (doubled untouched) _ _ (result_chain s.result_type e));
      result_in_registers = result_in_registers;
      result_lower_words = result_lower_words;
      result_allowed = result_by (AllByRecursion (IsNoneOf (closed_to_results std))) tt (λ e. chain_allowed numbered halves 8 16 (closed_to_results std) result_allowed_general result_allowed_vector result_allowed_stack (doubled untouched) _ _ (result_chain s.result_type e));
      result_has_all = result_cases (λ spot. ResultHasAll s.result_type (result_at start (frame_copies_end std s) s.result_type spot)) s.result_type (λ e. e) (λ e. tt) (λ e. registers_have_all 0 s.result_type);
      result_filled = result_cases (λ spot. ResultIsFilled std s.result_type (result_at start (frame_copies_end std s) s.result_type spot)) s.result_type (λ e. tt) (λ e. tt) (λ e. filled_here target spots taken s.result_type (register_pieces 0 s.result_type) (registers_filled 0 s.result_type));
      frame_aligned = frame_is_aligned std s;
      need_aligned = need_is_aligned std s refl;
      on_machine = λ plain. on_machine_without std s plan_in_frame plan_on_stack plan_passed result_in_registers (call_not_further plain) (subst (λ i. AllByRecursion (IsNotFurther i) (result_locs (plan_of std s).res)) isa (result_not_further plain));
    }

-- ---- this standard

abbrev spots : Signature → List Spot
spots s = spots_after untouched s.arguments

abbrev taken_by_all : Signature → Taken
taken_by_all s = taken_after untouched s.arguments

pub sound : (s : Signature) → IsSound aapcs64 s
sound s =
    let copies = copies_start (placing_of s) in
    every_law target.Aapcs64 spots taken_by_all s refl (record {
      chain = places_chain start copies untouched s.arguments;
      lower_words = arguments_lower start copies untouched s.arguments;
      has_all = arguments_have_all start copies untouched s.arguments;
      filled = arguments_filled start copies untouched s.arguments;
      rising = arguments_rise start copies untouched s.arguments;
      not_further = λ plain. arguments_not_further start copies untouched s.arguments (each_without s.arguments plain.arguments);
    })

pub determines : (s : Signature) → IsDetermined aapcs64 s
determines s = determined aapcs64 s (sound s).has_all (sound s).result_has_all

pub result_loaded : (s : Signature) → HasNoLongDouble s → AllByRecursion (IsOneOf (result_loads Aarch64)) (result_locs (plan_of aapcs64 s).res)
result_loaded s = loaded target.Aapcs64 spots taken_by_all s

pub hidden_saved : (s : Signature) → AllByRecursion (IsOneOf (G 8 ∷ [])) (hidden_locs (plan_of aapcs64 s).res)
hidden_saved s = address_saved target.Aapcs64 spots taken_by_all s
