-- The pieces of a value have every byte of its leaves.
use Rattle.std.proofs.Common.{◌≡◌, ℕ, zero, suc, ◌+◌, ◌*◌, ◌<◌, ◌≤◌, Bool, true, false, not, ◌&&◌, ◌||◌, cond, ltb, leb, List, [], ◌∷◌, ◌++◌, length, ap, refl, arith, ⊎_elim}
use Rattle.std.specs.List.{AllByRecursion, Any, count_by}
use Rattle.std.proofs.lemmas.List.{length_push}
use Rattle.std.proofs.lemmas.List.Sums.{count_by-le-length}
use Rattle.std.proofs.lemmas.Bool.{cases_lt, ltb-false, leb-true, or_parts}
use Rattle.ffi3_type_spec.specs.Tree.{Tree, void, scalar, left_out, structure, array, is_complex}
use Rattle.ffi3_type_spec.specs.Layout.{size_of}
use Rattle.ffi3_type_spec.proofs.Layouts.{scalar_room-bounds}
use Rattle.ffi3_place_spec.specs.declared.Taken.{Taken}
use Rattle.ffi3_place_spec.specs.Standard.{places_from}
use Rattle.ffi3_place_spec.specs.Doublewords.{widening, stack_pieces}
use Rattle.ffi3_place_spec.specs.Holds.{Carries}
use Rattle.ffi3_place_spec.specs.Sound.{IsWhole, IsPieceOf, HaveAll, PlacesHaveAll}
use Rattle.ffi3_place_spec.proofs.Tests.{and_left, and_right, not_true}
use Rattle.ffi3_place_spec.proofs.Covered.{covers_leaves, any_later}
use Rattle.ffi3_place_spec.proofs.Doublewords.{widening_suits, doubleword_is_piece, stack_has_all}
use Rattle.ffi3_amd64_spec.specs.declared.Class.{Class}
use Rattle.ffi3_amd64_spec.specs.declared.Class.TheVariants.{Integer, Sse}
use Rattle.ffi3_amd64_spec.specs.Amd64.{is_integer_class, is_sse_class, classes, classes_from, eightbytes, integers, sses, in_memory, is_class_x87, general_argument, register_of, register_pieces, in_registers, stack_start, taken_with, argument_pieces, spots_after}

module _ (general : ℕ → ℕ) (g f : ℕ) (t : Tree) where
  registers_carry : (o : ℕ) (earlier cs : List Class) → 8 * length earlier ≤ o → o < 8 * (length earlier + length cs) → o < size_of t → Any (Carries o) (register_pieces general g f t earlier cs)
  registers_carry o earlier [] low high fits = absurd (omega arith)
  registers_carry o earlier (c ∷ cs) low high fits =
      ⊎_elim (λ h. (0, _, omega arith, refl, (low, omega arith)))
      (λ h. any_later (Carries o) _ _ (registers_carry o (earlier ++ c ∷ []) cs (omega (arith, length_push earlier c)) (omega (arith, length_push earlier c)) fits))
      (cases_lt o (8 * length earlier + 8))

  pub in_one_word : (earlier : List Class) (c : Class) → IsWhole (register_of general g f earlier c)
  in_one_word earlier Integer = refl
  in_one_word earlier Sse = refl

  registers_are_pieces : (earlier cs : List Class) → length earlier + length cs ≤ eightbytes t → AllByRecursion (IsPieceOf t) (register_pieces general g f t earlier cs)
  registers_are_pieces earlier [] h = tt
  registers_are_pieces earlier (c ∷ cs) h =
      (doubleword_is_piece t (widening t) (widening_suits t) (register_of general g f earlier c) (length earlier) (in_one_word earlier c) (omega arith), registers_are_pieces (earlier ++ c ∷ []) cs (omega (arith, length_push earlier c)))

  pub registers_have_all : (cs : List Class) → length cs ≡ eightbytes t → HaveAll t (register_pieces general g f t [] cs)
  registers_have_all cs e = record {
    each = registers_are_pieces [] cs (omega arith);
    covered = covers_leaves t (register_pieces general g f t [] cs) (λ o h. registers_carry o [] cs (omega arith) (omega (arith, e, h)) h);
  }

-- ---- the classes of a value

pub length-classes_from : (t : Tree) (j n : ℕ) → length (classes_from t j n) ≡ n
length-classes_from t j zero = refl
length-classes_from t j (suc n) = ap suc (length-classes_from t (j + 1) n)

-- a value that isn't in memory has at most two eightbytes
memory_if : (complex large : Bool) → ((not complex && large) || complex) ≡ false → large ≡ false
memory_if true large e = cc
memory_if false true e = cc
memory_if false false e = refl

pub in_two : (t : Tree) → in_memory t ≡ false → size_of t ≤ 16
in_two void e = omega arith
in_two (scalar s) e = (scalar_room-bounds s).1
in_two (left_out k) e = omega arith
in_two (structure ts) e =
    omega (arith, ltb-false 16 (size_of (structure ts)) (or_parts (ltb 16 (size_of (structure ts))) (is_class_x87 (structure ts)) e).0)
in_two (array ts n) e =
    omega (arith, ltb-false 16 (size_of (array ts n)) (memory_if (is_complex ts n) (ltb 16 (size_of (array ts n))) e))

few_if : (t : Tree) (b : Bool) → (b ≡ false → size_of t ≤ 16) → length (cond b [] (classes_from t 0 (eightbytes t))) ≤ 2
few_if t true small = omega arith
few_if t false small = omega (arith, small refl, length-classes_from t 0 (eightbytes t))

pub classes_few : (t : Tree) → length (classes t) ≤ 2
classes_few t = few_if t (in_memory t) (in_two t)

pub classes_when : (t : Tree) → in_memory t ≡ false → length (classes t) ≡ eightbytes t
classes_when t e = rw e (length-classes_from t 0 (eightbytes t))

count_in_two : (p : Class → Bool) (cs : List Class) → length cs ≤ 2 → count_by p cs ≤ 2
count_in_two p cs h = omega (arith, count_by-le-length p cs)

pub integers_few : (t : Tree) → integers t ≤ 2
integers_few t = count_in_two is_integer_class (classes t) (classes_few t)

pub sses_few : (t : Tree) → sses t ≤ 2
sses_few t = count_in_two is_sse_class (classes t) (classes_few t)

pub not_in_memory : (a : Taken) (t : Tree) → in_registers a t ≡ true → in_memory t ≡ false
not_in_memory a t h = not_true (in_memory t) (and_left (not (in_memory t)) _ h)

-- what `in_registers` says
pub fits_registers : (a : Taken) (t : Tree) → in_registers a t ≡ true → (a.general + integers t ≤ 6) × (a.vector + sses t ≤ 8)
fits_registers a t e =
    let both = and_right (not (in_memory t)) (leb (a.general + integers t) 6 && leb (a.vector + sses t) 8) e in
    (leb-true _ _ (and_left (leb (a.general + integers t) 6) (leb (a.vector + sses t) 8) both), leb-true _ _ (and_right (leb (a.general + integers t) 6) (leb (a.vector + sses t) 8) both))

-- ---- arguments

has_all_if : (a : Taken) (t : Tree) (b : Bool) → in_registers a t ≡ b → HaveAll t (cond b (register_pieces general_argument a.general a.vector t [] (classes t)) (stack_pieces (stack_start a.stack t) t))
has_all_if a t true e = registers_have_all general_argument a.general a.vector t (classes t) (classes_when t (not_in_memory a t e))
has_all_if a t false e = stack_has_all (stack_start a.stack t) t

pub argument_has_all : (a : Taken) (t : Tree) → HaveAll t (argument_pieces a t)
argument_has_all a t = has_all_if a t (in_registers a t) refl

pub arguments_have_all : (start : ℕ → Tree → ℕ) (end : ℕ) (before : Taken) (ts : List Tree) → PlacesHaveAll ts (places_from start end ts (spots_after before ts))
arguments_have_all start end before [] = tt
arguments_have_all start end before (t ∷ ts) =
    (argument_has_all before t, arguments_have_all start end (taken_with before t) ts)
