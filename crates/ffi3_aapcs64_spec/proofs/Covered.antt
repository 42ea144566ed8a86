-- The pieces of a value have every byte of its leaves and are filled as the standard says; and what a value needs.
use Rattle.std.proofs.Common.{◌≡◌, ℕ, ◌+◌, ◌*◌, ◌≤◌, Bool, true, false, not, ◌&&◌, cond, ltb, leb, List, [], ◌∷◌, ◌++◌, length, sym, ap, ◌∙◌, refl, arith, ⊎_elim}
use Rattle.std.specs.Prelude.{Option, Some, None, is_some}
use Rattle.std.specs.List.{AllByRecursion, Any, list_all}
use Rattle.std.proofs.lemmas.Bool.{cases_lt, ltb-false, leb-true}
use Rattle.std.proofs.lemmas.Bool.Decides.{nat_tests}
use Rattle.ffi3_type_spec.specs.Tree.{Tree, void, scalar, left_out, structure, Scalar, u8, float, double, pointer, binary128, array}
use Rattle.ffi3_type_spec.specs.Layout.{Leaf, leaves_of, size_of, align_of, scalar_size, least_multiple}
use Rattle.ffi3_type_spec.proofs.Layouts.{scalar_room-bounds}
use Rattle.ffi3_place_spec.specs.declared.Loc.{Loc}
use Rattle.ffi3_place_spec.specs.declared.Loc.TheVariants.{G, F, S}
use Rattle.ffi3_place_spec.specs.declared.Ext.TheVariants.{Free}
use Rattle.ffi3_place_spec.specs.declared.Piece.{Piece}
use Rattle.ffi3_place_spec.specs.declared.Taken.{Taken}
use Rattle.ffi3_place_spec.specs.MachineRegisters.{upper_half}
use Rattle.ffi3_place_spec.specs.Standard.{in_pieces, by_reference, place_at, places_from, copy_end, round8}
use Rattle.ffi3_place_spec.specs.Doublewords.{doublewords, widening, stack_pieces, leaf_piece}
use Rattle.ffi3_place_spec.specs.Holds.{Carries}
use Rattle.ffi3_place_spec.specs.Sound.{CoversLeaf, IsPieceOf, HaveAll, PlaceHasAll, PlacesHaveAll, is_narrow_integer, IsFilled, PlaceIsFilled, PlacesAreFilled}
use Rattle.ffi3_place_spec.proofs.Tests.{and_left, and_right, not_true, each_weaker}
use Rattle.ffi3_place_spec.proofs.Covered.{EndsIn, leaves_end, any_later}
use Rattle.ffi3_place_spec.proofs.Doublewords.{widening_suits, whole_pieces, leaf_is_piece, doublewords_have_all, stack_has_all}
use Rattle.ffi3_place_spec.proofs.Further.{each_of_all}
use Rattle.ffi3_place_spec.proofs.Filled.{doublewords_filled, no_narrow_place}
use Rattle.ffi3_aapcs64_spec.specs.declared.Kind.{Kind}
use Rattle.ffi3_aapcs64_spec.specs.declared.Kind.TheVariants.{Float, Double, Quad}
use Rattle.ffi3_aapcs64_spec.specs.Aapcs64.{aapcs64, kind_of, is_kind, is_of, is_member, is_composite, in_vectors, is_copied, passed, registers_needed, first_general, member_in, member_pieces, general_pieces, register_pieces, register_spot, stack_spot, register_start, stack_start, in_registers, spot_after, spots_after, taken_with, untouched}

-- ---- members are of a floating-point type, and fit a register, or its two halves

abbrev pub IsFloating : Leaf → Type 0
IsFloating l = is_some (kind_of l.kind) ≡ true

floating_small : (s : Scalar) → is_some (kind_of s) ≡ true → is_of Quad s ≡ false → scalar_size s ≤ 8
floating_small float e n = omega arith
floating_small double e n = omega arith
floating_small _ e n = cc

quad_size : (s : Scalar) → is_of Quad s ≡ true → scalar_size s ≡ 16
quad_size binary128 e = refl
quad_size u8 e = cc
quad_size _ e = cc

kind_there : (kind : Kind) (k : Option Kind) → is_kind kind k ≡ true → is_some k ≡ true
kind_there kind (Some k) e = refl
kind_there Float None e = cc
kind_there _ None e = cc

all_floating : (kind : Kind) (ls : List Leaf) → list_all (is_member kind) ls ≡ true → AllByRecursion IsFloating ls
all_floating kind [] e = tt
all_floating kind (l ∷ ls) e =
    (kind_there kind (kind_of l.kind) (and_left (is_member kind l) (list_all (is_member kind) ls) e), all_floating kind ls (and_right (is_member kind l) (list_all (is_member kind) ls) e))

homogeneous_floating : (ls : List Leaf) (b f d q : Bool) (x y z : Kind × ℕ) → list_all (is_member Float) ls ≡ f → list_all (is_member Double) ls ≡ d → list_all (is_member Quad) ls ≡ q → is_some (cond b (cond f (Some x) (cond d (Some y) (cond q (Some z) None))) None) ≡ true → AllByRecursion IsFloating ls
homogeneous_floating ls false f d q x y z ef ed eq e = cc
homogeneous_floating ls true true d q x y z ef ed eq e = all_floating Float ls ef
homogeneous_floating ls true false true q x y z ef ed eq e = all_floating Double ls ed
homogeneous_floating ls true false false true x y z ef ed eq e = all_floating Quad ls eq
homogeneous_floating ls true false false false x y z ef ed eq e = cc

members_floating : (t : Tree) → in_vectors t ≡ true → AllByRecursion IsFloating (leaves_of t)
members_floating void e = tt
members_floating (scalar s) e = (e, tt)
members_floating (left_out k) e = tt
members_floating (structure ts) e =
    let ls = leaves_of (structure ts) in
    homogeneous_floating ls (ltb 0 (length ls) && leb (length ls) 4) _ _ _ (Float, length ls) (Double, length ls) (Quad, length ls) refl refl refl e
members_floating (array ts n) e = cc

-- ---- pieces

-- the pieces of one member, by whether it is of quad precision
abbrev pub MemberBy : Bool → ℕ → Leaf → List Piece
MemberBy quad v l =
    cond quad (record { loc = F v; off = l.at; len = 8; ext = Free } ∷ record { loc = upper_half v; off = l.at + 8; len = 8; ext = Free } ∷ [])
    (leaf_piece (F v) Free l ∷ [])

member_is_piece : (t : Tree) (v : ℕ) (l : Leaf) (quad : Bool) → is_of Quad l.kind ≡ quad → IsFloating l → EndsIn (size_of t) l → AllByRecursion (IsPieceOf t) (MemberBy quad v l)
member_is_piece t v l true e floats ends =
    let size = quad_size l.kind e in (
      record { short = omega arith; within = omega (arith, size, ends); fits = omega arith; extended = tt },
      (record { short = omega arith; within = omega (arith, size, ends); fits = omega arith; extended = tt }, tt),
    )
member_is_piece t v l false e floats ends =
    (leaf_is_piece t (F v) Free l refl (floating_small l.kind floats e) ends tt, tt)

members_are_pieces : (t : Tree) (v : ℕ) (ls : List Leaf) → AllByRecursion IsFloating ls → AllByRecursion (EndsIn (size_of t)) ls → AllByRecursion (IsPieceOf t) (member_pieces v ls)
members_are_pieces t v [] floats h = tt
members_are_pieces t v (l ∷ ls) floats h =
    each_of_all (IsPieceOf t) (member_in v l) (member_pieces (v + 1) ls) (member_is_piece t v l (is_of Quad l.kind) refl floats.0 h.0) (members_are_pieces t (v + 1) ls floats.1 h.1)

any_behind : (P : Piece → Type 0) (ps qs : List Piece) → Any P qs → Any P (ps ++ qs)
any_behind P [] qs a = a
any_behind P (p ∷ ps) qs a = any_later P p (ps ++ qs) (any_behind P ps qs a)

member_covers : (v : ℕ) (l : Leaf) (others : List Piece) (quad : Bool) → is_of Quad l.kind ≡ quad → CoversLeaf (MemberBy quad v l ++ others) l
member_covers v l others true e k h =
    let size = quad_size l.kind e in
    ⊎_elim (λ below. (0, _, omega arith, refl, (omega arith, omega (arith, below)))) (λ above. (1, _, omega arith, refl, (omega (arith, above), omega (arith, h, size)))) (cases_lt k 8)
member_covers v l others false e k h = (0, _, omega arith, refl, (omega arith, omega (arith, h)))

members_cover : (v : ℕ) (ls : List Leaf) → AllByRecursion (CoversLeaf (member_pieces v ls)) ls
members_cover v [] = tt
members_cover v (l ∷ ls) =
    let later = each_weaker (CoversLeaf (member_pieces (v + 1) ls)) (CoversLeaf (member_pieces v (l ∷ ls))) (λ m c k h. any_behind (Carries (m.at + k)) (member_in v l) (member_pieces (v + 1) ls) (c k h)) ls (members_cover (v + 1) ls) in
    (member_covers v l (member_pieces (v + 1) ls) (is_of Quad l.kind) refl, later)

pub members_have_all : (v : ℕ) (t : Tree) → in_vectors t ≡ true → HaveAll t (member_pieces v (leaves_of t))
members_have_all v t e = record {
  each = members_are_pieces t v (leaves_of t) (members_floating t e) (leaves_end t);
  covered = members_cover v (leaves_of t);
}

generals_have_all : (g : ℕ) (t : Tree) → HaveAll t (general_pieces g t)
generals_have_all g t =
    let place : ℕ → Loc = λ j. G (g + j) in
    doublewords_have_all place t (widening t) (whole_pieces place t (widening t) (widening_suits t) (λ j. refl))

registers_have_all_if : (first : ℕ) (t : Tree) (b : Bool) → in_vectors t ≡ b → HaveAll t (cond b (member_pieces first (leaves_of t)) (general_pieces first t))
registers_have_all_if first t true e = members_have_all first t e
registers_have_all_if first t false e = generals_have_all first t

pub registers_have_all : (first : ℕ) (t : Tree) → HaveAll t (register_pieces first t)
registers_have_all first t = registers_have_all_if first t (in_vectors t) refl

-- ---- what fills the rest of their places

-- a narrow integer takes no vector registers
not_narrow : (t : Tree) → in_vectors t ≡ true → is_narrow_integer t ≡ true → ⊥
not_narrow void v h = cc
not_narrow (scalar u8) v h = cc
not_narrow _ v h = cc

member_filled : (t : Tree) → in_vectors t ≡ true → (v : ℕ) (l : Leaf) (quad : Bool) → AllByRecursion (IsFilled aapcs64 t) (MemberBy quad v l)
member_filled t e v l true = (
  record { narrow = λ h _. absurd (not_narrow t e h); single = λ place four. refl; narrow_place = no_narrow_place (F v) refl },
  (record { narrow = λ h _. absurd (not_narrow t e h); single = λ place four. refl; narrow_place = no_narrow_place (upper_half v) refl }, tt),
)
member_filled t e v l false =
    (record { narrow = λ h _. absurd (not_narrow t e h); single = λ place four. refl; narrow_place = no_narrow_place (F v) refl }, tt)

members_filled : (t : Tree) → in_vectors t ≡ true → (v : ℕ) (ls : List Leaf) → AllByRecursion (IsFilled aapcs64 t) (member_pieces v ls)
members_filled t e v [] = tt
members_filled t e v (l ∷ ls) =
    each_of_all (IsFilled aapcs64 t) (member_in v l) (member_pieces (v + 1) ls) (member_filled t e v l (is_of Quad l.kind)) (members_filled t e (v + 1) ls)

registers_filled_if : (first : ℕ) (t : Tree) (b : Bool) → in_vectors t ≡ b → AllByRecursion (IsFilled aapcs64 t) (cond b (member_pieces first (leaves_of t)) (general_pieces first t))
registers_filled_if first t true e = members_filled t e first (leaves_of t)
registers_filled_if first t false e =
    doublewords_filled aapcs64 t (λ j. G (first + j)) (λ j. refl) (λ j. refl) 0 (doublewords t)

pub registers_filled : (first : ℕ) (t : Tree) → AllByRecursion (IsFilled aapcs64 t) (register_pieces first t)
registers_filled first t = registers_filled_if first t (in_vectors t) refl

stack_filled : (start : ℕ) (t : Tree) → AllByRecursion (IsFilled aapcs64 t) (stack_pieces start t)
stack_filled start t =
    doublewords_filled aapcs64 t (λ j. S (start + 8 * j) 8) (λ j. refl) (λ j. refl) 0 (doublewords t)

-- ---- arguments

pub register_spot_has_all : (start : ℕ → Tree → ℕ) (end first : ℕ) (t : Tree) (copied : Bool) → PlaceHasAll t (place_at start end t (cond copied (by_reference (G first)) (in_pieces (register_pieces first t))))
register_spot_has_all start end first t true = refl
register_spot_has_all start end first t false = registers_have_all first t

pub stack_spot_has_all : (start : ℕ → Tree → ℕ) (end at : ℕ) (t : Tree) (copied : Bool) → PlaceHasAll t (place_at start end t (cond copied (by_reference (S at 8)) (in_pieces (stack_pieces at t))))
stack_spot_has_all start end at t true = refl
stack_spot_has_all start end at t false = stack_has_all at t

spot_has_all_if : (start : ℕ → Tree → ℕ) (end first at : ℕ) (t : Tree) (fits : Bool) → PlaceHasAll t (place_at start end t (cond fits (register_spot first t) (stack_spot at t)))
spot_has_all_if start end first at t true = register_spot_has_all start end first t (is_copied t)
spot_has_all_if start end first at t false = stack_spot_has_all start end at t (is_copied t)

pub arguments_have_all : (start : ℕ → Tree → ℕ) (end : ℕ) (before : Taken) (ts : List Tree) → PlacesHaveAll ts (places_from start end ts (spots_after before ts))
arguments_have_all start end before [] = tt
arguments_have_all start end before (t ∷ ts) =
    (spot_has_all_if start end (register_start before t) (stack_start before.stack (passed t)) t (in_registers before t), arguments_have_all start (copy_end start end t (spot_after before t)) (taken_with before t) ts)

register_spot_filled : (start : ℕ → Tree → ℕ) (end first : ℕ) (t : Tree) (copied : Bool) → PlaceIsFilled aapcs64 t (place_at start end t (cond copied (by_reference (G first)) (in_pieces (register_pieces first t))))
register_spot_filled start end first t true = tt
register_spot_filled start end first t false = registers_filled first t

stack_spot_filled : (start : ℕ → Tree → ℕ) (end at : ℕ) (t : Tree) (copied : Bool) → PlaceIsFilled aapcs64 t (place_at start end t (cond copied (by_reference (S at 8)) (in_pieces (stack_pieces at t))))
stack_spot_filled start end at t true = tt
stack_spot_filled start end at t false = stack_filled at t

spot_filled_if : (start : ℕ → Tree → ℕ) (end first at : ℕ) (t : Tree) (fits : Bool) → PlaceIsFilled aapcs64 t (place_at start end t (cond fits (register_spot first t) (stack_spot at t)))
spot_filled_if start end first at t true = register_spot_filled start end first t (is_copied t)
spot_filled_if start end first at t false = stack_spot_filled start end at t (is_copied t)

pub arguments_filled : (start : ℕ → Tree → ℕ) (end : ℕ) (before : Taken) (ts : List Tree) → PlacesAreFilled aapcs64 ts (places_from start end ts (spots_after before ts))
arguments_filled start end before [] = tt
arguments_filled start end before (t ∷ ts) =
    (spot_filled_if start end (register_start before t) (stack_start before.stack (passed t)) t (in_registers before t), arguments_filled start (copy_end start end t (spot_after before t)) (taken_with before t) ts)

-- ---- needs

-- what is copied is not homogeneous
pub copied_not_vectors : (t : Tree) → is_copied t ≡ true → in_vectors t ≡ false
copied_not_vectors t e =
    not_true (in_vectors t) (and_left (not (in_vectors t)) (ltb 16 (size_of t)) (and_right (is_composite t) _ e))

few_members_if : (n : ℕ) (b : Bool) (some : Option (Kind × ℕ)) → (ltb 0 n && leb n 4) ≡ b → is_some (cond b some None) ≡ true → n ≤ 4
few_members_if n true some e h = leb-true n 4 (and_right (ltb 0 n) (leb n 4) e)
few_members_if n false some e h = cc

-- a homogeneous aggregate has at most four members
pub few_members : (t : Tree) → in_vectors t ≡ true → length (leaves_of t) ≤ 4
few_members (scalar s) e = omega arith
few_members (structure ts) e =
    few_members_if (length (leaves_of (structure ts))) (ltb 0 (length (leaves_of (structure ts))) && leb (length (leaves_of (structure ts))) 4) _ refl e
few_members _ e = cc

small_if : (v b : Bool) → v ≡ false → (not v && b) ≡ false → b ≡ false
small_if true b ev e = cc
small_if false b ev e = e

-- what goes directly in general registers has at most two doublewords
pub few_doublewords : (t : Tree) → in_vectors t ≡ false → is_copied t ≡ false → doublewords t ≤ 2
few_doublewords void ev ec = omega arith
few_doublewords (scalar s) ev ec = omega (arith, scalar_room-bounds s)
few_doublewords (left_out k) ev ec = omega arith
few_doublewords (structure ts) ev ec =
    omega (arith, ltb-false 16 (size_of (structure ts)) (small_if (in_vectors (structure ts)) (ltb 16 (size_of (structure ts))) ev ec))
few_doublewords (array ts n) ev ec =
    omega (arith, ltb-false 16 (size_of (array ts n)) (small_if (in_vectors (array ts n)) (ltb 16 (size_of (array ts n))) ev ec))

-- what an argument needs, by whether it is in vector registers and copied
abbrev pub NeedBy : Bool → Bool → Tree → ℕ
NeedBy vector copied t =
    cond vector (length (leaves_of t)) (doublewords (cond {A = Tree} copied (scalar pointer) t))

few_needed_if : (t : Tree) (v c : Bool) → in_vectors t ≡ v → is_copied t ≡ c → NeedBy v c t ≤ 4
few_needed_if t true c ev ec = few_members t ev
few_needed_if t false true ev ec = omega arith
few_needed_if t false false ev ec = omega (arith, few_doublewords t ev ec)

pub few_needed : (t : Tree) → registers_needed t ≤ 4
few_needed t = few_needed_if t (in_vectors t) (is_copied t) refl refl

-- a pointer takes eight bytes of the stack
pub pointer_rounded : round8 (size_of (scalar pointer)) ≡ 8
unfolding least_multiple
pointer_rounded = refl

-- ---- what `in_registers` says

-- where its registers begin, by the same
abbrev pub StartBy : Bool → Bool → Taken → Tree → ℕ
StartBy vector copied a t =
    cond vector a.vector (first_general a.general (cond {A = Tree} copied (scalar pointer) t))

abbrev FitsBy : Bool → Bool → Taken → Tree → Bool
FitsBy vector copied a t = leb (StartBy vector copied a t + NeedBy vector copied t) 8

pub fits_by : (a : Taken) (t : Tree) (vector copied : Bool) → in_vectors t ≡ vector → is_copied t ≡ copied → in_registers a t ≡ true → StartBy vector copied a t + NeedBy vector copied t ≤ 8
fits_by a t vector copied ev ec ef =
    leb-true _ _ (sym (ap (λ v. FitsBy v (is_copied t) a t) ev ∙ ap (λ c. FitsBy vector c a t) ec) ∙ ef)

-- a first argument begins at number 0 of its kind
zero_if : (v b : Bool) → cond {A = ℕ} v 0 (cond {A = ℕ} b (least_multiple 2 0) 0) ≡ 0
unfolding least_multiple
zero_if true b = refl
zero_if false true = refl
zero_if false false = refl

pub first_at_zero : (t : Tree) → register_start untouched t ≡ 0
first_at_zero t = zero_if (in_vectors t) (leb 16 (align_of (passed t)))

-- and is in registers
few_fit : (n m : ℕ) → m ≡ 0 → n ≤ 4 → leb (m + n) 8 ≡ true
few_fit n m e h = grind (arith, nat_tests)

pub first_fits : (t : Tree) → in_registers untouched t ≡ true
first_fits t =
    few_fit (registers_needed t) (register_start untouched t) (first_at_zero t) (few_needed t)
