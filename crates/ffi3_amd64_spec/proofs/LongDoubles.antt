-- Values of the classes X87, X87UP and COMPLEX_X87: one or two leaves, each of x87's format, in st(0) and st(1).
use Rattle.std.proofs.Common.{◌≡◌, ℕ, ◌+◌, ◌≤◌, length, Bool, true, false, ◌||◌, List, [], ◌∷◌, refl, ap, sym, subst, arith, ⊎_elim}
use Rattle.std.specs.List.{AllByRecursion, Any, list_any}
use Rattle.std.proofs.lemmas.Bool.{cases_lt, eqb-true, or_left}
use Rattle.ffi3_type_spec.specs.Tree.{Tree, void, scalar, left_out, structure, array, Trees, no_trees, tree, Scalar, u8, x87, is_complex}
use Rattle.ffi3_type_spec.specs.Layout.{Leaf, leaves_of, size_of, scalar_size, is_long_double, has_long_double}
use Rattle.ffi3_type_spec.proofs.LongDoubles.{long_by_leaves}
use Rattle.ffi3_place_spec.specs.declared.Ext.TheVariants.{Free}
use Rattle.ffi3_place_spec.specs.declared.Piece.{Piece}
use Rattle.ffi3_place_spec.specs.MachineRegisters.{significand, sign_and_exponent}
use Rattle.ffi3_place_spec.specs.Holds.{Carries}
use Rattle.ffi3_place_spec.specs.Sound.{CoversLeaf, IsPieceOf, HaveAll, is_narrow_integer}
use Rattle.ffi3_place_spec.proofs.Tests.{each_weaker}
use Rattle.ffi3_place_spec.proofs.Covered.{EndsIn, leaves_end, any_later}
use Rattle.ffi3_amd64_spec.specs.Amd64.{is_x87_scalar, is_one_x87, is_class_x87, x87_pieces}

-- ---- their leaves

pub x87_alone : (s : Scalar) → is_x87_scalar s ≡ true → s ≡ x87
x87_alone x87 e = refl
x87_alone u8 e = cc
x87_alone _ e = cc

complex_is : (ts : Trees) (n : ℕ) → is_complex ts n ≡ true → (ts ≡ tree (scalar x87) no_trees) × (n ≡ 2)
complex_is (tree (scalar x87) no_trees) n e = (refl, eqb-true n 2 e)
complex_is no_trees n e = cc
complex_is _ n e = cc

left_of : (b : Bool) → (b || false) ≡ true → b ≡ true
left_of true e = refl
left_of false e = cc

-- what holds of one leaf of the format, and of two, holds of the leaves of such a value
leaves_cases : (Q : List Leaf → Type 0) → ((l : Leaf) → l.kind ≡ x87 → Q (l ∷ [])) → ((l m : Leaf) → l.kind ≡ x87 → m.kind ≡ x87 → Q (l ∷ m ∷ [])) → (t : Tree) → is_class_x87 t ≡ true → Q (leaves_of t)
leaves_cases Q one two t e = cases t e
  where
    one_of : (ls : List Leaf) → is_one_x87 ls ≡ true → Q ls
    one_of [] h = cc
    one_of (l ∷ []) h = one l (x87_alone l.kind h)
    one_of (l ∷ m ∷ ls) h = cc

    both : Q (leaves_of (array (tree (scalar x87) no_trees) 2))
    both = two (record { at = 0; kind = x87 }) (record { at = 16; kind = x87 }) refl refl

    cases : (u : Tree) → is_class_x87 u ≡ true → Q (leaves_of u)
    cases void h = cc
    cases (scalar s) h = one (record { at = 0; kind = s }) (x87_alone s (left_of (is_x87_scalar s) h))
    cases (left_out k) h = cc
    cases (structure ts) h =
        one_of (leaves_of (structure ts)) (left_of (is_one_x87 (leaves_of (structure ts))) h)
    cases (array ts n) h =
        let is = complex_is ts n h in
        subst (λ us. Q (leaves_of (array us n))) (sym is.0) (subst (λ k. Q (leaves_of (array (tree (scalar x87) no_trees) k))) (sym is.1) both)

-- what holds of st(0), and of st(0) and st(1), holds of the pieces of such a value
pub x87_cases : (Q : List Piece → Type 0) → ((l : Leaf) → Q (x87_pieces 0 (l ∷ []))) → ((l m : Leaf) → Q (x87_pieces 0 (l ∷ m ∷ []))) → (t : Tree) → is_class_x87 t ≡ true → Q (x87_pieces 0 (leaves_of t))
x87_cases Q one two t e = leaves_cases (λ ls. Q (x87_pieces 0 ls)) (λ l a. one l) (λ l m a b. two l m) t e

abbrev AreX87 : List Leaf → Type 0
AreX87 ls = AllByRecursion (λ l. l.kind ≡ x87) ls

are_x87 : (t : Tree) → is_class_x87 t ≡ true → AreX87 (leaves_of t)
are_x87 t e = leaves_cases AreX87 (λ l a. (a, tt)) (λ l m a b. (a, (b, tt))) t e

-- it has a long double, so it is no part of a call on the machine
pub x87_is_long : (t : Tree) → is_class_x87 t ≡ true → has_long_double t ≡ true
x87_is_long t e =
    long_by_leaves t (leaves_cases (λ ls. list_any (λ leaf. is_long_double leaf.kind) ls ≡ true) (λ l a. or_left (is_long_double l.kind) _ (ap is_long_double a)) (λ l m a b. or_left (is_long_double l.kind) _ (ap is_long_double a)) t e)

-- one leaf or two
pub x87_few : (t : Tree) → is_class_x87 t ≡ true → length (leaves_of t) ≤ 2
x87_few t e = leaves_cases (λ ls. length ls ≤ 2) (λ l a. omega arith) (λ l m a b. omega arith) t e

-- it is no narrow integer
scalar_not_narrow : (s : Scalar) → is_class_x87 (scalar s) ≡ true → is_narrow_integer (scalar s) ≡ false
scalar_not_narrow x87 e = refl
scalar_not_narrow u8 e = cc
scalar_not_narrow _ e = cc

pub x87_not_narrow : (t : Tree) → is_class_x87 t ≡ true → is_narrow_integer t ≡ false
x87_not_narrow (scalar s) e = scalar_not_narrow s e
x87_not_narrow _ e = refl

-- ---- the pieces have every byte of the leaves

x87_are_pieces : (t : Tree) (k : ℕ) (ls : List Leaf) → AreX87 ls → AllByRecursion (EndsIn (size_of t)) ls → AllByRecursion (IsPieceOf t) (x87_pieces k ls)
x87_are_pieces t k [] are ends = tt
x87_are_pieces t k (l ∷ ls) are ends =
    let ten : scalar_size l.kind ≡ 10 = ap scalar_size are.0 in (
      record { short = omega arith; within = omega (arith, ten, ends.0); fits = omega arith; extended = tt },
      (record { short = omega arith; within = omega (arith, ten, ends.0); fits = omega arith; extended = tt }, x87_are_pieces t (k + 1) ls are.1 ends.1),
    )

-- what is behind the words of one register
x87_later : (k o : ℕ) (l : Leaf) (ls : List Leaf) → Any (Carries o) (x87_pieces (k + 1) ls) → Any (Carries o) (x87_pieces k (l ∷ ls))
x87_later k o l ls a =
    any_later (Carries o) (record { loc = significand k; off = l.at; len = 8; ext = Free }) (record { loc = sign_and_exponent k; off = l.at + 8; len = 2; ext = Free } ∷ x87_pieces (k + 1) ls)
    (any_later (Carries o) (record { loc = sign_and_exponent k; off = l.at + 8; len = 2; ext = Free }) (x87_pieces (k + 1) ls) a)

x87_covers : (k : ℕ) (l : Leaf) (ls : List Leaf) → l.kind ≡ x87 → CoversLeaf (x87_pieces k (l ∷ ls)) l
x87_covers k l ls is j h =
    let ten : scalar_size l.kind ≡ 10 = ap scalar_size is in
    ⊎_elim (λ below. (0, _, omega arith, refl, (omega arith, omega (arith, below)))) (λ above. (1, _, omega arith, refl, (omega (arith, above), omega (arith, h, ten)))) (cases_lt j 8)

x87_cover : (k : ℕ) (ls : List Leaf) → AreX87 ls → AllByRecursion (CoversLeaf (x87_pieces k ls)) ls
x87_cover k [] are = tt
x87_cover k (l ∷ ls) are =
    (x87_covers k l ls are.0, each_weaker (CoversLeaf (x87_pieces (k + 1) ls)) (CoversLeaf (x87_pieces k (l ∷ ls))) (λ m c j h. x87_later k (m.at + j) l ls (c j h)) ls (x87_cover (k + 1) ls are.1))

pub x87_have_all : (t : Tree) → is_class_x87 t ≡ true → HaveAll t (x87_pieces 0 (leaves_of t))
x87_have_all t e = record {
  each = x87_are_pieces t 0 (leaves_of t) (are_x87 t e) (leaves_end t);
  covered = x87_cover 0 (leaves_of t) (are_x87 t e);
}
