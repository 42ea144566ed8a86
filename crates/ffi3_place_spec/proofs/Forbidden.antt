-- Tests for registers that are none of a list, that are one of it, that are apart, and that an instruction set has; and for what holds of each of a list.
use Rattle.std.proofs.Common.{◌≡◌, ℕ, Bool, true, false, not, ◌&&◌, ◌||◌, eqb, ltb, List, [], ◌∷◌, ap, subst, refl, ◌∙◌, arith}
use Rattle.std.specs.List.{AllByRecursion, list_all}
use Rattle.std.proofs.lemmas.Bool.{ltb-true}
use Rattle.std.proofs.lemmas.Bool.Decides.{nat_tests}
use Rattle.ffi3_type_spec.specs.declared.Isa.{Isa}
use Rattle.ffi3_place_spec.specs.declared.Loc.{Loc}
use Rattle.ffi3_place_spec.specs.declared.Loc.TheVariants.{G, F, S}
use Rattle.ffi3_place_spec.specs.MachineRegisters.{general_registers, floating_registers}
use Rattle.ffi3_place_spec.specs.Sound.{Apart, AreApart, IsNoneOf, IsOneOf, LiesIn}
use Rattle.ffi3_place_spec.proofs.Tests.{and_left, and_right}
use Rattle.ffi3_place_spec.proofs.Covered.{any_later}

differs : (r q : ℕ) → r ≡ q → not (eqb r q) ≡ true → ⊥
differs r q e t = grind (arith, nat_tests)

abbrev pub is_none_of : List Loc → Loc → Bool
is_none_of [] l = true
is_none_of (G q ∷ others) (G r) = not (eqb r q) && is_none_of others (G r)
is_none_of (F q ∷ others) (F r) = not (eqb r q) && is_none_of others (F r)
is_none_of (S q v ∷ others) (S r w) = false
is_none_of (_ ∷ others) l = is_none_of others l

pub none_of : (others : List Loc) (l : Loc) → is_none_of others l ≡ true → IsNoneOf others l
none_of [] l h = tt
none_of (G q ∷ others) (G r) h =
    ((λ e. differs r q e (and_left (not (eqb r q)) (is_none_of others (G r)) h)), none_of others (G r) (and_right (not (eqb r q)) (is_none_of others (G r)) h))
none_of (G q ∷ others) (F r) h = (tt, none_of others (F r) h)
none_of (G q ∷ others) (S r w) h = (tt, none_of others (S r w) h)
none_of (F q ∷ others) (G r) h = (tt, none_of others (G r) h)
none_of (F q ∷ others) (F r) h =
    ((λ e. differs r q e (and_left (not (eqb r q)) (is_none_of others (F r)) h)), none_of others (F r) (and_right (not (eqb r q)) (is_none_of others (F r)) h))
none_of (F q ∷ others) (S r w) h = (tt, none_of others (S r w) h)
none_of (S q v ∷ others) (G r) h = (tt, none_of others (G r) h)
none_of (S q v ∷ others) (F r) h = (tt, none_of others (F r) h)
none_of (S q v ∷ others) (S r w) h = cc

-- ---- one of a list

abbrev pub same_place : Loc → Loc → Bool
same_place (G q) (G r) = eqb q r
same_place (F q) (F r) = eqb q r
same_place (S q v) (S r w) = eqb q r && eqb v w
same_place (G q) (F r) = false
same_place (G q) (S r w) = false
same_place (F q) (G r) = false
same_place (F q) (S r w) = false
same_place (S q w) (G r) = false
same_place (S q w) (F r) = false

same_number : (q r : ℕ) → eqb q r ≡ true → q ≡ r
same_number q r h = grind (arith, nat_tests)

same_is : (a b : Loc) → same_place a b ≡ true → a ≡ b
same_is (G q) (G r) h = ap G (same_number q r h)
same_is (F q) (F r) h = ap F (same_number q r h)
same_is (S q v) (S r w) h =
    ap (λ n. S n v) (same_number q r (and_left (eqb q r) (eqb v w) h)) ∙ ap (S r) (same_number v w (and_right (eqb q r) (eqb v w) h))
same_is _ _ h = cc

abbrev pub is_one_of : List Loc → Loc → Bool
is_one_of [] l = false
is_one_of (at ∷ places) l = same_place at l || is_one_of places l

first_or_later : (at l : Loc) (places : List Loc) (b : Bool) → same_place at l ≡ b → (same_place at l || is_one_of places l) ≡ true → (is_one_of places l ≡ true → IsOneOf places l) → IsOneOf (at ∷ places) l
first_or_later at l places true e h later = (0, at, omega arith, refl, same_is at l e)
first_or_later at l places false e h later =
    any_later (λ p. p ≡ l) at places (later (subst (λ b. (b || is_one_of places l) ≡ true) e h))

pub one_of : (places : List Loc) (l : Loc) → is_one_of places l ≡ true → IsOneOf places l
one_of [] l h = cc
one_of (at ∷ places) l h =
    first_or_later at l places (same_place at l) refl h (one_of places l)

-- ---- each of a list

pub each_by : (test : Loc → Bool) (P : Loc → Type 0) → ((l : Loc) → test l ≡ true → P l) → (ls : List Loc) → list_all test ls ≡ true → AllByRecursion P ls
each_by test P sound [] h = tt
each_by test P sound (l ∷ ls) h =
    (sound l (and_left (test l) (list_all test ls) h), each_by test P sound ls (and_right (test l) (list_all test ls) h))

pub each_none_of : (others ls : List Loc) → list_all (is_none_of others) ls ≡ true → AllByRecursion (IsNoneOf others) ls
each_none_of others ls h = each_by (is_none_of others) (IsNoneOf others) (none_of others) ls h

pub each_one_of : (places ls : List Loc) → list_all (is_one_of places) ls ≡ true → AllByRecursion (IsOneOf places) ls
each_one_of places ls h = each_by (is_one_of places) (IsOneOf places) (one_of places) ls h

-- ---- registers that the instruction set has

abbrev pub is_register : Isa → Loc → Bool
is_register isa (G r) = ltb r (general_registers isa)
is_register isa (F r) = ltb r (floating_registers isa)
is_register isa (S n w) = false

exists : (isa : Isa) (l : Loc) → is_register isa l ≡ true → LiesIn isa 0 l
exists isa (G r) h = ltb-true r (general_registers isa) h
exists isa (F r) h = ltb-true r (floating_registers isa) h
exists isa (S n w) h = cc

pub each_exists : (isa : Isa) (ls : List Loc) → list_all (is_register isa) ls ≡ true → AllByRecursion (LiesIn isa 0) ls
each_exists isa ls h = each_by (is_register isa) (LiesIn isa 0) (exists isa) ls h

-- ---- apart

abbrev pub is_apart : Loc → Loc → Bool
is_apart l m = is_none_of (m ∷ []) l

abbrev pub are_apart : List Loc → Bool
are_apart [] = true
are_apart (l ∷ ls) = list_all (is_apart l) ls && are_apart ls

pub apart_all : (ls : List Loc) → are_apart ls ≡ true → AreApart ls
apart_all [] h = tt
apart_all (l ∷ ls) h =
    (each_by (is_apart l) (Apart l) (λ m e. (apart_of l m e)) ls (and_left (list_all (is_apart l) ls) (are_apart ls) h), apart_all ls (and_right (list_all (is_apart l) ls) (are_apart ls) h))
  where
    apart_of : (l m : Loc) → is_apart l m ≡ true → Apart l m
    apart_of l m e = (none_of (m ∷ []) l e).0
