-- Places of which none is a further word: where the modelled machine has each, they stand in it; and what is passed in one is passed in a further word of it or not.
use Rattle.std.proofs.Common.{◌≡◌, ℕ, zero, suc, ◌+◌, ◌<◌, inl, inr, Bool, false, cond, eqb, leb, List, [], ◌∷◌, ◌++◌, length, get_or, ◌/◌, Option, Some, None, refl, ap, sym, subst, ◌∙◌, arith, ◌-◌}
use Rattle.std.specs.List.{AllByRecursion, flat_map}
use Rattle.std.proofs.lemmas.Bool.Decides.{nat_tests}
use Rattle.ffi3_type_spec.specs.declared.Isa.{Isa}
use Rattle.ffi3_type_spec.specs.declared.Isa.TheVariants.{Amd64, Aarch64, Riscv}
use Rattle.ffi3_place_spec.specs.declared.Loc.{Loc}
use Rattle.ffi3_place_spec.specs.declared.Loc.TheVariants.{G, F, S}
use Rattle.ffi3_type_spec.specs.Tree.{Tree, tree_at}
use Rattle.ffi3_type_spec.specs.Layout.{size_of, has_long_double}
use Rattle.ffi3_place_spec.specs.declared.Ext.{Ext}
use Rattle.ffi3_place_spec.specs.declared.Piece.{Piece}
use Rattle.ffi3_place_spec.specs.declared.Place.{Place}
use Rattle.ffi3_place_spec.specs.declared.Place.TheVariants.{Direct, ByRef}
use Rattle.ffi3_place_spec.specs.declared.Res.{Res}
use Rattle.ffi3_place_spec.specs.declared.Res.TheVariants.{Nothing, Direct as DirectRes, Hidden}
use Rattle.ffi3_place_spec.specs.MachineRegisters.{further_arguments}
use Rattle.ffi3_place_spec.specs.Doublewords.{doublewords_at}
use Rattle.ffi3_place_spec.specs.Sound.{LiesIn, IsFurther, StandsIn, IsOneOf, IsOnStackOrIn, StandsAbove, word_below_place, HaveLowerWords, PlaceHasLowerWords, ResultHasLowerWords, piece_locs, place_locs, result_locs, copy_locs, buffer_locs, stack_words, stack_words_for}
use Rattle.ffi3_place_spec.proofs.Tests.{each_weaker, each_at}
use Rattle.ffi3_place_spec.proofs.Covered.{any_later}

abbrev pub IsNotFurther : Isa → Loc → Type 0
IsNotFurther isa l = IsFurther isa l → ⊥

-- ---- each of a list

pub each_both : {X : Type 0} (P Q R : X → Type 0) → ((x : X) → P x → Q x → R x) → (xs : List X) → AllByRecursion P xs → AllByRecursion Q xs → AllByRecursion R xs
each_both P Q R f [] h k = tt
each_both P Q R f (x ∷ xs) h k = (f x h.0 k.0, each_both P Q R f xs h.1 k.1)

pub each_in_front : {X : Type 0} (P : X → Type 0) (xs ys : List X) → AllByRecursion P (xs ++ ys) → AllByRecursion P xs
each_in_front P [] ys h = tt
each_in_front P (x ∷ xs) ys h = (h.0, each_in_front P xs ys h.1)

pub each_behind : {X : Type 0} (P : X → Type 0) (xs ys : List X) → AllByRecursion P (xs ++ ys) → AllByRecursion P ys
each_behind P [] ys h = h
each_behind P (x ∷ xs) ys h = each_behind P xs ys h.1

pub each_of_all : {X : Type 0} (P : X → Type 0) (xs ys : List X) → AllByRecursion P xs → AllByRecursion P ys → AllByRecursion P (xs ++ ys)
each_of_all P [] ys h k = k
each_of_all P (x ∷ xs) ys h k = (h.0, each_of_all P xs ys h.1 k)

-- ---- where they stand

pub each_stands : (isa : Isa) (stack : ℕ) (ls : List Loc) → AllByRecursion (LiesIn isa stack) ls → AllByRecursion (StandsIn isa stack) ls
each_stands isa stack ls h = each_weaker (LiesIn isa stack) (StandsIn isa stack) (λ l lies. inl lies) ls h

pub lies : (isa : Isa) (stack : ℕ) (l : Loc) → StandsIn isa stack l → IsNotFurther isa l → LiesIn isa stack l
lies isa stack l (inl in_it) none = in_it
lies isa stack l (inr further) none = absurd (none further)

pub each_lies : (isa : Isa) (stack : ℕ) (ls : List Loc) → AllByRecursion (StandsIn isa stack) ls → AllByRecursion (IsNotFurther isa) ls → AllByRecursion (LiesIn isa stack) ls
each_lies isa stack ls h k =
    each_both (StandsIn isa stack) (IsNotFurther isa) (LiesIn isa stack) (lies isa stack) ls h k

-- ---- one of two lists

more_at : (xs ys : List Loc) (l : Loc) (i : ℕ) (x : Loc) → i < length xs → get_or xs i x ≡ x → x ≡ l → IsOneOf (xs ++ ys) l
more_at [] ys l i x h e same = absurd (omega (arith, h))
more_at (y ∷ xs) ys l zero x h e same = (0, x, omega arith, e, same)
more_at (y ∷ xs) ys l (suc i) x h e same =
    any_later (λ at. at ≡ l) y (xs ++ ys) (more_at xs ys l i x (omega (arith, h)) e same)

pub one_of_more : (xs ys : List Loc) (l : Loc) → IsOneOf xs l → IsOneOf (xs ++ ys) l
one_of_more xs ys l a = more_at xs ys l a.0 a.1 a.2 a.3 a.4

fewer_at : (xs ys : List Loc) (l : Loc) (i : ℕ) (x : Loc) → i < length (xs ++ ys) → get_or (xs ++ ys) i x ≡ x → x ≡ l → (IsOneOf ys l → ⊥) → IsOneOf xs l
fewer_at [] ys l i x h e same none = absurd (none (i, x, h, e, same))
fewer_at (y ∷ xs) ys l zero x h e same none = (0, x, omega arith, e, same)
fewer_at (y ∷ xs) ys l (suc i) x h e same none =
    any_later (λ at. at ≡ l) y xs (fewer_at xs ys l i x (omega (arith, h)) e same none)

pub one_of_fewer : (xs ys : List Loc) (l : Loc) → IsOneOf (xs ++ ys) l → (IsOneOf ys l → ⊥) → IsOneOf xs l
one_of_fewer xs ys l a none = fewer_at xs ys l a.0 a.1 a.2 a.3 a.4 none

all_further : (isa : Isa) → AllByRecursion (IsFurther isa) (further_arguments isa)
all_further Amd64 = tt
all_further Aarch64 = (refl, (refl, (refl, (refl, (refl, (refl, (refl, (refl, tt))))))))
all_further Riscv = tt

further_when : (isa : Isa) (l : Loc) → IsOneOf (further_arguments isa) l → IsFurther isa l
further_when isa l a =
    subst (IsFurther isa) a.4 (each_at (IsFurther isa) (further_arguments isa) a.0 a.1 a.2 a.3 (all_further isa))

passed_in_more : (registers more : List Loc) (l : Loc) → IsOnStackOrIn registers l → IsOnStackOrIn (registers ++ more) l
passed_in_more registers more (G r) h = one_of_more registers more (G r) h
passed_in_more registers more (F r) h = one_of_more registers more (F r) h
passed_in_more registers more (S n w) h = tt

pub each_passed_in_more : (registers more ls : List Loc) → AllByRecursion (IsOnStackOrIn registers) ls → AllByRecursion (IsOnStackOrIn (registers ++ more)) ls
each_passed_in_more registers more ls h =
    each_weaker (IsOnStackOrIn registers) (IsOnStackOrIn (registers ++ more)) (passed_in_more registers more) ls h

passed_here : (isa : Isa) (registers : List Loc) (l : Loc) → IsOnStackOrIn (registers ++ further_arguments isa) l → IsNotFurther isa l → IsOnStackOrIn registers l
passed_here isa registers (G r) h none =
    one_of_fewer registers (further_arguments isa) (G r) h (λ a. none (further_when isa (G r) a))
passed_here isa registers (F r) h none =
    one_of_fewer registers (further_arguments isa) (F r) h (λ a. none (further_when isa (F r) a))
passed_here isa registers (S n w) h none = tt

pub each_passed_here : (isa : Isa) (registers ls : List Loc) → AllByRecursion (IsOnStackOrIn (registers ++ further_arguments isa)) ls → AllByRecursion (IsNotFurther isa) ls → AllByRecursion (IsOnStackOrIn registers) ls
each_passed_here isa registers ls h k =
    each_both (IsOnStackOrIn (registers ++ further_arguments isa)) (IsNotFurther isa) (IsOnStackOrIn registers) (passed_here isa registers) ls h k

-- ---- what stands in no further word has no word below it

abbrev pub HasNoneBelow : Isa → Loc → Type 0
HasNoneBelow isa l = word_below_place isa l ≡ None

no_word : (b c : Bool) → b ≡ false → c ≡ false → cond {A = Option ℕ} b (Some 16) (cond {A = Option ℕ} c (Some 18) None) ≡ None
no_word b c e f = ap (λ x. cond {A = Option ℕ} x (Some 16) (cond {A = Option ℕ} c (Some 18) None)) e ∙ ap (λ x. cond {A = Option ℕ} x (Some 18) None) f

other_number : (r n : ℕ) → r < n → eqb r n ≡ false
other_number r n h = grind (arith, nat_tests)

lower_number : (r : ℕ) → r < 32 → leb 32 r ≡ false
lower_number r h = grind (arith, nat_tests)

pub lies_lowest : (isa : Isa) (stack : ℕ) (l : Loc) → LiesIn isa stack l → HasNoneBelow isa l
lies_lowest isa stack (G r) h = refl
lies_lowest isa stack (S n w) h = refl
lies_lowest Amd64 stack (F r) h =
    no_word (eqb r 17) (eqb r 19) (other_number r 17 (omega (arith, h))) (other_number r 19 (omega (arith, h)))
lies_lowest Aarch64 stack (F r) h = ap (λ b. cond {A = Option ℕ} b (Some (r - 32)) None) (lower_number r h)
lies_lowest Riscv stack (F r) h = refl

-- one piece among others
pub above_none : (isa : Isa) (pieces : List Piece) (p : Piece) → HasNoneBelow isa p.loc → StandsAbove pieces p (word_below_place isa p.loc)
above_none isa pieces p e = subst (StandsAbove pieces p) (sym e) tt

all_above_none : (isa : Isa) (pieces ps : List Piece) → AllByRecursion (HasNoneBelow isa) (piece_locs ps) → AllByRecursion (λ p. StandsAbove pieces p (word_below_place isa p.loc)) ps
all_above_none isa pieces [] h = tt
all_above_none isa pieces (p ∷ ps) h = (above_none isa pieces p h.0, all_above_none isa pieces ps h.1)

pub lowest_words : (isa : Isa) (ps : List Piece) → AllByRecursion (HasNoneBelow isa) (piece_locs ps) → HaveLowerWords isa ps
lowest_words isa ps h = all_above_none isa ps ps h

pub places_lowest : (isa : Isa) (stack : ℕ) (ps : List Place) → AllByRecursion (LiesIn isa stack) (flat_map place_locs ps) → AllByRecursion (PlaceHasLowerWords isa) ps
places_lowest isa stack [] h = tt
places_lowest isa stack (p ∷ ps) h =
    (one p (each_in_front (LiesIn isa stack) (place_locs p) (flat_map place_locs ps) h), places_lowest isa stack ps (each_behind (LiesIn isa stack) (place_locs p) (flat_map place_locs ps) h))
  where
    one : (q : Place) → AllByRecursion (LiesIn isa stack) (place_locs q) → PlaceHasLowerWords isa q
    one (Direct pieces) k =
        lowest_words isa pieces (each_weaker (LiesIn isa stack) (HasNoneBelow isa) (lies_lowest isa stack) (piece_locs pieces) k)
    one (ByRef at copy) k = tt

pub result_lowest : (isa : Isa) (stack : ℕ) (r : Res) → AllByRecursion (LiesIn isa stack) (result_locs r) → ResultHasLowerWords isa r
result_lowest isa stack (DirectRes pieces) h =
    lowest_words isa pieces (each_weaker (LiesIn isa stack) (HasNoneBelow isa) (lies_lowest isa stack) (piece_locs pieces) h)
result_lowest isa stack Nothing h = tt
result_lowest isa stack (Hidden at buffer) h = tt

-- ---- what stands on the stack or in doublewords

pub doublewords_each : (P : Loc → Type 0) (place : ℕ → Loc) → ((j : ℕ) → P (place j)) → (size : ℕ) (e : Ext) (j count : ℕ) → AllByRecursion P (piece_locs (doublewords_at place size e j count))
doublewords_each P place h size e j zero = tt
doublewords_each P place h size e j (suc count) = (h j, doublewords_each P place h size e (j + 1) count)

stack_words_each : (P : Loc → Type 0) → ((n : ℕ) → P (S n 8)) → (at n : ℕ) → AllByRecursion P (stack_words at n)
stack_words_each P h at zero = tt
stack_words_each P h at (suc n) = (h at, stack_words_each P h (at + 8) n)

copies_each : (P : Loc → Type 0) → ((n : ℕ) → P (S n 8)) → (ts : List Tree) (ps : List Place) → AllByRecursion P (copy_locs ts ps)
copies_each P h [] ps = tt
copies_each P h (t ∷ ts) [] = tt
copies_each P h (t ∷ ts) (Direct pieces ∷ ps) = copies_each P h ts ps
copies_each P h (t ∷ ts) (ByRef at copy ∷ ps) =
    each_of_all P (stack_words_for copy t) (copy_locs ts ps) (stack_words_each P h copy ((size_of t + 7) / 8)) (copies_each P h ts ps)

buffer_each : (P : Loc → Type 0) → ((n : ℕ) → P (S n 8)) → (t : Tree) (r : Res) → AllByRecursion P (buffer_locs t r)
buffer_each P h t Nothing = tt
buffer_each P h t (DirectRes pieces) = tt
buffer_each P h t (Hidden at buffer) = stack_words_each P h buffer ((size_of t + 7) / 8)

-- copies and buffer are no registers
pub frame_not_further : (isa : Isa) (ts : List Tree) (ps : List Place) (t : Tree) (r : Res) → AllByRecursion (IsNotFurther isa) (copy_locs ts ps ++ buffer_locs t r)
frame_not_further isa ts ps t r =
    each_of_all (IsNotFurther isa) (copy_locs ts ps) (buffer_locs t r) (copies_each (IsNotFurther isa) (λ n f. f) ts ps) (buffer_each (IsNotFurther isa) (λ n f. f) t r)

-- the arguments of a signature without long doubles
pub each_without : (ts : List Tree) → ((i : ℕ) → i < length ts → has_long_double (tree_at ts i) ≡ false) → AllByRecursion (λ t. has_long_double t ≡ false) ts
each_without [] h = tt
each_without (t ∷ ts) h = (h 0 (omega arith), each_without ts (λ i below. h (suc i) (omega (arith, below))))
