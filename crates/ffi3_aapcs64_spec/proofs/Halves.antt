-- The upper halves of vector registers: no value has one without the lower one, and none but a long double has one.
use Rattle.std.proofs.Common.{◌≡◌, ℕ, ◌+◌, ◌*◌, ◌-◌, ◌<◌, ◌≤◌, Bool, true, false, cond, leb, ltb, List, [], ◌∷◌, ◌++◌, length, Option, Some, None, refl, ap, sym, ◌∙◌, subst, arith}
use Rattle.std.specs.List.{AllByRecursion, list_any}
use Rattle.std.proofs.lemmas.Bool.{leb-true, le-leb, or_parts}
use Rattle.ffi3_type_spec.specs.declared.Isa.TheVariants.{Aarch64}
use Rattle.ffi3_type_spec.specs.Tree.{Tree, Scalar, u8, binary128}
use Rattle.ffi3_type_spec.specs.Layout.{Leaf, leaves_of, size_of, is_long_double, has_long_double}
use Rattle.ffi3_type_spec.proofs.LongDoubles.{plain_leaves}
use Rattle.ffi3_place_spec.specs.declared.Loc.TheVariants.{G, F, S}
use Rattle.ffi3_place_spec.specs.declared.Ext.TheVariants.{Free}
use Rattle.ffi3_place_spec.specs.declared.Piece.{Piece}
use Rattle.ffi3_place_spec.specs.MachineRegisters.{word_below, upper_half}
use Rattle.ffi3_place_spec.specs.Doublewords.{doublewords, widening, stack_pieces, leaf_piece}
use Rattle.ffi3_place_spec.specs.Sound.{StandsAbove, word_below_place, HaveLowerWords, piece_locs}
use Rattle.ffi3_place_spec.proofs.Tests.{and_left}
use Rattle.ffi3_place_spec.proofs.Covered.{any_later}
use Rattle.ffi3_place_spec.proofs.Further.{IsNotFurther, HasNoneBelow, lies_lowest, above_none, lowest_words, doublewords_each}
use Rattle.ffi3_aapcs64_spec.specs.declared.Kind.TheVariants.{Quad}
use Rattle.ffi3_aapcs64_spec.specs.Aapcs64.{in_vectors, is_of, member_pieces, general_pieces, register_pieces}
use Rattle.ffi3_aapcs64_spec.proofs.Covered.{MemberBy}

-- ---- each upper half stands behind its lower one

abbrev StandAbove : List Piece → List Piece → Type 0
StandAbove among ps =
    AllByRecursion (λ p. StandsAbove among p (word_below_place Aarch64 p.loc)) ps

above_later : (q : Piece) (among : List Piece) (p : Piece) (below : Option ℕ) → StandsAbove among p below → StandsAbove (q ∷ among) p below
above_later q among p (Some r) h = any_later _ q among h
above_later q among p None h = tt

stand_later : (q : Piece) (among ps : List Piece) → StandAbove among ps → StandAbove (q ∷ among) ps
stand_later q among [] h = tt
stand_later q among (p ∷ ps) h =
    (above_later q among p (word_below_place Aarch64 p.loc) h.0, stand_later q among ps h.1)

below_upper : (v : ℕ) → word_below Aarch64 (32 + v) ≡ Some v
below_upper v =
    let back : 32 + v - 32 ≡ v = omega arith in
    ap (λ b. cond {A = Option ℕ} b (Some (32 + v - 32)) None) (le-leb 32 (32 + v) (omega arith)) ∙ ap Some back

lower_alone : (among : List Piece) (v : ℕ) (p : Piece) → v < 8 → p.loc ≡ F v → StandsAbove among p (word_below_place Aarch64 p.loc)
lower_alone among v p small e =
    above_none Aarch64 among p (subst (HasNoneBelow Aarch64) (sym e) (lies_lowest Aarch64 0 (F v) (omega (arith, small))))

member_stands : (v : ℕ) (l : Leaf) (others : List Piece) (quad : Bool) → v < 8 → StandAbove others others → StandAbove (MemberBy quad v l ++ others) (MemberBy quad v l ++ others)
member_stands v l others true small h =
    let lower : Piece = record { loc = F v; off = l.at; len = 8; ext = Free } in
    let upper : Piece = record { loc = upper_half v; off = l.at + 8; len = 8; ext = Free } in
    let among : List Piece = lower ∷ upper ∷ others in (
      lower_alone among v lower small refl,
      (subst (StandsAbove among upper) (sym (below_upper v)) (0, lower, omega arith, refl, (refl, refl, refl)), stand_later lower (upper ∷ others) others (stand_later upper others others h)),
    )
member_stands v l others false small h =
    let lower : Piece = leaf_piece (F v) Free l in
    (lower_alone (lower ∷ others) v lower small refl, stand_later lower others others h)

pub members_lower : (v : ℕ) (ls : List Leaf) → v + length ls ≤ 8 → HaveLowerWords Aarch64 (member_pieces v ls)
members_lower v [] h = tt
members_lower v (l ∷ ls) h =
    member_stands v l (member_pieces (v + 1) ls) (is_of Quad l.kind) (omega (arith, h)) (members_lower (v + 1) ls (omega (arith, h)))

pub generals_lower : (g : ℕ) (t : Tree) → HaveLowerWords Aarch64 (general_pieces g t)
generals_lower g t =
    lowest_words Aarch64 (general_pieces g t) (doublewords_each (HasNoneBelow Aarch64) (λ j. G (g + j)) (λ j. refl) (size_of t) (widening t) 0 (doublewords t))

pub stack_lower : (start : ℕ) (t : Tree) → HaveLowerWords Aarch64 (stack_pieces start t)
stack_lower start t =
    lowest_words Aarch64 (stack_pieces start t) (doublewords_each (HasNoneBelow Aarch64) (λ j. S (start + 8 * j) 8) (λ j. refl) (size_of t) (widening t) 0 (doublewords t))

registers_lower_if : (first : ℕ) (t : Tree) (vector : Bool) → (vector ≡ true → first + length (leaves_of t) ≤ 8) → HaveLowerWords Aarch64 (cond vector (member_pieces first (leaves_of t)) (general_pieces first t))
registers_lower_if first t true fits = members_lower first (leaves_of t) (fits refl)
registers_lower_if first t false fits = generals_lower first t

pub registers_lower : (first : ℕ) (t : Tree) → (in_vectors t ≡ true → first + length (leaves_of t) ≤ 8) → HaveLowerWords Aarch64 (register_pieces first t)
registers_lower first t fits = registers_lower_if first t (in_vectors t) fits

-- ---- without a long double there is none

low_not_further : (v : ℕ) → v < 8 → IsNotFurther Aarch64 (F v)
low_not_further v small further =
    let high : 32 ≤ v = leb-true 32 v (and_left (leb 32 v) (ltb v 40) further) in
    omega (arith, small, high)

not_quad : (s : Scalar) → is_long_double s ≡ false → is_of Quad s ≡ false
not_quad binary128 e = cc
not_quad u8 e = refl
not_quad _ e = refl

abbrev AreShort : List Leaf → Type 0
AreShort ls = list_any (λ leaf. is_long_double leaf.kind) ls ≡ false

member_not_further : (v : ℕ) (l : Leaf) (others : List Piece) (quad : Bool) → v < 8 → quad ≡ false → AllByRecursion (IsNotFurther Aarch64) (piece_locs others) → AllByRecursion (IsNotFurther Aarch64) (piece_locs (MemberBy quad v l ++ others))
member_not_further v l others true small e h = cc
member_not_further v l others false small e h = (low_not_further v small, h)

pub members_not_further : (v : ℕ) (ls : List Leaf) → v + length ls ≤ 8 → AreShort ls → AllByRecursion (IsNotFurther Aarch64) (piece_locs (member_pieces v ls))
members_not_further v [] h short = tt
members_not_further v (l ∷ ls) h short =
    let parts = or_parts (is_long_double l.kind) (list_any (λ leaf. is_long_double leaf.kind) ls) short in
    member_not_further v l (member_pieces (v + 1) ls) (is_of Quad l.kind) (omega (arith, h)) (not_quad l.kind parts.0) (members_not_further (v + 1) ls (omega (arith, h)) parts.1)

pub generals_not_further : (g : ℕ) (t : Tree) → AllByRecursion (IsNotFurther Aarch64) (piece_locs (general_pieces g t))
generals_not_further g t =
    doublewords_each (IsNotFurther Aarch64) (λ j. G (g + j)) (λ j f. f) (size_of t) (widening t) 0 (doublewords t)

pub stack_not_further : (start : ℕ) (t : Tree) → AllByRecursion (IsNotFurther Aarch64) (piece_locs (stack_pieces start t))
stack_not_further start t =
    doublewords_each (IsNotFurther Aarch64) (λ j. S (start + 8 * j) 8) (λ j f. f) (size_of t) (widening t) 0 (doublewords t)

registers_not_further_if : (first : ℕ) (t : Tree) (vector : Bool) → (vector ≡ true → first + length (leaves_of t) ≤ 8) → has_long_double t ≡ false → AllByRecursion (IsNotFurther Aarch64) (piece_locs (cond vector (member_pieces first (leaves_of t)) (general_pieces first t)))
registers_not_further_if first t true fits short =
    members_not_further first (leaves_of t) (fits refl) (plain_leaves t short)
registers_not_further_if first t false fits short = generals_not_further first t

pub registers_not_further : (first : ℕ) (t : Tree) → (in_vectors t ≡ true → first + length (leaves_of t) ≤ 8) → has_long_double t ≡ false → AllByRecursion (IsNotFurther Aarch64) (piece_locs (register_pieces first t))
registers_not_further first t fits short = registers_not_further_if first t (in_vectors t) fits short
