-- Types of which the one is made with fewer counts than the other, and that have the same first fault everywhere, as they stand or as a format of long double makes them.
use Rattle.std.proofs.Common.{◌≡◌, ℕ, zero, suc, ◌+◌, ◌<◌, ◌≤◌, ◌⊎◌, inl, inr, min, Bool, true, false, cond, nat_lt, List, [], ◌∷◌, length, Option, Some, None, option_map, refl, ap, sym, ◌∙◌, subst, arith}
use Rattle.std.specs.Prelude.{◌&&◌, ◌||◌, not}
use Rattle.std.proofs.lemmas.Bool.{cases_lt, lt-ltb, le-ltb}
use Rattle.ffi3_type_spec.specs.declared.limits.TheConstants.{DEEPEST_NESTING}
use Rattle.ffi3_type_spec.specs.declared.Role.{Role}
use Rattle.ffi3_type_spec.specs.declared.Role.TheVariants.{AsElement}
use Rattle.ffi3_type_spec.specs.Tree.{Tree, Trees, void, scalar, left_out, structure, array, tree, no_trees, trees_of, struct_of, array_of, is_complex}
use Rattle.ffi3_type_spec.specs.Layout.{size_of}
use Rattle.ffi3_type_spec.specs.Fault.{bad_typedef, too_deep, takes, takes_array, takes_complex}
use Rattle.ffi3_type_spec.specs.FirstFault.{Found, or_else, inside_element, fault_of_size, first_fault, first_inside}
use Rattle.ffi3_cdecl_spec.specs.Tokens.{TOO_GREAT}
use Rattle.ffi3_cdecl_spec.specs.Machine.{arrays}
use Rattle.ffi3_cdecl_spec.specs.OnePass.{MOST_COUNTS, GREATEST_COUNT, with_count}

-- two lists of types, one by one
pub data AllSame (Same : Tree → Tree → Type 0) : List Tree → List Tree → Type 0 where
  no_types : AllSame Same [] []
  one_type : {t u : Tree} {ts us : List Tree} → Same t u → AllSame Same ts us → AllSame Same (t ∷ ts) (u ∷ us)

-- ---- first faults of parts

pub or_else_same : {A : Type 0} (x y s r : Option A) → x ≡ y → (x ≡ None → s ≡ r) → or_else x s ≡ or_else y r
or_else_same None y s r e same = same refl ∙ ap (λ z. or_else z r) e
or_else_same (Some a) y s r e same = ap (λ z. or_else z r) e

pub or_else_none : {A : Type 0} (x s : Option A) → or_else x s ≡ None → (x ≡ None) × (s ≡ None)
or_else_none None s e = (refl, e)
or_else_none (Some a) s e = absurd (cc)

pub mapped_none : {A B : Type 0} (f : A → B) (x : Option A) → option_map f x ≡ None → x ≡ None
mapped_none f None e = refl
mapped_none f (Some a) e = absurd (cc)

pub some_none : (f : Found) → Some f ≡ None → ⊥
some_none f e = cc

pub if_same : (b : Bool) (x y : Option Found) (other : Found) → x ≡ y → cond b x (Some other) ≡ cond b y (Some other)
if_same b x y other e = ap (λ z. cond b z (Some other)) e

pub if_none : (b : Bool) (x : Option Found) (other : Found) → cond b x (Some other) ≡ None → x ≡ None
if_none true x other e = e
if_none false x other e = absurd (cc)

-- ---- arrays

abbrev is_zero : ℕ → Bool
is_zero zero = true
is_zero (suc n) = false

-- what is found inside an array of these
abbrev found_in : ℕ → Tree → Option Found
found_in outer t =
    or_else (option_map (inside_element 0) (first_fault (outer + 1) AsElement t)) None

-- and in an array of so many of them that is not too deep
abbrev found_of : Role → ℕ → ℕ → Tree → Option Found
found_of role n outer t =
    cond (takes role (array_of t n) && not (is_zero n)) (or_else (found_in outer t) (fault_of_size (size_of (array_of t n)))) (Some ([], bad_typedef))

pub array_fault_is : (n : ℕ) (t : Tree) (outer : ℕ) (role : Role) → first_fault outer role (array_of t n) ≡ cond (nat_lt outer DEEPEST_NESTING) (found_of role n outer t) (Some ([], too_deep))
array_fault_is zero t outer role = refl
array_fault_is (suc n) t outer role = refl

none_in : (outer : ℕ) (t : Tree) → found_in outer t ≡ None → first_fault (outer + 1) AsElement t ≡ None
none_in outer t e =
    mapped_none (inside_element 0) (first_fault (outer + 1) AsElement t) (or_else_none _ None e).0

pub none_of : (role : Role) (n outer : ℕ) (t : Tree) → found_of role n outer t ≡ None → first_fault (outer + 1) AsElement t ≡ None
none_of role n outer t e =
    none_in outer t (or_else_none (found_in outer t) (fault_of_size (size_of (array_of t n))) (if_none (takes role (array_of t n) && not (is_zero n)) _ ([], bad_typedef) e)).0

-- what is no scalar is no complex long double's part
abbrev is_other : Tree → Bool
is_other void = true
is_other (scalar s) = false
is_other (left_out k) = true
is_other (structure ts) = true
is_other (array ts n) = true

never_complex : (n : ℕ) (t : Tree) → is_other t ≡ true → is_complex (tree t no_trees) n ≡ false
never_complex n (scalar s) other = absurd (cc)
never_complex n _ other = refl

complex_beside : (n k : ℕ) (t u : Tree) → is_other t ≡ true → first_fault k AsElement t ≡ first_fault k AsElement u → (first_fault k AsElement t ≡ None → t ≡ u) → is_complex (tree t no_trees) n ≡ is_complex (tree u no_trees) n
complex_beside n k t (scalar s) other e same = ap (λ v. is_complex (tree v no_trees) n) (same e)
complex_beside n k t _ other e same = never_complex n t other

complex_same : (n k : ℕ) (t u : Tree) → first_fault k AsElement t ≡ first_fault k AsElement u → (first_fault k AsElement t ≡ None → t ≡ u) → is_complex (tree t no_trees) n ≡ is_complex (tree u no_trees) n
complex_same n k void u e same = complex_beside n k void u refl e same
complex_same n k (scalar s) u e same = ap (λ v. is_complex (tree v no_trees) n) (same refl)
complex_same n k (left_out kind) u e same = complex_beside n k (left_out kind) u refl e same
complex_same n k (structure ts) u e same = complex_beside n k (structure ts) u refl e same
complex_same n k (array ts m) u e same = complex_beside n k (array ts m) u refl e same

takes_same : (role : Role) (n k : ℕ) (t u : Tree) → first_fault k AsElement t ≡ first_fault k AsElement u → (first_fault k AsElement t ≡ None → t ≡ u) → takes role (array_of t n) ≡ takes role (array_of u n)
takes_same role n k t u e same =
    ap (λ b. takes_array role || (takes_complex role && b)) (complex_same n k t u e same)

pub of_same : (role : Role) (n outer : ℕ) (t u : Tree) → first_fault (outer + 1) AsElement t ≡ first_fault (outer + 1) AsElement u → (first_fault (outer + 1) AsElement t ≡ None → t ≡ u) → found_of role n outer t ≡ found_of role n outer u
of_same role n outer t u e same =
    ap (λ b. cond (b && not (is_zero n)) (or_else (found_in outer t) (fault_of_size (size_of (array_of t n)))) (Some ([], bad_typedef))) (takes_same role n (outer + 1) t u e same)
    ∙ if_same (takes role (array_of u n) && not (is_zero n)) (or_else (found_in outer t) (fault_of_size (size_of (array_of t n)))) (or_else (found_in outer u) (fault_of_size (size_of (array_of u n)))) ([], bad_typedef) (or_else_same (found_in outer t) (found_in outer u) (fault_of_size (size_of (array_of t n))) (fault_of_size (size_of (array_of u n))) (ap (λ f. or_else (option_map (inside_element 0) f) None) e) (λ none. ap (λ v. fault_of_size (size_of (array_of v n))) (same (none_in outer t none))))

pub too_deep_some : (outer : ℕ) (f : Option Found) → DEEPEST_NESTING ≤ outer → cond (nat_lt outer DEEPEST_NESTING) f (Some ([], too_deep)) ≡ Some ([], too_deep)
too_deep_some outer f deep =
    ap (λ b. cond b f (Some ([], too_deep))) (le-ltb outer DEEPEST_NESTING deep)

-- ---- types as they are seen: by a format, or as they stand

abbrev pub seen_trees : (Tree → Tree) → List Tree → Trees
seen_trees seen [] = no_trees
seen_trees seen (t ∷ ts) = tree (seen t) (seen_trees seen ts)

-- a view that goes into structs and arrays
pub record View : Type 0 where
  pub seen : Tree → Tree
  pub on_struct : (ts : List Tree) → seen (struct_of ts) ≡ structure (seen_trees seen ts)
  pub on_array : (t : Tree) (n : ℕ) → seen (array_of t n) ≡ array_of (seen t) n

pub trees_themselves : (ts : List Tree) → trees_of ts ≡ seen_trees (λ t. t) ts
trees_themselves [] = refl
trees_themselves (t ∷ ts) = ap (tree t) (trees_themselves ts)

-- as they stand
abbrev pub as_they_are : View
as_they_are =
    record { seen = λ t. t; on_struct = λ ts. ap structure (trees_themselves ts); on_array = λ t n. refl }

module _ (v : View) where
  -- the same first fault, seen so, and the same type where there is none
  pub record Alike (t u : Tree) : Type 0 where
    pub same_fault : (outer : ℕ) (role : Role) → first_fault outer role (v.seen t) ≡ first_fault outer role (v.seen u)
    pub same_type : (outer : ℕ) (role : Role) → first_fault outer role (v.seen t) ≡ None → t ≡ u

  pub alike_itself : (t : Tree) → Alike t t
  alike_itself t =
      record { same_fault = λ outer role. refl; same_type = λ outer role e. refl }

  -- ---- structs

  inside_same : {ts us : List Tree} → AllSame Alike ts us → (outer i : ℕ) → first_inside outer i (seen_trees v.seen ts) ≡ first_inside outer i (seen_trees v.seen us)
  inside_same no_types outer i = refl
  inside_same (one_type {t = t} {u = u} {ts = ts} {us = us} s rest) outer i =
      ap (λ x. or_else (option_map (inside_element i) x) (first_inside outer (i + 1) (seen_trees v.seen ts))) (s.same_fault outer AsElement) ∙ ap (λ x. or_else (option_map (inside_element i) (first_fault outer AsElement (v.seen u))) x) (inside_same rest outer (i + 1))

  inside_none : {ts us : List Tree} → AllSame Alike ts us → (outer i : ℕ) → first_inside outer i (seen_trees v.seen ts) ≡ None → ts ≡ us
  inside_none no_types outer i e = refl
  inside_none (one_type {t = t} {u = u} {ts = ts} {us = us} s rest) outer i e =
      let parts = or_else_none (option_map (inside_element i) (first_fault outer AsElement (v.seen t))) (first_inside outer (i + 1) (seen_trees v.seen ts)) e in
      let first : t ≡ u = s.same_type outer AsElement (mapped_none (inside_element i) (first_fault outer AsElement (v.seen t)) parts.0) in
      let others : ts ≡ us = inside_none rest outer (i + 1) parts.1 in
      λ k. first k ∷ others k

  some_struct_alike : (t u : Tree) (ts us : List Tree) → AllSame Alike (t ∷ ts) (u ∷ us) → Alike (struct_of (t ∷ ts)) (struct_of (u ∷ us))
  some_struct_alike t u ts us all = record { same_fault = same; same_type = right }
    where
      whole : (outer : ℕ) → first_inside (outer + 1) 0 (seen_trees v.seen (t ∷ ts)) ≡ None → t ∷ ts ≡ u ∷ us
      whole outer e = inside_none all (outer + 1) 0 e

      same : (outer : ℕ) (role : Role) → first_fault outer role (v.seen (struct_of (t ∷ ts))) ≡ first_fault outer role (v.seen (struct_of (u ∷ us)))
      same outer role =
          ap (first_fault outer role) (v.on_struct (t ∷ ts)) ∙ if_same (nat_lt outer DEEPEST_NESTING) _ _ ([], too_deep) (or_else_same (first_inside (outer + 1) 0 (seen_trees v.seen (t ∷ ts))) (first_inside (outer + 1) 0 (seen_trees v.seen (u ∷ us))) (fault_of_size (size_of (structure (seen_trees v.seen (t ∷ ts))))) (fault_of_size (size_of (structure (seen_trees v.seen (u ∷ us))))) (inside_same all (outer + 1) 0) (λ e. ap (λ vs. fault_of_size (size_of (structure (seen_trees v.seen vs)))) (whole outer e))) ∙ sym (ap (first_fault outer role) (v.on_struct (u ∷ us)))

      right : (outer : ℕ) (role : Role) → first_fault outer role (v.seen (struct_of (t ∷ ts))) ≡ None → struct_of (t ∷ ts) ≡ struct_of (u ∷ us)
      right outer role e =
          ap struct_of (whole outer (or_else_none _ _ (if_none (nat_lt outer DEEPEST_NESTING) _ ([], too_deep) (sym (ap (first_fault outer role) (v.on_struct (t ∷ ts))) ∙ e))).0)

  pub struct_alike : (ts us : List Tree) → AllSame Alike ts us → Alike (struct_of ts) (struct_of us)
  struct_alike _ _ no_types = alike_itself (struct_of [])
  struct_alike _ _ (one_type {t = t} {u = u} {ts = ts} {us = us} s rest) =
      some_struct_alike t u ts us (one_type s rest)

  -- ---- arrays

  seen_array : (t : Tree) (n outer : ℕ) (role : Role) → first_fault outer role (v.seen (array_of t n)) ≡ cond (nat_lt outer DEEPEST_NESTING) (found_of role n outer (v.seen t)) (Some ([], too_deep))
  seen_array t n outer role =
      ap (first_fault outer role) (v.on_array t n) ∙ array_fault_is n (v.seen t) outer role

  array_alike : (n : ℕ) (t u : Tree) → Alike t u → Alike (array_of t n) (array_of u n)
  array_alike n t u s = record { same_fault = same; same_type = right }
    where
      same : (outer : ℕ) (role : Role) → first_fault outer role (v.seen (array_of t n)) ≡ first_fault outer role (v.seen (array_of u n))
      same outer role =
          seen_array t n outer role ∙ if_same (nat_lt outer DEEPEST_NESTING) _ _ ([], too_deep) (of_same role n outer (v.seen t) (v.seen u) (s.same_fault (outer + 1) AsElement) (λ e. ap v.seen (s.same_type (outer + 1) AsElement e))) ∙ sym (seen_array u n outer role)

      right : (outer : ℕ) (role : Role) → first_fault outer role (v.seen (array_of t n)) ≡ None → array_of t n ≡ array_of u n
      right outer role e =
          ap (λ v. array_of v n) (s.same_type (outer + 1) AsElement (none_of role n outer (v.seen t) (if_none (nat_lt outer DEEPEST_NESTING) _ ([], too_deep) (sym (seen_array t n outer role) ∙ e))))

  arrays_of_alike : (ns : List ℕ) (t u : Tree) → Alike t u → Alike (arrays ns t) (arrays ns u)
  arrays_of_alike [] t u s = s
  arrays_of_alike (n ∷ ns) t u s =
      arrays_of_alike ns (array_of t n) (array_of u n) (array_alike n t u s)

  -- ---- arrays that are too deep, whatever they are of

  -- where so many levels, one at least, come on top of those outside, the first fault is in them
  record AlikeDeep (k : ℕ) (t u : Tree) : Type 0 where
    pub same_deep : (outer : ℕ) (role : Role) → 1 ≤ k → MOST_COUNTS ≤ outer + k → first_fault outer role (v.seen t) ≡ first_fault outer role (v.seen u)
    pub is_deep : (outer : ℕ) (role : Role) → 1 ≤ k → MOST_COUNTS ≤ outer + k → first_fault outer role (v.seen t) ≡ None → ⊥

  no_level : (t u : Tree) → AlikeDeep 0 t u
  no_level t u =
      record { same_deep = λ outer role some far. absurd (omega arith); is_deep = λ outer role some far e. omega arith }

  one_level : (n k : ℕ) (t u : Tree) → AlikeDeep k t u → AlikeDeep (k + 1) (array_of t n) (array_of u n)
  one_level n k t u d = record { same_deep = same; is_deep = there }
    where
      same : (outer : ℕ) (role : Role) → 1 ≤ k + 1 → MOST_COUNTS ≤ outer + (k + 1) → first_fault outer role (v.seen (array_of t n)) ≡ first_fault outer role (v.seen (array_of u n))
      same outer role some far =
          elim (cases_lt outer DEEPEST_NESTING) [
            | inl shallow ↦ seen_array t n outer role ∙ if_same (nat_lt outer DEEPEST_NESTING) _ _ ([], too_deep) (of_same role n outer (v.seen t) (v.seen u) (d.same_deep (outer + 1) AsElement (omega arith) (omega arith)) (λ e. absurd (d.is_deep (outer + 1) AsElement (omega arith) (omega arith) e))) ∙ sym (seen_array u n outer role)
            | inr deep ↦ seen_array t n outer role ∙ too_deep_some outer _ deep ∙ sym (seen_array u n outer role ∙ too_deep_some outer _ deep)
          ]

      there : (outer : ℕ) (role : Role) → 1 ≤ k + 1 → MOST_COUNTS ≤ outer + (k + 1) → first_fault outer role (v.seen (array_of t n)) ≡ None → ⊥
      there outer role some far e =
          elim (cases_lt outer DEEPEST_NESTING) [
            | inl shallow ↦ d.is_deep (outer + 1) AsElement (omega arith) (omega arith) (none_of role n outer (v.seen t) (if_none (nat_lt outer DEEPEST_NESTING) _ ([], too_deep) (sym (seen_array t n outer role) ∙ e)))
            | inr deep ↦ some_none ([], too_deep) (sym (seen_array t n outer role ∙ too_deep_some outer _ deep) ∙ e)
          ]

  levels : (ns : List ℕ) (k : ℕ) (t u : Tree) → AlikeDeep k t u → AlikeDeep (k + length ns) (arrays ns t) (arrays ns u)
  levels [] k t u d =
      let e : k ≡ k + 0 = omega arith in
      subst (λ m. AlikeDeep m t u) e d
  levels (n ∷ ns) k t u d =
      let e : k + 1 + length ns ≡ k + suc (length ns) = omega arith in
      subst (λ m. AlikeDeep m (arrays ns (array_of t n)) (arrays ns (array_of u n))) e (levels ns (k + 1) (array_of t n) (array_of u n) (one_level n k t u d))

  deep_alike : (ns : List ℕ) (t u : Tree) → length ns ≡ MOST_COUNTS → Alike (arrays ns t) (arrays ns u)
  deep_alike ns t u e =
      let d : AlikeDeep (0 + length ns) (arrays ns t) (arrays ns u) = levels ns 0 t u (no_level t u) in
      record { same_fault = λ outer role. d.same_deep outer role (omega (arith, e)) (omega (arith, e)); same_type = λ outer role none. absurd (d.is_deep outer role (omega (arith, e)) (omega (arith, e)) none) }

  -- ---- counts that are kept

  -- all of them, or so many that the array is too deep
  abbrev pub Kept : List ℕ → List ℕ → Type 0
  Kept ns ms =
      (length ms ≤ MOST_COUNTS) × ((ns ≡ ms) ⊎ ((length ms ≡ MOST_COUNTS) × ((t u : Tree) → Alike (arrays ns t) (arrays ms u))))

  pub none_kept : Kept [] []
  none_kept = (omega arith, inl refl)

  pub one_kept : (n : ℕ) (ns ms : List ℕ) → n < TOO_GREAT → Kept ns ms → Kept (n ∷ ns) (with_count n ms)
  one_kept n ns ms small k =
      elim (cases_lt (length ms) MOST_COUNTS) [
        | inl room ↦ let whole : min n GREATEST_COUNT ≡ n = omega arith in
            let e : with_count n ms ≡ n ∷ ms = ap (λ b. cond b (min n GREATEST_COUNT ∷ ms) ms) (lt-ltb (length ms) MOST_COUNTS room) ∙ ap (λ m. m ∷ ms) whole in
            let all : n ∷ ns ≡ n ∷ ms = elim k.1 [ inl same ↦ ap (λ xs. n ∷ xs) same | inr full ↦ absurd (omega (arith, full.0)) ] in
            subst (Kept (n ∷ ns)) (sym e) (omega arith, inl all)
        | inr full ↦ let e : with_count n ms ≡ ms = ap (λ b. cond b (min n GREATEST_COUNT ∷ ms) ms) (le-ltb (length ms) MOST_COUNTS full) in
            let many : length ms ≡ MOST_COUNTS = omega (arith, k.0) in
            let deep : (t u : Tree) → Alike (arrays (n ∷ ns) t) (arrays ms u) = λ t u. elim k.1 [ inl same ↦ subst (λ xs. Alike (arrays xs (array_of t n)) (arrays ms u)) (sym same) (deep_alike ms (array_of t n) u many) | inr already ↦ already.1 (array_of t n) u ] in
            subst (Kept (n ∷ ns)) (sym e) (k.0, inr (many, deep))
      ]

  pub arrays_alike : (ns ms : List ℕ) (t u : Tree) → Kept ns ms → Alike t u → Alike (arrays ns t) (arrays ms u)
  arrays_alike ns ms t u k s =
      elim k.1 [
        | inl same ↦ subst (λ xs. Alike (arrays ns t) (arrays xs u)) same (arrays_of_alike ns t u s)
        | inr deep ↦ deep.1 t u
      ]
