-- Declarations of which the one keeps fewer counts than the other: by any format of long double they have the same first fault, and they are the same where there is none.
use Rattle.std.proofs.Common.{◌≡◌, ℕ, suc, ◌+◌, ◌<◌, ◌≤◌, ◌⊎◌, inl, inr, min, Bool, true, false, cond, nat_lt, List, [], ◌∷◌, length, map, Option, Some, None, option_map, refl, ap, sym, ◌∙◌, subst, arith}
use Rattle.std.proofs.lemmas.Bool.{cases_lt, lt-ltb, le-ltb}
use Rattle.ffi3_type_spec.specs.declared.limits.TheConstants.{DEEPEST_NESTING, MOST_ARGUMENTS}
use Rattle.ffi3_type_spec.specs.declared.Role.{Role}
use Rattle.ffi3_type_spec.specs.declared.Role.TheVariants.{AsElement, PlacedResult, PlacedArgument}
use Rattle.ffi3_type_spec.specs.Tree.{Tree, trees_of, struct_of, array_of}
use Rattle.ffi3_type_spec.specs.Layout.{size_of}
use Rattle.ffi3_type_spec.specs.Fault.{too_deep}
use Rattle.ffi3_type_spec.specs.Signature.{SignatureFault, too_many, at_result, at_argument, for_places}
use Rattle.ffi3_type_spec.specs.FirstFault.{or_else, inside_element, fault_of_size, first_fault, first_inside, at_position, found_fault, first_in_arguments, first_in_fixed, first_fault_for}
use Rattle.ffi3_format_spec.specs.declared.Format.{Format}
use Rattle.ffi3_format_spec.specs.Format.{resolved, all_resolved, resolved_signature}
use Rattle.ffi3_cdecl_spec.specs.Tokens.{TOO_GREAT}
use Rattle.ffi3_cdecl_spec.specs.Grammar.{Declaration}
use Rattle.ffi3_cdecl_spec.specs.Machine.{arrays}
use Rattle.ffi3_cdecl_spec.specs.OnePass.{MOST_COUNTS, GREATEST_COUNT, with_count}
use Rattle.ffi3_cdecl_spec.proofs.Alike.{AllSame, no_types, one_type, or_else_same, or_else_none, mapped_none, some_none, if_same, if_none, array_fault_is, of_same, none_of, too_deep_some}
use Rattle.ffi3_cdecl_spec.proofs.Judged.{IsSmall}
use Rattle.ffi3_cdecl_spec.proofs.Kept.{all_length, SameDeclaration}

module _ (f : Format) where
  -- by the format the same first fault, and the same type where there is none
  pub record AlikeFor (t u : Tree) : Type 0 where
    pub same_fault : (outer : ℕ) (role : Role) → first_fault outer role (resolved f t) ≡ first_fault outer role (resolved f u)
    pub same_type : (outer : ℕ) (role : Role) → first_fault outer role (resolved f t) ≡ None → t ≡ u

  pub alike_itself : (t : Tree) → AlikeFor t t
  alike_itself t =
      record { same_fault = λ outer role. refl; same_type = λ outer role e. refl }

  -- ---- structs

  inside_same : {ts us : List Tree} → AllSame AlikeFor ts us → (outer i : ℕ) → first_inside outer i (all_resolved f (trees_of ts)) ≡ first_inside outer i (all_resolved f (trees_of us))
  inside_same no_types outer i = refl
  inside_same (one_type {t = t} {u = u} {ts = ts} {us = us} s rest) outer i =
      ap (λ x. or_else (option_map (inside_element i) x) (first_inside outer (i + 1) (all_resolved f (trees_of ts)))) (s.same_fault outer AsElement) ∙ ap (λ x. or_else (option_map (inside_element i) (first_fault outer AsElement (resolved f u))) x) (inside_same rest outer (i + 1))

  inside_none : {ts us : List Tree} → AllSame AlikeFor ts us → (outer i : ℕ) → first_inside outer i (all_resolved f (trees_of ts)) ≡ None → ts ≡ us
  inside_none no_types outer i e = refl
  inside_none (one_type {t = t} {u = u} {ts = ts} {us = us} s rest) outer i e =
      let parts = or_else_none (option_map (inside_element i) (first_fault outer AsElement (resolved f t))) (first_inside outer (i + 1) (all_resolved f (trees_of ts))) e in
      let first : t ≡ u = s.same_type outer AsElement (mapped_none (inside_element i) (first_fault outer AsElement (resolved f t)) parts.0) in
      let others : ts ≡ us = inside_none rest outer (i + 1) parts.1 in
      λ k. first k ∷ others k

  some_struct_alike : (t u : Tree) (ts us : List Tree) → AllSame AlikeFor (t ∷ ts) (u ∷ us) → AlikeFor (struct_of (t ∷ ts)) (struct_of (u ∷ us))
  some_struct_alike t u ts us all = record { same_fault = same; same_type = right }
    where
      whole : (outer : ℕ) → first_inside (outer + 1) 0 (all_resolved f (trees_of (t ∷ ts))) ≡ None → t ∷ ts ≡ u ∷ us
      whole outer e = inside_none all (outer + 1) 0 e

      same : (outer : ℕ) (role : Role) → first_fault outer role (resolved f (struct_of (t ∷ ts))) ≡ first_fault outer role (resolved f (struct_of (u ∷ us)))
      same outer role =
          if_same (nat_lt outer DEEPEST_NESTING) _ _ ([], too_deep) (or_else_same (first_inside (outer + 1) 0 (all_resolved f (trees_of (t ∷ ts)))) (first_inside (outer + 1) 0 (all_resolved f (trees_of (u ∷ us)))) (fault_of_size (size_of (resolved f (struct_of (t ∷ ts))))) (fault_of_size (size_of (resolved f (struct_of (u ∷ us))))) (inside_same all (outer + 1) 0) (λ e. ap (λ vs. fault_of_size (size_of (resolved f (struct_of vs)))) (whole outer e)))

      right : (outer : ℕ) (role : Role) → first_fault outer role (resolved f (struct_of (t ∷ ts))) ≡ None → struct_of (t ∷ ts) ≡ struct_of (u ∷ us)
      right outer role e =
          ap struct_of (whole outer (or_else_none _ _ (if_none (nat_lt outer DEEPEST_NESTING) _ ([], too_deep) e)).0)

  pub struct_alike : (ts us : List Tree) → AllSame AlikeFor ts us → AlikeFor (struct_of ts) (struct_of us)
  struct_alike _ _ no_types = alike_itself (struct_of [])
  struct_alike _ _ (one_type {t = t} {u = u} {ts = ts} {us = us} s rest) =
      some_struct_alike t u ts us (one_type s rest)

  -- ---- arrays

  array_alike : (n : ℕ) (t u : Tree) → AlikeFor t u → AlikeFor (array_of t n) (array_of u n)
  array_alike n t u s = record { same_fault = same; same_type = right }
    where
      same : (outer : ℕ) (role : Role) → first_fault outer role (array_of (resolved f t) n) ≡ first_fault outer role (array_of (resolved f u) n)
      same outer role =
          array_fault_is n (resolved f t) outer role ∙ if_same (nat_lt outer DEEPEST_NESTING) _ _ ([], too_deep) (of_same role n outer (resolved f t) (resolved f u) (s.same_fault (outer + 1) AsElement) (λ e. ap (resolved f) (s.same_type (outer + 1) AsElement e))) ∙ sym (array_fault_is n (resolved f u) outer role)

      right : (outer : ℕ) (role : Role) → first_fault outer role (array_of (resolved f t) n) ≡ None → array_of t n ≡ array_of u n
      right outer role e =
          ap (λ v. array_of v n) (s.same_type (outer + 1) AsElement (none_of role n outer (resolved f t) (if_none (nat_lt outer DEEPEST_NESTING) _ ([], too_deep) (sym (array_fault_is n (resolved f t) outer role) ∙ e))))

  arrays_of_alike : (ns : List ℕ) (t u : Tree) → AlikeFor t u → AlikeFor (arrays ns t) (arrays ns u)
  arrays_of_alike [] t u s = s
  arrays_of_alike (n ∷ ns) t u s =
      arrays_of_alike ns (array_of t n) (array_of u n) (array_alike n t u s)

  -- ---- arrays that are too deep, whatever they are of

  -- where so many levels, one at least, come on top of those outside, the first fault is in them
  record AlikeDeep (k : ℕ) (t u : Tree) : Type 0 where
    pub same_deep : (outer : ℕ) (role : Role) → 1 ≤ k → MOST_COUNTS ≤ outer + k → first_fault outer role (resolved f t) ≡ first_fault outer role (resolved f u)
    pub is_deep : (outer : ℕ) (role : Role) → 1 ≤ k → MOST_COUNTS ≤ outer + k → first_fault outer role (resolved f t) ≡ None → ⊥

  no_level : (t u : Tree) → AlikeDeep 0 t u
  no_level t u =
      record { same_deep = λ outer role some far. absurd (omega arith); is_deep = λ outer role some far e. omega arith }

  one_level : (n k : ℕ) (t u : Tree) → AlikeDeep k t u → AlikeDeep (k + 1) (array_of t n) (array_of u n)
  one_level n k t u d = record { same_deep = same; is_deep = there }
    where
      same : (outer : ℕ) (role : Role) → 1 ≤ k + 1 → MOST_COUNTS ≤ outer + (k + 1) → first_fault outer role (array_of (resolved f t) n) ≡ first_fault outer role (array_of (resolved f u) n)
      same outer role some far =
          elim (cases_lt outer DEEPEST_NESTING) [
            | inl shallow ↦ array_fault_is n (resolved f t) outer role ∙ if_same (nat_lt outer DEEPEST_NESTING) _ _ ([], too_deep) (of_same role n outer (resolved f t) (resolved f u) (d.same_deep (outer + 1) AsElement (omega arith) (omega arith)) (λ e. absurd (d.is_deep (outer + 1) AsElement (omega arith) (omega arith) e))) ∙ sym (array_fault_is n (resolved f u) outer role)
            | inr deep ↦ array_fault_is n (resolved f t) outer role ∙ too_deep_some outer _ deep ∙ sym (array_fault_is n (resolved f u) outer role ∙ too_deep_some outer _ deep)
          ]

      there : (outer : ℕ) (role : Role) → 1 ≤ k + 1 → MOST_COUNTS ≤ outer + (k + 1) → first_fault outer role (array_of (resolved f t) n) ≡ None → ⊥
      there outer role some far e =
          elim (cases_lt outer DEEPEST_NESTING) [
            | inl shallow ↦ d.is_deep (outer + 1) AsElement (omega arith) (omega arith) (none_of role n outer (resolved f t) (if_none (nat_lt outer DEEPEST_NESTING) _ ([], too_deep) (sym (array_fault_is n (resolved f t) outer role) ∙ e)))
            | inr deep ↦ some_none ([], too_deep) (sym (array_fault_is n (resolved f t) outer role ∙ too_deep_some outer _ deep) ∙ e)
          ]

  levels : (ns : List ℕ) (k : ℕ) (t u : Tree) → AlikeDeep k t u → AlikeDeep (k + length ns) (arrays ns t) (arrays ns u)
  levels [] k t u d =
      let e : k ≡ k + 0 = omega arith in
      subst (λ m. AlikeDeep m t u) e d
  levels (n ∷ ns) k t u d =
      let e : k + 1 + length ns ≡ k + suc (length ns) = omega arith in
      subst (λ m. AlikeDeep m (arrays ns (array_of t n)) (arrays ns (array_of u n))) e (levels ns (k + 1) (array_of t n) (array_of u n) (one_level n k t u d))

  deep_alike : (ns : List ℕ) (t u : Tree) → length ns ≡ MOST_COUNTS → AlikeFor (arrays ns t) (arrays ns u)
  deep_alike ns t u e =
      let d : AlikeDeep (0 + length ns) (arrays ns t) (arrays ns u) = levels ns 0 t u (no_level t u) in
      record { same_fault = λ outer role. d.same_deep outer role (omega (arith, e)) (omega (arith, e)); same_type = λ outer role none. absurd (d.is_deep outer role (omega (arith, e)) (omega (arith, e)) none) }

  -- ---- counts that are kept

  -- all of them, or so many that the array is too deep
  abbrev pub KeptFor : List ℕ → List ℕ → Type 0
  KeptFor ns ms =
      (length ms ≤ MOST_COUNTS) × ((ns ≡ ms) ⊎ ((length ms ≡ MOST_COUNTS) × ((t u : Tree) → AlikeFor (arrays ns t) (arrays ms u))))

  pub none_kept : KeptFor [] []
  none_kept = (omega arith, inl refl)

  pub one_kept : (n : ℕ) (ns ms : List ℕ) → n < TOO_GREAT → KeptFor ns ms → KeptFor (n ∷ ns) (with_count n ms)
  one_kept n ns ms small k =
      elim (cases_lt (length ms) MOST_COUNTS) [
        | inl room ↦ let whole : min n GREATEST_COUNT ≡ n = omega arith in
            let e : with_count n ms ≡ n ∷ ms = ap (λ b. cond b (min n GREATEST_COUNT ∷ ms) ms) (lt-ltb (length ms) MOST_COUNTS room) ∙ ap (λ m. m ∷ ms) whole in
            let all : n ∷ ns ≡ n ∷ ms = elim k.1 [ inl same ↦ ap (λ xs. n ∷ xs) same | inr full ↦ absurd (omega (arith, full.0)) ] in
            subst (KeptFor (n ∷ ns)) (sym e) (omega arith, inl all)
        | inr full ↦ let e : with_count n ms ≡ ms = ap (λ b. cond b (min n GREATEST_COUNT ∷ ms) ms) (le-ltb (length ms) MOST_COUNTS full) in
            let many : length ms ≡ MOST_COUNTS = omega (arith, k.0) in
            let deep : (t u : Tree) → AlikeFor (arrays (n ∷ ns) t) (arrays ms u) = λ t u. elim k.1 [ inl same ↦ subst (λ xs. AlikeFor (arrays xs (array_of t n)) (arrays ms u)) (sym same) (deep_alike ms (array_of t n) u many) | inr already ↦ already.1 (array_of t n) u ] in
            subst (KeptFor (n ∷ ns)) (sym e) (k.0, inr (many, deep))
      ]

  pub arrays_alike : (ns ms : List ℕ) (t u : Tree) → KeptFor ns ms → AlikeFor t u → AlikeFor (arrays ns t) (arrays ms u)
  arrays_alike ns ms t u k s =
      elim k.1 [
        | inl same ↦ subst (λ xs. AlikeFor (arrays ns t) (arrays xs u)) same (arrays_of_alike ns t u s)
        | inr deep ↦ deep.1 t u
      ]

  -- ---- one type of a signature

  found_same : (role : Role) (t u : Tree) → AlikeFor t u → found_fault for_places role (resolved f t) ≡ found_fault for_places role (resolved f u)
  found_same role t u s = ap (λ x. or_else x None) (s.same_fault 0 role)

  found_type : (role : Role) (t u : Tree) → AlikeFor t u → found_fault for_places role (resolved f t) ≡ None → t ≡ u
  found_type role t u s e =
      s.same_type 0 role (or_else_none (first_fault 0 role (resolved f t)) None e).0

  -- ---- arguments

  arguments_same : {ts us : List Tree} → AllSame AlikeFor ts us → (i : ℕ) → first_in_arguments for_places i (map (resolved f) ts) ≡ first_in_arguments for_places i (map (resolved f) us)
  arguments_same no_types i = refl
  arguments_same (one_type {t = t} {u = u} {ts = ts} {us = us} s rest) i =
      ap (λ x. or_else (option_map (at_position (at_argument i)) x) (first_in_arguments for_places (i + 1) (map (resolved f) ts))) (found_same PlacedArgument t u s) ∙ ap (λ x. or_else (option_map (at_position (at_argument i)) (found_fault for_places PlacedArgument (resolved f u))) x) (arguments_same rest (i + 1))

  arguments_none : {ts us : List Tree} → AllSame AlikeFor ts us → (i : ℕ) → first_in_arguments for_places i (map (resolved f) ts) ≡ None → ts ≡ us
  arguments_none no_types i e = refl
  arguments_none (one_type {t = t} {u = u} {ts = ts} {us = us} s rest) i e =
      let parts = or_else_none (option_map (at_position (at_argument i)) (found_fault for_places PlacedArgument (resolved f t))) (first_in_arguments for_places (i + 1) (map (resolved f) ts)) e in
      let first : t ≡ u = found_type PlacedArgument t u s (mapped_none (at_position (at_argument i)) (found_fault for_places PlacedArgument (resolved f t)) parts.0) in
      let others : ts ≡ us = arguments_none rest (i + 1) parts.1 in
      λ k. first k ∷ others k

  length-resolved : {ts us : List Tree} → AllSame AlikeFor ts us → length (map (resolved f) ts) ≡ length (map (resolved f) us)
  length-resolved no_types = refl
  length-resolved (one_type s rest) = ap suc (length-resolved rest)

  -- ---- signatures

  abbrev after_count : Tree → List Tree → Option ℕ → Option SignatureFault
  after_count t ts o =
      or_else (option_map (at_position at_result) (found_fault for_places PlacedResult (resolved f t))) (or_else (first_in_arguments for_places 0 (map (resolved f) ts)) (first_in_fixed o (map (resolved f) ts)))

  abbrev by_count : ℕ → Option SignatureFault → Option SignatureFault
  by_count n x = cond (nat_lt MOST_ARGUMENTS n) (Some (too_many n)) x

  else_none : (b : Bool) (x : SignatureFault) (other : Option SignatureFault) → cond b (Some x) other ≡ None → other ≡ None
  else_none true x other e = absurd (cc)
  else_none false x other e = e

  after_count_same : (t u : Tree) (ts us : List Tree) (o : Option ℕ) → AlikeFor t u → AllSame AlikeFor ts us → after_count t ts o ≡ after_count u us o
  after_count_same t u ts us o s all =
      ap (λ x. or_else (option_map (at_position at_result) x) (or_else (first_in_arguments for_places 0 (map (resolved f) ts)) (first_in_fixed o (map (resolved f) ts)))) (found_same PlacedResult t u s) ∙ ap (λ x. or_else (option_map (at_position at_result) (found_fault for_places PlacedResult (resolved f u))) x) (or_else_same (first_in_arguments for_places 0 (map (resolved f) ts)) (first_in_arguments for_places 0 (map (resolved f) us)) (first_in_fixed o (map (resolved f) ts)) (first_in_fixed o (map (resolved f) us)) (arguments_same all 0) (λ e. ap (λ vs. first_in_fixed o (map (resolved f) vs)) (arguments_none all 0 e)))

  abbrev pub AlikeDeclarationsFor : Declaration → Declaration → Type 0
  AlikeDeclarationsFor d e = SameDeclaration IsSmall AlikeFor KeptFor d e

  pub fault_same : (d e : Declaration) → AlikeDeclarationsFor d e → first_fault_for for_places (resolved_signature f d.signature) ≡ first_fault_for for_places (resolved_signature f e.signature)
  fault_same d e same =
      ap (λ n. by_count n (after_count d.signature.result_type d.signature.arguments d.signature.fixed)) (length-resolved same.same_arguments) ∙ ap (by_count (length (map (resolved f) e.signature.arguments))) (ap (after_count d.signature.result_type d.signature.arguments) same.same_fixed ∙ after_count_same d.signature.result_type e.signature.result_type d.signature.arguments e.signature.arguments e.signature.fixed same.same_type same.same_arguments)

  pub none_same : (d e : Declaration) → AlikeDeclarationsFor d e → first_fault_for for_places (resolved_signature f d.signature) ≡ None → d ≡ e
  none_same d e same none =
      let after = else_none (nat_lt MOST_ARGUMENTS (length (map (resolved f) d.signature.arguments))) (too_many (length (map (resolved f) d.signature.arguments))) (after_count d.signature.result_type d.signature.arguments d.signature.fixed) none in
      let parts = or_else_none (option_map (at_position at_result) (found_fault for_places PlacedResult (resolved f d.signature.result_type))) (or_else (first_in_arguments for_places 0 (map (resolved f) d.signature.arguments)) (first_in_fixed d.signature.fixed (map (resolved f) d.signature.arguments))) after in
      let result : d.signature.result_type ≡ e.signature.result_type = found_type PlacedResult d.signature.result_type e.signature.result_type same.same_type (mapped_none (at_position at_result) (found_fault for_places PlacedResult (resolved f d.signature.result_type)) parts.0) in
      let arguments : d.signature.arguments ≡ e.signature.arguments = arguments_none same.same_arguments 0 (or_else_none (first_in_arguments for_places 0 (map (resolved f) d.signature.arguments)) (first_in_fixed d.signature.fixed (map (resolved f) d.signature.arguments)) parts.1).0 in
      λ i. record { called = same.same_called i; signature = record { result_type = result i; arguments = arguments i; fixed = same.same_fixed i } }
