-- One more name, and the first number of each.
use Rattle.std.proofs.Common.{◌≡◌, ℕ, ◌+◌, ◌≤◌, Bool, true, false, not, cond, List, [], ◌∷◌, ◌++◌, length, map, option_map, Option, Some, None, String, BTreeMap, position, bytes_eq, string_bytes, refl, sym, ap, ◌∙◌, arith, nat_lt, ◌==◌}
use Rattle.std.specs.Prelude.{is_some}
use Rattle.std.specs.List.{position_or_len, prefix_len}
use Rattle.std.specs.BTreeMap.{get_by_text}
use Rattle.std.specs.Map.{update}
use Rattle.std.specs.Cmp.Lexicographic.{bytes_decides, nat_list_eq_equiv}
use Rattle.std.proofs.lemmas.List.{length_push, length-map, map-append}
use Rattle.std.proofs.lemmas.List.Sums.{prefix_len-le-length}
use Rattle.std.proofs.lemmas.List.Folds.{position_or_len_push}
use Rattle.std.proofs.lemmas.Bool.Decides.{nat_tests}
use Rattle.ffi3_script_spec.specs.Values.{is_name_of}
use Rattle.ffi3_script.specs.Finds.{FindsFirst, first_or}

push_cases : (k n : ℕ) (b : Bool) → k ≤ n
    → cond (nat_lt (cond (k == n) (n + cond b 0 1) k) (n + 1)) (Some (cond (k == n) (n + cond b 0 1) k)) None ≡ first_or (cond (nat_lt k n) (Some k) None) b n
push_cases k n true below = grind (arith, nat_tests)
push_cases k n false below = grind (arith, nat_tests)

at_length : {X : Type 0} (p : X → Bool) (xs : List X) (m n : ℕ) → m ≡ n → cond (nat_lt (position_or_len p xs) m) (Some (position_or_len p xs)) None ≡ cond (nat_lt (position_or_len p xs) n) (Some (position_or_len p xs)) None
at_length p xs m n e = ap (λ l. cond (nat_lt (position_or_len p xs) l) (Some (position_or_len p xs)) None) e

pub position-push : {X : Type 0} (p : X → Bool) (xs : List X) (y : X) → position p (xs ++ y ∷ []) ≡ first_or (position p xs) (p y) (length xs)
position-push p xs y =
    at_length p (xs ++ y ∷ []) _ _ (length_push xs y)
    ∙ ap (λ k. cond (nat_lt k (length xs + 1)) (Some k) None) (position_or_len_push p xs y)
    ∙ push_cases (position_or_len p xs) (length xs) (p y) (prefix_len-le-length (λ x. not (p x)) xs)

first_or-false : (o : Option ℕ) (n : ℕ) → first_or o false n ≡ o
first_or-false None n = refl
first_or-false (Some i) n = refl

module _ {A : Type 0} (old new : BTreeMap (String A) ℕ) (names : List (Option (List ℕ))) (finds : FindsFirst old names) where
  pub finds-named : (name : List ℕ) → ((q : List ℕ) → get_by_text new q ≡ first_or (get_by_text old q) (bytes_eq q name) (length names)) → FindsFirst new (names ++ Some name ∷ [])
  finds-named name is q =
      is q ∙ ap (λ o. first_or o (bytes_eq q name) (length names)) (finds q) ∙ sym (position-push (is_name_of q) names (Some name))

module _ (f : List ℕ → Option ℕ) (name : List ℕ) (n : ℕ) where
  anew : (q : List ℕ) (b : Bool) → bytes_eq q name ≡ b → f name ≡ None → cond b (Some n) (f q) ≡ first_or (f q) b n
  anew q true same h = sym (ap (λ o. first_or o true n) (ap f ((bytes_decides q name).0 same) ∙ h))
  anew q false other h = sym (first_or-false (f q) n)

  pub number-anew : (g : List ℕ → Option ℕ) → f name ≡ None → ((q : List ℕ) → g q ≡ update bytes_eq f name (Some n) q) → (q : List ℕ) → g q ≡ first_or (f q) (bytes_eq q name) n
  number-anew g h is q = is q ∙ ap (λ b. cond b (Some n) (f q)) (nat_list_eq_equiv.symm name q) ∙ anew q (bytes_eq q name) refl h

pub absent : {A : Type 0} (o : Option A) → is_some o ≡ false → o ≡ None
absent None h = refl
absent (Some a) h = absurd (cc)

-- ---- names of things that all have one

prefix-map : {X Y : Type 0} (f : X → Y) (p : Y → Bool) (q : X → Bool) → ((x : X) → p (f x) ≡ q x) → (xs : List X) → prefix_len p (map f xs) ≡ prefix_len q xs
prefix-map f p q same [] = refl
prefix-map f p q same (x ∷ xs) = ap (λ b. cond b (1 + prefix_len p (map f xs)) 0) (same x) ∙ ap (λ n. cond (q x) (1 + n) 0) (prefix-map f p q same xs)

pub position-map : {X Y : Type 0} (f : X → Y) (p : Y → Bool) (q : X → Bool) → ((x : X) → p (f x) ≡ q x) → (xs : List X) → position p (map f xs) ≡ position q xs
position-map f p q same xs =
    ap (λ k. cond (nat_lt k (length (map f xs))) (Some k) None) (prefix-map f (λ y. not (p y)) (λ x. not (q x)) (λ x. ap not (same x)) xs)
    ∙ at_length q xs _ _ (length-map xs f)

pub named-position : (name : List ℕ) (names : List (List ℕ)) → position (is_name_of name) (map (λ n. Some n) names) ≡ position (bytes_eq name) names
named-position name names = position-map (λ n. Some n) (is_name_of name) (bytes_eq name) (λ n. refl) names

-- the names of a list after one more
pub pushed-name : {A : Type 0} (old : List (Option (String A))) (copy : String A) (new : List (Option (String A))) (name : List ℕ) → new ≡ old ++ Some copy ∷ [] → string_bytes copy ≡ name
    → map (option_map string_bytes) new ≡ map (option_map string_bytes) old ++ Some name ∷ []
pushed-name old copy new name is same =
    ap (map (option_map string_bytes)) is ∙ map-append (option_map string_bytes) old (Some copy ∷ []) ∙ ap (λ n. map (option_map string_bytes) old ++ Some n ∷ []) same

pub same-length : {A : Type 0} (names : List (Option (String A))) (n : ℕ) → n ≡ length names → n ≡ length (map (option_map string_bytes) names)
same-length names n e = e ∙ sym (length-map names (option_map string_bytes))
