-- THE MADE SCRIPT IS WELL TYPED, whatever is drawn.
use Rattle.std.proofs.Common.{◌≡◌, ℕ, zero, suc, ◌+◌, ◌<◌, ◌≤◌, ◌/◌, Bool, true, false, List, [], ◌∷◌, ◌++◌, length, map, drop, Option, Some, None, refl, ap, ◌∙◌, sym, subst, arith}
use Rattle.std.specs.Prelude.{◌&&◌, if◌then◌else◌, nat_lt, ⊤, option_map, is_none}
use Rattle.std.specs.List.{list_all}
use Rattle.std.proofs.lemmas.Nat.{mod_below}
use Rattle.std.proofs.lemmas.Bool.{lt-ltb, le-ltb}
use Rattle.std.proofs.lemmas.List.{length-append}
use Rattle.std.proofs.Math.Seq.{get_or-append_seam}
use Rattle.ffi3_type_spec.specs.declared.limits.TheConstants.{MOST_ARGUMENTS}
use Rattle.ffi3_type_spec.specs.declared.Role.TheVariants.{AsArgument}
use Rattle.ffi3_type_spec.specs.Tree.{Tree, void, scalar, tree_at, trees_of, struct_of, elements_of, u8, s32, u64, float, double, pointer}
use Rattle.ffi3_type_spec.specs.Layout.{least_multiple}
use Rattle.ffi3_type_spec.specs.Signature.{Signature, at_argument, SignatureFault, too_many, for_calls}
use Rattle.ffi3_type_spec.specs.Same.{same_tree}
use Rattle.ffi3_semantics_spec.specs.Move.{no_signature}
use Rattle.ffi3_type_spec.specs.FirstFault.{found_fault, first_in_arguments, or_else, at_position}
use Rattle.ffi3_script_spec.specs.Script.{Expression, argument, outcome, element, sum, cast, expressions_of, return, ScriptMove}
use Rattle.ffi3_script_spec.specs.Bodies.{ends, type_of_act}
use Rattle.ffi3_script_spec.specs.Typed.{Kinds, Setting, is_at, own_type, has_type, have_types, act_is_typed, moves_are_typed, gives_too, body_is_typed, signature_is_right, script_is_typed, function_is_typed}
use Rattle.ffi3_script_spec.specs.Made.{drawn, next_state, made_type, drawn_types, drawn_arguments, state_before, made_signature, leaves_in, filled, filled_arguments, with_leaves, with_arguments, does, made_call, own_total, made_function, total_of, made_calls, made_main, script_from, made}
use Rattle.ffi3_script_spec.proofs.Tests.{both, type_is_itself}

-- ---- draws

pub drawn_below : (n x : ℕ) → 0 < n → drawn n x < n
unfolding drawn
drawn_below n x some = mod_below (x / 65536) n some

-- ---- types

-- what is asked of a type that is drawn
pub record IsMade (t : Tree) : Type 0 where
  pub right : found_fault for_calls AsArgument t ≡ None
  pub fills : (k : Kinds) (n : ℕ) → has_type k t (filled n t) ≡ true
  pub adds : (k : Kinds) (so_far e : Expression) → has_type k (scalar u64) so_far ≡ true → own_type k e ≡ t → has_type k t e ≡ true → has_type k (scalar u64) (with_leaves so_far t e) ≡ true

-- an integer leaf more
leaf_added : (k : Kinds) (so_far e : Expression) (t : Tree) → has_type k (scalar u64) so_far ≡ true → has_type k t e ≡ true → (has_type k (scalar u64) so_far && has_type k t e) ≡ true
leaf_added k so_far e t h g = both (has_type k (scalar u64) so_far) (has_type k t e) h g

-- an element of a struct or an array
element_has : (k : Kinds) (t u : Tree) (e : Expression) (i : ℕ) → own_type k e ≡ t → is_at (elements_of t) i u ≡ true → has_type k t e ≡ true → has_type k u (element e i) ≡ true
element_has k t u e i own at h =
    subst (λ s. (is_at (elements_of s) i u && has_type k s e) ≡ true) (sym own) (both (is_at (elements_of t) i u) (has_type k t e) at h)

uint8_made : IsMade (scalar u8)
uint8_made =
    record { right = refl; fills = λ k n. refl; adds = λ k so_far e h own g. leaf_added k so_far e (scalar u8) h g }

sint32_made : IsMade (scalar s32)
sint32_made =
    record { right = refl; fills = λ k n. refl; adds = λ k so_far e h own g. leaf_added k so_far e (scalar s32) h g }

float_made : IsMade (scalar float)
float_made = record { right = refl; fills = λ k n. refl; adds = λ k so_far e h own g. h }

double_made : IsMade (scalar double)
double_made = record { right = refl; fills = λ k n. refl; adds = λ k so_far e h own g. h }

abbrev two_words : Tree
two_words = struct_of (scalar u64 ∷ scalar u64 ∷ [])

two_words_made : IsMade two_words
unfolding least_multiple
two_words_made = record {
  right = refl;
  fills = λ k n. refl;
  adds = λ k so_far e h own g.
      let first : Expression = sum u64 so_far (cast u64 u64 (element e 0)) in
      leaf_added k first (element e 1) (scalar u64) (leaf_added k so_far (element e 0) (scalar u64) h (element_has k two_words (scalar u64) e 0 own refl g)) (element_has k two_words (scalar u64) e 1 own refl g);
}

abbrev double_and_byte : Tree
double_and_byte = struct_of (scalar double ∷ scalar u8 ∷ [])

double_and_byte_made : IsMade double_and_byte
unfolding least_multiple
double_and_byte_made = record {
  right = refl;
  fills = λ k n. refl;
  adds = λ k so_far e h own g. leaf_added k so_far (element e 1) (scalar u8) h (element_has k double_and_byte (scalar u8) e 1 own refl g);
}

abbrev two_floats : Tree
two_floats = struct_of (scalar float ∷ scalar float ∷ [])

two_floats_made : IsMade two_floats
unfolding least_multiple
two_floats_made = record { right = refl; fills = λ k n. refl; adds = λ k so_far e h own g. h }

abbrev three_words : Tree
three_words = struct_of (scalar u64 ∷ scalar u64 ∷ scalar u64 ∷ [])

three_words_made : IsMade three_words
unfolding least_multiple
three_words_made = record {
  right = refl;
  fills = λ k n. refl;
  adds = λ k so_far e h own g.
      let first : Expression = sum u64 so_far (cast u64 u64 (element e 0)) in
      let second : Expression = sum u64 first (cast u64 u64 (element e 1)) in
      leaf_added k second (element e 2) (scalar u64)
      (leaf_added k first (element e 1) (scalar u64) (leaf_added k so_far (element e 0) (scalar u64) h (element_has k three_words (scalar u64) e 0 own refl g)) (element_has k three_words (scalar u64) e 1 own refl g))
      (element_has k three_words (scalar u64) e 2 own refl g);
}

made_type_is : (n : ℕ) → n < 8 → IsMade (made_type n)
made_type_is zero below = uint8_made
made_type_is (suc zero) below = sint32_made
made_type_is (suc (suc zero)) below = float_made
made_type_is (suc (suc (suc zero))) below = double_made
made_type_is (suc (suc (suc (suc zero)))) below = two_words_made
made_type_is (suc (suc (suc (suc (suc zero))))) below = double_and_byte_made
made_type_is (suc (suc (suc (suc (suc (suc zero)))))) below = two_floats_made
made_type_is (suc (suc (suc (suc (suc (suc (suc zero))))))) below = three_words_made
made_type_is (suc (suc (suc (suc (suc (suc (suc (suc n)))))))) below = absurd (omega (arith, below))

abbrev pub AreMade : List Tree → Type 0
AreMade [] = ⊤
AreMade (t ∷ ts) = IsMade t × AreMade ts

drawn_types_are : (n x : ℕ) → AreMade (drawn_types n x)
drawn_types_are zero x = tt
drawn_types_are (suc n) x =
    (made_type_is (drawn 8 (next_state x)) (drawn_below 8 (next_state x) (omega arith)), drawn_types_are n (next_state x))

length-drawn_types : (n x : ℕ) → length (drawn_types n x) ≡ n
length-drawn_types zero x = refl
length-drawn_types (suc n) x = ap suc (length-drawn_types n (next_state x))

-- the argument types of a signature but the last
pub record AreDrawn (ts : List Tree) : Type 0 where
  pub made : AreMade ts
  pub few : length ts ≤ 4

pub drawn_arguments_are : (x : ℕ) → AreDrawn (drawn_arguments x)
drawn_arguments_are x = record {
  made = drawn_types_are (suc (drawn 4 (next_state x))) (next_state x);
  few = omega (arith, length-drawn_types (suc (drawn 4 (next_state x))) (next_state x), drawn_below 4 (next_state x) (omega arith));
}

-- ---- signatures

no_fault_in : (ts : List Tree) (i : ℕ) → AreMade ts → first_in_arguments for_calls i (ts ++ scalar u64 ∷ []) ≡ None
no_fault_in [] i all = refl
no_fault_in (t ∷ ts) i all =
    ap (λ f. or_else (option_map (at_position (at_argument i)) f) (first_in_arguments for_calls (i + 1) (ts ++ scalar u64 ∷ []))) all.0.right ∙ no_fault_in ts (i + 1) all.1

-- a test that fails, and then what is there otherwise
otherwise : (b : Bool) (f g : Option SignatureFault) → b ≡ false → g ≡ None → (if b then f else g) ≡ None
otherwise true f g h none = cc
otherwise false f g h none = none

pub made_signature_is_right : (ts : List Tree) → AreDrawn ts → signature_is_right (made_signature ts) ≡ true
made_signature_is_right ts d =
    let count = length (ts ++ scalar u64 ∷ []) in
    let few : count ≤ MOST_ARGUMENTS = omega (arith, length-append ts (scalar u64 ∷ []), d.few) in
    ap is_none (otherwise (nat_lt MOST_ARGUMENTS count) (Some (too_many count)) (or_else (first_in_arguments for_calls 0 (ts ++ scalar u64 ∷ [])) None) (le-ltb MOST_ARGUMENTS count few) (ap (λ f. or_else f None) (no_fault_in ts 0 d.made)))

-- ---- arguments

-- a value for each argument
pub filled_have : (k : Kinds) (ts : List Tree) (n : ℕ) (total : Expression) → AreMade ts → has_type k (scalar u64) total ≡ true → have_types k (trees_of (ts ++ scalar u64 ∷ [])) (expressions_of (filled_arguments n ts ++ total ∷ [])) ≡ true
filled_have k [] n total all h = both (has_type k (scalar u64) total) true h refl
filled_have k (t ∷ ts) n total all h =
    both (has_type k t (filled n t)) _ (all.0.fills k n) (filled_have k ts (n + leaves_in t) total all.1 h)

-- the first type of what is left from number i on is type i
first_left : (i : ℕ) (all ts : List Tree) (t : Tree) → drop i all ≡ t ∷ ts → (i < length all) × (tree_at all i ≡ t) × (drop (suc i) all ≡ ts)
first_left zero [] ts t e = absurd (cc)
first_left zero (u ∷ us) ts t e = (omega arith, cc, cc)
first_left (suc i) [] ts t e = absurd (cc)
first_left (suc i) (u ∷ us) ts t e =
    let rest = first_left i us ts t e in (omega (arith, rest.0), rest.1, rest.2)

-- a type at a number
pub at_number : (ts : List Tree) (i : ℕ) (t : Tree) → i < length ts → tree_at ts i ≡ t → is_at ts i t ≡ true
at_number ts i t below same =
    both (nat_lt i (length ts)) (same_tree (tree_at ts i) t) (lt-ltb i (length ts) below) (subst (λ u. same_tree u t ≡ true) (sym same) (type_is_itself t))

-- the leaves of the arguments from number i on
with_arguments_has : (k : Kinds) (ts : List Tree) (i : ℕ) (so_far : Expression) → AreMade ts → drop i k.arguments ≡ ts ++ scalar u64 ∷ [] → has_type k (scalar u64) so_far ≡ true → has_type k (scalar u64) (with_arguments so_far i ts) ≡ true
with_arguments_has k [] i so_far all left h = h
with_arguments_has k (t ∷ ts) i so_far all left h =
    let first = first_left i k.arguments (ts ++ scalar u64 ∷ []) t left in
    with_arguments_has k ts (suc i) (with_leaves so_far t (argument i)) all.1 first.2 (all.0.adds k so_far (argument i) h first.1 (at_number k.arguments i t first.0 first.1))

-- the last argument
own_total_has : (k : Kinds) (ts : List Tree) → k.arguments ≡ ts ++ scalar u64 ∷ [] → has_type k (scalar u64) (own_total ts) ≡ true
own_total_has k ts are =
    subst (λ us. is_at us (length ts) (scalar u64) ≡ true) (sym are) (at_number (ts ++ scalar u64 ∷ []) (length ts) (scalar u64) (omega (arith, length-append ts (scalar u64 ∷ []))) (get_or-append_seam ts (scalar u64) [] void))

-- ---- bodies

module _ (t0 t1 t2 t3 : List Tree) (d0 : AreDrawn t0) (d1 : AreDrawn t1) (d2 : AreDrawn t2) (d3 : AreDrawn t3) where
  abbrev types : List (List Tree)
  types = t0 ∷ t1 ∷ t2 ∷ t3 ∷ []

  abbrev signatures : List Signature
  signatures = map made_signature types

  abbrev setting : Tree → Setting
  setting t = record { signatures = signatures; functions = 4; result_type = t }

  call_is_typed : (r : Tree) (k : Kinds) (s v : ℕ) (total : Expression) → s < 4 → has_type k (scalar u64) total ≡ true → act_is_typed (setting r) k (made_call types s v total).act ≡ true
  call_is_typed r k zero v total below h = filled_have k t0 v total d0.made h
  call_is_typed r k (suc zero) v total below h = filled_have k t1 v total d1.made h
  call_is_typed r k (suc (suc zero)) v total below h = filled_have k t2 v total d2.made h
  call_is_typed r k (suc (suc (suc zero))) v total below h = filled_have k t3 v total d3.made h
  call_is_typed r k (suc (suc (suc (suc s)))) v total below h = absurd (omega (arith, below))

  call_gives : (s v : ℕ) (total : Expression) → s < 4 → type_of_act signatures (made_call types s v total).act ≡ scalar u64
  call_gives (suc (suc (suc (suc s)))) v total below = absurd (omega (arith, below))
  call_gives _ v total below = refl

  -- a call, and what comes after it
  call_then : (r : Tree) (k : Kinds) (s v : ℕ) (total : Expression) (ms : List ScriptMove) → s < 4 → has_type k (scalar u64) total ≡ true → moves_are_typed (setting r) (gives_too k (scalar u64)) ms ≡ true → moves_are_typed (setting r) k (made_call types s v total ∷ ms) ≡ true
  call_then r k s v total ms below h rest =
      both (act_is_typed (setting r) k (made_call types s v total).act) _ (call_is_typed r k s v total below h) (subst (λ t. moves_are_typed (setting r) (gives_too k t) ms ≡ true) (sym (call_gives s v total below)) rest)

  -- the body of function 0, by these argument types
  first_body : (ts : List Tree) → AreDrawn ts → body_is_typed signatures 4 (made_signature ts) (does (return (with_arguments (own_total ts) 0 ts)) ∷ []) ≡ true
  first_body ts d =
      let k : Kinds = record { arguments = ts ++ scalar u64 ∷ []; outcomes = [] } in
      both (has_type k (scalar u64) (with_arguments (own_total ts) 0 ts)) true (with_arguments_has k ts 0 (own_total ts) d.made refl (own_total_has k ts refl)) refl

  later_body : (s : ℕ) (ts : List Tree) → s < 4 → AreDrawn ts → body_is_typed signatures 4 (made_signature ts) (made_call types s 0 (own_total ts) ∷ does (return (with_arguments (sum u64 (own_total ts) (outcome 0)) 0 ts)) ∷ []) ≡ true
  later_body s ts below d =
      let k : Kinds = record { arguments = ts ++ scalar u64 ∷ []; outcomes = [] } in
      let l : Kinds = gives_too k (scalar u64) in
      let start : Expression = sum u64 (own_total ts) (outcome 0) in
      call_then (scalar u64) k s 0 (own_total ts) (does (return (with_arguments start 0 ts)) ∷ []) below (own_total_has k ts refl)
      (both (has_type l (scalar u64) (with_arguments start 0 ts)) true (with_arguments_has l ts 0 start d.made refl (both (has_type l (scalar u64) (own_total ts)) true (own_total_has l ts refl) refl)) refl)

  -- ---- main

  calls_are : (n j x : ℕ) (k : Kinds) → length k.outcomes ≡ 4 + j → has_type k (scalar u64) (total_of j) ≡ true → moves_are_typed (setting void) k (made_calls types n j x) ≡ true
  calls_are zero j x k many h = both (has_type k (scalar u64) (total_of j)) true h refl
  calls_are (suc n) j x k many h =
      let l : Kinds = gives_too k (scalar u64) in
      let now : length (k.outcomes ++ scalar u64 ∷ []) ≡ suc (4 + j) = omega (arith, many, length-append k.outcomes (scalar u64 ∷ [])) in
      let there : tree_at (k.outcomes ++ scalar u64 ∷ []) (4 + j) ≡ scalar u64 = subst (λ i. tree_at (k.outcomes ++ scalar u64 ∷ []) i ≡ scalar u64) many (get_or-append_seam k.outcomes (scalar u64) [] void) in
      call_then void k (drawn 4 (next_state x)) (drawn 100 (next_state (next_state x))) (total_of j) (made_calls types n (suc j) (next_state (next_state x))) (drawn_below 4 (next_state x) (omega arith)) h
      (calls_are n (suc j) (next_state (next_state x)) l (omega (arith, now)) (at_number (k.outcomes ++ scalar u64 ∷ []) (4 + j) (scalar u64) (omega (arith, now)) there))

  calls_end : (n j x : ℕ) → ends (made_calls types n j x) ≡ true
  calls_end (suc (suc n)) j x = calls_end (suc n) (suc j) (next_state (next_state x))
  calls_end _ j x = refl

  main_ends : (n x : ℕ) → ends (made_main types n x) ≡ true
  main_ends zero x = refl
  main_ends (suc n) x = calls_end (suc n) 0 x

  main_is : (n x : ℕ) → body_is_typed signatures 4 no_signature (made_main types n x) ≡ true
  main_is n x =
      both (ends (made_main types n x)) _ (main_ends n x) (calls_are n 0 x (record { arguments = []; outcomes = scalar pointer ∷ scalar pointer ∷ scalar pointer ∷ scalar pointer ∷ [] }) refl refl)

  -- ---- the whole

  pub script_is : (n x : ℕ) → script_is_typed 0 (script_from types n x) ≡ true
  script_is n x =
      both (list_all signature_is_right signatures) _
      (both (signature_is_right (made_signature t0)) _ (made_signature_is_right t0 d0) (both (signature_is_right (made_signature t1)) _ (made_signature_is_right t1 d1) (both (signature_is_right (made_signature t2)) _ (made_signature_is_right t2 d2) (both (signature_is_right (made_signature t3)) _ (made_signature_is_right t3 d3) refl))))
      (both (list_all (function_is_typed signatures 4) (script_from types n x).functions) _
      (both (function_is_typed signatures 4 (made_function types 0)) _ (first_body t0 d0) (both (function_is_typed signatures 4 (made_function types 1)) _ (later_body 0 t1 (omega arith) d1) (both (function_is_typed signatures 4 (made_function types 2)) _ (later_body 1 t2 (omega arith) d2) (both (function_is_typed signatures 4 (made_function types 3)) _ (later_body 2 t3 (omega arith) d3) refl))))
      (main_is n x))

pub made_is_typed : (seed calls : ℕ) → script_is_typed 0 (made seed calls) ≡ true
made_is_typed seed calls =
    script_is (drawn_arguments (state_before seed 0)) (drawn_arguments (state_before seed 1)) (drawn_arguments (state_before seed 2)) (drawn_arguments (state_before seed 3)) (drawn_arguments_are _) (drawn_arguments_are _) (drawn_arguments_are _) (drawn_arguments_are _) calls (state_before seed 4)
