-- THE MADE SCRIPT RETURNS, by any standard by which no call of its four signatures needs more than a quarter of the stack: it makes at most 8,006 moves, calls are at most four deep, and its text is one line, a number below 2^64.
use Rattle.std.proofs.Common.{◌≡◌, ℕ, zero, suc, ◌+◌, ◌*◌, ◌<◌, ◌≤◌, ◌^◌, ◌-◌, Bool, true, false, List, [], ◌∷◌, ◌++◌, length, map, Option, Some, None, refl, ap, ◌∙◌, sym, subst, arith, append_assoc, append-nil, lit<, lit≤, take}
use Rattle.std.specs.Prelude.{if◌then◌else◌, nat_lt, ℤ, pos, negsuc, ◌+ℤ◌, slice_index_or, replicate}
use Rattle.std.specs.Int.{w64, from_le_bytes}
use Rattle.std.specs.Fmt.{decimal}
use Rattle.std.proofs.lemmas.Bool.{le-ltb}
use Rattle.std.proofs.lemmas.Nat.{from_le_bytes-to_le_bytes_8, mod_below}
use Rattle.std.proofs.lemmas.List.{length-append}
use Rattle.ffi3_type_spec.proofs.Values.{get_or-append_at}
use Rattle.ffi3_type_spec.specs.Tree.{Tree, scalar, structure, Trees, no_trees, tree, Scalar, u64, pointer}
use Rattle.ffi3_type_spec.specs.Integer.{bytes_of_number, number_of, modulo, is_integer}
use Rattle.ffi3_type_spec.specs.Signature.{Signature, signature_at}
use Rattle.ffi3_type_spec.specs.Same.{same_list, same_signature}
use Rattle.ffi3_type_spec.specs.Value.{ValueTree, void_value, leaf_value, bytes_of, list_of_values}
use Rattle.ffi3_type_spec.specs.ValueText.{value_text_of}
use Rattle.ffi3_place_spec.specs.Standard.{Standard, need_of}
use Rattle.ffi3_semantics_spec.specs.declared.Closure.{Closure}
use Rattle.ffi3_semantics_spec.specs.Move.{Move}
use Rattle.ffi3_semantics_spec.specs.Move as run
use Rattle.ffi3_semantics_spec.specs.Closures.{Closures, no_closures, slot_address, closure_at}
use Rattle.ffi3_semantics_spec.specs.Trace.{TraceItem, Enter, Leave, written_out}
use Rattle.ffi3_semantics_spec.specs.Lines.{Point, past, at_start, untraced, text, text_of_run, a_line}
use Rattle.ffi3_semantics_spec.specs.Meaning.{Program, Activation, main, function, with_result, next_move, returned, Outcome, CallTree, node, called, enters, goes_on, at_closure, call_of, effect_of, follows, resumed, resumed_after, after, act, meaning_of, pointer_value, stack_size, most_moves, need_at}
use Rattle.ffi3_semantics_spec.proofs.Recursion.{act-is}
use Rattle.ffi3_semantics_spec.proofs.Texts.{untraced-append, untraced_anywhere}
use Rattle.ffi3_script_spec.specs.Script.{Expression, argument, outcome, element, sum, cast, expressions_of}
use Rattle.ffi3_script_spec.specs.Meaning.{Known, value_of, values_of, address_of, known, next_of, program_of}
use Rattle.ffi3_script_spec.specs.Made.{drawn, next_state, made_types, state_before, types_at, made_signature, number, filled_arguments, leaves_in, with_leaves, with_elements, with_arguments, own_total, made_calls, total_of, script_from, made}
use Rattle.ffi3_script_spec.proofs.Tests.{both, if_true, if_false, types_are_themselves}
use Rattle.ffi3_script_spec.proofs.Made.{drawn_below}

-- ---- words

-- a 64-bit integer
abbrev pub IsWord : ValueTree → Type 0
IsWord v = (z : ℤ) × (v ≡ leaf_value (bytes_of_number u64 z))

module _ (k : Known) where
  leaf_is : (b : Bool) (s : Scalar) (so_far e : Expression) → IsWord (value_of k so_far) → IsWord (value_of k (if b then sum u64 so_far (cast s u64 e) else so_far))
  leaf_is true s so_far e is =
      (number_of u64 (bytes_of (value_of k so_far)) +ℤ number_of u64 (bytes_of_number u64 (number_of s (bytes_of (value_of k e)))), refl)
  leaf_is false s so_far e is = is

  mutual
    leaves_are : (t : Tree) (so_far e : Expression) → IsWord (value_of k so_far) → IsWord (value_of k (with_leaves so_far t e))
    leaves_are (scalar s) so_far e is = leaf_is (is_integer s) s so_far e is
    leaves_are (structure ts) so_far e is = elements_are ts 0 so_far e is
    leaves_are _ so_far e is = is

    elements_are : (ts : Trees) (i : ℕ) (so_far e : Expression) → IsWord (value_of k so_far) → IsWord (value_of k (with_elements so_far i ts e))
    elements_are no_trees i so_far e is = is
    elements_are (tree t ts) i so_far e is =
        elements_are ts (suc i) (with_leaves so_far t (element e i)) e (leaves_are t so_far (element e i) is)

  arguments_are : (i : ℕ) (ts : List Tree) (so_far : Expression) → IsWord (value_of k so_far) → IsWord (value_of k (with_arguments so_far i ts))
  arguments_are i [] so_far is = is
  arguments_are i (t ∷ ts) so_far is =
      arguments_are (suc i) ts (with_leaves so_far t (argument i)) (leaves_are t so_far (argument i) is)

  -- the last argument of a call
  total_last : (ts : List Tree) (n : ℕ) (total : Expression) → slice_index_or (list_of_values (values_of k (expressions_of (filled_arguments n ts ++ total ∷ [])))) (length ts) void_value ≡ value_of k total
  total_last [] n total = refl
  total_last (t ∷ ts) n total = total_last ts (n + leaves_in t) total

modulo_below : (z : ℤ) → modulo 64 z < 2 ^ 64
modulo_below (pos n) = mod_below n (2 ^ 64) (lit< tt)
modulo_below (negsuc n) = omega arith

-- a line that is a number below 2^64
abbrev pub TellsWord : List ℕ → Type 0
TellsWord text = (n : ℕ) × (n < 2 ^ 64) × (text ≡ a_line (decimal n))

word_text : (v : ValueTree) → IsWord v → TellsWord (a_line (value_text_of (scalar u64) v))
word_text v is =
    let bytes : List ℕ = bytes_of_number u64 is.0 in
    let number_is : from_le_bytes w64 bytes ≡ modulo 64 is.0 = from_le_bytes-to_le_bytes_8 (modulo 64 is.0) (modulo_below is.0) in
    subst (λ u. TellsWord (a_line (value_text_of (scalar u64) u))) (sym is.1) (from_le_bytes w64 bytes, subst (λ n. n < 2 ^ 64) (sym number_is) (modulo_below is.0), refl)

-- ---- what a part of a run comes to

-- It returns a value, with the closures as they were and so many moves left at least, and its lines are such.
pub record Comes (Value : ValueTree → Type 0) (Text : List ℕ → Type 0) (closures : Closures) (moves : ℕ) (o : Outcome) : Type 0 where
  pub result : ValueTree
  pub is : Value result
  pub ended : o.end ≡ returned result
  pub closures_are : o.closures ≡ closures
  pub enough : moves ≤ o.moves
  pub lines : List ℕ
  pub lines_are : (ss : List Signature) (at : Point) → text untraced ss at (written_out o.call_tree) ≡ lines
  pub tells : Text lines

abbrev IsSilent : List ℕ → Type 0
IsSilent lines = lines ≡ []

-- a call without lines inside it adds none
silent_call : (ss : List Signature) (at : Point) (ptr sig : ℕ) (args : List ValueTree) (inside : CallTree) (r : ValueTree) (rest : CallTree) → ((at' : Point) → text untraced ss at' (written_out inside) ≡ []) → text untraced ss at (written_out (node (called ptr sig args inside (Some r)) rest)) ≡ text untraced ss at (written_out rest)
silent_call ss at ptr sig args inside r rest silent =
    let inner : Point = past ss at (Enter ptr sig args) in
    ap (λ (items : List TraceItem). text untraced ss inner items) (append_assoc (written_out inside) (Leave sig r ∷ []) (written_out rest))
    ∙ untraced-append ss inner (written_out inside) (Leave sig r ∷ written_out rest)
    ∙ ap (λ (ls : List ℕ). ls ++ text untraced ss inner (Leave sig r ∷ written_out rest)) (silent inner)
    ∙ untraced_anywhere ss (past ss inner (Leave sig r)) at (written_out rest)

module _ (p : Program) where
  -- an activation that returns
  returns : (Value : ValueTree → Type 0) (a : Activation) (closures : Closures) (k m : ℕ) (v : ValueTree) → next_move p a ≡ run.return v → Value v → suc m ≤ k → Comes Value IsSilent closures m (act p a closures k)
  returns Value a closures zero m v next is many = absurd (omega (arith, many))
  returns Value a closures (suc k) m v next is many =
      subst (Comes Value IsSilent closures m) (sym (act-is p a closures k ∙ ap (λ (move : Move). follows (act p) a closures k (effect_of p a closures move)) next))
      (record { result = v; is = is; ended = refl; closures_are = refl; enough = omega (arith, many); lines = []; lines_are = λ ss at. refl; tells = refl })

  -- one that prints, and what comes after it
  prints : (a : Activation) (closures : Closures) (k m m' : ℕ) (t : Tree) (v : ValueTree) → next_move p a ≡ run.print t v → TellsWord (a_line (value_text_of t v)) → suc m ≤ k → ((k' : ℕ) → m ≤ k' → Comes (λ r. r ≡ void_value) IsSilent closures m' (act p (with_result a void_value) closures k')) → Comes (λ r. r ≡ void_value) TellsWord closures m' (act p a closures k)
  prints a closures zero m m' t v next tells many next_is = absurd (omega (arith, many))
  prints a closures (suc k) m m' t v next tells many next_is =
      let rest = next_is k (omega (arith, many)) in
      subst (Comes (λ r. r ≡ void_value) TellsWord closures m') (sym (act-is p a closures k ∙ ap (λ (move : Move). follows (act p) a closures k (effect_of p a closures move)) next))
      (record { result = rest.result; is = rest.is; ended = rest.ended; closures_are = rest.closures_are; enough = rest.enough; lines = a_line (value_text_of t v); lines_are = λ ss at. ap (λ (ls : List ℕ). a_line (value_text_of t v) ++ ls) (rest.lines_are ss at ∙ rest.tells) ∙ append-nil (a_line (value_text_of t v)); tells = tells })

  -- one that makes a closure
  makes : (Value : ValueTree → Type 0) (Text : List ℕ → Type 0) (a : Activation) (before now last : Closures) (k m m' f : ℕ) (r : ValueTree) → next_move p a ≡ run.make f 0 → effect_of p a before (run.make f 0) ≡ goes_on r now → suc m ≤ k → ((k' : ℕ) → m ≤ k' → Comes Value Text last m' (act p (with_result a r) now k')) → Comes Value Text last m' (act p a before k)
  makes Value Text a before now last zero m m' f r next effect many next_is = absurd (omega (arith, many))
  makes Value Text a before now last (suc k) m m' f r next effect many next_is =
      subst (Comes Value Text last m') (sym (act-is p a before k ∙ ap (λ (move : Move). follows (act p) a before k (effect_of p a before move)) next ∙ ap (follows (act p) a before k) effect)) (next_is k (omega (arith, many)))

  -- what comes of a call whose callee comes to a result in silence
  resumes : (Inner Value : ValueTree → Type 0) (Text : List ℕ → Type 0) (a : Activation) (closures : Closures) (m1 m' ptr sig : ℕ) (args : List ValueTree) (o : Outcome) → Comes Inner IsSilent closures m1 o → ((r : ValueTree) (k' : ℕ) → Inner r → m1 ≤ k' → Comes Value Text closures m' (act p (with_result a r) closures k')) → Comes Value Text closures m' (resumed_after (act p) a ptr sig args o)
  resumes Inner Value Text a closures m1 m' ptr sig args o inside next_is =
      let rest = next_is inside.result o.moves inside.is inside.enough in
      let there : Outcome = act p (with_result a inside.result) closures o.moves in
      let is : resumed_after (act p) a ptr sig args o ≡ after (called ptr sig args o.call_tree (Some inside.result)) there = ap (resumed (act p) a ptr sig args o) inside.ended ∙ ap (λ (c : Closures). after (called ptr sig args o.call_tree (Some inside.result)) (act p (with_result a inside.result) c o.moves)) inside.closures_are in
      subst (Comes Value Text closures m') (sym is)
      (record { result = rest.result; is = rest.is; ended = rest.ended; closures_are = rest.closures_are; enough = rest.enough; lines = rest.lines; lines_are = λ ss at. silent_call ss at ptr sig args o.call_tree inside.result there.call_tree (λ at'. inside.lines_are ss at' ∙ inside.tells) ∙ rest.lines_are ss at; tells = rest.tells })

  -- one that calls: what is called returns in silence, and then it goes on
  calls : (Inner Value : ValueTree → Type 0) (Text : List ℕ → Type 0) (a : Activation) (closures : Closures) (k m m1 m' ptr sig : ℕ) (args : List ValueTree) (callee : Activation) → next_move p a ≡ run.call ptr sig args → effect_of p a closures (run.call ptr sig args) ≡ enters ptr sig callee → suc m ≤ k
      → ((k' : ℕ) → m ≤ k' → Comes Inner IsSilent closures m1 (act p callee closures k'))
      → ((r : ValueTree) (k' : ℕ) → Inner r → m1 ≤ k' → Comes Value Text closures m' (act p (with_result a r) closures k'))
      → Comes Value Text closures m' (act p a closures k)
  calls Inner Value Text a closures zero m m1 m' ptr sig args callee next effect many inner next_is = absurd (omega (arith, many))
  calls Inner Value Text a closures (suc k) m m1 m' ptr sig args callee next effect many inner next_is =
      subst (Comes Value Text closures m') (sym (act-is p a closures k ∙ ap (λ (move : Move). follows (act p) a closures k (effect_of p a closures move)) next ∙ ap (follows (act p) a closures k) effect))
      (resumes Inner Value Text a closures m1 m' ptr sig callee.arguments (act p callee closures k) (inner k (omega (arith, many))) next_is)

-- ---- what a call needs

same_made : (ts : List Tree) → same_signature (made_signature ts) (made_signature ts) ≡ true
same_made ts = both (same_list (ts ++ scalar u64 ∷ []) (ts ++ scalar u64 ∷ [])) true (types_are_themselves (ts ++ scalar u64 ∷ [])) refl

-- ---- the script

-- the closures that main makes
abbrev made_closures : Closures
made_closures =
    Some (record { func = 0; sig = 0; user = 0 }) ∷ Some (record { func = 1; sig = 1; user = 0 }) ∷ Some (record { func = 2; sig = 2; user = 0 }) ∷ Some (record { func = 3; sig = 3; user = 0 }) ∷ replicate 252 None

address_at : (s : ℕ) → s < 4 → (k : Known) → address_of k (number pointer (slot_address s)) ≡ slot_address s
address_at (suc (suc (suc (suc s)))) below k = absurd (omega (arith, below))
address_at _ below k = refl

there_at : (s : ℕ) → s < 4 → closure_at made_closures (slot_address s) ≡ Some (record { func = s; sig = s; user = 0 })
there_at (suc (suc (suc (suc s)))) below = absurd (omega (arith, below))
there_at _ below = refl

-- no call of the four signatures needs more than a quarter of the stack
abbrev pub NeedsLittle : Standard → List (List Tree) → Type 0
NeedsLittle standard types =
    (s : ℕ) → s < 4 → need_of standard (signature_at (map made_signature types) s) ≤ 16384

-- What a run of it comes to: it returns, after at most 8,006 moves, and its text is one line, a number below 2^64.
pub record ReturnsANumber (p : Program) : Type 0 where
  pub ended : (meaning_of p).end ≡ returned void_value
  pub few_moves : most_moves ≤ (meaning_of p).moves + 8006
  pub says : TellsWord (text_of_run untraced p)

sum_is : (k : Known) (e f : Expression) → IsWord (value_of k (sum u64 e f))
sum_is k e f =
    (number_of u64 (bytes_of (value_of k e)) +ℤ number_of u64 (bytes_of (value_of k f)), refl)

module _ (standard : Standard) (t0 t1 t2 t3 : List Tree) (count first : ℕ) (little : NeedsLittle standard (t0 ∷ t1 ∷ t2 ∷ t3 ∷ [])) where
  abbrev types : List (List Tree)
  types = t0 ∷ t1 ∷ t2 ∷ t3 ∷ []

  abbrev p : Program
  p = program_of standard (script_from types count first)

  same_at : (s : ℕ) → s < 4 → same_signature (signature_at p.signatures s) (signature_at p.signatures s) ≡ true
  same_at zero below = same_made t0
  same_at (suc zero) below = same_made t1
  same_at (suc (suc zero)) below = same_made t2
  same_at (suc (suc (suc zero))) below = same_made t3
  same_at (suc (suc (suc (suc s)))) below = absurd (omega (arith, below))

  -- ---- functions

  abbrev callee : ℕ → List ValueTree → ℕ → Activation
  callee s args left =
      record { who = function s; arguments = args; user = 0; left = left; results = [] }

  enters_at : (s : ℕ) (a : Activation) (args : List ValueTree) → s < 4 → 16384 ≤ a.left → effect_of p a made_closures (run.call (slot_address s) s args) ≡ enters (slot_address s) s (callee s args (a.left - need_at p s))
  enters_at s a args below room =
      ap (λ (c : Option Closure). at_closure c (slot_address s) (call_of p a (slot_address s) s args)) (there_at s below)
      ∙ if_true (same_signature (signature_at p.signatures s) (signature_at p.signatures s)) _ _ (same_at s below)
      ∙ if_false (nat_lt a.left (need_at p s)) _ _ (le-ltb a.left (need_at p s) (omega (arith, room, little s below)))

  abbrev Runs : ℕ → Type 0
  Runs s = (args : List ValueTree) (left k m : ℕ) → IsWord (slice_index_or args (length (types_at types s)) void_value) → 16384 * s ≤ left → m + (2 * s + 1) ≤ k → Comes IsWord IsSilent made_closures m (act p (callee s args left) made_closures k)

  first_runs : Runs 0
  first_runs args left k m word room many =
      returns p IsWord (callee 0 args left) made_closures k m (value_of (known args 0) (with_arguments (own_total t0) 0 t0)) refl (arguments_are (known args 0) 0 t0 (own_total t0) word) (omega (arith, many))

  -- what a function passes on
  abbrev passed : Known → ℕ → ℕ → Expression → List ValueTree
  passed k s v total =
      list_of_values (values_of k (expressions_of (filled_arguments v (types_at types s) ++ total ∷ [])))

  passed_total : (k : Known) (s v : ℕ) (total : Expression) → IsWord (value_of k total) → IsWord (slice_index_or (passed k s v total) (length (types_at types s)) void_value)
  passed_total k s v total word = subst IsWord (sym (total_last k (types_at types s) v total)) word

  abbrev summed : List Tree → Expression
  summed ts = with_arguments (sum u64 (own_total ts) (outcome 0)) 0 ts

  abbrev knows_one : List ValueTree → ValueTree → Known
  knows_one args r = record { arguments = args; user = 0; outcomes = r ∷ [] }

  later_runs : (s : ℕ) → s < 4 → Runs s
      → ((args : List ValueTree) (left : ℕ) → next_move p (callee (suc s) args left) ≡ run.call (address_of (known args 0) (number pointer (slot_address s))) s (passed (known args 0) s 0 (own_total (types_at types (suc s)))))
      → ((args : List ValueTree) (left : ℕ) (r : ValueTree) → next_move p (with_result (callee (suc s) args left) r) ≡ run.return (value_of (knows_one args r) (summed (types_at types (suc s)))))
      → Runs (suc s)
  later_runs s below inner calls_it returns_it args left k m word room many =
      let ts : List Tree = types_at types (suc s) in
      let a : Activation = callee (suc s) args left in
      let on : List ValueTree = passed (known args 0) s 0 (own_total ts) in
      calls p IsWord IsWord IsSilent a made_closures k (m + 1 + (2 * s + 1)) (m + 1) m (slot_address s) s on (callee s on (left - need_at p s))
      (calls_it args left ∙ ap (λ to. run.call to s on) (address_at s below (known args 0)))
      (enters_at s a on below (omega (arith, room)))
      (omega (arith, many))
      (λ k' l. inner on (left - need_at p s) k' (m + 1) (passed_total (known args 0) s 0 (own_total ts) word) (omega (arith, room, little s below)) (omega (arith, l)))
      (λ r k' is l. returns p IsWord (with_result a r) made_closures k' m (value_of (knows_one args r) (summed ts)) (returns_it args left r) (arguments_are (knows_one args r) 0 ts (sum u64 (own_total ts) (outcome 0)) (sum_is (knows_one args r) (own_total ts) (outcome 0))) (omega (arith, l)))

  second_runs : Runs 1
  second_runs = later_runs 0 (omega arith) first_runs (λ args left. refl) (λ args left r. refl)

  third_runs : Runs 2
  third_runs = later_runs 1 (omega arith) second_runs (λ args left. refl) (λ args left r. refl)

  fourth_runs : Runs 3
  fourth_runs = later_runs 2 (omega arith) third_runs (λ args left. refl) (λ args left r. refl)

  runs : (s : ℕ) → s < 4 → Runs s
  runs zero below = first_runs
  runs (suc zero) below = second_runs
  runs (suc (suc zero)) below = third_runs
  runs (suc (suc (suc zero))) below = fourth_runs
  runs (suc (suc (suc (suc s)))) below = absurd (omega (arith, below))

  -- ---- main

  abbrev main_at : List ValueTree → Activation
  main_at rs =
      record { who = main; arguments = []; user = 0; left = stack_size; results = rs }

  abbrev main_knows : List ValueTree → Known
  main_knows rs = record { arguments = []; user = 0; outcomes = rs }

  calls_run : (n j x : ℕ) (rs : List ValueTree) → length rs ≡ 4 + j → IsWord (value_of (main_knows rs) (total_of j)) → ((more : List ValueTree) → p.main [] 0 (rs ++ more) ≡ next_of p.signatures (made_calls types n j x) (main_knows rs) more) → (k m : ℕ) → m + 8 * n + 2 ≤ k → Comes (λ r. r ≡ void_value) TellsWord made_closures m (act p (main_at rs) made_closures k)
  calls_run zero j x rs many word stands k m enough =
      let v : ValueTree = value_of (main_knows rs) (total_of j) in
      prints p (main_at rs) made_closures k (m + 1) m (scalar u64) v (ap (p.main [] 0) (sym (append-nil rs)) ∙ stands []) (word_text v word) (omega (arith, enough))
      (λ k' l. returns p (λ r. r ≡ void_value) (with_result (main_at rs) void_value) made_closures k' m void_value (stands (void_value ∷ [])) refl (omega (arith, l)))
  calls_run (suc n) j x rs many word stands k m enough =
      let s : ℕ = drawn 4 (next_state x) in
      let v : ℕ = drawn 100 (next_state (next_state x)) in
      let below : s < 4 = drawn_below 4 (next_state x) (omega arith) in
      let on : List ValueTree = passed (main_knows rs) s v (total_of j) in
      calls p IsWord (λ r. r ≡ void_value) TellsWord (main_at rs) made_closures k (m + 8 * n + 9) (m + 8 * n + 2) m (slot_address s) s on (callee s on (stack_size - need_at p s))
      (ap (p.main [] 0) (sym (append-nil rs)) ∙ stands [] ∙ ap (λ to. run.call to s on) (address_at s below (main_knows rs)))
      (enters_at s (main_at rs) on below (lit≤ tt))
      (omega (arith, enough))
      (λ k' l. runs s below on (stack_size - need_at p s) k' (m + 8 * n + 2) (passed_total (main_knows rs) s v (total_of j) word) (omega (arith, little s below, below)) (omega (arith, l, below)))
      (λ r k' is l. calls_run n (suc j) (next_state (next_state x)) (rs ++ r ∷ []) (omega (arith, length-append rs (r ∷ []), many)) (subst IsWord (sym (get_or-append_at rs r (4 + j) void_value many)) is) (λ more. ap (p.main [] 0) (append_assoc rs (r ∷ []) more) ∙ stands (r ∷ more)) k' m (omega (arith, l)))

  -- the closures that are made, the first n of them
  abbrev made_first : ℕ → Closures
  made_first n = take n made_closures ++ replicate (256 - n) None

  abbrev pointers : List ValueTree
  pointers =
      pointer_value (slot_address 0) ∷ pointer_value (slot_address 1) ∷ pointer_value (slot_address 2) ∷ pointer_value (slot_address 3) ∷ []

  whole_run : count ≤ 1000 → Comes (λ r. r ≡ void_value) TellsWord made_closures 1994 (meaning_of p)
  whole_run few =
      makes p (λ r. r ≡ void_value) TellsWord (main_at []) no_closures (made_first 1) made_closures most_moves 9999 1994 0 (pointer_value (slot_address 0)) refl refl (lit≤ tt)
      (λ k l. makes p (λ r. r ≡ void_value) TellsWord (main_at (take 1 pointers)) (made_first 1) (made_first 2) made_closures k 9998 1994 1 (pointer_value (slot_address 1)) refl refl (omega (arith, l))
      (λ k l. makes p (λ r. r ≡ void_value) TellsWord (main_at (take 2 pointers)) (made_first 2) (made_first 3) made_closures k 9997 1994 2 (pointer_value (slot_address 2)) refl refl (omega (arith, l))
      (λ k l. makes p (λ r. r ≡ void_value) TellsWord (main_at (take 3 pointers)) (made_first 3) made_closures made_closures k 9996 1994 3 (pointer_value (slot_address 3)) refl refl (omega (arith, l))
      (λ k l. calls_run count 0 first pointers refl (pos 0, refl) (λ more. refl) k 1994 (omega (arith, l, few))))))

  returns_a_number : count ≤ 1000 → ReturnsANumber p
  returns_a_number few =
      let whole = whole_run few in
      record { ended = whole.ended ∙ ap returned whole.is; few_moves = omega (arith, whole.enough); says = subst TellsWord (sym (whole.lines_are p.signatures at_start)) whole.tells }

-- THE MADE SCRIPT NEVER STOPS
pub made_returns : (standard : Standard) (seed calls : ℕ) → calls ≤ 1000 → NeedsLittle standard (made_types seed) → ReturnsANumber (program_of standard (made seed calls))
made_returns standard seed calls few little =
    returns_a_number standard (types_at (made_types seed) 0) (types_at (made_types seed) 1) (types_at (made_types seed) 2) (types_at (made_types seed) 3) calls (state_before seed 4) little few
