-- A walk along the moves of a body of the code, up to its next move.
use Rattle.std.proofs.Common.{◌≡◌, ℕ, zero, suc, ◌+◌, ◌<◌, ◌≤◌, Bool, true, false, List, [], ◌∷◌, ◌++◌, length, take, drop, map, Option, Some, None, refl, ap, sym, ◌∙◌, subst, append_assoc, append-nil, arith, get_or}
use Rattle.std.specs.Prelude.{slice_index_or, nat_lt, is_none, option_map}
use Rattle.std.specs.List.{list_all}
use Rattle.std.proofs.lemmas.Bool.{lt-ltb}
use Rattle.std.proofs.lemmas.List.{map-append}
use Rattle.ffi3_type_spec.specs.Tree.{trees_of}
use Rattle.ffi3_type_spec.specs.Signature.{Signature}
use Rattle.ffi3_type_spec.specs.Value.{ValueTree, void_value, fits, all_fit, values_of, zero_value}
use Rattle.ffi3_semantics_spec.specs.Move.{Move, result_type_of}
use Rattle.ffi3_semantics_spec.specs.SeenActivation.{SeenActivation, arguments_of}
use Rattle.ffi3_script_spec.specs.Script as script
use Rattle.ffi3_script_spec.specs.Script.{Act, call, make, free, print, return, return_void}
use Rattle.ffi3_script_spec.specs.Bodies.{type_of_act, ends}
use Rattle.ffi3_script_spec.specs.Meaning.{Known, is_done, knows_too, behaviour_of}
use Rattle.ffi3_script_spec.specs.Typed.{Kinds, Setting, IsOfType, act_is_typed, moves_are_typed, body_is_typed, signature_is_right, gives_too}
use Rattle.ffi3_script_spec.proofs.Tests.{and_left, and_right, both}
use Rattle.ffi3_script_spec.proofs.RightTypes.{is_none-none}
use Rattle.ffi3_script_spec.proofs.Fits.{one_more_fits, unfinished_fits}
use Rattle.ffi3_script_body.specs.Walked.{Walked}
use Rattle.ffi3_script_spec.proofs.BodyRules.{IsLeft, left_done, left_undone, taken_fits, ends_after_done, ends_after_undone, act_typed, later_typed}
use Rattle.ffi3_script_body.specs.ExprOf.{act_of, typed_of, script_move_of, script_moves_of}
use Rattle.ffi3_script_body.specs.Own.{is_below}
use Rattle.ffi3_script_body.specs.KnownOf.{Past, done_from, marked, pasts_of, value_by, past_type, past_value, calls_below, is_there, kinds_from, known_from}
use Rattle.ffi3_script_body.specs.Always.{is_unconditional}
use Rattle.ffi3_script_body.specs.declared.moves.ScriptMove.{ScriptMove}

-- the moves from number i on, of which the first is this
pub moves_from : (ms : List ScriptMove) (i : ℕ) (m : ScriptMove) → i < length ms → m ≡ get_or ms i m → drop i (script_moves_of ms) ≡ script_move_of m ∷ drop (i + 1) (script_moves_of ms)
moves_from ms i m below is =
    let next : i + 1 ≡ suc i = omega arith in
    moves_from_suc ms i m below is ∙ ap (λ n. script_move_of m ∷ drop n (script_moves_of ms)) (sym next)
  where
    moves_from_suc : (ns : List ScriptMove) (j : ℕ) (n : ScriptMove) → j < length ns → n ≡ get_or ns j n → drop j (script_moves_of ns) ≡ script_move_of n ∷ drop (suc j) (script_moves_of ns)
    moves_from_suc [] j n below is = absurd (omega arith)
    moves_from_suc (x ∷ ns) zero n below is =
        ap (λ y. script_move_of y ∷ script_moves_of ns) (sym is)
    moves_from_suc (x ∷ ns) (suc j) n below is = moves_from_suc ns j n (omega arith) is

-- a test holds of one more
all_more : {A : Type 0} (p : A → Bool) (xs : List A) (x : A) → list_all p xs ≡ true → p x ≡ true → list_all p (xs ++ x ∷ []) ≡ true
all_more p [] x h last = both (p x) true last refl
all_more p (y ∷ xs) x h last =
    both (p y) _ (and_left (p y) _ h) (all_more p xs x (and_right (p y) _ h) last)

calls_typed : (s : Setting) (k : Kinds) (a : Act) → act_is_typed s k a ≡ true → calls_below (length s.signatures) a ≡ true
calls_typed s k (call to sig arguments) h = and_left (nat_lt sig (length s.signatures)) _ h
calls_typed s k (make function user) h = refl
calls_typed s k (free to) h = refl
calls_typed s k (print v) h = refl
calls_typed s k (return e) h = refl
calls_typed s k return_void h = refl

abbrev pub setting : List Signature → ℕ → Signature → Setting
setting signatures functions own =
    record { signatures = signatures; functions = functions; result_type = own.result_type }

pub walked_none : (signatures : List Signature) (functions : ℕ) (own : Signature) (a : SeenActivation) (ms : List script.ScriptMove) → a.signature ≡ own → body_is_typed signatures functions own ms ≡ true → Walked (setting signatures functions own) a (behaviour_of signatures ms (arguments_of a) a.user) [] 0 ms
walked_none signatures functions own a ms own_is h =
    let s = setting signatures functions own in
    record {
      typed = subst (λ o. moves_are_typed s (record { arguments = o.arguments; outcomes = [] }) ms ≡ true) (sym own_is) (and_right (ends ms) _ h);
      ended = and_left (ends ms) _ h;
      there = refl;
      fit = refl;
      within = omega arith;
      left = λ rest. refl;
    }

module _ (s : Setting) (a : SeenActivation) (next : List ValueTree → Move) (pasts : List Past) (taken : ℕ) (m : script.ScriptMove) (ms : List script.ScriptMove) (walked : Walked s a next pasts taken (m ∷ ms)) (right : list_all signature_is_right s.signatures ≡ true) (p : Past) (act_is : p.act ≡ m.act) where
  abbrev before : Known
  before = known_from s.signatures a pasts

  type_is : past_type s.signatures p ≡ type_of_act s.signatures m.act
  type_is = ap (type_of_act s.signatures) act_is

  types_more : map (past_type s.signatures) (pasts ++ p ∷ []) ≡ map (past_type s.signatures) pasts ++ type_of_act s.signatures m.act ∷ []
  types_more =
      map-append (past_type s.signatures) pasts (p ∷ []) ∙ ap (λ t. map (past_type s.signatures) pasts ++ t ∷ []) type_is

  values_more : (v : ValueTree) → past_value s.signatures a.results p ≡ v → map (past_value s.signatures a.results) (pasts ++ p ∷ []) ≡ map (past_value s.signatures a.results) pasts ++ v ∷ []
  values_more v is =
      map-append (past_value s.signatures a.results) pasts (p ∷ []) ∙ ap (λ w. map (past_value s.signatures a.results) pasts ++ w ∷ []) is

  -- one move more, whose value is this
  walked_more : (v : ValueTree) (taken_then : ℕ) → past_value s.signatures a.results p ≡ v → fits (type_of_act s.signatures m.act) v ≡ true → is_below (length a.results) p.result ≡ true → ends ms ≡ true → taken_then ≤ length a.results → IsLeft s next a.results taken_then ms (knows_too before v) → Walked s a next (pasts ++ p ∷ []) taken_then ms
  walked_more v taken_then is v_fits below ended within left =
      let kinds = kinds_from s.signatures a pasts in
      let kinds_more : gives_too kinds (type_of_act s.signatures m.act) ≡ kinds_from s.signatures a (pasts ++ p ∷ []) = ap (λ ts. record { arguments = a.signature.arguments; outcomes = ts }) (sym types_more) in
      let known_more : knows_too before v ≡ known_from s.signatures a (pasts ++ p ∷ []) = ap (λ vs. record { arguments = arguments_of a; user = a.user; outcomes = vs }) (sym (values_more v is)) in
      let calls : calls_below (length s.signatures) p.act ≡ true = ap (calls_below (length s.signatures)) act_is ∙ calls_typed s kinds m.act (act_typed s kinds m ms walked.typed) in
      let both_fit = one_more_fits (map (past_type s.signatures) pasts) (map (past_value s.signatures a.results) pasts) (type_of_act s.signatures m.act) v walked.fit v_fits in
      record {
        typed = subst (λ k. moves_are_typed s k ms ≡ true) kinds_more (later_typed s kinds m ms walked.typed);
        ended = ended;
        there = all_more (is_there (length s.signatures) (length a.results)) pasts p walked.there (both (is_below (length a.results) p.result) _ below calls);
        fit = subst (λ ts. all_fit (trees_of ts) (values_of (map (past_value s.signatures a.results) (pasts ++ p ∷ []))) ≡ true) (sym types_more) (subst (λ vs. all_fit (trees_of (map (past_type s.signatures) pasts ++ type_of_act s.signatures m.act ∷ [])) (values_of vs) ≡ true) (sym (values_more v is)) both_fit);
        within = within;
        left = subst (IsLeft s next a.results taken_then ms) known_more left;
      }

  grown : (ps : List Past) (n taken_then : ℕ) → ps ≡ pasts ++ p ∷ [] → n ≡ taken_then → Walked s a next (pasts ++ p ∷ []) taken_then ms → Walked s a next ps n ms
  grown ps n taken_then are n_is after =
      subst (λ xs. Walked s a next xs n ms) (sym are) (subst (λ i. Walked s a next (pasts ++ p ∷ []) i ms) (sym n_is) after)

  -- a move that is done takes a result
  pub walked_done : (ps : List Past) (n : ℕ) → ps ≡ pasts ++ p ∷ [] → n ≡ taken + 1 → (IsOfType (slice_index_or a.results taken void_value) (result_type_of s.signatures (next (take taken a.results)))) → p.result ≡ Some taken → is_done before m.condition ≡ true → taken < length a.results → Walked s a next ps n ms
  walked_done ps n are n_is of_type result_is done below =
      let r = slice_index_or a.results taken void_value in
      grown ps n (taken + 1) are n_is (walked_more r (taken + 1) (ap (value_by (past_type s.signatures p) a.results) result_is) (taken_fits s next a.results taken m ms before done walked.left r of_type) (ap (is_below (length a.results)) result_is ∙ lt-ltb taken (length a.results) below) (ends_after_done s next a.results taken m ms before done walked.left r of_type walked.ended) (omega arith) (left_done s next a.results taken m ms before below done walked.left))

  -- a move that is not done takes none
  pub walked_undone : (ps : List Past) (n : ℕ) → ps ≡ pasts ++ p ∷ [] → n ≡ taken → p.result ≡ None → is_done before m.condition ≡ false → Walked s a next ps n ms
  walked_undone ps n are n_is result_is undone =
      grown ps n taken are n_is (walked_more (zero_value (type_of_act s.signatures m.act)) taken (ap (value_by (past_type s.signatures p) a.results) result_is ∙ ap zero_value type_is) (unfinished_fits s.signatures m.act right) (ap (is_below (length a.results)) result_is) (ends_after_undone m ms before undone walked.ended) walked.within (left_undone s next a.results taken m ms before undone walked.left))

-- THE MOVES AT THE START THAT ARE ALWAYS DONE: each takes a result
module _ (s : Setting) (a : SeenActivation) (next : List ValueTree → Move) (right : list_all signature_is_right s.signatures ≡ true) (follow : (i : ℕ) → i < length a.results → IsOfType (slice_index_or a.results i void_value) (result_type_of s.signatures (next (take i a.results)))) where
  walked_on : (pasts : List Past) (taken : ℕ) (ms : List ScriptMove) (n : ℕ) → Walked s a next pasts taken (script_moves_of ms) → list_all is_unconditional (take n ms) ≡ true → taken + n ≤ length a.results → Walked s a next (pasts ++ done_from taken (script_moves_of (take n ms))) (taken + n) (drop n (script_moves_of ms))
  walked_on pasts taken ms zero walked always few =
      let n : taken ≡ taken + 0 = omega arith in
      subst (λ ps. Walked s a next ps (taken + 0) (script_moves_of ms)) (sym (append-nil pasts)) (subst (λ i. Walked s a next pasts i (script_moves_of ms)) n walked)
  walked_on pasts taken [] (suc n) walked always few = let ended = walked.ended in cc
  walked_on pasts taken (m ∷ ms) (suc n) walked always few =
      let p : Past = record { act = act_of m.act; result = Some taken } in
      let below : taken < length a.results = omega (arith, few) in
      let still : taken + 1 + n ≤ length a.results = omega (arith, few) in
      let same : taken + 1 + n ≡ taken + suc n = omega arith in
      let done = ap (λ c. is_done (known_from s.signatures a pasts) (option_map typed_of c)) (is_none-none m.condition (and_left (is_none m.condition) _ always)) in
      let one = walked_done s a next pasts taken (script_move_of m) (script_moves_of ms) walked right p refl (pasts ++ p ∷ []) (taken + 1) refl refl (follow taken below) refl done below in
      let rest = walked_on (pasts ++ p ∷ []) (taken + 1) ms n one (and_right (is_none m.condition) _ always) still in
      subst (λ ps. Walked s a next ps (taken + suc n) (drop n (script_moves_of ms))) (append_assoc pasts (p ∷ []) (done_from (taken + 1) (script_moves_of (take n ms)))) (subst (λ i. Walked s a next ((pasts ++ p ∷ []) ++ done_from (taken + 1) (script_moves_of (take n ms))) i (drop n (script_moves_of ms))) same rest)

  fewer_always : (ms : List ScriptMove) (n k : ℕ) → k ≤ n → list_all is_unconditional (take n ms) ≡ true → list_all is_unconditional (take k ms) ≡ true
  fewer_always ms n zero few always = refl
  fewer_always [] n (suc k) few always = refl
  fewer_always (m ∷ ms) zero (suc k) few always = absurd (omega arith)
  fewer_always (m ∷ ms) (suc n) (suc k) few always =
      both (is_none m.condition) _ (and_left (is_none m.condition) _ always) (fewer_always ms n k (omega arith) (and_right (is_none m.condition) _ always))

  pub walked_always : (ms done later : List ScriptMove) (always n : ℕ) → Walked s a next [] 0 (script_moves_of ms) → list_all is_unconditional (take always ms) ≡ true → n ≤ always → n ≤ length a.results → done ≡ take n ms → Walked s a next (pasts_of done later []) n (drop n (script_moves_of ms))
  walked_always ms done later always n walked all few within is =
      let start : 0 + n ≤ length a.results = omega (arith, within) in
      let same : 0 + n ≡ n = omega arith in
      let on = subst (λ i. Walked s a next (done_from 0 (script_moves_of (take n ms))) i (drop n (script_moves_of ms))) same (walked_on [] 0 ms n walked (fewer_always ms always n few all) start) in
      subst (λ ps. Walked s a next ps n (drop n (script_moves_of ms))) (sym (append-nil (done_from 0 (script_moves_of (take n ms)))) ∙ ap (λ ds. pasts_of ds later []) (sym is)) on

-- one move more that is marked
marked_more : (rs : List (Option ℕ)) (ms : List ScriptMove) (r : Option ℕ) (m : ScriptMove) → length rs < length ms → m ≡ get_or ms (length rs) m → marked (rs ++ r ∷ []) (script_moves_of ms) ≡ marked rs (script_moves_of ms) ++ record { act = act_of m.act; result = r } ∷ []
marked_more [] [] r m below is = absurd (omega arith)
marked_more [] (x ∷ ms) r m below is =
    ap (λ y. record { act = act_of y.act; result = r } ∷ []) (sym is)
marked_more (q ∷ rs) [] r m below is = absurd (omega arith)
marked_more (q ∷ rs) (x ∷ ms) r m below is =
    ap (λ ps. record { act = act_of x.act; result = q } ∷ ps) (marked_more rs ms r m (omega arith) is)

-- one past move more
pub pasts_more : (done later : List ScriptMove) (marks more : List (Option ℕ)) (r : Option ℕ) (m : ScriptMove) → more ≡ marks ++ r ∷ [] → length marks < length later → m ≡ get_or later (length marks) m → pasts_of done later more ≡ pasts_of done later marks ++ record { act = act_of m.act; result = r } ∷ []
pasts_more done later marks more r m is below m_is =
    ap (pasts_of done later) is ∙ ap (λ ps. done_from 0 (script_moves_of done) ++ ps) (marked_more marks later r m below m_is) ∙ sym (append_assoc (done_from 0 (script_moves_of done)) (marked marks (script_moves_of later)) (record { act = act_of m.act; result = r } ∷ []))

-- where something ends, something is left
pub left_below : (ms : List ScriptMove) (i : ℕ) → ends (drop i (script_moves_of ms)) ≡ true → i < length ms
left_below [] zero ended = cc
left_below [] (suc i) ended = cc
left_below (m ∷ ms) zero ended = omega arith
left_below (m ∷ ms) (suc i) ended =
    let below = left_below ms i ended in
    omega (arith, below)
