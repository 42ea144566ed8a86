-- A cursor agrees with what an activation has seen: at the start, past a move, and after one result more.
use Rattle.std.proofs.Common.{◌≡◌, ℕ, ◌+◌, ◌-◌, ◌<◌, ◌≤◌, Bool, true, false, List, [], ◌∷◌, ◌++◌, length, take, drop, map, Option, Some, None, refl, ap, sym, ◌∙◌, subst, arith, length-append, get_or}
use Rattle.std.specs.Prelude.{option_map}
use Rattle.std.specs.List.{list_all}
use Rattle.std.proofs.lemmas.Bool.{ltb-true, lt-ltb, both_ways}
use Rattle.std.proofs.lemmas.List.{length-drop, take_all, get_or-drop, get_or_append_left, take-append-le}
use Rattle.ffi3_type_spec.specs.Tree.{Tree, trees_of}
use Rattle.ffi3_type_spec.specs.Signature.{Signature}
use Rattle.ffi3_type_spec.specs.Value.{ValueTree, void_value, all_fit, values_of}
use Rattle.ffi3_semantics_spec.specs.Move.{Move}
use Rattle.ffi3_semantics_spec.specs.SeenActivation.{SeenActivation, arguments_of}
use Rattle.ffi3_semantics_spec.specs.Follow.{ResultsFollow}
use Rattle.ffi3_script_spec.specs.Script as script
use Rattle.ffi3_script_spec.specs.Meaning as meaning
use Rattle.ffi3_script_spec.specs.Meaning.{is_done, next_of}
use Rattle.ffi3_script_spec.specs.Typed.{Setting}
use Rattle.ffi3_script_spec.proofs.Tests.{and_left, and_right, both}
use Rattle.ffi3_script_spec.proofs.BodyRules.{is_next}
use Rattle.ffi3_script_body.specs.ExprOf.{act_of, typed_of, script_move_of}
use Rattle.ffi3_script_body.specs.Own.{is_below}
use Rattle.ffi3_script_body.specs.BodyOf.{moves_of, signature_of, signatures_of, setting_of, meaning_of}
use Rattle.ffi3_script_body.specs.KnownOf.{Past, pasts_of, value_by, past_type, past_value, is_there}
use Rattle.ffi3_script_body.specs.Walked.{Walked}
use Rattle.ffi3_script_body.specs.Agrees.{Agrees, pasts_at, known_at, one_more, first_is_done}
use Rattle.ffi3_script_body.specs.declared.body.ScriptBody.{ScriptBody}
use Rattle.ffi3_script_body.specs.declared.cursor.Cursor.{Cursor}
use Rattle.ffi3_script_body.specs.declared.moves.ScriptMove.{ScriptMove}
use Rattle.ffi3_script_body.proofs.Walked.{moves_from, walked_none, walked_always, walked_done, walked_undone, pasts_more, left_below}

-- ---- more results

below_more : (k n : ℕ) (o : Option ℕ) → k ≤ n → is_below k o ≡ true → is_below n o ≡ true
below_more k n None few h = refl
below_more k n (Some i) few h =
    let here = ltb-true i k h in
    lt-ltb i n (omega (arith, here, few))

there_more : (count k n : ℕ) (ps : List Past) → k ≤ n → list_all (is_there count k) ps ≡ true → list_all (is_there count n) ps ≡ true
there_more count k n [] few h = refl
there_more count k n (p ∷ ps) few h =
    let first = and_left (is_there count k p) _ h in
    both (is_there count n p) _ (both (is_below n p.result) _ (below_more k n p.result few (and_left (is_below k p.result) _ first)) (and_right (is_below k p.result) _ first)) (there_more count k n ps few (and_right (is_there count k p) _ h))

value_same : (t : Tree) (results more : List ValueTree) (o : Option ℕ) → is_below (length results) o ≡ true → value_by t (results ++ more) o ≡ value_by t results o
value_same t results more None h = refl
value_same t results more (Some i) h =
    get_or_append_left results more void_value i (ltb-true i (length results) h)

values_same : (ss : List Signature) (results more : List ValueTree) (ps : List Past) → list_all (is_there (length ss) (length results)) ps ≡ true → map (past_value ss (results ++ more)) ps ≡ map (past_value ss results) ps
values_same ss results more [] h = refl
values_same ss results more (p ∷ ps) h =
    let there = and_left (is_there (length ss) (length results) p) _ h in
    let first = value_same (past_type ss p) results more p.result (and_left (is_below (length results) p.result) _ there) in
    ap (λ v. v ∷ map (past_value ss (results ++ more)) ps) first ∙ ap (λ vs. past_value ss results p ∷ vs) (values_same ss results more ps (and_right (is_there (length ss) (length results) p) _ h))

walked_longer : (s : Setting) (a : SeenActivation) (next : List ValueTree → Move) (pasts : List Past) (taken : ℕ) (ms : List script.ScriptMove) (r : ValueTree) → Walked s a next pasts taken ms → Walked s (one_more a r) next pasts taken ms
walked_longer s a next pasts taken ms r w =
    let same = values_same s.signatures a.results (r ∷ []) pasts w.there in
    let longer : length a.results ≤ length (a.results ++ r ∷ []) = omega (arith, length-append a.results (r ∷ [])) in
    record {
      typed = w.typed;
      ended = w.ended;
      there = there_more (length s.signatures) (length a.results) (length (a.results ++ r ∷ [])) pasts longer w.there;
      fit = subst (λ vs. all_fit (trees_of (map (past_type s.signatures) pasts)) (values_of vs) ≡ true) (sym same) w.fit;
      within = omega (arith, longer, w.within);
      left = λ rest. ap (λ rs. next (rs ++ rest)) (take-append-le taken a.results (r ∷ []) w.within) ∙ w.left rest ∙ ap (λ vs. next_of s.signatures ms (record { arguments = arguments_of a; user = a.user; outcomes = vs }) rest) (sym same);
    }

pub agrees_more : (b : ScriptBody) (a : SeenActivation) (c : Cursor) (r : ValueTree) → Agrees b a c → Agrees b (one_more a r) c
agrees_more b a c r g =
    let ps = pasts_at b c in
    let same = values_same b.sigs.value a.results (r ∷ []) ps g.walked.there in
    record {
      below = g.below;
      ready = λ h. subst (λ vs. first_is_done (record { arguments = arguments_of a; user = a.user; outcomes = vs }) (drop (c.first + length c.marks.items) (moves_of b)) ≡ true) (sym same) (g.ready h);
      walked = walked_longer (setting_of b) a (meaning_of b (arguments_of a) a.user) ps c.taken (drop (c.first + length c.marks.items) (moves_of b)) r g.walked;
    }

-- ---- cursors

unready : (x y : Bool) → (x ≡ true → y ≡ true) → y ≡ false → x ≡ false
unready true y h k =
    let e = h refl in
    cc
unready false y h k = refl

pub pasts_are : (b : ScriptBody) (c : Cursor) (ms ns : List ScriptMove) (rs : List (Option ℕ)) → ms ≡ b.moves.items → ns ≡ b.moves.items → rs ≡ c.marks.items → pasts_of (take c.first ms) (take (length ns - c.first) (drop c.first ns)) rs ≡ pasts_at b c
pasts_are b c ms ns rs ms_are ns_are rs_are =
    let all = take_all (length ns - c.first) (drop c.first ns) (omega (arith, length-drop c.first ns)) in
    ap (λ xs. pasts_of (take c.first xs) (take (length ns - c.first) (drop c.first ns)) rs) ms_are ∙ ap (λ xs. pasts_of (take c.first b.moves.items) xs rs) (all ∙ ap (drop c.first) ns_are) ∙ ap (pasts_of (take c.first b.moves.items) (drop c.first b.moves.items)) rs_are

module _ (b : ScriptBody) (a : SeenActivation) where
  abbrev WalkedBy : ℕ → List (Option ℕ) → ℕ → ℕ → Type 0
  WalkedBy first marks taken i =
      Walked (setting_of b) a (meaning_of b (arguments_of a) a.user) (pasts_of (take first b.moves.items) (drop first b.moves.items) marks) taken (drop i (moves_of b))

  agrees_at : (c : Cursor) (first taken i : ℕ) (marks : List (Option ℕ)) → c.first ≡ first → c.marks.items ≡ marks → c.taken ≡ taken → c.ready ≡ false → i ≡ first + length marks → WalkedBy first marks taken i → Agrees b a c
  agrees_at c first taken i marks f m t unready n w =
      let count = ap length m in
      let at : c.first + length c.marks.items ≡ i = omega (arith, f, count, n) in
      let below = left_below b.moves.items i w.ended in
      record {
        below = omega (arith, at, below);
        ready = λ h. absurd (both_ways c.ready unready h);
        walked = subst (WalkedBy c.first c.marks.items c.taken) (sym at) (subst (λ k. WalkedBy c.first c.marks.items k i) (sym t) (subst (λ rs. WalkedBy c.first rs taken i) (sym m) (subst (λ k. WalkedBy k marks taken i) (sym f) w)));
      }

  pub skipped_agrees : (c : Cursor) (n : ℕ) → a.signature ≡ signature_of b → ResultsFollow (signatures_of b) (meaning_of b) (arguments_of a) a.user a.results → n ≤ b.always → n ≤ length a.results → c.first ≡ n → c.marks.items ≡ [] → c.taken ≡ n → c.ready ≡ false → Agrees b a c
  skipped_agrees c n own follow few within f m t unready =
      let none = walked_none b.sigs.value b.functions (signature_of b) a (moves_of b) own b.typed in
      agrees_at c n n n [] f m t unready (omega arith) (walked_always (setting_of b) a (meaning_of b (arguments_of a) a.user) b.right follow b.moves.items (take n b.moves.items) (drop n b.moves.items) b.always n none b.always_done few within refl)

  module _ (c : Cursor) (m : ScriptMove) (g : Agrees b a c) (m_is : m ≡ get_or b.moves.items (c.first + length c.marks.items) m) where
    -- the move at which it stands, and those after it
    pub stands : Walked (setting_of b) a (meaning_of b (arguments_of a) a.user) (pasts_at b c) c.taken (script_move_of m ∷ drop (c.first + length c.marks.items + 1) (moves_of b))
    stands =
        subst (Walked (setting_of b) a (meaning_of b (arguments_of a) a.user) (pasts_at b c) c.taken) (moves_from b.moves.items (c.first + length c.marks.items) m g.below m_is) g.walked

    -- what it knows of this move
    pub knows : c.ready ≡ true → is_done (known_at b a c) (option_map typed_of m.condition) ≡ true
    knows h =
        ap (first_is_done (known_at b a c)) (sym (moves_from b.moves.items (c.first + length c.marks.items) m g.below m_is)) ∙ g.ready h

    -- it knows that this move is done
    pub ready_agrees : is_done (known_at b a c) (option_map typed_of m.condition) ≡ true → Agrees b a (record { first = c.first; marks = c.marks; taken = c.taken; ready = true })
    ready_agrees done =
        let ready : first_is_done (known_at b a c) (drop (c.first + length c.marks.items) (moves_of b)) ≡ true = ap (first_is_done (known_at b a c)) (moves_from b.moves.items (c.first + length c.marks.items) m g.below m_is) ∙ done in
        record { below = g.below; ready = λ h. ready; walked = g.walked }

    pub next_is : is_done (known_at b a c) (option_map typed_of m.condition) ≡ true → c.taken ≡ length a.results → meaning_of b (arguments_of a) a.user a.results ≡ meaning.move_of (known_at b a c) (act_of m.act)
    next_is done all =
        is_next (setting_of b) (meaning_of b (arguments_of a) a.user) a.results c.taken (script_move_of m) (drop (c.first + length c.marks.items + 1) (moves_of b)) (known_at b a c) all done stands.left

    more_pasts : (r : Option ℕ) → pasts_of (take c.first b.moves.items) (drop c.first b.moves.items) (c.marks.items ++ r ∷ []) ≡ pasts_at b c ++ record { act = act_of m.act; result = r } ∷ []
    more_pasts r =
        pasts_more (take c.first b.moves.items) (drop c.first b.moves.items) c.marks.items (c.marks.items ++ r ∷ []) r m refl (omega (arith, g.below, length-drop c.first b.moves.items)) (m_is ∙ sym (get_or-drop c.first b.moves.items (length c.marks.items) m))

    pub done_agrees : (d : Cursor) → ResultsFollow (signatures_of b) (meaning_of b) (arguments_of a) a.user a.results → c.taken < length a.results → is_done (known_at b a c) (option_map typed_of m.condition) ≡ true → d.first ≡ c.first → d.marks.items ≡ c.marks.items ++ Some c.taken ∷ [] → d.taken ≡ c.taken + 1 → d.ready ≡ false → Agrees b a d
    done_agrees d follow below done f marks t unready =
        let p : Past = record { act = act_of m.act; result = Some c.taken } in
        let at : c.first + length c.marks.items + 1 ≡ c.first + length (c.marks.items ++ Some c.taken ∷ []) = omega (arith, length-append c.marks.items (Some c.taken ∷ [])) in
        agrees_at d c.first (c.taken + 1) (c.first + length c.marks.items + 1) (c.marks.items ++ Some c.taken ∷ []) f marks t unready at (walked_done (setting_of b) a (meaning_of b (arguments_of a) a.user) (pasts_at b c) c.taken (script_move_of m) (drop (c.first + length c.marks.items + 1) (moves_of b)) stands b.right p refl _ (c.taken + 1) (more_pasts (Some c.taken)) refl (follow c.taken below) refl done below)

    pub undone_agrees : (d : Cursor) → is_done (known_at b a c) (option_map typed_of m.condition) ≡ false → d.first ≡ c.first → d.marks.items ≡ c.marks.items ++ None ∷ [] → d.taken ≡ c.taken → d.ready ≡ c.ready → Agrees b a d
    undone_agrees d undone f marks t same =
        let p : Past = record { act = act_of m.act; result = None } in
        let at : c.first + length c.marks.items + 1 ≡ c.first + length (c.marks.items ++ None ∷ []) = omega (arith, length-append c.marks.items (None ∷ [])) in
        agrees_at d c.first c.taken (c.first + length c.marks.items + 1) (c.marks.items ++ None ∷ []) f marks t (same ∙ unready c.ready _ knows undone) at (walked_undone (setting_of b) a (meaning_of b (arguments_of a) a.user) (pasts_at b c) c.taken (script_move_of m) (drop (c.first + length c.marks.items + 1) (moves_of b)) stands b.right p refl _ c.taken (more_pasts None) refl refl undone)
