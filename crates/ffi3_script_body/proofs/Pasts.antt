-- What became of one of the moves before the next.
use Rattle.std.proofs.Common.{◌≡◌, ℕ, zero, suc, ◌+◌, ◌<◌, ◌≤◌, true, List, [], ◌∷◌, ◌++◌, length, Option, Some, Bool, ap, sym, ◌∙◌, arith, get_or}
use Rattle.std.specs.Prelude.{slice_index_or}
use Rattle.std.specs.List.{list_all}
use Rattle.ffi3_script_spec.proofs.Tests.{and_left, and_right}
use Rattle.ffi3_script_body.specs.ExprOf.{act_of, script_moves_of}
use Rattle.ffi3_script_body.specs.KnownOf.{Past, done_from, marked, pasts_of}
use Rattle.ffi3_script_body.specs.declared.moves.ScriptMove.{ScriptMove}

done-from-at : (ms : List ScriptMove) (rest : List Past) (k i : ℕ) (m : ScriptMove) (d : Past) → i < length ms → m ≡ get_or ms i m → slice_index_or (done_from k (script_moves_of ms) ++ rest) i d ≡ record { act = act_of m.act; result = Some (k + i) }
done-from-at [] rest k i m d below is = absurd (omega arith)
done-from-at (x ∷ ms) rest k zero m d below is =
    let n : k ≡ k + 0 = omega arith in
    ap (λ y. record { act = act_of y.act; result = Some k }) (sym is) ∙ ap (λ j. record { act = act_of m.act; result = Some j }) n
done-from-at (x ∷ ms) rest k (suc i) m d below is =
    let n : k + 1 + i ≡ k + suc i = omega arith in
    done-from-at ms rest (k + 1) i m d (omega arith) is ∙ ap (λ j. record { act = act_of m.act; result = Some j }) n

-- one of the moves that were all done
pub done-at : (ms later : List ScriptMove) (rs : List (Option ℕ)) (i : ℕ) (m : ScriptMove) (d : Past) → i < length ms → m ≡ get_or ms i m → slice_index_or (pasts_of ms later rs) i d ≡ record { act = act_of m.act; result = Some i }
done-at ms later rs i m d below is =
    let n : 0 + i ≡ i = omega arith in
    done-from-at ms (marked rs (script_moves_of later)) 0 i m d below is ∙ ap (λ j. record { act = act_of m.act; result = Some j }) n

marked-at : (rs : List (Option ℕ)) (ms : List ScriptMove) (j : ℕ) (m : ScriptMove) (r : Option ℕ) (d : Past) → j < length ms → j < length rs → m ≡ get_or ms j m → r ≡ get_or rs j r → slice_index_or (marked rs (script_moves_of ms)) j d ≡ record { act = act_of m.act; result = r }
marked-at [] ms j m r d below within is r_is = absurd (omega arith)
marked-at (q ∷ rs) [] j m r d below within is r_is = absurd (omega arith)
marked-at (q ∷ rs) (x ∷ ms) zero m r d below within is r_is =
    ap (λ y. record { act = act_of y.act; result = q }) (sym is) ∙ ap (λ s. record { act = act_of m.act; result = s }) (sym r_is)
marked-at (q ∷ rs) (x ∷ ms) (suc j) m r d below within is r_is =
    marked-at rs ms j m r d (omega arith) (omega arith) is r_is

later-from-at : (ms later : List ScriptMove) (rs : List (Option ℕ)) (k i j : ℕ) (m : ScriptMove) (r : Option ℕ) (d : Past) → i ≡ length ms + j → j < length later → j < length rs → m ≡ get_or later j m → r ≡ get_or rs j r → slice_index_or (done_from k (script_moves_of ms) ++ marked rs (script_moves_of later)) i d ≡ record { act = act_of m.act; result = r }
later-from-at [] later rs k i j m r d at below within is r_is =
    let n : i ≡ j = omega (arith, at) in
    ap (λ h. slice_index_or (marked rs (script_moves_of later)) h d) n ∙ marked-at rs later j m r d below within is r_is
later-from-at (x ∷ ms) later rs k zero j m r d at below within is r_is = absurd (omega arith)
later-from-at (x ∷ ms) later rs k (suc i) j m r d at below within is r_is =
    later-from-at ms later rs (k + 1) i j m r d (omega arith) below within is r_is

-- one of those after them
pub later-at : (ms later : List ScriptMove) (rs : List (Option ℕ)) (i j : ℕ) (m : ScriptMove) (r : Option ℕ) (d : Past) → i ≡ length ms + j → j < length later → j < length rs → m ≡ get_or later j m → r ≡ get_or rs j r → slice_index_or (pasts_of ms later rs) i d ≡ record { act = act_of m.act; result = r }
later-at ms later rs i j m r d at below within is r_is =
    later-from-at ms later rs 0 i j m r d at below within is r_is

marked-count : (rs : List (Option ℕ)) (ms : List ScriptMove) → (length (marked rs (script_moves_of ms)) ≤ length ms) × (length (marked rs (script_moves_of ms)) ≤ length rs)
marked-count [] ms = (omega arith, omega arith)
marked-count (r ∷ rs) [] = (omega arith, omega arith)
marked-count (r ∷ rs) (m ∷ ms) =
    let few = marked-count rs ms in
    (omega (arith, few.0), omega (arith, few.1))

done-count : (ms : List ScriptMove) (rest : List Past) (k : ℕ) → length (done_from k (script_moves_of ms) ++ rest) ≡ length ms + length rest
done-count [] rest k = omega arith
done-count (m ∷ ms) rest k = omega (arith, done-count ms rest (k + 1))

-- no more than there are later moves, nor than are marked
pub pasts-count : (ms later : List ScriptMove) (rs : List (Option ℕ)) → (length (pasts_of ms later rs) ≤ length ms + length later) × (length (pasts_of ms later rs) ≤ length ms + length rs)
pasts-count ms later rs =
    let all = done-count ms (marked rs (script_moves_of later)) 0 in
    let few = marked-count rs later in
    (omega (arith, all, few.0), omega (arith, all, few.1))

-- what holds of each holds of one
pub holds-at : {A : Type 0} (p : A → Bool) (xs : List A) (i : ℕ) (x : A) → list_all p xs ≡ true → i < length xs → slice_index_or xs i x ≡ x → p x ≡ true
holds-at p [] i x each below is = absurd (omega arith)
holds-at p (y ∷ xs) zero x each below is = ap p (sym is) ∙ and_left (p y) _ each
holds-at p (y ∷ xs) (suc i) x each below is =
    holds-at p xs i x (and_right (p y) _ each) (omega arith) is
