-- A pass over bytes reads what the definition reads, whatever is judged of what it declares.
use Rattle.std.proofs.Common.{◌≡◌, ℕ, zero, suc, ◌+◌, List, [], ◌∷◌, length, Option, Some, None, ap, sym, refl, ◌∙◌, subst, arith}
use Rattle.ffi3_cdecl_spec.specs.Tokens.{Dialect, wide, Sign, Found, blank, skipped, nothing_known, found, found_in, Placed, Cut, tokens, bad_at, cut_in, cut_from, before, bytes_more}
use Rattle.ffi3_cdecl_spec.specs.Grammar.{Declaration}
use Rattle.ffi3_cdecl_spec.specs.Reading.{Outcome, unexpected, tokens_of, first_too_great}
use Rattle.ffi3_cdecl_spec.specs.Machine.{State, step, finish, begun, after, judged, read_in}
use Rattle.ffi3_cdecl_spec.specs.OnePass.{Pass, taking, pass_found, pass_from, new_pass, outcome_by, outcome_at}
use Rattle.ffi3_cdecl_spec.proofs.Judged.{IsSmall}
use Rattle.ffi3_cdecl_spec.proofs.Kept.{results, SameState, both_want_type, SameEnd, end_same, step_same}
use Rattle.ffi3_cdecl_spec.proofs.OnePass.{all_taken, Any, AnyTypes, AnyCounts, some_states, AllSmall, all_small, great_is, died_is, one_pass_in}
use Rattle.ffi3_format_spec.specs.declared.Format.{Format}
use Rattle.ffi3_cdecl.specs.PassOf.{outcome_behind, unjudged, unjudged_by, unjudged_behind, judged_by, pass_on, pass_over}
use Rattle.ffi3_cdecl_spec.specs.ReadingFor.{with_number_by, with_end_by, with_cut_by, read_by}
use Rattle.ffi3_cdecl.proofs.AlikeFor.{AlikeFor, KeptFor, AlikeDeclarationsFor, alike_itself, struct_alike, none_kept, one_kept, arrays_alike}

-- ---- the plain judge

behind_by : (end : ℕ) (p : Pass) (o : Option Declaration) → judged_by judged (unjudged_by end p o) ≡ outcome_by end p o
behind_by end p None = refl
behind_by end p (Some d) = by_number p.great
  where
    by_number : (n : Option ℕ) → judged_by judged (unjudged d n) ≡ outcome_by end (record { state = p.state; died = p.died; great = n }) (Some d)
    by_number None = refl
    by_number (Some at) = refl

pub behind_judged : (stop : Option ℕ) (end : ℕ) (p : Pass) (u o : Outcome) → u ≡ unjudged_behind stop end p → o ≡ judged_by judged u → o ≡ outcome_behind stop end p
behind_judged (Some at) end p u o e f = f ∙ ap (judged_by judged) e
behind_judged None end p u o e f =
    f ∙ ap (judged_by judged) e ∙ behind_by end p (finish p.state)

module _ (r : Dialect) (c : Sign) where
  -- a pass and its outcome
  abbrev Comes : ℕ → Pass × Option ℕ → Outcome → Type 0
  Comes end q o = outcome_behind q.1 end q.0 ≡ o

  on_found : (end at : ℕ) (p : Pass) (f : Found) (go : ℕ → Pass → Pass × Option ℕ) (on : ℕ → Pass → Outcome) → ((n : ℕ) (q : Pass) → Comes end (go n q) (on n q)) → Comes end (pass_on r f at p go) (pass_found r f at p on)
  on_found end at p blank go on same = same 0 p
  on_found end at p (skipped more) go on same = same more p
  on_found end at p nothing_known go on same = refl
  on_found end at p (found t more) go on same = same more (taking r p at t)

  comes_from : (bs : List ℕ) (at inside end : ℕ) (p : Pass) → at + length bs ≡ end → Comes end (pass_over r c at inside p bs) (pass_from r c at inside p bs)
  comes_from [] at inside end p e =
      ap (λ n. outcome_at n p) (let f : end ≡ at = omega (arith, e) in f)
  comes_from (b ∷ bs) at zero end p e =
      on_found end at p (found_in r c b bs) (λ inside q. pass_over r c (at + 1) inside q bs) (λ inside q. pass_from r c (at + 1) inside q bs) (λ n q. comes_from bs (at + 1) n end q (omega (arith, e)))
  comes_from (b ∷ bs) at (suc inside) end p e =
      comes_from bs (at + 1) inside end p (omega (arith, e))

  pub computed : (text : List ℕ) (p : Pass) (stop : Option ℕ) (o : Outcome) → (p, stop) ≡ pass_over r c 0 0 new_pass text → o ≡ outcome_behind stop (length text) p → o ≡ read_in r c text
  computed text p stop o over e =
      e ∙ ap (λ q. outcome_behind q.1 (length text) q.0) over ∙ comes_from text 0 0 (length text) new_pass (omega arith) ∙ one_pass_in r c text

-- ---- any judge, in the wide reading

module _ (c : Sign) where
  -- the pass took these tokens, or stopped where none begins
  abbrev Matches : Pass → Cut → Pass × Option ℕ → Type 0
  Matches p (tokens ts) q = q ≡ (all_taken wide c p ts, None)
  Matches p (bad_at at) q = q.1 ≡ Some at

  matches_found : (at : ℕ) (p : Pass) (f : Found) (cut : Cut) (go : ℕ → Pass → Pass × Option ℕ) → ((q : Pass) → Matches q cut (go (bytes_more f) q)) → Matches p (before f at cut) (pass_on wide f at p go)
  matches_found at p blank cut go same = same p
  matches_found at p (skipped more) cut go same = same p
  matches_found at p nothing_known cut go same = refl
  matches_found at p (found t more) (tokens ts) go same = same (taking wide p at t)
  matches_found at p (found t more) (bad_at there) go same =
      same (taking wide p at t)

  matches : (bs : List ℕ) (at inside : ℕ) (p : Pass) → Matches p (cut_from wide c at inside bs) (pass_over wide c at inside p bs)
  matches [] at inside p = refl
  matches (b ∷ bs) at zero p =
      matches_found at p (found_in wide c b bs) (cut_from wide c (at + 1) (bytes_more (found_in wide c b bs)) bs) (λ inside q. pass_over wide c (at + 1) inside q bs) (λ q. matches bs (at + 1) (bytes_more (found_in wide c b bs)) q)
  matches (b ∷ bs) at (suc inside) p = matches bs (at + 1) inside p

  alike_states : (f : Format) (p : Pass) (s : State) (ts : List Placed) → AllSmall wide c ts → SameState IsSmall (AlikeFor f) (KeptFor f) s p.state → SameState IsSmall (AlikeFor f) (KeptFor f) (after wide s (tokens_of ts)) (all_taken wide c p ts).state
  alike_states f p s [] small h = h
  alike_states f p s (t ∷ ts) small h =
      alike_states f (taking wide p t.at t.token) (step wide s t.token) ts small.1 (step_same IsSmall (AlikeFor f) (KeptFor f) (alike_itself f) (struct_alike f) (none_kept f) (one_kept f) (arrays_alike f) wide h t.token small.0)

  -- a judge that tells alike declarations the same
  module _ (judge : Declaration → Outcome) (tells_same : (d e : Declaration) → ((f : Format) → AlikeDeclarationsFor f d e) → judge e ≡ judge d) where
    by_number : (ts : List Placed) (d e : Declaration) → (first_too_great ts ≡ None → (f : Format) → AlikeDeclarationsFor f d e) → (n : Option ℕ) → first_too_great ts ≡ n → judged_by judge (unjudged e n) ≡ with_number_by judge d n
    by_number ts d e same None none = tells_same d e (same none)
    by_number ts d e same (Some at) there = refl

    by_end : (end : ℕ) (ts : List Placed) (o p : Option Declaration) → SameEnd (Any wide c) (AnyTypes wide c) (AnyCounts wide c) o p → (first_too_great ts ≡ None → (f : Format) → SameEnd IsSmall (AlikeFor f) (KeptFor f) o p) → judged_by judge (unjudged_by end (all_taken wide c new_pass ts) p) ≡ with_end_by judge end ts o
    by_end end ts None None h same =
        ap unexpected (died_is wide c end new_pass begun ts (both_want_type results))
    by_end end ts (Some d) (Some e) h same =
        ap (λ n. judged_by judge (unjudged e n)) (great_is wide c new_pass ts) ∙ by_number ts d e same (first_too_great ts) refl
    by_end end ts None (Some e) h same = absurd h
    by_end end ts (Some d) None h same = absurd h

    by_cut : (end : ℕ) (cut : Cut) (q : Pass × Option ℕ) → Matches new_pass cut q → judged_by judge (unjudged_behind q.1 end q.0) ≡ with_cut_by judge end cut
    by_cut end (bad_at at) q e =
        ap (λ s. judged_by judge (unjudged_behind s end q.0)) e
    by_cut end (tokens ts) q e =
        ap (λ x. judged_by judge (unjudged_behind x.1 end x.0)) e ∙ by_end end ts (finish (after wide begun (tokens_of ts))) (finish (all_taken wide c new_pass ts).state) (end_same (Any wide c) (AnyTypes wide c) (AnyCounts wide c) (some_states wide c new_pass begun ts (both_want_type results))) (λ none f. end_same IsSmall (AlikeFor f) (KeptFor f) (alike_states f new_pass begun ts (all_small wide c ts none) (both_want_type results)))

    pub computed_by : (text : List ℕ) (p : Pass) (stop : Option ℕ) (u o : Outcome) → (p, stop) ≡ pass_over wide c 0 0 new_pass text → u ≡ unjudged_behind stop (length text) p → o ≡ judged_by judge u → o ≡ read_by judge c text
    computed_by text p stop u o over e f =
        f ∙ ap (judged_by judge) (e ∙ ap (λ q. unjudged_behind q.1 (length text) q.0) over) ∙ by_cut (length text) (cut_in wide c text) (pass_over wide c 0 0 new_pass text) (matches text 0 0 new_pass)
