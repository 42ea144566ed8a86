-- One pass reads what the definition reads.
use Rattle.std.proofs.Common.{◌≡◌, ℕ, zero, suc, ◌+◌, Bool, true, false, cond, List, [], ◌∷◌, length, Option, Some, None, ap, sym, refl, ◌∙◌, arith}
use Rattle.std.specs.Prelude.{⊤, unwrap_or}
use Rattle.std.proofs.lemmas.Bool.{leb-false}
use Rattle.ffi3_type_spec.specs.Tree.{Tree}
use Rattle.ffi3_cdecl_spec.specs.Tokens.{Dialect, plain, Sign, signed, Token, number, TOO_GREAT, Found, nothing_known, found, found_in, Placed, Cut, tokens, bad_at, cut_in, cut_from, before, bytes_more}
use Rattle.ffi3_cdecl_spec.specs.Grammar.{Declaration}
use Rattle.ffi3_cdecl_spec.specs.Reading.{is_too_great, Outcome, bad_token, unexpected, tokens_of, first_too_great}
use Rattle.ffi3_cdecl_spec.specs.Machine.{State, step, is_dead, finish, begun, after, with_number, with_end, with_cut, first_dead, read_in, read}
use Rattle.ffi3_cdecl_spec.specs.OnePass.{keeping, Pass, kept, taking, outcome_by, outcome_at, pass_found, pass_from, new_pass}
use Rattle.ffi3_cdecl_spec.proofs.Alike.{as_they_are, Alike, alike_itself, struct_alike, Kept, none_kept, one_kept, arrays_alike}
use Rattle.ffi3_cdecl_spec.proofs.Kept.{TakenToken, results, SameState, both_want_type, SameEnd, end_same, dead_same, step_same}
use Rattle.ffi3_type_spec.specs.Signature.{for_calls}
use Rattle.ffi3_cdecl_spec.proofs.Judged.{IsSmall, AlikeDeclarations, judged_same}

module _ (r : Dialect) (c : Sign) where
  abbrev pub all_taken : Pass → List Placed → Pass
  all_taken p [] = p
  all_taken p (t ∷ ts) = all_taken (taking r p t.at t.token) ts

  abbrev of_cut : ℕ → Pass → Cut → Outcome
  of_cut end p (bad_at at) = bad_token at
  of_cut end p (tokens ts) = outcome_at end (all_taken p ts)

  -- ---- the pass over the bytes is one over the tokens

  of_found : (end at : ℕ) (p : Pass) (f : Found) (c : Cut) (go : ℕ → Pass → Outcome) → ((q : Pass) → go (bytes_more f) q ≡ of_cut end q c) → pass_found r f at p go ≡ of_cut end p (before f at c)
  of_found end at p nothing_known c go same = refl
  of_found end at p (found t more) (tokens ts) go same = same (taking r p at t)
  of_found end at p (found t more) (bad_at there) go same =
      same (taking r p at t)
  of_found end at p _ c go same = same p

  over_bytes : (bs : List ℕ) (at inside end : ℕ) (p : Pass) → at + length bs ≡ end → pass_from r c at inside p bs ≡ of_cut end p (cut_from r c at inside bs)
  over_bytes [] at inside end p e =
      ap (λ n. outcome_at n p) (let f : at ≡ end = omega arith in f)
  over_bytes (b ∷ bs) at zero end p e =
      of_found end at p (found_in r c b bs) (cut_from r c (at + 1) (bytes_more (found_in r c b bs)) bs) (λ inside q. pass_from r c (at + 1) inside q bs) (λ q. over_bytes bs (at + 1) (bytes_more (found_in r c b bs)) end q (omega arith))
  over_bytes (b ∷ bs) at (suc inside) end p e =
      over_bytes bs (at + 1) inside end p (omega arith)

  -- ---- the pass over the tokens is the machine, but for types that are alike

  -- whatever types and counts are
  abbrev pub Any : ℕ → Type 0
  Any n = ⊤

  abbrev pub AnyTypes : Tree → Tree → Type 0
  AnyTypes t u = ⊤

  abbrev pub AnyCounts : List ℕ → List ℕ → Type 0
  AnyCounts ns ms = ⊤

  any_taken : (t : Token) → TakenToken Any t
  any_taken (number n) = tt
  any_taken x = tt

  abbrev pub SomeStates : State → State → Type 0
  SomeStates s t = SameState Any AnyTypes AnyCounts s t

  some_step : {s t : State} → SomeStates s t → (x : Token) → SomeStates (step r s x) (keeping r t x)
  some_step h x =
      step_same Any AnyTypes AnyCounts (λ t. tt) (λ ts us all. tt) tt (λ n ns ms taken same. tt) (λ ns ms t u c same. tt) r h x (any_taken x)

  pub some_states : (p : Pass) (s : State) (ts : List Placed) → SomeStates s p.state → SomeStates (after r s (tokens_of ts)) (all_taken p ts).state
  some_states p s [] h = h
  some_states p s (t ∷ ts) h =
      some_states (taking r p t.at t.token) (step r s t.token) ts (some_step h t.token)

  abbrev pub AllSmall : List Placed → Type 0
  AllSmall [] = ⊤
  AllSmall (p ∷ ps) = TakenToken IsSmall p.token × AllSmall ps

  small_token : (x : Token) → is_too_great x ≡ false → TakenToken IsSmall x
  small_token (number n) e = leb-false TOO_GREAT n e
  small_token x e = tt

  small_first : {A B : Type 0} (b : Bool) (at : ℕ) (more : Option ℕ) → cond b (Some at) more ≡ None → {c : Bool} → c ≡ b → (c ≡ false → A) → (more ≡ None → B) → A × B
  small_first true at more none e first rest = absurd (cc)
  small_first false at more none e first rest = (first e, rest none)

  pub all_small : (ps : List Placed) → first_too_great ps ≡ None → AllSmall ps
  all_small [] e = tt
  all_small (p ∷ ps) e =
      small_first (is_too_great p.token) p.at (first_too_great ps) e refl (λ f. small_token p.token f) (λ none. all_small ps none)

  abbrev AlikeStates : State → State → Type 0
  AlikeStates s t = SameState IsSmall (Alike as_they_are) (Kept as_they_are) s t

  alike_states : (p : Pass) (s : State) (ts : List Placed) → AllSmall ts → AlikeStates s p.state → AlikeStates (after r s (tokens_of ts)) (all_taken p ts).state
  alike_states p s [] small h = h
  alike_states p s (t ∷ ts) small h =
      alike_states (taking r p t.at t.token) (step r s t.token) ts small.1 (step_same IsSmall (Alike as_they_are) (Kept as_they_are) (alike_itself as_they_are) (struct_alike as_they_are) (none_kept as_they_are) (one_kept as_they_are) (arrays_alike as_they_are) r h t.token small.0)

  abbrev or_at : Option ℕ → Option ℕ → Option ℕ
  or_at (Some at) o = Some at
  or_at None o = o

  or_at-kept : (o : Option ℕ) (now : Bool) (at : ℕ) (more : Option ℕ) → or_at (kept o now at) more ≡ or_at o (cond now (Some at) more)
  or_at-kept (Some n) now at more = refl
  or_at-kept None true at more = refl
  or_at-kept None false at more = refl

  or_at-none : (o : Option ℕ) → o ≡ or_at o None
  or_at-none (Some n) = refl
  or_at-none None = refl

  pub great_is : (p : Pass) (ts : List Placed) → (all_taken p ts).great ≡ or_at p.great (first_too_great ts)
  great_is p [] = or_at-none p.great
  great_is p (t ∷ ts) =
      great_is (taking r p t.at t.token) ts ∙ or_at-kept p.great (is_too_great t.token) t.at (first_too_great ts)

  abbrev died_at : Option ℕ → ℕ → ℕ
  died_at (Some at) there = at
  died_at None there = there

  died_at-kept : (o : Option ℕ) (now : Bool) (at more : ℕ) → died_at (kept o now at) more ≡ died_at o (cond now at more)
  died_at-kept (Some n) now at more = refl
  died_at-kept None true at more = refl
  died_at-kept None false at more = refl

  died_at-end : (o : Option ℕ) (end : ℕ) → unwrap_or o end ≡ died_at o end
  died_at-end (Some n) end = refl
  died_at-end None end = refl

  pub died_is : (end : ℕ) (p : Pass) (s : State) (ts : List Placed) → SomeStates s p.state → unwrap_or (all_taken p ts).died end ≡ died_at p.died (first_dead r end s ts)
  died_is end p s [] h = died_at-end p.died end
  died_is end p s (t ∷ ts) h =
      let same : SomeStates (step r s t.token) (keeping r p.state t.token) = some_step h t.token in
      died_is end (taking r p t.at t.token) (step r s t.token) ts same ∙ died_at-kept p.died (is_dead (keeping r p.state t.token)) t.at (first_dead r end (step r s t.token) ts) ∙ ap (λ b. died_at p.died (cond b t.at (first_dead r end (step r s t.token) ts))) (sym (dead_same Any AnyTypes AnyCounts same))

  -- ---- the end

  with_number_same : (ts : List Placed) (d e : Declaration) → (first_too_great ts ≡ None → AlikeDeclarations for_calls as_they_are d e) → (n : Option ℕ) → first_too_great ts ≡ n → with_number e n ≡ with_number d n
  with_number_same ts d e same None none = sym (judged_same d e (same none))
  with_number_same ts d e same (Some at) there = refl

  by_outcome : (end : ℕ) (ts : List Placed) (o p : Option Declaration) → SameEnd Any AnyTypes AnyCounts o p → (first_too_great ts ≡ None → SameEnd IsSmall (Alike as_they_are) (Kept as_they_are) o p) → outcome_by end (all_taken new_pass ts) p ≡ with_end r end ts o
  by_outcome end ts None None h same =
      ap unexpected (died_is end new_pass begun ts (both_want_type results))
  by_outcome end ts (Some d) (Some e) h same =
      ap (λ n. with_number e n) (great_is new_pass ts) ∙ with_number_same ts d e same (first_too_great ts) refl
  by_outcome end ts _ _ h same = absurd h

  of_whole : (end : ℕ) (c : Cut) → of_cut end new_pass c ≡ with_cut r end c
  of_whole end (bad_at at) = refl
  of_whole end (tokens ts) =
      by_outcome end ts (finish (after r begun (tokens_of ts))) (finish (all_taken new_pass ts).state) (end_same Any AnyTypes AnyCounts (some_states new_pass begun ts (both_want_type results))) (λ none. end_same IsSmall (Alike as_they_are) (Kept as_they_are) (alike_states new_pass begun ts (all_small ts none) (both_want_type results)))

  pub one_pass_in : (text : List ℕ) → pass_from r c 0 0 new_pass text ≡ read_in r c text
  one_pass_in text =
      over_bytes text 0 0 (length text) new_pass (omega arith) ∙ of_whole (length text) (cut_in r c text)

pub one_pass : (text : List ℕ) → pass_from plain signed 0 0 new_pass text ≡ read text
one_pass text = one_pass_in plain signed text
