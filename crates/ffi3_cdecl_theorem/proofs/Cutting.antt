-- The bytes in front of a token lead to where the tokens in front of it do.
use Rattle.std.proofs.Common.{◌≡◌, ℕ, zero, suc, ◌+◌, ◌≤◌, List, [], ◌∷◌, ◌++◌, length, drop, Option, None, refl, ap, sym, subst, ◌∙◌, arith}
use Rattle.ffi3_cdecl_spec.specs.Tokens.{wide, Sign, Token, Found, blank, skipped, nothing_known, found, found_in, Placed, Cut, tokens, bad_at, cut_in, cut_from, before, bytes_more}
use Rattle.ffi3_cdecl_spec.specs.Reading.{tokens_of, begins_at}
use Rattle.ffi3_cdecl_spec.specs.Reasons.{Reason}
use Rattle.ffi3_cdecl_spec.specs.Telling.{Reached, reaching, reach_found, reach, nothing_reached, reason_at, told_found, told_behind, tell}
use Rattle.ffi3_cdecl_theorem.proofs.Runs.{run}

abbrev placed : ℕ → Token → Placed
placed at x = record { at = at; token = x }

pub tokens_same : (ps qs : List Placed) → tokens ps ≡ tokens qs → ps ≡ qs
tokens_same ps qs e = cc

no_tokens : (at : ℕ) (ps : List Placed) → bad_at at ≡ tokens ps → ⊥
no_tokens at ps e = cc

first_same : (p q : Placed) (ps qs : List Placed) → p ∷ ps ≡ q ∷ qs → (p ≡ q) × (ps ≡ qs)
first_same p q ps qs e = (cc, cc)

none_is_some : (p : Placed) (ps : List Placed) → [] ≡ p ∷ ps → ⊥
none_is_some p ps e = cc

-- the reason that is told of the token at the front, where this is reached
abbrev pub reason_in : Reached → List Token → Option Reason
reason_in q [] = None
reason_in q (x ∷ xs) = reason_at q.state q.track x

module _ (c : Sign) where
  -- bytes that are cut into these tokens, byte by byte
  data IsCut : ℕ → ℕ → List ℕ → List Placed → Type 0 where
    at_end : {at inside : ℕ} → IsCut at inside [] []
    within : {at inside b : ℕ} {bs : List ℕ} {ps : List Placed} → IsCut (at + 1) inside bs ps → IsCut at (suc inside) (b ∷ bs) ps
    no_token : {at b : ℕ} {bs : List ℕ} {ps : List Placed} (n : ℕ) → ((q : Reached) (go : ℕ → Reached → Reached) → reach_found (found_in wide c b bs) q go ≡ go n q) → IsCut (at + 1) n bs ps → IsCut at zero (b ∷ bs) ps
    a_token : {at b : ℕ} {bs : List ℕ} {ps : List Placed} (x : Token) (n : ℕ) → found_in wide c b bs ≡ found x n → IsCut (at + 1) n bs ps → IsCut at zero (b ∷ bs) (placed at x ∷ ps)

  abbrev Cuts : List ℕ → Type 0
  Cuts bs =
      (at inside : ℕ) (ps : List Placed) → cut_from wide c at inside bs ≡ tokens ps → IsCut at inside bs ps

  of_token : (b : ℕ) (bs : List ℕ) (at n : ℕ) (x : Token) (ps : List Placed) → Cuts bs → found_in wide c b bs ≡ found x n → (cut : Cut) → cut_from wide c (at + 1) n bs ≡ cut → before (found x n) at cut ≡ tokens ps → IsCut at zero (b ∷ bs) ps
  of_token b bs at n x ps r f (bad_at there) g e = absurd (no_tokens there ps e)
  of_token b bs at n x ps r f (tokens ts) g e =
      subst (λ qs. IsCut at zero (b ∷ bs) qs) (tokens_same (placed at x ∷ ts) ps e) (a_token x n f (r (at + 1) n ts g))

  of_found : (b : ℕ) (bs : List ℕ) (at : ℕ) (ps : List Placed) → Cuts bs → (f : Found) → found_in wide c b bs ≡ f → before f at (cut_from wide c (at + 1) (bytes_more f) bs) ≡ tokens ps → IsCut at zero (b ∷ bs) ps
  of_found b bs at ps r blank f e =
      no_token 0 (λ q go. ap (λ g. reach_found g q go) f) (r (at + 1) 0 ps e)
  of_found b bs at ps r (skipped n) f e =
      no_token n (λ q go. ap (λ g. reach_found g q go) f) (r (at + 1) n ps e)
  of_found b bs at ps r nothing_known f e = absurd (no_tokens at ps e)
  of_found b bs at ps r (found x n) f e =
      of_token b bs at n x ps r f (cut_from wide c (at + 1) n bs) refl e

  is_cut : (bs : List ℕ) → Cuts bs
  is_cut [] at inside [] e = at_end
  is_cut [] at inside (p ∷ ps) e =
      absurd (none_is_some p ps (tokens_same [] (p ∷ ps) e))
  is_cut (b ∷ bs) at (suc inside) ps e =
      within (is_cut bs (at + 1) inside ps e)
  is_cut (b ∷ bs) at zero ps e =
      of_found b bs at ps (is_cut bs) (found_in wide c b bs) refl e

  -- tokens do not stand before the bytes that they are cut from
  later : {at inside : ℕ} {bs : List ℕ} {ps : List Placed} → IsCut at inside bs ps → (end : ℕ) (front rest : List Placed) → ps ≡ front ++ rest → at + length bs ≡ end → at ≤ begins_at end rest
  later at_end end [] [] e l = omega (arith, l)
  later at_end end [] (p ∷ rest) e l = absurd (none_is_some p rest e)
  later at_end end (p ∷ front) rest e l = absurd (none_is_some p (front ++ rest) e)
  later (within d) end front rest e l =
      let more = later d end front rest e (omega (arith, l)) in
      omega (arith, more)
  later (no_token n f d) end front rest e l =
      let more = later d end front rest e (omega (arith, l)) in
      omega (arith, more)
  later (a_token {at = at} {ps = ps} x n f d) end [] [] e l =
      absurd (none_is_some (placed at x) ps (sym e))
  later (a_token {at = at} {ps = ps} x n f d) end [] (p ∷ rest) e l =
      let here : at ≡ p.at = ap (λ (q : Placed). q.at) (first_same (placed at x) p ps rest e).0 in
      omega (arith, here)
  later (a_token {at = at} {ps = ps} x n f d) end (p ∷ front) rest e l =
      let more = later d end front rest (first_same (placed at x) p ps (front ++ rest) e).1 (omega (arith, l)) in
      omega (arith, more)

  -- what stands at the front of the bytes that are left
  abbrev Stands : List ℕ → List Placed → Type 0
  Stands left [] = left ≡ []
  Stands left (p ∷ ps) =
      (b : ℕ) × (bs : List ℕ) × (more : ℕ) × (left ≡ b ∷ bs) × (found_in wide c b bs ≡ found p.token more)

  record Reaches (q p : Reached) (left : List ℕ) (rest : List Placed) : Type 0 where
    reached : q ≡ p
    stands : Stands left rest

  walk : {at inside : ℕ} {bs : List ℕ} {ps : List Placed} → IsCut at inside bs ps → (end n : ℕ) (q : Reached) (start rest : List Placed) → ps ≡ start ++ rest → at + n ≡ begins_at end rest → at + length bs ≡ end → Reaches (reach c n inside q bs) (run q (tokens_of start)) (drop n bs) rest
  walk at_end end zero q [] [] e k l = record { reached = refl; stands = refl }
  walk at_end end (suc n) q [] [] e k l = record { reached = refl; stands = refl }
  walk at_end end n q [] (p ∷ rest) e k l = absurd (none_is_some p rest e)
  walk at_end end n q (p ∷ start) rest e k l =
      absurd (none_is_some p (start ++ rest) e)
  walk (within d) end zero q start rest e k l =
      let more = later d end start rest e (omega (arith, l)) in
      absurd (omega (arith, more, k))
  walk (within d) end (suc n) q start rest e k l =
      walk d end n q start rest e (omega (arith, k)) (omega (arith, l))
  walk (no_token m f d) end zero q start rest e k l =
      let more = later d end start rest e (omega (arith, l)) in
      absurd (omega (arith, more, k))
  walk (no_token {bs = bs} m f d) end (suc n) q start rest e k l =
      subst (λ p. Reaches p (run q (tokens_of start)) (drop n bs) rest) (sym (f q (λ inside p. reach c n inside p bs))) (walk d end n q start rest e (omega (arith, k)) (omega (arith, l)))
  walk (a_token {at = at} {ps = ps} x m f d) end n q [] [] e k l =
      absurd (none_is_some (placed at x) ps (sym e))
  walk (a_token {at = at} {b = b} {bs = bs} {ps = ps} x m f d) end zero q [] (p ∷ rest) e k l =
      let token = ap (λ (r : Placed). found r.token m) (first_same (placed at x) p ps rest e).0 in
      record { reached = refl; stands = (b, bs, m, refl, f ∙ token) }
  walk (a_token {at = at} {ps = ps} x m f d) end (suc n) q [] (p ∷ rest) e k l =
      let here : at ≡ p.at = ap (λ (r : Placed). r.at) (first_same (placed at x) p ps rest e).0 in
      absurd (omega (arith, here, k))
  walk (a_token {at = at} {ps = ps} x m f d) end zero q (p ∷ start) rest e k l =
      let more = later d end start rest (first_same (placed at x) p ps (start ++ rest) e).1 (omega (arith, l)) in
      absurd (omega (arith, more, k))
  walk (a_token {at = at} {b = b} {bs = bs} {ps = ps} x m f d) end (suc n) q (p ∷ start) rest e k l =
      let same = first_same (placed at x) p ps (start ++ rest) e in
      let token : x ≡ p.token = ap (λ (r : Placed). r.token) same.0 in
      let on : Reaches (reach c n m (reaching q p.token) bs) (run (reaching q p.token) (tokens_of start)) (drop n bs) rest = walk d end n (reaching q p.token) start rest same.1 (omega (arith, k)) (omega (arith, l)) in
      let here : Reaches (reach c n m (reaching q x) bs) (run (reaching q p.token) (tokens_of start)) (drop n bs) rest = subst (λ z. Reaches (reach c n m (reaching q z) bs) (run (reaching q p.token) (tokens_of start)) (drop n bs) rest) (sym token) on in
      subst (λ g. Reaches (reach_found g q (λ inside r. reach c n inside r bs)) (run (reaching q p.token) (tokens_of start)) (drop n bs) rest) (sym f) here

  -- ---- the reason that is told

  reason_there : (q p : Reached) (left : List ℕ) (rest : List Placed) → Reaches q p left rest → (told_behind c q left).reason ≡ reason_in p (tokens_of rest)
  reason_there q p left [] r = ap (λ bs. (told_behind c q bs).reason) r.stands
  reason_there q p left (t ∷ ts) r = by_token r.stands
    where
      by_token : (b : ℕ) × (bs : List ℕ) × (more : ℕ) × (left ≡ b ∷ bs) × (found_in wide c b bs ≡ found t.token more) → (told_behind c q left).reason ≡ reason_at p.state p.track t.token
      by_token (b, bs, more, e, f) =
          ap (λ cs. (told_behind c q cs).reason) e ∙ ap (λ g. (told_found q g).reason) f ∙ ap (λ (o : Reached). reason_at o.state o.track t.token) r.reached

  pub reason_told : (text : List ℕ) (start rest : List Placed) (at : ℕ) → cut_in wide c text ≡ tokens (start ++ rest) → begins_at (length text) rest ≡ at → (tell c text at).reason ≡ reason_in (run nothing_reached (tokens_of start)) (tokens_of rest)
  reason_told text start rest at e there =
      reason_there (reach c at 0 nothing_reached text) (run nothing_reached (tokens_of start)) (drop at text) rest (walk (is_cut text 0 0 (start ++ rest) e) (length text) at nothing_reached start rest refl (omega (arith, there)) (omega arith))
