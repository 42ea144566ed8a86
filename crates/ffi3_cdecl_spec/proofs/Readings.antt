-- Every text has one reading, and it is computed.
use Rattle.std.proofs.Common.{◌≡◌, ℕ, Bool, true, false, List, [], ◌∷◌, ◌++◌, length, Option, Some, None, ap, sym, subst, refl, ◌∙◌, true≢false}
use Rattle.ffi3_cdecl_spec.specs.Tokens.{Dialect, plain, wide, Sign, signed, Token, Placed, Cut, tokens, bad_at, cut_in}
use Rattle.ffi3_cdecl_spec.specs.Grammar.{Declaration, IsDeclarationIn}
use Rattle.ffi3_cdecl_spec.specs.Machine.{State, step, after, finish, begun, is_dead, first_dead, with_signature, with_number, with_end, with_cut, read_in, read}
use Rattle.ffi3_cdecl_spec.specs.Reading.{IsViableIn, IsNotExpected, IsUnexpected, tokens_of, begins_at, first_too_great, Outcome, unexpected, IsReadingIn, IsReading, has_bad_token, has_unexpected, has_bad_number, is_read, has_bad_signature}
use Rattle.ffi3_type_spec.specs.Signature.{SignatureFault, for_calls}
use Rattle.ffi3_type_spec.specs.FirstFault.{first_signature_fault}
use Rattle.ffi3_type_spec.proofs.FirstSignatureFaults.{SignatureAnswers, signature_answers, signature_none_found, signature_found_by_first}
use Rattle.ffi3_cdecl_spec.specs.Laws.{LawsOf, DeclarationLaws}
use Rattle.ffi3_cdecl_spec.proofs.Never.{none_some}
use Rattle.ffi3_cdecl_spec.proofs.Completes.{accepted}
use Rattle.ffi3_cdecl_spec.proofs.PlainSound.{some_same}
use Rattle.ffi3_cdecl_spec.proofs.Sound.{declaration_of}
use Rattle.ffi3_cdecl_spec.proofs.OnePass.{one_pass_in}
use Rattle.ffi3_cdecl_spec.proofs.SpokenTexts.{text_reads}
use Rattle.ffi3_cdecl_spec.proofs.Widened.{widened}
use Rattle.ffi3_cdecl_spec.proofs.Ways.{after-append, Completion, completion, live, stays_dead, is_dead_state, live_before}

module _ (r : Dialect) (g : Sign) where
  pub one_declaration : (ts : List Token) (d e : Declaration) → IsDeclarationIn r ts d → IsDeclarationIn r ts e → d ≡ e
  one_declaration ts d e p q = some_same (sym (accepted r p) ∙ accepted r q)

  -- ---- beginnings

  pub viable_lives : (start : List Token) → IsViableIn r start → is_dead (after r begun start) ≡ false
  viable_lives start v =
      live r (after r begun start) v.0 v.1 (subst (λ s. finish s ≡ Some v.1) (after-append r begun start v.0) (accepted r v.2))

  pub lives_viable : (start : List Token) → is_dead (after r begun start) ≡ false → IsViableIn r start
  lives_viable start e =
      let c : Completion r (after r begun start) = completion r (after r begun start) e in
      (c.0, c.1, declaration_of r c.1 (start ++ c.0) (subst (λ s. finish s ≡ Some c.1) (sym (after-append r begun start c.0)) c.2))

  -- a state in which the tokens after it stop
  abbrev Stops : State → List Token → Type 0
  Stops s [] = finish s ≡ None
  Stops s (x ∷ xs) = is_dead (step r s x) ≡ true

  stops_unexpected : (start rest : List Token) → Stops (after r begun start) rest → IsNotExpected r start rest
  stops_unexpected start [] e = λ d p. none_some (sym e ∙ accepted r p)
  stops_unexpected start (x ∷ xs) e =
      λ v. true≢false (sym e ∙ ap is_dead (sym (after-append r begun start (x ∷ []))) ∙ viable_lives (start ++ x ∷ []) v)

  finish_none : (ts : List Token) (o : Option Declaration) → finish (after r begun ts) ≡ o → ((d : Declaration) → ¬ IsDeclarationIn r ts d) → o ≡ None
  finish_none ts None e isnt = refl
  finish_none ts (Some d) e isnt = absurd (isnt d (declaration_of r d ts e))

  dead_step : (start : List Token) (x : Token) (b : Bool) → is_dead (step r (after r begun start) x) ≡ b → ¬ IsViableIn r (start ++ x ∷ []) → b ≡ true
  dead_step start x true e isnt = refl
  dead_step start x false e isnt =
      absurd (isnt (lives_viable (start ++ x ∷ []) (ap is_dead (after-append r begun start (x ∷ [])) ∙ e)))

  unexpected_stops : (start rest : List Token) → IsNotExpected r start rest → Stops (after r begun start) rest
  unexpected_stops start [] isnt = finish_none start (finish (after r begun start)) refl isnt
  unexpected_stops start (x ∷ xs) isnt =
      dead_step start x (is_dead (step r (after r begun start) x)) refl isnt

  -- ---- where the machine stops

  pub record Split (end : ℕ) (s : State) (ps : List Placed) : Type 0 where
    pub front : List Placed
    pub rest : List Placed
    pub joined : ps ≡ front ++ rest
    pub alive : is_dead (after r s (tokens_of front)) ≡ false
    pub stops : Stops (after r s (tokens_of front)) (tokens_of rest)
    pub there : first_dead r end s ps ≡ begins_at end rest

  split : (end : ℕ) (s : State) (ps : List Placed) → is_dead s ≡ false → finish (after r s (tokens_of ps)) ≡ None → Split end s ps
  split end s [] a h =
      record { front = []; rest = []; joined = refl; alive = a; stops = h; there = refl }
  split end s (p ∷ ps) a h =
      split_at (is_dead (step r s p.token)) refl (λ e. split end (step r s p.token) ps e h)
    where
      split_at : (b : Bool) → is_dead (step r s p.token) ≡ b → (is_dead (step r s p.token) ≡ false → Split end (step r s p.token) ps) → Split end s (p ∷ ps)
      split_at true e more =
          record { front = []; rest = p ∷ ps; joined = refl; alive = a; stops = e; there = rw e refl }
      split_at false e more =
          let m : Split end (step r s p.token) ps = more e in
          record { front = p ∷ m.front; rest = m.rest; joined = ap (λ qs. p ∷ qs) m.joined; alive = m.alive; stops = m.stops; there = rw e m.there }

  tokens_of-append : (ps qs : List Placed) → tokens_of (ps ++ qs) ≡ tokens_of ps ++ tokens_of qs
  tokens_of-append [] qs = refl
  tokens_of-append (p ∷ ps) qs = ap (λ ts. p.token ∷ ts) (tokens_of-append ps qs)

  -- ---- a reading is computed

  read_signature : (text : List ℕ) (ps : List Placed) (d : Declaration) → cut_in r g text ≡ tokens ps → IsDeclarationIn r (tokens_of ps) d → first_too_great ps ≡ None → (f : Option SignatureFault) → SignatureAnswers for_calls d.signature f → IsReadingIn r g text (with_signature d f)
  read_signature text ps d e p none None right = is_read e p none right
  read_signature text ps d e p none (Some f) first = has_bad_signature e p none first

  read_end : (text : List ℕ) (ps : List Placed) (o : Option Declaration) → cut_in r g text ≡ tokens ps → finish (after r begun (tokens_of ps)) ≡ o → IsReadingIn r g text (with_end r (length text) ps o)
  read_end text ps (Some d) e h =
      read_number (first_too_great ps) refl
    where
      read_number : (n : Option ℕ) → first_too_great ps ≡ n → IsReadingIn r g text (with_number d n)
      read_number None f =
          read_signature text ps d e (declaration_of r d (tokens_of ps) h) f (first_signature_fault d.signature) (signature_answers for_calls d.signature)
      read_number (Some at) f =
          has_bad_number e (declaration_of r d (tokens_of ps) h) f
  read_end text ps None e h =
      let m : Split (length text) begun ps = split (length text) begun ps refl h in
      subst (λ at. IsReadingIn r g text (unexpected at)) (sym m.there) (has_unexpected m.front m.rest (e ∙ ap tokens m.joined) (record { viable = lives_viable (tokens_of m.front) m.alive; not_expected = stops_unexpected (tokens_of m.front) (tokens_of m.rest) m.stops }))

  read_cut : (text : List ℕ) (c : Cut) → cut_in r g text ≡ c → IsReadingIn r g text (with_cut r (length text) c)
  read_cut text (bad_at at) e = has_bad_token e
  read_cut text (tokens ps) e =
      read_end text ps (finish (after r begun (tokens_of ps))) e refl

  pub reading_in : (text : List ℕ) → IsReadingIn r g text (read_in r g text)
  reading_in text = read_cut text (cut_in r g text) refl

  -- ---- and there is no other

  stops_there : (end : ℕ) (s : State) (rest : List Placed) → Stops s (tokens_of rest) → first_dead r end s rest ≡ begins_at end rest
  stops_there end s [] h = refl
  stops_there end s (p ∷ ps) h = rw h refl

  first_there : (end : ℕ) (s : State) (start rest : List Placed) → is_dead (after r s (tokens_of start)) ≡ false → Stops (after r s (tokens_of start)) (tokens_of rest) → first_dead r end s (start ++ rest) ≡ begins_at end rest
  first_there end s [] rest a h = stops_there end s rest h
  first_there end s (p ∷ ps) rest a h =
      rw (live_before r (step r s p.token) (tokens_of ps) a) (first_there end (step r s p.token) ps rest a h)

  stops_none : (s : State) (rest : List Token) → Stops s rest → finish (after r s rest) ≡ None
  stops_none s [] h = h
  stops_none s (x ∷ xs) h =
      ap (λ t. finish (after r t xs)) (is_dead_state (step r s x) h) ∙ ap finish (stays_dead r xs)

  unexpected_is_read : (text : List ℕ) (start rest : List Placed) → cut_in r g text ≡ tokens (start ++ rest) → IsUnexpected r (tokens_of start) (tokens_of rest) → unexpected (begins_at (length text) rest) ≡ read_in r g text
  unexpected_is_read text start rest e u =
      let s : State = after r begun (tokens_of start) in
      let h : Stops s (tokens_of rest) = unexpected_stops (tokens_of start) (tokens_of rest) u.not_expected in
      let not_accepted : finish (after r begun (tokens_of (start ++ rest))) ≡ None = ap (λ ts. finish (after r begun ts)) (tokens_of-append start rest) ∙ ap finish (after-append r begun (tokens_of start) (tokens_of rest)) ∙ stops_none s (tokens_of rest) h in
      let there : first_dead r (length text) begun (start ++ rest) ≡ begins_at (length text) rest = first_there (length text) begun start rest (viable_lives (tokens_of start) u.viable) h in
      sym (ap (λ c. with_cut r (length text) c) e ∙ ap (λ o. with_end r (length text) (start ++ rest) o) not_accepted ∙ ap unexpected there)

  number_is_read : (text : List ℕ) (ps : List Placed) (d : Declaration) (n : Option ℕ) → cut_in r g text ≡ tokens ps → IsDeclarationIn r (tokens_of ps) d → first_too_great ps ≡ n → with_number d n ≡ read_in r g text
  number_is_read text ps d n e p f =
      sym (ap (λ c. with_cut r (length text) c) e ∙ ap (λ o. with_end r (length text) ps o) (accepted r p) ∙ ap (λ n. with_number d n) f)

  pub one_reading_in : (text : List ℕ) (o : Outcome) → IsReadingIn r g text o → o ≡ read_in r g text
  one_reading_in text _ (has_bad_token e) =
      sym (ap (λ c. with_cut r (length text) c) e)
  one_reading_in text _ (has_unexpected start rest e u) =
      unexpected_is_read text start rest e u
  one_reading_in text _ (has_bad_number {ps = ps} {at = at} {d = d} e p f) =
      number_is_read text ps d (Some at) e p f
  one_reading_in text _ (is_read {ps = ps} {d = d} e p f right) =
      ap (λ o. with_signature d o) (sym (signature_none_found d.signature right)) ∙ number_is_read text ps d None e p f
  one_reading_in text _ (has_bad_signature {ps = ps} {d = d} {f = fault} e p f first) =
      ap (λ o. with_signature d o) (sym (signature_found_by_first d.signature fault first)) ∙ number_is_read text ps d None e p f

pub reading : (text : List ℕ) → IsReading text (read text)
reading text = reading_in plain signed text

pub one_reading : (text : List ℕ) (o : Outcome) → IsReading text o → o ≡ read text
one_reading text o is = one_reading_in plain signed text o is

laws_of : (r : Dialect) → LawsOf r
laws_of r =
    record { accepted = λ ts d. (λ p. accepted r p, declaration_of r d ts); one_declaration = one_declaration r signed; completion = completion r; viable = λ start. (viable_lives r signed start, lives_viable r signed start); reading = reading_in r; one_reading = one_reading_in r; one_pass = one_pass_in r }

pub declaration_laws : DeclarationLaws
declaration_laws =
    record { plain_laws = laws_of plain; wide_laws = laws_of wide; written = text_reads; widened = widened }
