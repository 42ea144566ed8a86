-- The machine and what is kept beside it, over tokens; and that its state is dead where the beginning leads nowhere.
use Rattle.std.proofs.Common.{◌≡◌, ℕ, Bool, true, false, List, [], ◌∷◌, ◌++◌, refl, ap, sym, ◌∙◌, true≢false}
use Rattle.std.specs.Prelude.{⊤}
use Rattle.ffi3_type_spec.specs.Tree.{Tree}
use Rattle.ffi3_cdecl_spec.specs.Tokens.{wide, signed, Token, number}
use Rattle.ffi3_cdecl_spec.specs.Machine.{State, dead, step, after, begun, is_dead}
use Rattle.ffi3_cdecl_spec.specs.OnePass.{keeping}
use Rattle.ffi3_cdecl_spec.specs.Reading.{IsViableIn}
use Rattle.ffi3_cdecl_spec.specs.Telling.{Reached, reaching}
use Rattle.ffi3_cdecl_spec.proofs.Kept.{TakenToken, results, SameState, both_want_type, dead_same, step_same}
use Rattle.ffi3_cdecl_spec.proofs.Readings.{viable_lives, lives_viable}

-- ---- over tokens

abbrev pub keeps : State → List Token → State
keeps s [] = s
keeps s (x ∷ xs) = keeps (keeping wide s x) xs

abbrev pub run : Reached → List Token → Reached
run q [] = q
run q (x ∷ xs) = run (reaching q x) xs

pub run_state : (q : Reached) (xs : List Token) → (run q xs).state ≡ keeps q.state xs
run_state q [] = refl
run_state q (x ∷ xs) = run_state (reaching q x) xs

pub run_append : (q : Reached) (xs ys : List Token) → run q (xs ++ ys) ≡ run (run q xs) ys
run_append q [] ys = refl
run_append q (x ∷ xs) ys = run_append (reaching q x) xs ys

pub keeps_append : (s : State) (xs ys : List Token) → keeps s (xs ++ ys) ≡ keeps (keeps s xs) ys
keeps_append s [] ys = refl
keeps_append s (x ∷ xs) ys = keeps_append (keeping wide s x) xs ys

pub keeps_dead : (xs : List Token) → keeps dead xs ≡ dead
keeps_dead [] = refl
keeps_dead (x ∷ xs) = keeps_dead xs

-- ---- states that differ in types and counts alone

abbrev Any : ℕ → Type 0
Any n = ⊤

abbrev AnyTypes : Tree → Tree → Type 0
AnyTypes t u = ⊤

abbrev AnyCounts : List ℕ → List ℕ → Type 0
AnyCounts ns ms = ⊤

abbrev pub SomeStates : State → State → Type 0
SomeStates s t = SameState Any AnyTypes AnyCounts s t

any_taken : (x : Token) → TakenToken Any x
any_taken (number n) = tt
any_taken x = tt

some_step : {s t : State} → SomeStates s t → (x : Token) → SomeStates (step wide s x) (keeping wide t x)
some_step h x =
    step_same Any AnyTypes AnyCounts (λ t. tt) (λ ts us all. tt) tt (λ n ns ms taken same. tt) (λ ns ms t u c same. tt) wide h x (any_taken x)

pub some_run : (s t : State) (xs : List Token) → SomeStates s t → SomeStates (after wide s xs) (keeps t xs)
some_run s t [] h = h
some_run s t (x ∷ xs) h =
    some_run (step wide s x) (keeping wide t x) xs (some_step h x)

pub begun_same : (xs : List Token) → SomeStates (after wide begun xs) (keeps begun xs)
begun_same xs = some_run begun begun xs (both_want_type results)

pub some_dead : {s t : State} → SomeStates s t → is_dead s ≡ is_dead t
some_dead h = dead_same Any AnyTypes AnyCounts h

-- ---- beginnings

pub viable_keeps : (xs : List Token) → IsViableIn wide xs → is_dead (keeps begun xs) ≡ false
viable_keeps xs v =
    sym (some_dead (begun_same xs)) ∙ viable_lives wide signed xs v

pub keeps_viable : (xs : List Token) → is_dead (keeps begun xs) ≡ false → IsViableIn wide xs
keeps_viable xs e =
    lives_viable wide signed xs (some_dead (begun_same xs) ∙ e)

dead_by : (xs : List Token) → ¬ IsViableIn wide xs → (b : Bool) → is_dead (keeps begun xs) ≡ b → b ≡ true
dead_by xs isnt true e = refl
dead_by xs isnt false e = absurd (isnt (keeps_viable xs e))

pub not_viable_keeps : (xs : List Token) → ¬ IsViableIn wide xs → is_dead (keeps begun xs) ≡ true
not_viable_keeps xs isnt = dead_by xs isnt (is_dead (keeps begun xs)) refl

pub alive_before : (s : State) (xs : List Token) → is_dead (keeps s xs) ≡ false → is_dead s ≡ false
alive_before dead xs e =
    absurd (true≢false (ap is_dead (sym (keeps_dead xs)) ∙ e))
alive_before s xs e = refl
