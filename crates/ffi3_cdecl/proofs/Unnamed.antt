-- Where a name may be left out, and no array stands there.
use Rattle.std.proofs.Common.{◌≡◌, ℕ, ap, sym, refl, ◌∙◌, List}
use Rattle.ffi3_type_spec.specs.Tree.{Tree}
use Rattle.ffi3_cdecl_spec.specs.Grammar.{Kind, whole, bare}
use Rattle.ffi3_cdecl_spec.specs.Machine.{Round, unstarred, starred, and_more, Head, at_parameter, at_inner, Settled, a_parameter, an_inner, State, bracket_or_end, step_unnamed}
use Rattle.ffi3_cdecl.specs.TokenOf.{token_of}
use Rattle.ffi3_cdecl.specs.declared.token.Token.{Token}
use Rattle.ffi3_cdecl.specs.declared.token.Token.TheVariants.{OpenSquare}

bare_here : (n : ℕ) (u : Settled) (x : Token) → (x ≡ OpenSquare → ⊥) → bracket_or_end n (an_inner u n) (token_of x) ≡ step_unnamed bare (unstarred n) (at_inner u) (token_of x)
bare_here n u OpenSquare isnt = absurd (isnt refl)
bare_here n u x isnt = refl

pub inner_bare : (k : Kind) (o : Round) (n : ℕ) (u : Settled) (x : Token) (s : State) → k ≡ bare → o ≡ unstarred n → (x ≡ OpenSquare → ⊥) → s ≡ bracket_or_end n (an_inner u n) (token_of x) → s ≡ step_unnamed k o (at_inner u) (token_of x)
inner_bare k o n u x s ek eo isnt e =
    e ∙ bare_here n u x isnt ∙ ap (λ j. step_unnamed j (unstarred n) (at_inner u) (token_of x)) (sym ek) ∙ ap (λ p. step_unnamed k p (at_inner u) (token_of x)) (sym eo)

whole_here : (t : Tree) (n : ℕ) (u : Settled) (x : Token) → (x ≡ OpenSquare → ⊥) → bracket_or_end n (an_inner u n) (token_of x) ≡ step_unnamed (whole t) (unstarred n) (at_inner u) (token_of x)
whole_here t n u OpenSquare isnt = absurd (isnt refl)
whole_here t n u x isnt = refl

pub inner_whole : (k : Kind) (o : Round) (t : Tree) (n : ℕ) (u : Settled) (x : Token) (s : State) → k ≡ whole t → o ≡ unstarred n → (x ≡ OpenSquare → ⊥) → s ≡ bracket_or_end n (an_inner u n) (token_of x) → s ≡ step_unnamed k o (at_inner u) (token_of x)
inner_whole k o t n u x s ek eo isnt e =
    e ∙ whole_here t n u x isnt ∙ ap (λ j. step_unnamed j (unstarred n) (at_inner u) (token_of x)) (sym ek) ∙ ap (λ p. step_unnamed k p (at_inner u) (token_of x)) (sym eo)

starred_here : (k : Kind) (n m : ℕ) (u : Settled) (x : Token) → (x ≡ OpenSquare → ⊥) → bracket_or_end (and_more n m) (an_inner u (and_more n m)) (token_of x) ≡ step_unnamed k (starred n m) (at_inner u) (token_of x)
starred_here k n m u OpenSquare isnt = absurd (isnt refl)
starred_here k n m u x isnt = refl

pub inner_starred : (k : Kind) (o : Round) (n m i : ℕ) (u : Settled) (x : Token) (s : State) → i ≡ and_more n m → o ≡ starred n m → (x ≡ OpenSquare → ⊥) → s ≡ bracket_or_end i (an_inner u i) (token_of x) → s ≡ step_unnamed k o (at_inner u) (token_of x)
inner_starred k o n m i u x s ei eo isnt e =
    e ∙ ap (λ j. bracket_or_end j (an_inner u j) (token_of x)) ei ∙ starred_here k n m u x isnt ∙ ap (λ p. step_unnamed k p (at_inner u) (token_of x)) (sym eo)

starred_parameter_here : (k : Kind) (n m : ℕ) (head : Head) (ts : List Tree) (x : Token) → (x ≡ OpenSquare → ⊥) → bracket_or_end (and_more n m) (a_parameter head ts (and_more n m)) (token_of x) ≡ step_unnamed k (starred n m) (at_parameter head ts) (token_of x)
starred_parameter_here k n m head ts OpenSquare isnt = absurd (isnt refl)
starred_parameter_here k n m head ts x isnt = refl

pub parameter_starred : (k : Kind) (o : Round) (n m i : ℕ) (head : Head) (ts : List Tree) (x : Token) (s : State) → i ≡ and_more n m → o ≡ starred n m → (x ≡ OpenSquare → ⊥) → s ≡ bracket_or_end i (a_parameter head ts i) (token_of x) → s ≡ step_unnamed k o (at_parameter head ts) (token_of x)
parameter_starred k o n m i head ts x s ei eo isnt e =
    e ∙ ap (λ j. bracket_or_end j (a_parameter head ts j) (token_of x)) ei ∙ starred_parameter_here k n m head ts x isnt ∙ ap (λ p. step_unnamed k p (at_parameter head ts) (token_of x)) (sym eo)
