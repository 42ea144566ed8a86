-- What follows a word that attributes, or a name for the assembler, follow.
use Rattle.std.proofs.Common.{◌≡◌, ℕ, ◌+◌, Bool, true, false, cond, List, length, drop, take, ap, sym, refl, ◌∙◌, Option, Some, None}
use Rattle.ffi3_cdecl_spec.specs.Tokens.{Found, skipped, nothing_known, found, attribute_word, front, is_blank, begins_with, unquoted, bracket_length, are_silent, begins_string, with_bracket, attribute_at}

abbrev blanks : List ℕ → ℕ
blanks bs = length (front is_blank bs)

-- by whether a bracket follows the blanks
abbrev by_open : Bool → (List ℕ → Bool) → ℕ → ℕ → List ℕ → Option ℕ → Found
by_open t silent more k cs o =
    cond t (with_bracket silent (more + k) cs o) (found attribute_word more)

behind_blanks : (silent : List ℕ → Bool) (more k : ℕ) (bs cs : List ℕ) (t : Bool) (o : Option ℕ) → k ≡ blanks bs → cs ≡ drop k bs → t ≡ begins_with 40 cs → o ≡ bracket_length unquoted 0 cs → by_open t silent more k cs o ≡ attribute_at silent more bs
behind_blanks silent more k bs cs t o ek ec et eo =
    let e : cs ≡ drop (blanks bs) bs = ec ∙ ap (λ j. drop j bs) ek in
    ap (λ u. by_open u silent more k cs o) et ∙ ap (λ p. by_open (begins_with 40 cs) silent more k cs p) eo ∙ ap (λ ds. by_open (begins_with 40 ds) silent more k ds (bracket_length unquoted 0 ds)) e ∙ ap (λ j. by_open (begins_with 40 (drop (blanks bs) bs)) silent more j (drop (blanks bs) bs) (bracket_length unquoted 0 (drop (blanks bs) bs))) ek

pub no_bracket : (silent : List ℕ → Bool) (more k : ℕ) (bs cs : List ℕ) (t : Bool) → k ≡ blanks bs → cs ≡ drop k bs → t ≡ begins_with 40 cs → t ≡ false → found attribute_word more ≡ attribute_at silent more bs
no_bracket silent more k bs cs t ek ec et none =
    ap (λ u. by_open u silent more k cs (bracket_length unquoted 0 cs)) (sym none) ∙ behind_blanks silent more k bs cs t (bracket_length unquoted 0 cs) ek ec et refl

pub bracket_open : (silent : List ℕ → Bool) (more k : ℕ) (bs cs : List ℕ) (t : Bool) (o : Option ℕ) → k ≡ blanks bs → cs ≡ drop k bs → t ≡ begins_with 40 cs → t ≡ true → o ≡ bracket_length unquoted 0 cs → o ≡ None → nothing_known ≡ attribute_at silent more bs
bracket_open silent more k bs cs t o ek ec et there eo is =
    ap (λ p. with_bracket silent (more + k) cs p) (sym is) ∙ ap (λ u. by_open u silent more k cs o) (sym there) ∙ behind_blanks silent more k bs cs t o ek ec et eo

with_end : (silent : List ℕ → Bool) (more k n : ℕ) (bs cs : List ℕ) (t : Bool) (o : Option ℕ) → k ≡ blanks bs → cs ≡ drop k bs → t ≡ begins_with 40 cs → t ≡ true → o ≡ bracket_length unquoted 0 cs → o ≡ Some n → with_bracket silent (more + k) cs (Some n) ≡ attribute_at silent more bs
with_end silent more k n bs cs t o ek ec et there eo is =
    ap (λ p. with_bracket silent (more + k) cs p) (sym is) ∙ ap (λ u. by_open u silent more k cs o) (sym there) ∙ behind_blanks silent more k bs cs t o ek ec et eo

closed_by : (silent : List ℕ → Bool) (more k n : ℕ) (bs cs ds : List ℕ) (t s : Bool) (o : Option ℕ) (f : Found) → k ≡ blanks bs → cs ≡ drop k bs → t ≡ begins_with 40 cs → t ≡ true → o ≡ bracket_length unquoted 0 cs → o ≡ Some n → ds ≡ take n cs → s ≡ silent ds → f ≡ cond s (skipped (more + k + n)) (found attribute_word (more + k + n)) → f ≡ attribute_at silent more bs
closed_by silent more k n bs cs ds t s o f ek ec et there eo is ed es ef =
    ef ∙ ap (λ u. cond u (skipped (more + k + n)) (found attribute_word (more + k + n))) (es ∙ ap silent ed) ∙ with_end silent more k n bs cs t o ek ec et there eo is

pub bracket_closed : (more k n : ℕ) (bs cs ds : List ℕ) (t s : Bool) (o : Option ℕ) (f : Found) → k ≡ blanks bs → cs ≡ drop k bs → t ≡ begins_with 40 cs → t ≡ true → o ≡ bracket_length unquoted 0 cs → o ≡ Some n → ds ≡ take n cs → s ≡ are_silent ds → f ≡ cond s (skipped (more + k + n)) (found attribute_word (more + k + n)) → f ≡ attribute_at are_silent more bs
bracket_closed more k n bs cs ds t s o f ek ec et there eo is ed es ef =
    closed_by are_silent more k n bs cs ds t s o f ek ec et there eo is ed es ef

pub bracket_of_string : (more k n : ℕ) (bs cs ds : List ℕ) (t s : Bool) (o : Option ℕ) (f : Found) → k ≡ blanks bs → cs ≡ drop k bs → t ≡ begins_with 40 cs → t ≡ true → o ≡ bracket_length unquoted 0 cs → o ≡ Some n → ds ≡ take n cs → s ≡ begins_string ds → f ≡ cond s (skipped (more + k + n)) (found attribute_word (more + k + n)) → f ≡ attribute_at begins_string more bs
bracket_of_string more k n bs cs ds t s o f ek ec et there eo is ed es ef =
    closed_by begins_string more k n bs cs ds t s o f ek ec et there eo is ed es ef
