-- Bytes that a source gives, one piece after another.
use Rattle.std.proofs.Common.{◌≡◌, ◌≤◌, ◌+◌, ◌-◌, ℕ, List, [], ◌++◌, take, drop, length, Option, Some, sym, ◌∙◌, ap, arith, append_assoc, append-nil, refl}
use Rattle.std.proofs.lemmas.List.{take-append-drop, length-take-le, take_at, drop_at, take_all, drop_all, drop-drop}
use Rattle.ffi3_io_spec.specs.Source.{Gives, GivesFirst, LosesSome}

pub Gives-none : (a : Option (List ℕ)) → Gives a [] a
Gives-none a = λ all is. (all, is, refl)

pub Gives-then : (a b c : Option (List ℕ)) (x y : List ℕ) → Gives a x b → Gives b y c → Gives a (x ++ y) c
Gives-then a b c x y first second = λ all is.
    let f = first all is in
    let s = second f.0 f.1 in
    (s.0, s.1, f.2 ∙ ap (λ (l : List ℕ). x ++ l) s.2 ∙ sym (append_assoc x y s.0))

-- as many bytes as the limit
pub GivesFirst-full : (n : ℕ) (a b : Option (List ℕ)) (x : List ℕ) → length x ≡ n → Gives a x b → GivesFirst n a x b
GivesFirst-full n a b x e h = λ all is.
    let f = h all is in
    (sym (ap (take n) f.2 ∙ take_at x f.0 n e), f.1 ∙ ap Some (sym (ap (drop n) f.2 ∙ drop_at x f.0 n e)))

-- all bytes, where no more than the limit were left
pub GivesFirst-all : (n : ℕ) (a b : Option (List ℕ)) (x : List ℕ) → length x ≤ n → Gives a x b → ((rest : List ℕ) → b ≡ Some rest → rest ≡ []) → GivesFirst n a x b
GivesFirst-all n a b x le h ends = λ all is.
    let f = h all is in
    let none : f.0 ≡ [] = ends f.0 f.1 in
    let same : all ≡ x = f.2 ∙ ap (λ (l : List ℕ). x ++ l) none ∙ append-nil x in
    (sym (ap (take n) same ∙ take_all n x le), f.1 ∙ ap Some (none ∙ sym (ap (drop n) same ∙ drop_all n x le)))

-- some bytes given, and then some lost
pub LosesSome-then : (n k : ℕ) (a b c : Option (List ℕ)) (x : List ℕ) → length x ≤ n → k ≤ n - length x → Gives a x b → LosesSome k b c → LosesSome n a c
LosesSome-then n k a b c x le fits h lost = (
  length x + lost.0,
  omega (arith, lost.1),
  λ all is.
      let f = h all is in
      lost.2 f.0 f.1 ∙ ap Some (sym (ap (drop (length x + lost.0)) f.2 ∙ (sym (drop-drop lost.0 (length x) (x ++ f.0)) ∙ ap (drop lost.0) (drop_at x f.0 (length x) refl)))),
)

-- the first bytes of what is left stand at the start of the buffer, and the others are left
pub Gives-front : (n : ℕ) (xs rest new old : List ℕ) → n ≤ length xs → rest ≡ drop n xs → new ≡ take n xs ++ drop n old → Gives (Some xs) (take n new) (Some rest)
Gives-front n xs rest new old le left is = λ all whole.
    let e : length (take n xs) ≡ n = length-take-le n xs le in
    let front : take n new ≡ take n xs = ap (take n) is ∙ take_at (take n xs) (drop n old) n e in
    let split : xs ≡ take n new ++ rest = sym (ap (λ (l : List ℕ). l ++ rest) front ∙ ap (λ (l : List ℕ). take n xs ++ l) left ∙ take-append-drop n xs) in
    let same : all ≡ xs = cc in
    (rest, refl, same ∙ split)
