-- Pieces that a sink takes, one after another.
use Rattle.std.proofs.Common.{◌≡◌, ℕ, ◌-◌, List, [], ◌++◌, take, drop, length, Option, sym, ◌∙◌, ap, arith, append_assoc, append-nil, subst}
use Rattle.std.proofs.lemmas.Grind.{common_steps}
use Rattle.ffi3_io_spec.specs.Sink.{Adds}

pub Adds-then : (a b c : Option (List ℕ)) (x y : List ℕ) → Adds a x b → Adds b y c → Adds a (x ++ y) c
Adds-then a b c x y first second = λ all is.
    let s = second all is in
    let f = first s.0 s.1 in
    (f.0, f.1, s.2 ∙ ap (λ (l : List ℕ). l ++ y) f.2 ∙ append_assoc f.0 x y)

pub Adds-along : (a b : Option (List ℕ)) (x y : List ℕ) → x ≡ y → Adds a x b → Adds a y b
Adds-along a b x y e h = subst (λ (l : List ℕ). Adds a l b) e h

pub Adds-none : (a : Option (List ℕ)) → Adds a [] a
Adds-none a = λ all is. (all, is, sym (append-nil all))

-- the rest of a piece, as a slice of the program gives it
pub part_of_rest : (i n : ℕ) (xs : List ℕ) → take n (take (length xs - i) (drop i xs)) ≡ take n (drop i xs)
part_of_rest i n xs =
    let e : take (length xs - i) (drop i xs) ≡ drop i xs = grind (arith, common_steps) in ap (take n) e
