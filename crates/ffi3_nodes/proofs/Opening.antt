-- The list of what is open, whose last item is the innermost.
use Rattle.std.proofs.Common.{◌≡◌, ℕ, zero, suc, ◌-◌, ◌<◌, List, [], ◌∷◌, ◌++◌, length, reverse, ap, sym, ◌∙◌, refl, arith}
use Rattle.std.proofs.lemmas.List.{reverse-append}
use Rattle.ffi3_nodes.specs.Faults.{closed}

pub last_first : {A : Type 0} (xs all : List A) (x : A) → all ≡ xs ++ x ∷ [] → reverse all ≡ x ∷ reverse xs
last_first xs all x e = ap reverse e ∙ reverse-append xs (x ∷ [])

stays_if : (k : ℕ) (ks : List ℕ) → 0 < k → closed (k ∷ ks) ≡ k ∷ ks
stays_if zero ks h = absurd (omega arith)
stays_if (suc k) ks h = refl

pub none_open : (old new : List ℕ) → length old ≡ 0 → new ≡ old → reverse new ≡ closed (reverse old)
none_open [] new e is = ap reverse is
none_open (k ∷ ks) new e is = absurd (omega (arith, e))
