-- What is known of the live closures, as closures are made and freed.
use Rattle.std.proofs.Common.{◌≡◌, ℕ, zero, suc, ◌<◌, ◌⊎◌, inl, inr, [], ◌∷◌, replicate, Option, Some, None, subst}
use Rattle.std.specs.Prelude.{slice_index_or, slice_set, option_and_then}
use Rattle.ffi3_semantics_spec.specs.declared.Closure.{Closure}
use Rattle.ffi3_semantics_spec.specs.Closures.{Closures, slots, slot_number, closure_at, no_closures, with_closure, freed, freed_at}
use Rattle.ffi3_semantics_spec.specs.Meaning.{Program}
use Rattle.ffi3_run_state.specs.Known.{IsKnown, AreBelow, AreKnown}

set_either : (cs : Closures) (i k : ℕ) (n c : Closure) → slice_index_or (slice_set cs i (Some n)) k None ≡ Some c → (n ≡ c) ⊎ (slice_index_or cs k None ≡ Some c)
set_either [] i k n c h = inr h
set_either (x ∷ cs) zero zero n c h = inl cc
set_either (x ∷ cs) zero (suc k) n c h = inr h
set_either (x ∷ cs) (suc i) zero n c h = inr h
set_either (x ∷ cs) (suc i) (suc k) n c h = set_either cs i k n c h

pub known_with : (p : Program) (cs : Closures) (i : ℕ) (n : Closure) → AreKnown p cs → IsKnown p n → AreKnown p (with_closure cs i (Some n))
known_with p cs i n known new = λ k c h.
    elim (set_either cs i k n c h) [
      | inl same ↦ subst (λ (x : Closure). IsKnown p x) same new
      | inr there ↦ known k c there
    ]

none_there : (n k : ℕ) (c : Closure) → slice_index_or (replicate n None) k None ≡ Some c → ⊥
none_there zero k c h = cc
none_there (suc n) zero c h = cc
none_there (suc n) (suc k) c h = none_there n k c h

pub none_known : (p : Program) → AreKnown p no_closures
none_known p = λ k c h. absurd (none_there slots k c h)

set_none : (cs : Closures) (i k : ℕ) (c : Closure) → slice_index_or (slice_set cs i None) k None ≡ Some c → slice_index_or cs k None ≡ Some c
set_none [] i k c h = h
set_none (x ∷ cs) zero zero c h = cc
set_none (x ∷ cs) zero (suc k) c h = h
set_none (x ∷ cs) (suc i) zero c h = h
set_none (x ∷ cs) (suc i) (suc k) c h = set_none cs i k c h

known_freed_at : (p : Program) (cs : Closures) (number : Option ℕ) → AreKnown p cs → AreKnown p (freed_at number cs)
known_freed_at p cs None known = known
known_freed_at p cs (Some i) known = λ k c h. known k c (set_none cs i k c h)

pub known_freed : (p : Program) (cs : Closures) (ptr : ℕ) → AreKnown p cs → AreKnown p (freed cs ptr)
known_freed p cs ptr known = known_freed_at p cs (slot_number ptr) known

-- what holds of each live closure holds of the one at an address
module _ (P : Closure → Type 0) (cs : Closures) (all : (k : ℕ) (c : Closure) → slice_index_or cs k None ≡ Some c → P c) where
  holds_in : (number : Option ℕ) (c : Closure) → option_and_then (λ k. slice_index_or cs k None) number ≡ Some c → P c
  holds_in None c h = cc
  holds_in (Some k) c h = all k c h

-- it is known
pub known_at : (p : Program) (cs : Closures) (ptr : ℕ) (c : Closure) → AreKnown p cs → closure_at cs ptr ≡ Some c → IsKnown p c
known_at p cs ptr c known h = holds_in (λ x. IsKnown p x) cs known (slot_number ptr) c h

-- and its signature is among so many
pub below_at : (count : ℕ) (cs : Closures) (ptr : ℕ) (c : Closure) → AreBelow count cs → closure_at cs ptr ≡ Some c → c.sig < count
below_at count cs ptr c below h = holds_in (λ x. x.sig < count) cs below (slot_number ptr) c h
