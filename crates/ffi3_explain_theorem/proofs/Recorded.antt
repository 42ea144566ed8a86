-- What holds of each event of a list, and of each signature.
use Rattle.std.specs.Prelude.{None}
use Rattle.std.proofs.Common.{◌≡◌, ℕ, zero, suc, ◌+◌, ◌<◌, ◌⊎◌, inl, inr, List, [], ◌∷◌, length, refl, ap, sym, subst, arith}
use Rattle.std.specs.List.{AllByRecursion}
use Rattle.ffi3_type_spec.specs.Tree.{void}
use Rattle.ffi3_type_spec.specs.declared.Role.TheVariants.{AsResult}
use Rattle.ffi3_type_spec.specs.Signature.{Signature, SignatureHasNoFault, for_calls, signature_at}
use Rattle.ffi3_type_spec.proofs.Faults.{void_faults}
use Rattle.ffi3_type_spec.proofs.Signatures.{IsSuited, right_with_no_fixed}
use Rattle.ffi3_place_spec.specs.Event.{Event}
use Rattle.ffi3_machine_spec.specs.Recorded.{event_at}
use Rattle.ffi3_explain_spec.specs.Laws.{HasWords}

below_next : (j n : ℕ) → j < n + 1 → (j < n) ⊎ (j ≡ n)
below_next zero zero h = inr refl
below_next zero (suc n) h = inl (omega arith)
below_next (suc j) zero h = absurd (omega (arith, h))
below_next (suc j) (suc n) h =
    elim (below_next j n (omega (arith, h))) [
      | inl below ↦ inl (omega (arith, below))
      | inr same ↦ inr (ap suc same)
    ]

-- what holds of all numbers below n, and of n
pub one_further : (P : ℕ → Type 0) (n : ℕ) → ((j : ℕ) → j < n → P j) → P n → (j : ℕ) → j < n + 1 → P j
one_further P n before here j h =
    elim (below_next j n h) [ inl below ↦ before j below | inr same ↦ subst P (sym same) here ]

-- ---- events

pub all_events : (events : List Event) → ((i : ℕ) → i < length events → HasWords (event_at events i).image) → AllByRecursion (λ e. HasWords e.image) events
all_events [] each = tt
all_events (e ∷ events) each = (each 0 (omega arith), all_events events (λ i h. each (suc i) (omega (arith, h))))

-- ---- signatures; past the last is one without arguments or result

void_suited : IsSuited for_calls AsResult void
void_suited = record { right = λ path f fault. let inside = (void_faults path f fault).2 in cc; plain = λ _. refl }

past_the_last : SignatureHasNoFault (record { result_type = void; arguments = []; fixed = None })
past_the_last =
    right_with_no_fixed (record { result_type = void; arguments = []; fixed = None }) (omega arith) void_suited (λ j h. absurd (omega (arith, h))) refl

pub all_signatures : (ss : List Signature) → ((k : ℕ) → k < length ss → SignatureHasNoFault (signature_at ss k)) → (k : ℕ) → SignatureHasNoFault (signature_at ss k)
all_signatures [] each k = past_the_last
all_signatures (s ∷ ss) each zero = each 0 (omega arith)
all_signatures (s ∷ ss) each (suc k) = all_signatures ss (λ j h. each (suc j) (omega (arith, h))) k
