-- Rows of one kind, one after another, on AMD64.
use Rattle.std.proofs.Common.{◌≡◌, ◌≢◌, ℕ, suc, ◌+◌, ◌*◌, ◌<◌, ◌≤◌, Bool, true, false, List, [], ◌∷◌, ◌++◌, length, get_or, set, refl, sym, ap, ◌∙◌, arith, length-set, length-append}
use Rattle.std.proofs.lemmas.Bool.Decides.{nat_tests}
use Rattle.std.proofs.lemmas.List.{get_or-set_other}
use Rattle.std.specs.Prelude.{◌&&◌, ◌==◌, not, nat_lt, slice_index}
use Rattle.ffi3_machine_spec.specs.Memory.{number_of}
use Rattle.ffi3_type_spec.specs.declared.Isa.TheVariants.{Amd64}
use Rattle.ffi3_type_spec.specs.declared.limits.TheConstants.{STACK, STACK_TOP}
use Rattle.ffi3_place_spec.specs.declared.Loc.{Loc}
use Rattle.ffi3_place_spec.specs.declared.Loc.TheVariants.{G, F, S}
use Rattle.ffi3_machine_spec.specs.declared.stub.TheConstants.{EXCHANGE}
use Rattle.ffi3_machine_spec.specs.State.{State, x_of, stack_at}
use Rattle.ffi3_machine_spec.specs.Stubs.{load, store, amd64_row, bytes_of, exchange_loads, exchange_stores, area_loads, area_stores}
use Rattle.ffi3_machine.specs.MachineStep.{StepsBy}
use Rattle.ffi3_stubs.specs.Effects.{received, exchanged, saved, from_exchange, to_exchange, from_area, to_area}
use Rattle.ffi3_stubs.proofs.Standing.{Stands, onward, TakesBy, one_step, none_taken, and_then}
use Rattle.ffi3_stubs.proofs.Places.{load_exchange, load_stack}
use Rattle.ffi3_stubs.proofs.Amd64Rows.{load_general_row, load_floating_row, load_area_row, store_general_row, store_floating_row, store_area_row}

-- ---- tests of the tables

-- a general register that is neither sp nor the one that holds the exchange region's address
unfoldable pub is_plain : ℕ → Bool
is_plain k = nat_lt k 16 && (not (k == 4) && not (k == 11))

-- registers that are moved to and from the exchange region
unfoldable pub are_moved : List Loc → Bool
are_moved [] = true
are_moved (G k ∷ ls) = is_plain k && are_moved ls
are_moved (F k ∷ ls) = nat_lt k 8 && are_moved ls
are_moved (S k w ∷ ls) = false

-- registers that are moved to and from the save area
unfoldable pub are_saved : List Loc → Bool
are_saved [] = true
are_saved (G k ∷ ls) = is_plain k && are_saved ls
are_saved (F k ∷ ls) = false
are_saved (S k w ∷ ls) = false

both : (a b : Bool) → (a && b) ≡ true → (a ≡ true) × (b ≡ true)
both true b h = (refl, h)
both false b h = absurd cc

below : (k n : ℕ) → nat_lt k n ≡ true → k < n
below k n h = grind (arith, nat_tests)

other : (k n : ℕ) → not (k == n) ≡ true → k ≢ n
other k n h e = grind (arith, nat_tests)

pub record IsPlain (k : ℕ) : Type 0 where
  pub in_range : k < 16
  pub not_sp : k ≢ 4
  pub not_base : k ≢ 11

plain_by : (k : ℕ) → is_plain k ≡ true → IsPlain k
unfolding is_plain
plain_by k h =
    let a = both (nat_lt k 16) (not (k == 4) && not (k == 11)) h in
    let b = both (not (k == 4)) (not (k == 11)) a.1 in
    record { in_range = below k 16 a.0; not_sp = other k 4 b.0; not_base = other k 11 b.1 }

-- ---- loads from the exchange region

pub record Came (s t : State) (n : ℕ) (tail : List ℕ) : Type 0 where
  pub steps : TakesBy Amd64 n s t
  pub stands : Stands Amd64 t tail
  pub base : slice_index t.general 11 ≡ EXCHANGE
  pub count : length t.general ≡ 32

-- one step, and then others
joined : (s m t : State) (n : ℕ) (tail : List ℕ) → StepsBy Amd64 s m → Came m t n tail → Came s t (suc n) tail
joined s m t n tail first rest = record {
  steps = and_then Amd64 1 n (suc n) s m t (omega arith) (one_step Amd64 s m first) rest.steps;
  stands = rest.stands;
  base = rest.base;
  count = rest.count;
}

kept_base : (general : List ℕ) (k v : ℕ) → k ≢ 11 → get_or general 11 0 ≡ EXCHANGE → get_or (set general k v) 11 0 ≡ EXCHANGE
kept_base general k v ne h = let e : 11 ≢ k = λ x. ne (sym x) in get_or-set_other general k 11 v 0 e ∙ h

pub exchange_loaded : (ls : List Loc) (s : State) (tail : List ℕ) → are_moved ls ≡ true → slice_index s.general 11 ≡ EXCHANGE → length s.general ≡ 32 → Stands Amd64 s (bytes_of Amd64 s.pc (exchange_loads 11 ls) ++ tail) → Came s (from_exchange Amd64 11 ls s) (length ls) tail
unfolding are_moved
exchange_loaded [] s tail ok base count h = record { steps = none_taken Amd64 s; stands = h; base = base; count = count }
exchange_loaded (G k ∷ ls) s tail ok base count h =
    let parts = both (is_plain k) (are_moved ls) ok in
    let plain = plain_by k parts.0 in
    let small : k < 16 = plain.in_range in
    let v : ℕ = x_of (8 * k) s in
    let m : State = received 7 (G k) v s in
    let rest : List ℕ = bytes_of Amd64 (s.pc + 7) (exchange_loads 11 ls) ++ tail in
    let at : slice_index s.general 11 + 8 * k ≡ EXCHANGE + 8 * k = ap (λ b. b + 8 * k) base in
    let step : StepsBy Amd64 s m = load_general_row s k (8 * k) (EXCHANGE + 8 * k) v rest plain.in_range plain.not_sp (omega arith) h at (omega arith) (load_exchange Amd64 s (8 * k) (EXCHANGE + 8 * k) (omega arith) refl) in
    joined s m _ (length ls) tail step (exchange_loaded ls m tail parts.1 (kept_base s.general k v plain.not_base base) (length-set s.general k v ∙ count) (onward Amd64 s m (amd64_row s.pc (load (G k) 11 (8 * k))) rest 7 refl refl (length-append (amd64_row s.pc (load (G k) 11 (8 * k))) rest) h))
exchange_loaded (F k ∷ ls) s tail ok base count h =
    let parts = both (nat_lt k 8) (are_moved ls) ok in
    let small : k < 8 = below k 8 parts.0 in
    let v : ℕ = x_of (256 + 8 * k) s in
    let m : State = received 9 (F k) v s in
    let rest : List ℕ = bytes_of Amd64 (s.pc + 9) (exchange_loads 11 ls) ++ tail in
    let at : slice_index s.general 11 + (256 + 8 * k) ≡ EXCHANGE + (256 + 8 * k) = ap (λ b. b + (256 + 8 * k)) base in
    let step : StepsBy Amd64 s m = load_floating_row s k (256 + 8 * k) (EXCHANGE + (256 + 8 * k)) v rest small (omega arith) h at (omega arith) (load_exchange Amd64 s (256 + 8 * k) (EXCHANGE + (256 + 8 * k)) (omega arith) refl) in
    joined s m _ (length ls) tail step (exchange_loaded ls m tail parts.1 base count (onward Amd64 s m (amd64_row s.pc (load (F k) 11 (256 + 8 * k))) rest 9 refl refl (length-append (amd64_row s.pc (load (F k) 11 (256 + 8 * k))) rest) h))
exchange_loaded (S k w ∷ ls) s tail ok base count h = absurd cc

-- ---- stores to it

pub exchange_stored : (ls : List Loc) (s : State) (tail : List ℕ) → are_moved ls ≡ true → slice_index s.general 11 ≡ EXCHANGE → length s.general ≡ 32 → Stands Amd64 s (bytes_of Amd64 s.pc (exchange_stores 11 ls) ++ tail) → Came s (to_exchange Amd64 11 ls s) (length ls) tail
unfolding are_moved
exchange_stored [] s tail ok base count h = record { steps = none_taken Amd64 s; stands = h; base = base; count = count }
exchange_stored (G k ∷ ls) s tail ok base count h =
    let parts = both (is_plain k) (are_moved ls) ok in
    let plain = plain_by k parts.0 in
    let small : k < 16 = plain.in_range in
    let m : State = exchanged 7 (8 * k) (slice_index s.general k) s in
    let rest : List ℕ = bytes_of Amd64 (s.pc + 7) (exchange_stores 11 ls) ++ tail in
    let step : StepsBy Amd64 s m = store_general_row s k (8 * k) (EXCHANGE + 8 * k) rest plain.in_range plain.not_sp (omega arith) h base refl in
    joined s m _ (length ls) tail step (exchange_stored ls m tail parts.1 base count (onward Amd64 s m (amd64_row s.pc (store (G k) 11 (8 * k))) rest 7 refl refl (length-append (amd64_row s.pc (store (G k) 11 (8 * k))) rest) h))
exchange_stored (F k ∷ ls) s tail ok base count h =
    let parts = both (nat_lt k 8) (are_moved ls) ok in
    let small : k < 8 = below k 8 parts.0 in
    let m : State = exchanged 9 (256 + 8 * k) (slice_index s.floating k) s in
    let rest : List ℕ = bytes_of Amd64 (s.pc + 9) (exchange_stores 11 ls) ++ tail in
    let step : StepsBy Amd64 s m = store_floating_row s k (256 + 8 * k) (EXCHANGE + (256 + 8 * k)) rest small (omega arith) h base refl in
    joined s m _ (length ls) tail step (exchange_stored ls m tail parts.1 base count (onward Amd64 s m (amd64_row s.pc (store (F k) 11 (256 + 8 * k))) rest 9 refl refl (length-append (amd64_row s.pc (store (F k) 11 (256 + 8 * k))) rest) h))
exchange_stored (S k w ∷ ls) s tail ok base count h = absurd cc

-- ---- loads from the save area, and stores to it

pub record Went (s t : State) (n : ℕ) (tail : List ℕ) : Type 0 where
  pub steps : TakesBy Amd64 n s t
  pub stands : Stands Amd64 t tail

joined_area : (s m t : State) (n : ℕ) (tail : List ℕ) → StepsBy Amd64 s m → Went m t n tail → Went s t (suc n) tail
joined_area s m t n tail first rest = record {
  steps = and_then Amd64 1 n (suc n) s m t (omega arith) (one_step Amd64 s m first) rest.steps;
  stands = rest.stands;
}

pub area_loaded : (ls : List Loc) (s : State) (at : ℕ) (tail : List ℕ) → are_saved ls ≡ true → STACK ≤ s.sp → s.sp + at + 8 * length ls ≤ STACK_TOP → slice_index s.general 11 ≡ EXCHANGE → length s.general ≡ 32 → Stands Amd64 s (bytes_of Amd64 s.pc (area_loads 4 at ls) ++ tail) → Came s (from_area Amd64 at ls s) (length ls) tail
unfolding are_saved
area_loaded [] s at tail ok low high base count h = record { steps = none_taken Amd64 s; stands = h; base = base; count = count }
area_loaded (G k ∷ ls) s at tail ok low high base count h =
    let parts = both (is_plain k) (are_saved ls) ok in
    let plain = plain_by k parts.0 in
    let v : ℕ = number_of 8 (stack_at (s.sp + at) 8 s) in
    let m : State = received 8 (G k) v s in
    let rest : List ℕ = bytes_of Amd64 (s.pc + 8) (area_loads 4 (at + 8) ls) ++ tail in
    let step : StepsBy Amd64 s m = load_area_row s k at (s.sp + at) v rest plain.in_range plain.not_sp (omega arith) h refl (omega arith) (load_stack Amd64 s (s.sp + at) (omega arith) (omega arith)) in
    joined s m _ (length ls) tail step (area_loaded ls m (at + 8) tail parts.1 low (omega arith) (kept_base s.general k v plain.not_base base) (length-set s.general k v ∙ count) (onward Amd64 s m (amd64_row s.pc (load (G k) 4 at)) rest 8 refl refl (length-append (amd64_row s.pc (load (G k) 4 at)) rest) h))
area_loaded (F k ∷ ls) s at tail ok low high base count h = absurd cc
area_loaded (S k w ∷ ls) s at tail ok low high base count h = absurd cc

pub area_stored : (ls : List Loc) (s : State) (at : ℕ) (tail : List ℕ) → are_saved ls ≡ true → STACK ≤ s.sp → s.sp + at + 8 * length ls ≤ STACK_TOP → Stands Amd64 s (bytes_of Amd64 s.pc (area_stores 4 at ls) ++ tail) → Went s (to_area Amd64 at ls s) (length ls) tail
unfolding are_saved
area_stored [] s at tail ok low high h = record { steps = none_taken Amd64 s; stands = h }
area_stored (G k ∷ ls) s at tail ok low high h =
    let parts = both (is_plain k) (are_saved ls) ok in
    let plain = plain_by k parts.0 in
    let m : State = saved 8 (s.sp + at) (slice_index s.general k) s in
    let rest : List ℕ = bytes_of Amd64 (s.pc + 8) (area_stores 4 (at + 8) ls) ++ tail in
    let step : StepsBy Amd64 s m = store_area_row s k at (s.sp + at) rest plain.in_range plain.not_sp (omega arith) h refl (omega arith) (omega arith) in
    joined_area s m _ (length ls) tail step (area_stored ls m (at + 8) tail parts.1 low (omega arith) (onward Amd64 s m (amd64_row s.pc (store (G k) 4 at)) rest 8 refl refl (length-append (amd64_row s.pc (store (G k) 4 at)) rest) h))
area_stored (F k ∷ ls) s at tail ok low high h = absurd cc
area_stored (S k w ∷ ls) s at tail ok low high h = absurd cc
