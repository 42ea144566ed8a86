-- Rows of one kind, one after another, where each is one instruction of four bytes.
use Rattle.std.proofs.Common.{◌≡◌, ◌≢◌, ℕ, suc, ◌+◌, ◌*◌, ◌%◌, ◌<◌, ◌≤◌, Bool, true, false, List, [], ◌∷◌, ◌++◌, length, get_or, set, refl, sym, ap, ◌∙◌, subst, arith, length-set, length-append, append_assoc}
use Rattle.std.proofs.lemmas.Bool.Decides.{nat_tests}
use Rattle.std.proofs.lemmas.List.{get_or-set_other}
use Rattle.std.specs.Prelude.{◌&&◌, ◌==◌, not, nat_lt, slice_index}
use Rattle.ffi3_machine_spec.specs.Memory.{number_of}
use Rattle.ffi3_type_spec.specs.declared.Isa.{Isa}
use Rattle.ffi3_type_spec.specs.declared.limits.TheConstants.{STACK, STACK_TOP}
use Rattle.ffi3_place_spec.specs.declared.Loc.{Loc}
use Rattle.ffi3_place_spec.specs.declared.Loc.TheVariants.{G, F, S}
use Rattle.ffi3_place_spec.specs.MachineRegisters.{stack_pointer}
use Rattle.ffi3_machine_spec.specs.declared.stub.TheConstants.{EXCHANGE}
use Rattle.ffi3_machine_spec.specs.State.{State, x_of, stack_at}
use Rattle.ffi3_machine_spec.specs.Stubs.{Row, load, store, size_of, row_bytes, bytes_of, exchanged_at, exchange_loads, exchange_stores, area_loads, area_stores}
use Rattle.ffi3_machine.specs.MachineStep.{StepsBy}
use Rattle.ffi3_stubs.specs.Effects.{held, received, exchanged, saved, from_exchange, to_exchange, from_area, to_area}
use Rattle.ffi3_stubs.proofs.Standing.{Stands, onward, TakesBy, one_step, none_taken, and_then}

-- a register below a number that is none of three, or a floating one
unfoldable pub fits : ℕ → ℕ → ℕ → ℕ → Loc → Bool
fits n a b c (G k) = nat_lt k n && (not (k == a) && (not (k == b) && not (k == c)))
fits n a b c (F k) = nat_lt k 32
fits n a b c (S k w) = false

unfoldable pub all_fit : ℕ → ℕ → ℕ → ℕ → List Loc → Bool
all_fit n a b c [] = true
all_fit n a b c (l ∷ ls) = fits n a b c l && all_fit n a b c ls

pub both : (a b : Bool) → (a && b) ≡ true → (a ≡ true) × (b ≡ true)
both true b h = (refl, h)
both false b h = absurd cc

pub under : (k n : ℕ) → nat_lt k n ≡ true → k < n
under k n h = grind (arith, nat_tests)

pub other : (k n : ℕ) → not (k == n) ≡ true → k ≢ n
other k n h e = grind (arith, nat_tests)

-- What an instruction set's rows do; `n`, `a` and `c` say which registers may be named, `b` holds the exchange region's address
pub record Laws (isa : Isa) (n a b c : ℕ) : Type 0 where
  pub size : (l : Loc) (base o : ℕ) → size_of isa (load l base o) ≡ 4
  pub stored_size : (l : Loc) (base o : ℕ) → size_of isa (store l base o) ≡ 4
  pub load_length : (l : Loc) (pc base o : ℕ) → fits n a b c l ≡ true → length (row_bytes isa pc (load l base o)) ≡ 4
  pub store_length : (l : Loc) (pc base o : ℕ) → fits n a b c l ≡ true → length (row_bytes isa pc (store l base o)) ≡ 4
  pub load_exchange : (s : State) (l : Loc) (tail : List ℕ) → fits n a b c l ≡ true → s.pc % 4 ≡ 0 → slice_index s.general b ≡ EXCHANGE → Stands isa s (row_bytes isa s.pc (load l b (exchanged_at l)) ++ tail) → StepsBy isa s (received 4 l (x_of (exchanged_at l) s) s)
  pub store_exchange : (s : State) (l : Loc) (tail : List ℕ) → fits n a b c l ≡ true → s.pc % 4 ≡ 0 → slice_index s.general b ≡ EXCHANGE → Stands isa s (row_bytes isa s.pc (store l b (exchanged_at l)) ++ tail) → StepsBy isa s (exchanged 4 (exchanged_at l) (held l s) s)
  pub load_area : (s : State) (l : Loc) (at : ℕ) (tail : List ℕ) → fits n a b c l ≡ true → s.pc % 4 ≡ 0 → at % 8 ≡ 0 → at < 2048 → STACK ≤ s.sp + at → s.sp + at + 8 ≤ STACK_TOP → Stands isa s (row_bytes isa s.pc (load l (stack_pointer isa) at) ++ tail) → StepsBy isa s (received 4 l (number_of 8 (stack_at (s.sp + at) 8 s)) s)
  pub store_area : (s : State) (l : Loc) (at : ℕ) (tail : List ℕ) → fits n a b c l ≡ true → s.pc % 4 ≡ 0 → at % 8 ≡ 0 → at < 2048 → STACK ≤ s.sp + at → s.sp + at + 8 ≤ STACK_TOP → Stands isa s (row_bytes isa s.pc (store l (stack_pointer isa) at) ++ tail) → StepsBy isa s (saved 4 (s.sp + at) (held l s) s)

pub record Came (isa : Isa) (b : ℕ) (s t : State) (n : ℕ) (tail : List ℕ) : Type 0 where
  pub steps : TakesBy isa n s t
  pub stands : Stands isa t tail
  pub aligned : t.pc % 4 ≡ 0
  pub base : slice_index t.general b ≡ EXCHANGE
  pub count : length t.general ≡ 32

joined : (isa : Isa) (b : ℕ) (s m t : State) (n : ℕ) (tail : List ℕ) → StepsBy isa s m → Came isa b m t n tail → Came isa b s t (suc n) tail
joined isa b s m t n tail first rest = record {
  steps = and_then isa 1 n (suc n) s m t (omega arith) (one_step isa s m first) rest.steps;
  stands = rest.stands;
  aligned = rest.aligned;
  base = rest.base;
  count = rest.count;
}

pub record Went (isa : Isa) (s t : State) (n : ℕ) (tail : List ℕ) : Type 0 where
  pub steps : TakesBy isa n s t
  pub stands : Stands isa t tail
  pub aligned : t.pc % 4 ≡ 0

joined_area : (isa : Isa) (s m t : State) (n : ℕ) (tail : List ℕ) → StepsBy isa s m → Went isa m t n tail → Went isa s t (suc n) tail
joined_area isa s m t n tail first rest = record {
  steps = and_then isa 1 n (suc n) s m t (omega arith) (one_step isa s m first) rest.steps;
  stands = rest.stands;
  aligned = rest.aligned;
}

kept_base : (general : List ℕ) (b k v : ℕ) → k ≢ b → get_or general b 0 ≡ EXCHANGE → get_or (set general k v) b 0 ≡ EXCHANGE
kept_base general b k v ne h = let e : b ≢ k = λ x. ne (sym x) in get_or-set_other general k b v 0 e ∙ h

not_base : (n a b c k : ℕ) → fits n a b c (G k) ≡ true → k ≢ b
unfolding fits
not_base n a b c k h =
    let p = both (nat_lt k n) (not (k == a) && (not (k == b) && not (k == c))) h in
    let q = both (not (k == a)) (not (k == b) && not (k == c)) p.1 in
    let r = both (not (k == b)) (not (k == c)) q.1 in
    other k b r.0

received_base : (n a b c size v : ℕ) (l : Loc) (s : State) → fits n a b c l ≡ true → slice_index s.general b ≡ EXCHANGE → slice_index (received size l v s).general b ≡ EXCHANGE
unfolding fits
received_base n a b c size v (G k) s h base = kept_base s.general b k v (not_base n a b c k h) base
received_base n a b c size v (F k) s h base = base
received_base n a b c size v (S k w) s h base = base

received_count : (size v : ℕ) (l : Loc) (s : State) → length s.general ≡ 32 → length (received size l v s).general ≡ 32
received_count size v (G k) s h = length-set s.general k v ∙ h
received_count size v _ s h = h

received_pc : (n a b c v : ℕ) (l : Loc) (s : State) → fits n a b c l ≡ true → (received 4 l v s).pc ≡ s.pc + 4
unfolding fits
received_pc n a b c v (G k) s h = refl
received_pc n a b c v (F k) s h = refl
received_pc n a b c v (S k w) s h = absurd cc

received_sp : (size v : ℕ) (l : Loc) (s : State) → (received size l v s).sp ≡ s.sp
received_sp size v (G k) s = refl
received_sp size v _ s = refl

sized : (isa : Isa) (s : State) (row : List ℕ) (pc pc2 k : ℕ) (rows : List Row) (tail : List ℕ) → k ≡ 4 → Stands isa s ((row ++ bytes_of isa (s.pc + k) rows) ++ tail) → Stands isa s (row ++ (bytes_of isa (s.pc + 4) rows ++ tail))
sized isa s row pc pc2 k rows tail e h =
    let at : bytes_of isa (s.pc + k) rows ≡ bytes_of isa (s.pc + 4) rows = ap (λ i. bytes_of isa (s.pc + i) rows) e in
    subst (λ (bs : List ℕ). Stands isa s bs) (append_assoc row (bytes_of isa (s.pc + k) rows) tail ∙ ap (λ r. row ++ (r ++ tail)) at) h

pub exchange_loaded : (isa : Isa) (n a b c : ℕ) (laws : Laws isa n a b c) (ls : List Loc) (s : State) (tail : List ℕ) → all_fit n a b c ls ≡ true → s.pc % 4 ≡ 0 → slice_index s.general b ≡ EXCHANGE → length s.general ≡ 32 → Stands isa s (bytes_of isa s.pc (exchange_loads b ls) ++ tail) → Came isa b s (from_exchange isa b ls s) (length ls) tail
unfolding all_fit
exchange_loaded isa n a b c laws [] s tail ok al base count h = record { steps = none_taken isa s; stands = h; aligned = al; base = base; count = count }
exchange_loaded isa n a b c laws (l ∷ ls) s tail ok al base count h =
    let parts = both (fits n a b c l) (all_fit n a b c ls) ok in
    let v : ℕ = x_of (exchanged_at l) s in
    let m : State = received 4 l v s in
    let row : List ℕ = row_bytes isa s.pc (load l b (exchanged_at l)) in
    let rest : List ℕ = bytes_of isa (s.pc + 4) (exchange_loads b ls) ++ tail in
    let h2 : Stands isa s (row ++ rest) = sized isa s row s.pc s.pc (size_of isa (load l b (exchanged_at l))) (exchange_loads b ls) tail (laws.size l b (exchanged_at l)) h in
    let step : StepsBy isa s m = laws.load_exchange s l rest parts.0 al base h2 in
    let len : length row ≡ 4 = laws.load_length l s.pc b (exchanged_at l) parts.0 in
    let pc : m.pc ≡ s.pc + 4 = received_pc n a b c v l s parts.0 in
    let both_len : length (row ++ rest) ≡ 4 + length rest = length-append row rest ∙ ap (λ i. i + length rest) len in
    let h3 : Stands isa m rest = onward isa s m row rest 4 len pc both_len h2 in
    let h4 : Stands isa m (bytes_of isa m.pc (exchange_loads b ls) ++ tail) = subst (λ (i : ℕ). Stands isa m (bytes_of isa i (exchange_loads b ls) ++ tail)) (sym pc) h3 in
    let done : Came isa b s (from_exchange isa b ls m) (suc (length ls)) tail = joined isa b s m _ (length ls) tail step (exchange_loaded isa n a b c laws ls m tail parts.1 (omega arith) (received_base n a b c 4 v l s parts.0 base) (received_count 4 v l s count) h4) in
    subst (λ (i : ℕ). Came isa b s (from_exchange isa b ls (received i l v s)) (suc (length ls)) tail) (sym (laws.size l b 0)) done

pub exchange_stored : (isa : Isa) (n a b c : ℕ) (laws : Laws isa n a b c) (ls : List Loc) (s : State) (tail : List ℕ) → all_fit n a b c ls ≡ true → s.pc % 4 ≡ 0 → slice_index s.general b ≡ EXCHANGE → length s.general ≡ 32 → Stands isa s (bytes_of isa s.pc (exchange_stores b ls) ++ tail) → Came isa b s (to_exchange isa b ls s) (length ls) tail
unfolding all_fit
exchange_stored isa n a b c laws [] s tail ok al base count h = record { steps = none_taken isa s; stands = h; aligned = al; base = base; count = count }
exchange_stored isa n a b c laws (l ∷ ls) s tail ok al base count h =
    let parts = both (fits n a b c l) (all_fit n a b c ls) ok in
    let m : State = exchanged 4 (exchanged_at l) (held l s) s in
    let row : List ℕ = row_bytes isa s.pc (store l b (exchanged_at l)) in
    let rest : List ℕ = bytes_of isa (s.pc + 4) (exchange_stores b ls) ++ tail in
    let h2 : Stands isa s (row ++ rest) = sized isa s row s.pc s.pc (size_of isa (store l b (exchanged_at l))) (exchange_stores b ls) tail (laws.stored_size l b (exchanged_at l)) h in
    let step : StepsBy isa s m = laws.store_exchange s l rest parts.0 al base h2 in
    let len : length row ≡ 4 = laws.store_length l s.pc b (exchanged_at l) parts.0 in
    let both_len : length (row ++ rest) ≡ 4 + length rest = length-append row rest ∙ ap (λ i. i + length rest) len in
    let h3 : Stands isa m rest = onward isa s m row rest 4 len refl both_len h2 in
    let done : Came isa b s (to_exchange isa b ls m) (suc (length ls)) tail = joined isa b s m _ (length ls) tail step (exchange_stored isa n a b c laws ls m tail parts.1 (omega arith) base count h3) in
    subst (λ (i : ℕ). Came isa b s (to_exchange isa b ls (exchanged i (exchanged_at l) (held l s) s)) (suc (length ls)) tail) (sym (laws.size l b 0)) done

pub area_loaded : (isa : Isa) (n a b c : ℕ) (laws : Laws isa n a b c) (ls : List Loc) (s : State) (at : ℕ) (tail : List ℕ) → all_fit n a b c ls ≡ true → s.pc % 4 ≡ 0 → at % 8 ≡ 0 → at + 8 * length ls ≤ 2048 → STACK ≤ s.sp → s.sp + at + 8 * length ls ≤ STACK_TOP → slice_index s.general b ≡ EXCHANGE → length s.general ≡ 32 → Stands isa s (bytes_of isa s.pc (area_loads (stack_pointer isa) at ls) ++ tail) → Came isa b s (from_area isa at ls s) (length ls) tail
unfolding all_fit
area_loaded isa n a b c laws [] s at tail ok al eight short low high base count h = record { steps = none_taken isa s; stands = h; aligned = al; base = base; count = count }
area_loaded isa n a b c laws (l ∷ ls) s at tail ok al eight short low high base count h =
    let parts = both (fits n a b c l) (all_fit n a b c ls) ok in
    let v : ℕ = number_of 8 (stack_at (s.sp + at) 8 s) in
    let m : State = received 4 l v s in
    let row : List ℕ = row_bytes isa s.pc (load l (stack_pointer isa) at) in
    let rest : List ℕ = bytes_of isa (s.pc + 4) (area_loads (stack_pointer isa) (at + 8) ls) ++ tail in
    let h2 : Stands isa s (row ++ rest) = sized isa s row s.pc s.pc (size_of isa (load l (stack_pointer isa) at)) (area_loads (stack_pointer isa) (at + 8) ls) tail (laws.size l (stack_pointer isa) at) h in
    let step : StepsBy isa s m = laws.load_area s l at rest parts.0 al eight (omega arith) (omega arith) (omega arith) h2 in
    let len : length row ≡ 4 = laws.load_length l s.pc (stack_pointer isa) at parts.0 in
    let pc : m.pc ≡ s.pc + 4 = received_pc n a b c v l s parts.0 in
    let both_len : length (row ++ rest) ≡ 4 + length rest = length-append row rest ∙ ap (λ i. i + length rest) len in
    let h3 : Stands isa m rest = onward isa s m row rest 4 len pc both_len h2 in
    let h4 : Stands isa m (bytes_of isa m.pc (area_loads (stack_pointer isa) (at + 8) ls) ++ tail) = subst (λ (i : ℕ). Stands isa m (bytes_of isa i (area_loads (stack_pointer isa) (at + 8) ls) ++ tail)) (sym pc) h3 in
    let sp : m.sp ≡ s.sp = received_sp 4 v l s in
    let done : Came isa b s (from_area isa (at + 8) ls m) (suc (length ls)) tail = joined isa b s m _ (length ls) tail step (area_loaded isa n a b c laws ls m (at + 8) tail parts.1 (omega arith) (omega arith) (omega arith) (omega arith) (omega arith) (received_base n a b c 4 v l s parts.0 base) (received_count 4 v l s count) h4) in
    subst (λ (i : ℕ). Came isa b s (from_area isa (at + 8) ls (received i l v s)) (suc (length ls)) tail) (sym (laws.size l (stack_pointer isa) 0)) done

pub area_stored : (isa : Isa) (n a b c : ℕ) (laws : Laws isa n a b c) (ls : List Loc) (s : State) (at : ℕ) (tail : List ℕ) → all_fit n a b c ls ≡ true → s.pc % 4 ≡ 0 → at % 8 ≡ 0 → at + 8 * length ls ≤ 2048 → STACK ≤ s.sp → s.sp + at + 8 * length ls ≤ STACK_TOP → Stands isa s (bytes_of isa s.pc (area_stores (stack_pointer isa) at ls) ++ tail) → Went isa s (to_area isa at ls s) (length ls) tail
unfolding all_fit
area_stored isa n a b c laws [] s at tail ok al eight short low high h = record { steps = none_taken isa s; stands = h; aligned = al }
area_stored isa n a b c laws (l ∷ ls) s at tail ok al eight short low high h =
    let parts = both (fits n a b c l) (all_fit n a b c ls) ok in
    let m : State = saved 4 (s.sp + at) (held l s) s in
    let row : List ℕ = row_bytes isa s.pc (store l (stack_pointer isa) at) in
    let rest : List ℕ = bytes_of isa (s.pc + 4) (area_stores (stack_pointer isa) (at + 8) ls) ++ tail in
    let h2 : Stands isa s (row ++ rest) = sized isa s row s.pc s.pc (size_of isa (store l (stack_pointer isa) at)) (area_stores (stack_pointer isa) (at + 8) ls) tail (laws.stored_size l (stack_pointer isa) at) h in
    let step : StepsBy isa s m = laws.store_area s l at rest parts.0 al eight (omega arith) (omega arith) (omega arith) h2 in
    let len : length row ≡ 4 = laws.store_length l s.pc (stack_pointer isa) at parts.0 in
    let both_len : length (row ++ rest) ≡ 4 + length rest = length-append row rest ∙ ap (λ i. i + length rest) len in
    let h3 : Stands isa m rest = onward isa s m row rest 4 len refl both_len h2 in
    let done : Went isa s (to_area isa (at + 8) ls m) (suc (length ls)) tail = joined_area isa s m _ (length ls) tail step (area_stored isa n a b c laws ls m (at + 8) tail parts.1 (omega arith) (omega arith) (omega arith) low (omega arith) h3) in
    subst (λ (i : ℕ). Went isa s (to_area isa (at + 8) ls (saved i (s.sp + at) (held l s) s)) (suc (length ls)) tail) (sym (laws.size l (stack_pointer isa) 0)) done
