-- What each register and each word holds after a segment.
use Rattle.std.proofs.Common.{◌≡◌, ◌≢◌, ℕ, ◌+◌, ◌-◌, ◌*◌, ◌<◌, ◌≤◌, Bool, true, false, List, [], ◌∷◌, ◌++◌, length, take, drop, refl, sym, ap, ◌∙◌, arith, length-set, length-append, length-take, length-drop}
use Rattle.std.proofs.lemmas.Bool.Decides.{nat_tests}
use Rattle.std.proofs.lemmas.List.{get_or-set_same, get_or-set_other, length-take-le}
use Rattle.std.proofs.lemmas.Slice.{drop-append-drop}
use Rattle.std.specs.Prelude.{◌&&◌, ◌||◌, ◌==◌, not, nat_lt, slice_index, slice_set}
use Rattle.std.specs.List.{replace_range}
use Rattle.ffi3_machine_spec.specs.Memory.{number_of, low_bytes}
use Rattle.ffi3_type_spec.specs.declared.Isa.{Isa}
use Rattle.ffi3_type_spec.specs.declared.limits.TheConstants.{STACK, STACK_TOP, STACK_BYTES}
use Rattle.ffi3_place_spec.specs.declared.Loc.{Loc}
use Rattle.ffi3_place_spec.specs.declared.Loc.TheVariants.{G, F, S}
use Rattle.ffi3_place_spec.specs.MachineRegisters.{stack_pointer}
use Rattle.ffi3_machine_spec.specs.declared.stub.TheConstants.{REGISTERS_END}
use Rattle.ffi3_machine_spec.specs.State.{State, x_of, stack_at}
use Rattle.ffi3_machine_spec.specs.Stubs.{load, size_of, exchanged_at}
use Rattle.ffi3_stubs.specs.Effects.{received, held, exchanged, saved, from_exchange, to_exchange, from_area, to_area}
use Rattle.ffi3_stubs.specs.Calls.{same_loc, is_in, CameFromExchange, WentToExchange, CameFromArea, CameFromWords, WentToArea}
use Rattle.ffi3_stubs.proofs.Region.{written, below}

-- ---- tests of a table: each is a register, and no two are the same

unfoldable pub are_apart : List Loc → Bool
are_apart [] = true
are_apart (G k ∷ ls) = nat_lt k 32 && (not (is_in (G k) ls) && are_apart ls)
are_apart (F k ∷ ls) = nat_lt k 32 && (not (is_in (F k) ls) && are_apart ls)
are_apart (S k w ∷ ls) = false

both : (a b : Bool) → (a && b) ≡ true → (a ≡ true) × (b ≡ true)
both true b h = (refl, h)
both false b h = absurd cc

pub neither : (a b : Bool) → (a || b) ≡ false → (a ≡ false) × (b ≡ false)
neither true b h = absurd cc
neither false b h = (refl, h)

negated : (b : Bool) → not b ≡ true → b ≡ false
negated true h = absurd cc
negated false h = refl

within : (k n : ℕ) → nat_lt k n ≡ true → k < n
within k n h = grind (arith, nat_tests)

differ : (a b : ℕ) → (a == b) ≡ false → a ≢ b
differ a b h e = grind (arith, nat_tests)

-- ---- one register

received_other : (size v : ℕ) (l m : Loc) (s : State) → same_loc l m ≡ false → held l (received size m v s) ≡ held l s
received_other size v (G a) (G b) s h = get_or-set_other s.general b a v 0 (differ a b h)
received_other size v (F a) (F b) s h = get_or-set_other s.floating b a v 0 (differ a b h)
received_other size v _ _ s h = refl

pub addressed_other : (general : List ℕ) (l : Loc) (k v : ℕ) (s t : State) → t.general ≡ slice_set s.general k v → t.floating ≡ s.floating → same_loc l (G k) ≡ false → held l t ≡ held l s
addressed_other general (G a) k v s t e f h = ap (λ (g : List ℕ). slice_index g a) e ∙ get_or-set_other s.general k a v 0 (differ a k h)
addressed_other general (F a) k v s t e f h = ap (λ (g : List ℕ). slice_index g a) f
addressed_other general (S a w) k v s t e f h = refl

-- ---- from the exchange region

pub exchange_others : (isa : Isa) (base : ℕ) (ls : List Loc) (s : State) (l : Loc) → is_in l ls ≡ false → held l (from_exchange isa base ls s) ≡ held l s
exchange_others isa base [] s l h = refl
exchange_others isa base (m ∷ ls) s l h =
    let parts = neither (same_loc l m) (is_in l ls) h in
    exchange_others isa base ls (received (size_of isa (load m base 0)) m (x_of (exchanged_at m) s) s) l parts.1 ∙ received_other (size_of isa (load m base 0)) (x_of (exchanged_at m) s) l m s parts.0

pub came_from_exchange : (isa : Isa) (base : ℕ) (ls : List Loc) (s : State) → are_apart ls ≡ true → length s.general ≡ 32 → length s.floating ≡ 32 → CameFromExchange ls s (from_exchange isa base ls s)
unfolding are_apart
came_from_exchange isa base [] s ok g f = tt
came_from_exchange isa base (G k ∷ ls) s ok g f =
    let parts = both (nat_lt k 32) (not (is_in (G k) ls) && are_apart ls) ok in
    let more = both (not (is_in (G k) ls)) (are_apart ls) parts.1 in
    let small : k < 32 = within k 32 parts.0 in
    let size : ℕ = size_of isa (load (G k) base 0) in
    let v : ℕ = x_of (8 * k) s in
    let m : State = received size (G k) v s in
    (exchange_others isa base ls m (G k) (negated (is_in (G k) ls) more.0) ∙ get_or-set_same s.general k v 0 (omega arith), came_from_exchange isa base ls m more.1 (length-set s.general k v ∙ g) f)
came_from_exchange isa base (F k ∷ ls) s ok g f =
    let parts = both (nat_lt k 32) (not (is_in (F k) ls) && are_apart ls) ok in
    let more = both (not (is_in (F k) ls)) (are_apart ls) parts.1 in
    let small : k < 32 = within k 32 parts.0 in
    let size : ℕ = size_of isa (load (F k) base 0) in
    let v : ℕ = x_of (256 + 8 * k) s in
    let m : State = received size (F k) v s in
    (exchange_others isa base ls m (F k) (negated (is_in (F k) ls) more.0) ∙ get_or-set_same s.floating k v 0 (omega arith), came_from_exchange isa base ls m more.1 g (length-set s.floating k v ∙ f))
came_from_exchange isa base (S k w ∷ ls) s ok g f = absurd cc

-- ---- from the save area

pub area_others : (isa : Isa) (at : ℕ) (ls : List Loc) (s : State) (l : Loc) → is_in l ls ≡ false → held l (from_area isa at ls s) ≡ held l s
area_others isa at [] s l h = refl
area_others isa at (m ∷ ls) s l h =
    let parts = neither (same_loc l m) (is_in l ls) h in
    area_others isa (at + 8) ls (received (size_of isa (load m (stack_pointer isa) 0)) m (number_of 8 (stack_at (s.sp + at) 8 s)) s) l parts.1 ∙ received_other (size_of isa (load m (stack_pointer isa) 0)) (number_of 8 (stack_at (s.sp + at) 8 s)) l m s parts.0

pub came_from_area : (isa : Isa) (at addr : ℕ) (ls : List Loc) (s : State) → s.sp + at ≡ addr → are_apart ls ≡ true → length s.general ≡ 32 → length s.floating ≡ 32 → CameFromArea addr ls s (from_area isa at ls s)
unfolding are_apart
came_from_area isa at addr [] s here ok g f = tt
came_from_area isa at addr (G k ∷ ls) s here ok g f =
    let parts = both (nat_lt k 32) (not (is_in (G k) ls) && are_apart ls) ok in
    let more = both (not (is_in (G k) ls)) (are_apart ls) parts.1 in
    let small : k < 32 = within k 32 parts.0 in
    let size : ℕ = size_of isa (load (G k) (stack_pointer isa) 0) in
    let v : ℕ = number_of 8 (stack_at (s.sp + at) 8 s) in
    let m : State = received size (G k) v s in
    (area_others isa (at + 8) ls m (G k) (negated (is_in (G k) ls) more.0) ∙ get_or-set_same s.general k v 0 (omega arith) ∙ ap (λ a. number_of 8 (stack_at a 8 s)) here, came_from_area isa (at + 8) (addr + 8) ls m (omega arith) more.1 (length-set s.general k v ∙ g) f)
came_from_area isa at addr (F k ∷ ls) s here ok g f =
    let parts = both (nat_lt k 32) (not (is_in (F k) ls) && are_apart ls) ok in
    let more = both (not (is_in (F k) ls)) (are_apart ls) parts.1 in
    let small : k < 32 = within k 32 parts.0 in
    let size : ℕ = size_of isa (load (F k) (stack_pointer isa) 0) in
    let v : ℕ = number_of 8 (stack_at (s.sp + at) 8 s) in
    let m : State = received size (F k) v s in
    (area_others isa (at + 8) ls m (F k) (negated (is_in (F k) ls) more.0) ∙ get_or-set_same s.floating k v 0 (omega arith) ∙ ap (λ a. number_of 8 (stack_at a 8 s)) here, came_from_area isa (at + 8) (addr + 8) ls m (omega arith) more.1 g (length-set s.floating k v ∙ f))
came_from_area isa at addr (S k w ∷ ls) s here ok g f = absurd cc

-- ---- bytes that are written, and those around them

above : (xs b : List ℕ) (n at end len : ℕ) → end ≡ at + length b → end ≤ n → at ≤ length xs → take len (drop n (replace_range xs at end b)) ≡ take len (drop n xs)
above xs b n at end len is_end far low =
    ap (take len) (drop-append-drop end xs (take at xs ++ b) n far (length-append (take at xs) b ∙ ap (λ k. k + length b) (length-take-le at xs low) ∙ sym is_end))

length-written : (xs b : List ℕ) (at : ℕ) → at + length b ≤ length xs → length (replace_range xs at (at + length b) b) ≡ length xs
length-written xs b at low =
    omega (arith, length-append (take at xs ++ b) (drop (at + length b) xs), length-append (take at xs) b, length-take at xs, length-drop (at + length b) xs)

word_written : (xs : List ℕ) (at v : ℕ) → at + 8 ≤ length xs → take 8 (drop at (replace_range xs at (at + length (low_bytes 8 v)) (low_bytes 8 v))) ≡ low_bytes 8 v
word_written xs at v low = written xs (low_bytes 8 v) at (at + length (low_bytes 8 v)) 8 refl (omega arith)

word_below : (xs : List ℕ) (n at v : ℕ) → n + 8 ≤ at → at + 8 ≤ length xs → take 8 (drop n (replace_range xs at (at + length (low_bytes 8 v)) (low_bytes 8 v))) ≡ take 8 (drop n xs)
word_below xs n at v near low = below xs (low_bytes 8 v) n at (at + length (low_bytes 8 v)) 8 (at - n) (omega arith) (omega arith) (omega arith)

word_above : (xs : List ℕ) (n at v : ℕ) → at + 8 ≤ n → at + 8 ≤ length xs → take 8 (drop n (replace_range xs at (at + length (low_bytes 8 v)) (low_bytes 8 v))) ≡ take 8 (drop n xs)
word_above xs n at v far low = above xs (low_bytes 8 v) n at (at + length (low_bytes 8 v)) 8 refl far (omega arith)

pub word_length : (xs : List ℕ) (at v : ℕ) → at + 8 ≤ length xs → length (replace_range xs at (at + length (low_bytes 8 v)) (low_bytes 8 v)) ≡ length xs
word_length xs at v low = length-written xs (low_bytes 8 v) at low

-- ---- to the exchange region

-- a place of eight bytes that is none of these
other_place : (xs : List ℕ) (a b v : ℕ) → a ≢ b → 8 * b + 8 ≤ length xs → take 8 (drop (8 * a) (replace_range xs (8 * b) (8 * b + length (low_bytes 8 v)) (low_bytes 8 v))) ≡ take 8 (drop (8 * a) xs)
other_place xs a b v ne low = by_order (nat_lt a b) refl
  where
    by_order : (t : Bool) → nat_lt a b ≡ t → take 8 (drop (8 * a) (replace_range xs (8 * b) (8 * b + length (low_bytes 8 v)) (low_bytes 8 v))) ≡ take 8 (drop (8 * a) xs)
    by_order true e = let lt : a < b = within a b e in word_below xs (8 * a) (8 * b) v (omega arith) low
    by_order false e = let ge : b ≤ a = grind (arith, nat_tests) in word_above xs (8 * a) (8 * b) v (omega arith) low

-- the number of a register's place among places of eight bytes
unfoldable pub place : Loc → ℕ
place (G k) = k
place (F k) = 32 + k
place (S k w) = 0

unfoldable pub misses : ℕ → List Loc → Bool
misses n [] = true
misses n (l ∷ ls) = not (n == place l) && misses n ls

-- each stands below REGISTERS_END, and no two at one place
unfoldable pub are_spread : List Loc → Bool
are_spread [] = true
are_spread (G k ∷ ls) = nat_lt k 32 && (misses k ls && are_spread ls)
are_spread (F k ∷ ls) = nat_lt k 32 && (misses (32 + k) ls && are_spread ls)
are_spread (S k w ∷ ls) = false

unlike : (a b : ℕ) → not (a == b) ≡ true → a ≢ b
unlike a b h = differ a b (negated (a == b) h)

exchange_kept : (isa : Isa) (base : ℕ) (ls : List Loc) (s : State) (n : ℕ) → misses n ls ≡ true → are_spread ls ≡ true → length s.exchange ≡ 552 → take 8 (drop (8 * n) (to_exchange isa base ls s).exchange) ≡ take 8 (drop (8 * n) s.exchange)
unfolding place misses are_spread
exchange_kept isa base [] s n out ok len = refl
exchange_kept isa base (G k ∷ ls) s n out ok len =
    let parts = both (nat_lt k 32) (misses k ls && are_spread ls) ok in
    let more = both (misses k ls) (are_spread ls) parts.1 in
    let away = both (not (n == k)) (misses n ls) out in
    let small : k < 32 = within k 32 parts.0 in
    let v : ℕ = slice_index s.general k in
    let m : State = exchanged (size_of isa (load (G k) base 0)) (8 * k) v s in
    exchange_kept isa base ls m n away.1 more.1 (word_length s.exchange (8 * k) v (omega arith) ∙ len) ∙ other_place s.exchange n k v (unlike n k away.0) (omega arith)
exchange_kept isa base (F k ∷ ls) s n out ok len =
    let parts = both (nat_lt k 32) (misses (32 + k) ls && are_spread ls) ok in
    let more = both (misses (32 + k) ls) (are_spread ls) parts.1 in
    let away = both (not (n == 32 + k)) (misses n ls) out in
    let small : k < 32 = within k 32 parts.0 in
    let v : ℕ = slice_index s.floating k in
    let m : State = exchanged (size_of isa (load (F k) base 0)) (256 + 8 * k) v s in
    let at : 8 * (32 + k) ≡ 256 + 8 * k = omega arith in
    exchange_kept isa base ls m n away.1 more.1 (word_length s.exchange (256 + 8 * k) v (omega arith) ∙ len) ∙ ap (λ i. take 8 (drop (8 * n) (replace_range s.exchange i (i + length (low_bytes 8 v)) (low_bytes 8 v)))) (sym at) ∙ other_place s.exchange n (32 + k) v (unlike n (32 + k) away.0) (omega arith)
exchange_kept isa base (S k w ∷ ls) s n out ok len = absurd cc

pub exchange_beyond : (isa : Isa) (base : ℕ) (ls : List Loc) (s : State) (at : ℕ) → REGISTERS_END ≤ at → are_spread ls ≡ true → length s.exchange ≡ 552 → take 8 (drop at (to_exchange isa base ls s).exchange) ≡ take 8 (drop at s.exchange)
unfolding are_spread
exchange_beyond isa base [] s at far ok len = refl
exchange_beyond isa base (G k ∷ ls) s at far ok len =
    let parts = both (nat_lt k 32) (misses k ls && are_spread ls) ok in
    let more = both (misses k ls) (are_spread ls) parts.1 in
    let small : k < 32 = within k 32 parts.0 in
    let v : ℕ = slice_index s.general k in
    let m : State = exchanged (size_of isa (load (G k) base 0)) (8 * k) v s in
    exchange_beyond isa base ls m at far more.1 (word_length s.exchange (8 * k) v (omega arith) ∙ len) ∙ word_above s.exchange at (8 * k) v (omega arith) (omega arith)
exchange_beyond isa base (F k ∷ ls) s at far ok len =
    let parts = both (nat_lt k 32) (misses (32 + k) ls && are_spread ls) ok in
    let more = both (misses (32 + k) ls) (are_spread ls) parts.1 in
    let small : k < 32 = within k 32 parts.0 in
    let v : ℕ = slice_index s.floating k in
    let m : State = exchanged (size_of isa (load (F k) base 0)) (256 + 8 * k) v s in
    exchange_beyond isa base ls m at far more.1 (word_length s.exchange (256 + 8 * k) v (omega arith) ∙ len) ∙ word_above s.exchange at (256 + 8 * k) v (omega arith) (omega arith)
exchange_beyond isa base (S k w ∷ ls) s at far ok len = absurd cc

pub went_to_exchange : (isa : Isa) (base : ℕ) (ls : List Loc) (s : State) → are_spread ls ≡ true → length s.exchange ≡ 552 → WentToExchange ls s (to_exchange isa base ls s)
unfolding place misses are_spread
went_to_exchange isa base [] s ok len = tt
went_to_exchange isa base (G k ∷ ls) s ok len =
    let parts = both (nat_lt k 32) (misses k ls && are_spread ls) ok in
    let more = both (misses k ls) (are_spread ls) parts.1 in
    let small : k < 32 = within k 32 parts.0 in
    let v : ℕ = slice_index s.general k in
    let m : State = exchanged (size_of isa (load (G k) base 0)) (8 * k) v s in
    let kept : length m.exchange ≡ 552 = word_length s.exchange (8 * k) v (omega arith) ∙ len in
    (exchange_kept isa base ls m k more.0 more.1 kept ∙ word_written s.exchange (8 * k) v (omega arith), went_to_exchange isa base ls m more.1 kept)
went_to_exchange isa base (F k ∷ ls) s ok len =
    let parts = both (nat_lt k 32) (misses (32 + k) ls && are_spread ls) ok in
    let more = both (misses (32 + k) ls) (are_spread ls) parts.1 in
    let small : k < 32 = within k 32 parts.0 in
    let v : ℕ = slice_index s.floating k in
    let m : State = exchanged (size_of isa (load (F k) base 0)) (256 + 8 * k) v s in
    let kept : length m.exchange ≡ 552 = word_length s.exchange (256 + 8 * k) v (omega arith) ∙ len in
    let at : 256 + 8 * k ≡ 8 * (32 + k) = omega arith in
    let still : take 8 (drop (8 * (32 + k)) (to_exchange isa base ls m).exchange) ≡ take 8 (drop (8 * (32 + k)) m.exchange) = exchange_kept isa base ls m (32 + k) more.0 more.1 kept in
    (ap (λ i. take 8 (drop i (to_exchange isa base ls m).exchange)) at ∙ still ∙ ap (λ i. take 8 (drop i m.exchange)) (sym at) ∙ word_written s.exchange (256 + 8 * k) v (omega arith), went_to_exchange isa base ls m more.1 kept)
went_to_exchange isa base (S k w ∷ ls) s ok len = absurd cc

-- ---- to the save area

area_kept : (isa : Isa) (at : ℕ) (ls : List Loc) (s : State) (n : ℕ) → STACK ≤ s.sp + at → n + 8 ≤ s.sp + at - STACK → s.sp + at + 8 * length ls ≤ STACK_TOP → length s.stack ≡ STACK_BYTES → take 8 (drop n (to_area isa at ls s).stack) ≡ take 8 (drop n s.stack)
area_kept isa at [] s n low near high len = refl
area_kept isa at (l ∷ ls) s n low near high len =
    let v : ℕ = held l s in
    let m : State = saved (size_of isa (load l (stack_pointer isa) 0)) (s.sp + at) v s in
    area_kept isa (at + 8) ls m n (omega arith) (omega arith) (omega arith) (word_length s.stack (s.sp + at - STACK) v (omega arith) ∙ len) ∙ word_below s.stack n (s.sp + at - STACK) v near (omega arith)

pub went_to_area : (isa : Isa) (at addr : ℕ) (ls : List Loc) (s : State) → s.sp + at ≡ addr → STACK ≤ addr → addr + 8 * length ls ≤ STACK_TOP → length s.stack ≡ STACK_BYTES → WentToArea addr ls s (to_area isa at ls s)
went_to_area isa at addr [] s here low high len = tt
went_to_area isa at addr (l ∷ ls) s here low high len =
    let v : ℕ = held l s in
    let m : State = saved (size_of isa (load l (stack_pointer isa) 0)) (s.sp + at) v s in
    let kept : length m.stack ≡ STACK_BYTES = word_length s.stack (s.sp + at - STACK) v (omega arith) ∙ len in
    let first : s.sp + at - STACK ≡ addr - STACK = omega arith in
    (ap (λ i. take 8 (drop i (to_area isa (at + 8) ls m).stack)) (sym first) ∙ area_kept isa (at + 8) ls m (s.sp + at - STACK) (omega arith) (omega arith) (omega arith) kept ∙ word_written s.stack (s.sp + at - STACK) v (omega arith), went_to_area isa (at + 8) (addr + 8) ls m (omega arith) (omega arith) (omega arith) kept)

-- ---- what other segments leave

turned : (b : ℕ) (l : Loc) → same_loc (G b) l ≡ false → same_loc l (G b) ≡ false
turned b (G a) h = let ne : b ≢ a = differ b a h in grind (arith, nat_tests)
turned b _ h = refl

-- registers that hold the same but for one that is none of the list
pub went_from : (b : ℕ) (ls : List Loc) (s t u : State) → is_in (G b) ls ≡ false → ((l : Loc) → same_loc l (G b) ≡ false → held l t ≡ held l s) → WentToExchange ls t u → WentToExchange ls s u
went_from b [] s t u out same h = tt
went_from b (l ∷ ls) s t u out same h =
    let parts = neither (same_loc (G b) l) (is_in (G b) ls) out in
    (h.0 ∙ ap (low_bytes 8) (same l (turned b l parts.0)), went_from b ls s t u parts.1 same h.1)

unfoldable pub are_disjoint : List Loc → List Loc → Bool
are_disjoint [] ms = true
are_disjoint (l ∷ ls) ms = not (is_in l ms) && are_disjoint ls ms

pub came_still : (ls ms : List Loc) (addr : ℕ) (stack : List ℕ) (a b : State) → are_disjoint ls ms ≡ true → ((l : Loc) → is_in l ms ≡ false → held l b ≡ held l a) → CameFromWords addr ls stack a → CameFromWords addr ls stack b
unfolding are_disjoint
came_still [] ms addr stack a b ok same h = tt
came_still (l ∷ ls) ms addr stack a b ok same h =
    let parts = both (not (is_in l ms)) (are_disjoint ls ms) ok in
    (same l (negated (is_in l ms) parts.0) ∙ h.0, came_still ls ms (addr + 8) stack a b parts.1 same h.1)

pub area_lengths : (isa : Isa) (at : ℕ) (ls : List Loc) (s : State) → (length (from_area isa at ls s).general ≡ length s.general) × (length (from_area isa at ls s).floating ≡ length s.floating)
area_lengths isa at [] s = (refl, refl)
area_lengths isa at (G k ∷ ls) s =
    let v : ℕ = number_of 8 (stack_at (s.sp + at) 8 s) in
    let rest = area_lengths isa (at + 8) ls (received (size_of isa (load (G k) (stack_pointer isa) 0)) (G k) v s) in
    (rest.0 ∙ length-set s.general k v, rest.1)
area_lengths isa at (F k ∷ ls) s =
    let v : ℕ = number_of 8 (stack_at (s.sp + at) 8 s) in
    let rest = area_lengths isa (at + 8) ls (received (size_of isa (load (F k) (stack_pointer isa) 0)) (F k) v s) in
    (rest.0, rest.1 ∙ length-set s.floating k v)
area_lengths isa at (S k w ∷ ls) s = area_lengths isa (at + 8) ls s

pub in_neither : (l : Loc) (xs ys : List Loc) → is_in l (xs ++ ys) ≡ false → (is_in l xs ≡ false) × (is_in l ys ≡ false)
in_neither l [] ys h = (refl, h)
in_neither l (x ∷ xs) ys h =
    let parts = neither (same_loc l x) (is_in l (xs ++ ys)) h in
    let rest = in_neither l xs ys parts.1 in
    (ap (λ (b : Bool). b || is_in l xs) parts.0 ∙ rest.0, rest.1)

pub came_again : (ls ms : List Loc) (s a b : State) → are_disjoint ls ms ≡ true → ((l : Loc) → is_in l ms ≡ false → held l b ≡ held l a) → CameFromExchange ls s a → CameFromExchange ls s b
unfolding are_disjoint
came_again [] ms s a b ok same h = tt
came_again (l ∷ ls) ms s a b ok same h =
    let parts = both (not (is_in l ms)) (are_disjoint ls ms) ok in
    (same l (negated (is_in l ms) parts.0) ∙ h.0, came_again ls ms s a b parts.1 same h.1)

pub exchange_lengths : (isa : Isa) (base : ℕ) (ls : List Loc) (s : State) → length (from_exchange isa base ls s).general ≡ length s.general
exchange_lengths isa base [] s = refl
exchange_lengths isa base (G k ∷ ls) s =
    let v : ℕ = x_of (8 * k) s in
    exchange_lengths isa base ls (received (size_of isa (load (G k) base 0)) (G k) v s) ∙ length-set s.general k v
exchange_lengths isa base (F k ∷ ls) s = exchange_lengths isa base ls (received (size_of isa (load (F k) base 0)) (F k) (x_of (256 + 8 * k) s) s)
exchange_lengths isa base (S k w ∷ ls) s = exchange_lengths isa base ls s

-- one register is written
pub other_than : (l : Loc) (k v : ℕ) (s t : State) → t.general ≡ slice_set s.general k v → t.floating ≡ s.floating → same_loc l (G k) ≡ false → held l t ≡ held l s
other_than l k v s t e f h = addressed_other s.general l k v s t e f h
