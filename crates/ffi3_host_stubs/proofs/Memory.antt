-- Bytes of memory that are stored, and those around them; registers that rows set, and those that they leave.
use Rattle.std.proofs.Common.{◌≡◌, ℕ, zero, suc, ◌+◌, ◌-◌, ◌*◌, ◌<◌, ◌≤◌, ◌⊎◌, inl, inr, ⊎_elim, Bool, true, false, if◌then◌else◌, List, [], ◌∷◌, length, refl, sym, ap, ◌∙◌, arith}
use Rattle.std.proofs.lemmas.Bool.Decides.{nat_tests}
use Rattle.std.specs.Prelude.{◌&&◌, ◌||◌, ◌==◌, not, nat_lt, nat_le}
use Rattle.std.specs.Int.{byte_at}
use Rattle.std.specs.List.{AllByRecursion}
use Rattle.ffi3_machine_spec.specs.Memory.{low_bytes}
use Rattle.ffi3_type_spec.specs.declared.Isa.{Isa}
use Rattle.ffi3_place_spec.specs.declared.Loc.{Loc}
use Rattle.ffi3_place_spec.specs.declared.Loc.TheVariants.{G, F, S}
use Rattle.ffi3_machine_spec.specs.Stubs.{load, size_of}
use Rattle.ffi3_stubs.specs.Calls.{same_loc, is_in}
use Rattle.ffi3_host_stubs.specs.Processor.{Processor, bytes_at, word_at, is_within, put_word}
use Rattle.ffi3_host_stubs.specs.Calls.{held, held_in, CameFromWords, WentToWords, IsOutside}
use Rattle.ffi3_host_stubs.proofs.Effects.{received, stored, Places, in_area, registers, from_places, to_places}

-- ---- tests

pub both : (a b : Bool) → (a && b) ≡ true → (a ≡ true) × (b ≡ true)
both true b h = (refl, h)
both false b h = absurd cc

pub neither : (a b : Bool) → (a || b) ≡ false → (a ≡ false) × (b ≡ false)
neither true b h = absurd cc
neither false b h = (refl, h)

either : (a b : Bool) → (a || b) ≡ true → (a ≡ true) ⊎ (b ≡ true)
either true b h = inl refl
either false b h = inr h

pub negated : (b : Bool) → not b ≡ true → b ≡ false
negated true h = absurd cc
negated false h = refl

pub less : (k n : ℕ) → nat_lt k n ≡ true → k < n
less k n h = grind (arith, nat_tests)

at_most : (k n : ℕ) → nat_le k n ≡ true → k ≤ n
at_most k n h = grind (arith, nat_tests)

itself : (k : ℕ) → (k == k) ≡ true
itself k = grind (arith, nat_tests)

-- ---- a word of memory

inside : (addr i : ℕ) → i < 8 → is_within addr (addr + i) ≡ true
inside addr i h = grind (arith, nat_tests)

not_inside : (addr a : ℕ) → IsOutside addr (addr + 8) a → is_within addr a ≡ false
not_inside addr a (inl h) = grind (arith, nat_tests)
not_inside addr a (inr h) = grind (arith, nat_tests)

byte_put : (addr v a i : ℕ) (m : ℕ → ℕ) → a ≡ addr + i → i < 8 → put_word addr v m a ≡ byte_at i v
byte_put addr v a i m e h =
    let back : addr + i - addr ≡ i = omega arith in
    ap (put_word addr v m) e ∙ ap (λ (b : Bool). if b then byte_at (addr + i - addr) v else m (addr + i)) (inside addr i h) ∙ ap (λ k. byte_at k v) back

pub byte_other : (addr v a : ℕ) (m : ℕ → ℕ) → IsOutside addr (addr + 8) a → put_word addr v m a ≡ m a
byte_other addr v a m h = ap (λ (b : Bool). if b then byte_at (a - addr) v else m a) (not_inside addr a h)

pub word_put : (addr v : ℕ) (m : ℕ → ℕ) → bytes_at (put_word addr v m) addr 8 ≡ low_bytes 8 v
word_put addr v m =
    let e0 : put_word addr v m addr ≡ byte_at 0 v = byte_put addr v addr 0 m (omega arith) (omega arith) in
    let e1 : put_word addr v m (addr + 1) ≡ byte_at 1 v = byte_put addr v (addr + 1) 1 m (omega arith) (omega arith) in
    let e2 : put_word addr v m (addr + 1 + 1) ≡ byte_at 2 v = byte_put addr v (addr + 1 + 1) 2 m (omega arith) (omega arith) in
    let e3 : put_word addr v m (addr + 1 + 1 + 1) ≡ byte_at 3 v = byte_put addr v (addr + 1 + 1 + 1) 3 m (omega arith) (omega arith) in
    let e4 : put_word addr v m (addr + 1 + 1 + 1 + 1) ≡ byte_at 4 v = byte_put addr v (addr + 1 + 1 + 1 + 1) 4 m (omega arith) (omega arith) in
    let e5 : put_word addr v m (addr + 1 + 1 + 1 + 1 + 1) ≡ byte_at 5 v = byte_put addr v (addr + 1 + 1 + 1 + 1 + 1) 5 m (omega arith) (omega arith) in
    let e6 : put_word addr v m (addr + 1 + 1 + 1 + 1 + 1 + 1) ≡ byte_at 6 v = byte_put addr v (addr + 1 + 1 + 1 + 1 + 1 + 1) 6 m (omega arith) (omega arith) in
    let e7 : put_word addr v m (addr + 1 + 1 + 1 + 1 + 1 + 1 + 1) ≡ byte_at 7 v = byte_put addr v (addr + 1 + 1 + 1 + 1 + 1 + 1 + 1) 7 m (omega arith) (omega arith) in
    λ i. e0 i ∷ e1 i ∷ e2 i ∷ e3 i ∷ e4 i ∷ e5 i ∷ e6 i ∷ e7 i ∷ []

-- a run of bytes that are the same in both memories
pub bytes_alike : (f g : ℕ → ℕ) (addr n : ℕ) → ((a : ℕ) → addr ≤ a → a < addr + n → f a ≡ g a) → bytes_at f addr n ≡ bytes_at g addr n
bytes_alike f g addr zero same = refl
bytes_alike f g addr (suc n) same =
    let one = same addr (omega arith) (omega arith) in
    let more = bytes_alike f g (addr + 1) n (λ a low high. same a (omega (arith, low)) (omega (arith, high))) in
    λ i. one i ∷ more i

pub bytes_other : (addr v : ℕ) (m : ℕ → ℕ) (a n : ℕ) → (a + n ≤ addr) ⊎ (addr + 8 ≤ a) → bytes_at (put_word addr v m) a n ≡ bytes_at m a n
bytes_other addr v m a n far =
    bytes_alike (put_word addr v m) m a n (λ i low high. byte_other addr v i m (⊎_elim (λ h. inl (omega (arith, h, high))) (λ h. inr (omega (arith, h, low))) far))

-- ---- one register

abbrev pub is_register : Loc → Bool
is_register (G k) = true
is_register (F k) = true
is_register (S k w) = false

pub received_other : (size v : ℕ) (l m : Loc) (s : Processor) → same_loc l m ≡ false → held l (received size m v s) ≡ held l s
received_other size v (G a) (G b) s h = ap (λ (t : Bool). if t then v else s.general a) h
received_other size v (G a) (F b) s h = refl
received_other size v (G a) (S b w) s h = refl
received_other size v (F a) (G b) s h = refl
received_other size v (F a) (F b) s h = ap (λ (t : Bool). if t then v else s.floating a) h
received_other size v (F a) (S b w) s h = refl
received_other size v (S a w) m s h = refl

received_same : (size v : ℕ) (l : Loc) (s : Processor) → is_register l ≡ true → held l (received size l v s) ≡ v
received_same size v (G a) s h = ap (λ (t : Bool). if t then v else s.general a) (itself a)
received_same size v (F a) s h = ap (λ (t : Bool). if t then v else s.floating a) (itself a)
received_same size v (S a w) s h = absurd cc

-- ---- registers from memory

pub others_stay : (isa : Isa) (b x : ℕ) (ms : Places) (s : Processor) (l : Loc) → is_in l (registers ms) ≡ false → held l (from_places isa b x ms s) ≡ held l s
others_stay isa b x [] s l h = refl
others_stay isa b x (m ∷ ms) s l h =
    let parts = neither (same_loc l m.0) (is_in l (registers ms)) h in
    let size : ℕ = size_of isa (load m.0 b 0) in
    let v : ℕ = word_at (x + m.1) s in
    others_stay isa b x ms (received size m.0 v s) l parts.1 ∙ received_other size v l m.0 s parts.0

pub none_of_two : (l : Loc) (a b : ℕ) (ls : List Loc) → is_in l (G a ∷ G b ∷ ls) ≡ false → (same_loc l (G a) ≡ false) × (same_loc l (G b) ≡ false) × (is_in l ls ≡ false)
none_of_two l a b ls out =
    let p = neither (same_loc l (G a)) (is_in l (G b ∷ ls)) out in
    let q = neither (same_loc l (G b)) (is_in l ls) p.1 in
    (p.0, q.0, q.1)

-- registers, and none of them twice
unfoldable pub are_apart : Places → Bool
are_apart [] = true
are_apart (m ∷ ms) = (is_register m.0 && not (is_in m.0 (registers ms))) && are_apart ms

-- each register holds a number that depends on its place
unfoldable pub Hold : (ℕ → ℕ) → Places → Processor → Type 0
Hold f ms t = AllByRecursion (λ m. held m.0 t ≡ f m.1) ms

pub came : (isa : Isa) (b x : ℕ) (ms : Places) (s : Processor) → are_apart ms ≡ true → Hold (λ at. word_at (x + at) s) ms (from_places isa b x ms s)
unfolding are_apart Hold
came isa b x [] s ok = tt
came isa b x (m ∷ ms) s ok =
    let parts = both (is_register m.0 && not (is_in m.0 (registers ms))) (are_apart ms) ok in
    let own = both (is_register m.0) (not (is_in m.0 (registers ms))) parts.0 in
    let size : ℕ = size_of isa (load m.0 b 0) in
    let v : ℕ = word_at (x + m.1) s in
    let t : Processor = received size m.0 v s in
    (others_stay isa b x ms t m.0 (negated (is_in m.0 (registers ms)) own.1) ∙ received_same size v m.0 s own.0, came isa b x ms t parts.1)

-- none of the registers is in the list
unfoldable pub are_disjoint : Places → List Loc → Bool
are_disjoint [] ls = true
are_disjoint (m ∷ ms) ls = not (is_in m.0 ls) && are_disjoint ms ls

pub hold_still : (f : ℕ → ℕ) (ms : Places) (ls : List Loc) (a b : Processor) → are_disjoint ms ls ≡ true → ((l : Loc) → is_in l ls ≡ false → held l b ≡ held l a) → Hold f ms a → Hold f ms b
unfolding are_disjoint Hold
hold_still f [] ls a b ok same h = tt
hold_still f (m ∷ ms) ls a b ok same h =
    let parts = both (not (is_in m.0 ls)) (are_disjoint ms ls) ok in
    (same m.0 (negated (is_in m.0 ls) parts.0) ∙ h.0, hold_still f ms ls a b parts.1 same h.1)

pub from_area : (x at addr : ℕ) (ls : List Loc) (s t : Processor) → x + at ≡ addr → Hold (λ i. word_at (x + i) s) (in_area at ls) t → CameFromWords addr ls s.memory t
unfolding Hold
from_area x at addr [] s t e h = tt
from_area x at addr (l ∷ ls) s t e h =
    (h.0 ∙ ap (λ a. word_at a s) e, from_area x (at + 8) (addr + 8) ls s t (omega (arith, e)) h.1)

-- ---- registers to memory

-- the byte is in none of the places
unfoldable pub Misses : ℕ → Places → ℕ → Type 0
Misses x ms a = AllByRecursion (λ m. IsOutside (x + m.1) (x + m.1 + 8) a) ms

pub bytes_stay : (isa : Isa) (b x : ℕ) (ms : Places) (s : Processor) (a : ℕ) → Misses x ms a → (to_places isa b x ms s).memory a ≡ s.memory a
unfolding Misses
bytes_stay isa b x [] s a out = refl
bytes_stay isa b x (m ∷ ms) s a out =
    bytes_stay isa b x ms (stored (size_of isa (load m.0 b 0)) (x + m.1) (held m.0 s) s) a out.1 ∙ byte_other (x + m.1) (held m.0 s) a s.memory out.0

-- no place has a byte from `at` on, below `end`
unfoldable pub are_clear : ℕ → ℕ → Places → Bool
are_clear at end [] = true
are_clear at end (m ∷ ms) = (nat_le end m.1 || nat_le (m.1 + 8) at) && are_clear at end ms

clear : (x at end : ℕ) (ms : Places) (a : ℕ) → are_clear at end ms ≡ true → x + at ≤ a → a < x + end → Misses x ms a
unfolding are_clear Misses
clear x at end [] a ok low high = tt
clear x at end (m ∷ ms) a ok low high =
    let parts = both (nat_le end m.1 || nat_le (m.1 + 8) at) (are_clear at end ms) ok in (
      ⊎_elim (λ e. let h = at_most end m.1 e in inl (omega (arith, h, high))) (λ e. let h = at_most (m.1 + 8) at e in inr (omega (arith, h, low))) (either (nat_le end m.1) (nat_le (m.1 + 8) at) parts.0),
      clear x at end ms a parts.1 low high,
    )

pub word_stays : (isa : Isa) (b x : ℕ) (ms : Places) (s : Processor) (at : ℕ) → are_clear at (at + 8) ms ≡ true → bytes_at (to_places isa b x ms s).memory (x + at) 8 ≡ bytes_at s.memory (x + at) 8
word_stays isa b x ms s at ok =
    bytes_alike (to_places isa b x ms s).memory s.memory (x + at) 8 (λ a low high. bytes_stay isa b x ms s a (clear x at (at + 8) ms a ok low (omega (arith, high))))

-- all places are below `end`
unfoldable pub are_below : ℕ → Places → Bool
are_below end [] = true
are_below end (m ∷ ms) = nat_le (m.1 + 8) end && are_below end ms

pub around : (x end : ℕ) (ms : Places) (a : ℕ) → are_below end ms ≡ true → IsOutside x (x + end) a → Misses x ms a
unfolding are_below Misses
around x end [] a ok out = tt
around x end (m ∷ ms) a ok out =
    let parts = both (nat_le (m.1 + 8) end) (are_below end ms) ok in
    let h : m.1 + 8 ≤ end = at_most (m.1 + 8) end parts.0 in
    (⊎_elim (λ e. inl (omega (arith, e))) (λ e. inr (omega (arith, e, h))) out, around x end ms a parts.1 out)

-- no two places share a byte
unfoldable pub are_spread : Places → Bool
are_spread [] = true
are_spread (m ∷ ms) = are_clear m.1 (m.1 + 8) ms && are_spread ms

-- at each place stands what a register holds
unfoldable pub Stand : ℕ → Places → (ℕ → ℕ) → (ℕ → ℕ) → (ℕ → ℕ) → Type 0
Stand x ms general floating memory =
    AllByRecursion (λ m. bytes_at memory (x + m.1) 8 ≡ low_bytes 8 (held_in m.0 general floating)) ms

pub went : (isa : Isa) (b x : ℕ) (ms : Places) (s : Processor) → are_spread ms ≡ true → Stand x ms s.general s.floating (to_places isa b x ms s).memory
unfolding are_spread Stand
went isa b x [] s ok = tt
went isa b x (m ∷ ms) s ok =
    let parts = both (are_clear m.1 (m.1 + 8) ms) (are_spread ms) ok in
    let t : Processor = stored (size_of isa (load m.0 b 0)) (x + m.1) (held m.0 s) s in
    (word_stays isa b x ms t m.1 parts.0 ∙ word_put (x + m.1) (held m.0 s) s.memory, went isa b x ms t parts.1)

-- what registers held before
pub stand_from : (x : ℕ) (ms : Places) (ls : List Loc) (s t : Processor) (memory : ℕ → ℕ) → are_disjoint ms ls ≡ true → ((l : Loc) → is_in l ls ≡ false → held l t ≡ held l s) → Stand x ms t.general t.floating memory → Stand x ms s.general s.floating memory
unfolding are_disjoint Stand
stand_from x [] ls s t memory ok same h = tt
stand_from x (m ∷ ms) ls s t memory ok same h =
    let parts = both (not (is_in m.0 ls)) (are_disjoint ms ls) ok in
    (h.0 ∙ ap (low_bytes 8) (same m.0 (negated (is_in m.0 ls) parts.0)), stand_from x ms ls s t memory parts.1 same h.1)

pub to_area : (x at addr : ℕ) (ls : List Loc) (general floating f g : ℕ → ℕ) → x + at ≡ addr → ((a : ℕ) → addr ≤ a → a < addr + 8 * length ls → g a ≡ f a) → Stand x (in_area at ls) general floating f → WentToWords addr ls general floating g
unfolding Stand
to_area x at addr [] general floating f g e same h = tt
to_area x at addr (l ∷ ls) general floating f g e same h =
    (bytes_alike g f addr 8 (λ a low high. same a low (omega (arith, high))) ∙ ap (λ a. bytes_at f a 8) (sym e) ∙ h.0, to_area x (at + 8) (addr + 8) ls general floating f g (omega (arith, e)) (λ a low high. same a (omega (arith, low)) (omega (arith, high))) h.1)
