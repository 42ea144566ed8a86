-- Registers by the exchange region: a word that is written there is a register that is set.
use Rattle.std.proofs.Common.{◌≡◌, ℕ, ◌+◌, ◌-◌, ◌*◌, ◌%◌, ◌^◌, ◌<◌, ◌≤◌, ◌⊎◌, inl, inr, Bool, true, false, if◌then◌else◌, List, ◌++◌, length, take, drop, get_or, set, refl, sym, ap, ◌∙◌, subst, arith, length-set}
use Rattle.std.specs.Prelude.{slice_index, slice_set}
use Rattle.std.specs.List.{replace_range}
use Rattle.std.specs.Int.{w64, from_le_bytes}
use Rattle.std.proofs.lemmas.Bool.{cases_lt}
use Rattle.std.proofs.lemmas.List.{ext_get_or, get_or-set_same, get_or-set_other, drop_at, take_at}
use Rattle.std.proofs.lemmas.List.FromFn.{length-map-range_with_len, get_or-map-range_with_len}
use Rattle.std.proofs.lemmas.Nat.{from_le_bytes-to_le_bytes_8}
use Rattle.ffi3_machine_spec.specs.Memory.{number_of, low_bytes}
use Rattle.ffi3_type_spec.specs.declared.limits.TheConstants.{STACK}
use Rattle.ffi3_type_spec.proofs.Parts.{index_part}
use Rattle.ffi3_type_spec.specs.declared.Target.{Target}
use Rattle.ffi3_type_spec.specs.TargetIsa.{isa_of}
use Rattle.ffi3_place_spec.specs.MachineRegisters.{is_zero_register}
use Rattle.ffi3_place_spec.specs.StubRegisters.{has_stubs}
use Rattle.ffi3_place_spec.specs.Standard.{Standard}
use Rattle.ffi3_machine_spec.specs.State.{State, x_of, with_x, with_general, with_floating}
use Rattle.ffi3_place_spec.specs.declared.Loc.{Loc}
use Rattle.ffi3_place_spec.specs.declared.Loc.TheVariants.{G, F, S}
use Rattle.ffi3_machine_spec.specs.declared.stub.TheConstants.{REGISTERS_END}
use Rattle.ffi3_machine_spec.specs.Stubs.{exchanged_at}
use Rattle.ffi3_marshal.proofs.Ranges.{range_length}
use Rattle.ffi3_machine_transfer.specs.Stored.{IsPlace, SameAt, byte_of, word_in}
use Rattle.ffi3_machine_transfer.specs.Passing.{by_exchange, words_at, passing_if, passing, steps_if}
use Rattle.ffi3_place_spec.proofs.Words.{same_bytes}
use Rattle.ffi3_machine_transfer.proofs.Composing.{by_register}
use Rattle.ffi3_machine_transfer.proofs.Exchanged.{word_written, word_below, word_above, above_all}

-- calls that go by stubs have them
stubs_there : (target : Target) → by_exchange target ≡ true → has_stubs target ≡ true
unfolding by_exchange
stubs_there target e = e

-- what the laws of stubs say, where calls go by them
pub laws_of : {L : Type 0} (std : Standard) (target : Target) → (has_stubs std.target ≡ true → L) → std.target ≡ target → by_exchange target ≡ true → L
laws_of std target law same e = law (ap has_stubs same ∙ stubs_there target e)

pub length-words_at : (from : ℕ) (xs : List ℕ) → length (words_at from xs) ≡ 32
unfolding words_at
length-words_at from xs = length-map-range_with_len (λ k. number_of 8 (take 8 (drop (from + 8 * k) xs))) 0 32

pub get_or-words_at : (from : ℕ) (xs : List ℕ) (k : ℕ) → k < 32 → get_or (words_at from xs) k 0 ≡ number_of 8 (take 8 (drop (from + 8 * k) xs))
unfolding words_at
get_or-words_at from xs k h = get_or-map-range_with_len (λ i. number_of 8 (take 8 (drop (from + 8 * i) xs))) 0 32 k k 0 h (omega arith)

number_low : (v : ℕ) → v < 2 ^ 64 → number_of 8 (low_bytes 8 v) ≡ v
number_low v h = from_le_bytes-to_le_bytes_8 v h

abbrev put_word : List ℕ → ℕ → ℕ → List ℕ
put_word xs at v = replace_range xs at (at + length (low_bytes 8 v)) (low_bytes 8 v)

-- ---- one of the words is written

module _ (from k v : ℕ) (xs : List ℕ) (below : k < 32) (room : from + 256 ≤ length xs) (small : v < 2 ^ 64) where
  abbrev at : ℕ
  at = from + 8 * k

  each : (j : ℕ) → j < 32 → get_or (words_at from (put_word xs at v)) j 0 ≡ get_or (set (words_at from xs) k v) j 0
  each j h = get_or-words_at from (put_word xs at v) j h ∙ elim (cases_lt j k) [
    | inl less ↦ ap (number_of 8) (word_below xs (from + 8 * j) at v (omega arith) (omega arith)) ∙ sym (get_or-words_at from xs j h) ∙ sym (get_or-set_other (words_at from xs) k j v 0 (λ e. omega arith))
    | inr more ↦ elim (cases_lt k j) [
      | inl greater ↦ ap (number_of 8) (word_above xs (from + 8 * j) at v (omega arith) (omega arith)) ∙ sym (get_or-words_at from xs j h) ∙ sym (get_or-set_other (words_at from xs) k j v 0 (λ e. omega arith))
      | inr least ↦ let same : j ≡ k = omega arith in
          ap (λ i. number_of 8 (take 8 (drop (from + 8 * i) (put_word xs at v)))) same ∙ ap (number_of 8) (word_written xs at v (omega arith)) ∙ number_low v small ∙ sym (get_or-set_same (words_at from xs) k v 0 (subst (λ n. k < n) (sym (length-words_at from xs)) below)) ∙ ap (λ i. get_or (set (words_at from xs) k v) i 0) (sym same)
    ]
  ]

  pub word_set : words_at from (put_word xs at v) ≡ slice_set (words_at from xs) k v
  word_set =
      ext_get_or 0 (words_at from (put_word xs at v)) (set (words_at from xs) k v) (length-words_at from (put_word xs at v) ∙ sym (length-set (words_at from xs) k v ∙ length-words_at from xs)) (λ j h. each j (subst (λ n. j < n) (length-words_at from (put_word xs at v)) h))

  -- and the other words stay
  pub others_stay : (other : ℕ) → (other + 256 ≤ from) ⊎ (from + 256 ≤ other) → other + 256 ≤ length xs → words_at other (put_word xs at v) ≡ words_at other xs
  others_stay other away fits =
      ext_get_or 0 (words_at other (put_word xs at v)) (words_at other xs) (length-words_at other (put_word xs at v) ∙ sym (length-words_at other xs)) (λ j h. stays j (subst (λ n. j < n) (length-words_at other (put_word xs at v)) h) away)
    where
      stays : (j : ℕ) → j < 32 → (other + 256 ≤ from) ⊎ (from + 256 ≤ other) → get_or (words_at other (put_word xs at v)) j 0 ≡ get_or (words_at other xs) j 0
      stays j h (inl low) = get_or-words_at other (put_word xs at v) j h ∙ ap (number_of 8) (word_below xs (other + 8 * j) at v (omega arith) (omega arith)) ∙ sym (get_or-words_at other xs j h)
      stays j h (inr high) = get_or-words_at other (put_word xs at v) j h ∙ ap (number_of 8) (word_above xs (other + 8 * j) at v (omega arith) (omega arith)) ∙ sym (get_or-words_at other xs j h)

  pub behind_stays : from + 256 ≤ REGISTERS_END → drop REGISTERS_END (put_word xs at v) ≡ drop REGISTERS_END xs
  behind_stays high = above_all xs at v REGISTERS_END (omega arith) (omega arith)

-- ---- the view

not_zero : (b : Bool) (x y : List ℕ) → b ≡ false → (if b then x else y) ≡ y
not_zero b x y e = rw e refl

pub general_passed : (b : Bool) (k v : ℕ) (s : State) → b ≡ true → length s.exchange ≡ 552 → k < 32 → v < 2 ^ 64 → is_zero_register (isa_of s.target) k ≡ false → passing_if b (with_x (8 * k) v s) ≡ with_general k v (passing_if b s)
general_passed b k v s e size below small writable =
    let xs : List ℕ = s.exchange in
    let here : 8 * k ≡ 0 + 8 * k = omega arith in
    let g : words_at 0 (put_word xs (8 * k) v) ≡ (if is_zero_register (isa_of s.target) k then words_at 0 xs else slice_set (words_at 0 xs) k v) = ap (λ i. words_at 0 (put_word xs i v)) here ∙ word_set 0 k v xs below (omega arith) small ∙ sym (not_zero (is_zero_register (isa_of s.target) k) (words_at 0 xs) (slice_set (words_at 0 xs) k v) writable) in
    let f : words_at 256 (put_word xs (8 * k) v) ≡ words_at 256 xs = ap (λ i. words_at 256 (put_word xs i v)) here ∙ others_stay 0 k v xs below (omega arith) small 256 (inr (omega arith)) (omega arith) in
    let x : drop REGISTERS_END (put_word xs (8 * k) v) ≡ drop REGISTERS_END xs = ap (λ i. drop REGISTERS_END (put_word xs i v)) here ∙ behind_stays 0 k v xs below (omega arith) small (omega arith) in
    let P : Bool → Type 0 = λ c. passing_if c (with_x (8 * k) v s) ≡ with_general k v (passing_if c s) in
    subst P (sym e) (λ i. record s { general = g i; floating = f i; exchange = s.general ++ (s.floating ++ x i) })

pub floating_passed : (b : Bool) (k v : ℕ) (s : State) → b ≡ true → length s.exchange ≡ 552 → k < 32 → v < 2 ^ 64 → passing_if b (with_x (256 + 8 * k) v s) ≡ with_floating k v (passing_if b s)
floating_passed b k v s e size below small =
    let xs : List ℕ = s.exchange in
    let g : words_at 0 (put_word xs (256 + 8 * k) v) ≡ words_at 0 xs = others_stay 256 k v xs below (omega arith) small 0 (inl (omega arith)) (omega arith) in
    let f : words_at 256 (put_word xs (256 + 8 * k) v) ≡ slice_set (words_at 256 xs) k v = word_set 256 k v xs below (omega arith) small in
    let x : drop REGISTERS_END (put_word xs (256 + 8 * k) v) ≡ drop REGISTERS_END xs = behind_stays 256 k v xs below (omega arith) small (omega arith) in
    let P : Bool → Type 0 = λ c. passing_if c (with_x (256 + 8 * k) v s) ≡ with_floating k v (passing_if c s) in
    subst P (sym e) (λ i. record s { general = g i; floating = f i; exchange = s.general ++ (s.floating ++ x i) })

-- reads
pub general_read : (b : Bool) (k : ℕ) (s : State) → b ≡ true → k < 32 → x_of (8 * k) s ≡ slice_index (passing_if b s).general k
general_read b k s e below =
    let P : Bool → Type 0 = λ c. x_of (8 * k) s ≡ slice_index (passing_if c s).general k in
    let here : 8 * k ≡ 0 + 8 * k = omega arith in
    subst P (sym e) (ap (λ i. x_of i s) here ∙ sym (get_or-words_at 0 s.exchange k below))

pub floating_read : (b : Bool) (k : ℕ) (s : State) → b ≡ true → k < 32 → x_of (256 + 8 * k) s ≡ slice_index (passing_if b s).floating k
floating_read b k s e below =
    let P : Bool → Type 0 = λ c. x_of (256 + 8 * k) s ≡ slice_index (passing_if c s).floating k in
    subst P (sym e) (sym (get_or-words_at 256 s.exchange k below))

-- the view has as many registers
pub general_count : (b : Bool) (s : State) → length s.general ≡ 32 → length (passing_if b s).general ≡ 32
general_count true s h = length-words_at 0 s.exchange
general_count false s h = h

pub floating_count : (b : Bool) (s : State) → length s.floating ≡ 32 → length (passing_if b s).floating ≡ 32
floating_count true s h = length-words_at 256 s.exchange
floating_count false s h = h

-- ---- what stands behind the view

same_prefix : (xs ys us vs : List ℕ) → length xs ≡ length ys → xs ++ us ≡ ys ++ vs → (xs ≡ ys) × (us ≡ vs)
same_prefix xs ys us vs n e = (
  sym (take_at xs us (length xs) refl) ∙ ap (take (length xs)) e ∙ take_at ys vs (length xs) (sym n),
  sym (drop_at xs us (length xs) refl) ∙ ap (drop (length xs)) e ∙ drop_at ys vs (length xs) (sym n),
)

-- the machine's own registers, and the exchange region behind the words
pub behind_parts : (x y : State) → length x.general ≡ length y.general → length x.floating ≡ length y.floating → (passing_if true y).exchange ≡ (passing_if true x).exchange → (y.general ≡ x.general) × (y.floating ≡ x.floating) × (drop REGISTERS_END y.exchange ≡ drop REGISTERS_END x.exchange)
behind_parts x y g f behind =
    let parts = same_prefix y.general x.general (y.floating ++ drop REGISTERS_END y.exchange) (x.floating ++ drop REGISTERS_END x.exchange) (sym g) behind in
    let rest = same_prefix y.floating x.floating (drop REGISTERS_END y.exchange) (drop REGISTERS_END x.exchange) (sym f) parts.1 in
    (parts.0, rest.0, rest.1)

-- A register that the view has alike in both, and what stands behind the view too, is the same.
pub own_same : (b : Bool) (l : Loc) (x y : State) → IsPlace 0 l → length x.general ≡ length y.general → length x.floating ≡ length y.floating → SameAt 0 l (passing_if b x) (passing_if b y) → (passing_if b y).exchange ≡ (passing_if b x).exchange → SameAt 0 l x y
own_same true (G r) x y h g f same behind = ap (λ e. get_or e r 0) (behind_parts x y g f behind).0
own_same true (F r) x y h g f same behind = ap (λ e. get_or e r 0) (behind_parts x y g f behind).1
own_same true (S n w) x y h g f same behind = absurd (omega (arith, h.0, h.1))
own_same false l x y h g f same behind = same

-- the same of two states of one target
pub own_register : (l : Loc) (x y : State) → IsPlace 0 l → y.target ≡ x.target → length x.general ≡ length y.general → length x.floating ≡ length y.floating → SameAt 0 l (passing x) (passing y) → (passing y).exchange ≡ (passing x).exchange → SameAt 0 l x y
own_register l x y h target g f same behind =
    let t : by_exchange y.target ≡ by_exchange x.target = ap by_exchange target in
    own_same (by_exchange x.target) l x y h g f (subst (λ (b : Bool). SameAt 0 l (passing x) (passing_if b y)) t same) (subst (λ (b : Bool). (passing_if b y).exchange ≡ (passing x).exchange) t behind)

-- a general register that is the machine's own
pub own_general : (b : Bool) (x y : State) → length x.general ≡ length y.general → length x.floating ≡ length y.floating → (passing_if b y).general ≡ (passing_if b x).general → (passing_if b y).exchange ≡ (passing_if b x).exchange → y.general ≡ x.general
own_general true x y g f same behind = (behind_parts x y g f behind).0
own_general false x y g f same behind = same

-- ---- a number beside the words that are passed

pub told_there : (at v : ℕ) (s : State) → at + 8 ≤ length s.exchange → v < 2 ^ 64 → x_of at (with_x at v s) ≡ v
told_there at v s fits small = ap (number_of 8) (word_written s.exchange at v fits) ∙ number_low v small

pub told_below : (n at v : ℕ) (s : State) → n + 8 ≤ at → at + 8 ≤ length s.exchange → x_of n (with_x at v s) ≡ x_of n s
told_below n at v s near fits = ap (number_of 8) (word_below s.exchange n at v near fits)

pub told_length : (at v : ℕ) (s : State) → at + 8 ≤ length s.exchange → length (with_x at v s).exchange ≡ length s.exchange
told_length at v s fits = range_length s.exchange (low_bytes 8 v) at (at + length (low_bytes 8 v)) refl fits

-- ---- words of registers, in the exchange region and on the stack

-- a register that is passed is its word of the exchange region
pub word_passed : (base : ℕ) (l : Loc) (s : State) → IsPlace 0 l → word_in base (passing_if true s) l ≡ x_of (exchanged_at l) s
word_passed base l s lies = by_register (λ l. word_in base (passing_if true s) l ≡ x_of (exchanged_at l) s) (λ r below. sym (general_read true r s refl below)) (λ r below. sym (floating_read true r s refl below)) l lies

-- below REGISTERS_END
pub place_low : (l : Loc) → IsPlace 0 l → exchanged_at l + 8 ≤ REGISTERS_END
place_low l lies = by_register (λ l. exchanged_at l + 8 ≤ REGISTERS_END) (λ r below. omega (arith, below)) (λ r below. omega (arith, below)) l lies

pub number_stored : (at v : ℕ) (s : State) → take 8 (drop at s.exchange) ≡ low_bytes 8 v → v < 2 ^ 64 → x_of at s ≡ v
number_stored at v s e small = ap (number_of 8) e ∙ number_low v small

pub word_read : (from n : ℕ) (s : State) → STACK ≤ from → word_in from s (S n 8) ≡ number_of 8 (take 8 (drop (from + n - STACK) s.stack))
word_read from n s low =
    ap (from_le_bytes w64) (same_bytes (byte_of from s (S n 8)) (λ k. get_or (take 8 (drop (from + n - STACK) s.stack)) k 0) 8 (λ k h.
    let there : from + n + k - STACK ≡ from + n - STACK + k = omega (arith, low) in
    ap (λ i. get_or s.stack i 0) there ∙ sym (index_part s.stack (from + n - STACK) 8 k h)))

pub word_stored : (from n v : ℕ) (s : State) → STACK ≤ from → take 8 (drop (from + n - STACK) s.stack) ≡ low_bytes 8 v → v < 2 ^ 64 → word_in from s (S n 8) ≡ v
word_stored from n v s low e small = word_read from n s low ∙ ap (number_of 8) e ∙ number_low v small

-- ---- steps

pub steps_more : (b : Bool) (count before after : ℕ) → b ≡ true → after ≡ (before + count) % 2 ^ 64 → after ≡ steps_if b count before
steps_more true count before after e h = h
steps_more false count before after e h = cc

pub steps_same : (b : Bool) (count before after : ℕ) → b ≡ false → after ≡ before → after ≡ steps_if b count before
steps_same true count before after e h = cc
steps_same false count before after e h = h
