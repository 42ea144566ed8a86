-- The stack and the slots of a machine as it begins. Slots are freed word by word.
use Rattle.std.proofs.Common.{◌≡◌, ℕ, zero, suc, ◌+◌, ◌*◌, ◌≤◌, List, [], ◌++◌, length, take, drop, refl, sym, ap, ◌∙◌, append_assoc, append-nil, zero-add, arith, length-append, length-take, length-drop}
use Rattle.std.proofs.lemmas.List.{take_at, at_drop_all, length-replicate}
use Rattle.std.proofs.lemmas.Slice.{drop-append-drop}
use Rattle.std.specs.List.{repeat, replace_range}
use Rattle.ffi3_type_spec.specs.declared.Isa.{Isa}
use Rattle.ffi3_type_spec.specs.declared.limits.TheConstants.{STACK_BYTES, CODE_BYTES}
use Rattle.ffi3_type_spec.specs.declared.Isa.TheVariants.{Amd64, Aarch64, Riscv}
use Rattle.ffi3_machine_spec.specs.State.{free_word, free_slot, begun_code, begun_stack, begun_exchange}

pub repeat-add : (m n : ℕ) (xs : List ℕ) → repeat (m + n) xs ≡ repeat m xs ++ repeat n xs
repeat-add zero n xs = rw zero-add refl
repeat-add (suc m) n xs =
    let e : suc m + n ≡ suc (m + n) = omega arith in
    ap (λ k. repeat k xs) e ∙ ap (λ r. xs ++ r) (repeat-add m n xs) ∙ sym (append_assoc xs (repeat m xs) (repeat n xs))

pub repeat-repeat : (m n : ℕ) (xs : List ℕ) → repeat (m * n) xs ≡ repeat m (repeat n xs)
repeat-repeat zero n xs =
    let e : zero * n ≡ zero = omega arith in
    ap (λ k. repeat k xs) e
repeat-repeat (suc m) n xs =
    let e : suc m * n ≡ n + m * n = omega arith in
    ap (λ k. repeat k xs) e ∙ repeat-add n (m * n) xs ∙ ap (λ r. repeat n xs ++ r) (repeat-repeat m n xs)

pub length-repeat : (n : ℕ) (xs : List ℕ) → length (repeat n xs) ≡ n * length xs
length-repeat zero xs = omega arith
length-repeat (suc n) xs = omega (arith, length-append xs (repeat n xs), length-repeat n xs)

pub repeat-more : (n : ℕ) (xs : List ℕ) → repeat n xs ++ xs ≡ repeat (n + 1) xs
repeat-more n xs =
    let one : repeat 1 xs ≡ xs = append-nil xs in
    ap (λ r. repeat n xs ++ r) (sym one) ∙ sym (repeat-add n 1 xs)

-- one word more is freed
pub freed-turn : (v w bytes initial : List ℕ) (at end k : ℕ) → v ≡ w → length v ≡ 4 → at ≡ 4 * k → end ≡ at + 4 → bytes ≡ repeat k w ++ drop (4 * k) initial → replace_range bytes at end v ≡ repeat (k + 1) w ++ drop (4 * (k + 1)) initial
freed-turn v w bytes initial at end k same four is_at is_end before =
    let four_times : k * 4 ≡ 4 * k = omega arith in
    let len : length (repeat k w) ≡ 4 * k = length-repeat k w ∙ ap (λ n. k * n) (sym (ap length same) ∙ four) ∙ four_times in
    let front : take at bytes ≡ repeat k w = ap (take at) before ∙ take_at (repeat k w) (drop (4 * k) initial) at (omega arith) in
    let back : drop end bytes ≡ drop end initial = ap (drop end) before ∙ drop-append-drop (4 * k) initial (repeat k w) end (omega arith) len in
    let is_next : end ≡ 4 * (k + 1) = omega arith in
    let ends : drop end initial ≡ drop (4 * (k + 1)) initial = ap (λ i. drop i initial) is_next in
    ap (λ r. (r ++ v) ++ drop end bytes) front ∙ ap (λ r. (repeat k w ++ r) ++ drop end bytes) same ∙ ap (λ r. r ++ drop end bytes) (repeat-more k w) ∙ ap (λ r. repeat (k + 1) w ++ r) (back ∙ ends)

-- every word is freed
pub freed-all : (m n k : ℕ) (w initial : List ℕ) → k ≡ m * n → length initial ≤ 4 * k → repeat k w ++ drop (4 * k) initial ≡ repeat m (repeat n w)
freed-all m n k w initial is_all long =
    let none : drop (4 * k) initial ≡ [] = at_drop_all (λ r. r) initial (4 * k) long in
    ap (λ r. repeat k w ++ r) none ∙ append-nil (repeat k w) ∙ ap (λ i. repeat i w) is_all ∙ repeat-repeat m n w

pub begun_code-is : (isa : Isa) (k : ℕ) (initial : List ℕ) → 4 * k ≡ CODE_BYTES → length initial ≡ CODE_BYTES → repeat k (free_word isa) ++ drop (4 * k) initial ≡ begun_code isa
unfolding begun_code free_slot
begun_code-is isa k initial is_all long = freed-all 256 16 k (free_word isa) initial (omega arith) (omega arith)

pub length-replaced : (xs new : List ℕ) (at end : ℕ) → end ≡ at + length new → end ≤ length xs → length (replace_range xs at end new) ≡ length xs
length-replaced xs new at end is_end low =
    omega (arith, length-append (take at xs ++ new) (drop end xs), length-append (take at xs) new, length-take at xs, length-drop end xs)

-- bytes that stand for all of a list
pub replaced-all : (xs new : List ℕ) (at end : ℕ) → at ≡ 0 → end ≡ length xs → replace_range xs at end new ≡ new
replaced-all xs new at end is_at is_end =
    let front : take at xs ≡ [] = ap (λ i. take i xs) is_at in
    let back : drop end xs ≡ [] = at_drop_all (λ r. r) xs end (omega arith) in
    ap (λ r. (r ++ new) ++ drop end xs) front ∙ ap (λ r. new ++ r) back ∙ append-nil new

pub length-begun_stack : length begun_stack ≡ STACK_BYTES
unfolding begun_stack
length-begun_stack = length-replicate {A = ℕ} STACK_BYTES 165

pub length-begun_exchange : length begun_exchange ≡ 552
unfolding begun_exchange
length-begun_exchange = length-replicate {A = ℕ} 552 0

pub length-begun_code : (isa : Isa) → length (begun_code isa) ≡ CODE_BYTES
unfolding begun_code free_slot
length-begun_code Amd64 = length-repeat 256 (free_slot Amd64)
length-begun_code Aarch64 = length-repeat 256 (free_slot Aarch64)
length-begun_code Riscv = length-repeat 256 (free_slot Riscv)

pub filled-all : (k : ℕ) (w initial : List ℕ) → k ≡ 1536 → length initial ≡ 6144 → repeat k w ++ drop (4 * k) initial ≡ repeat 1536 w
filled-all k w initial is_all long =
    let none : drop (4 * k) initial ≡ [] = at_drop_all (λ r. r) initial (4 * k) (omega arith) in
    ap (λ r. repeat k w ++ r) none ∙ append-nil (repeat k w) ∙ ap (λ i. repeat i w) is_all
