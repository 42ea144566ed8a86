-- Numbers of 64 bits, and the bytes that they are of.
use Rattle.std.proofs.Common.{◌≡◌, ℕ, zero, suc, ◌+◌, ◌*◌, ◌-◌, ◌<◌, ◌^◌, List, [], ◌∷◌, length, take, drop, arith, lit<, ap, ◌∙◌, sym, subst}
use Rattle.std.proofs.Math.Seq.{take-length}
use Rattle.std.specs.Prelude.{slice_index}
use Rattle.ffi3_machine_spec.specs.Memory.{number_of}
use Rattle.ffi3_type_spec.specs.declared.limits.TheConstants.{STACK}
use Rattle.ffi3_machine_spec.specs.State.{State, IsMachine, AreBytes, x_of, stack_at}

none_is_byte : (k : ℕ) → slice_index [] k < 256
none_is_byte k = lit< tt

pub bytes-drop : (n : ℕ) (bs : List ℕ) → AreBytes bs → AreBytes (drop n bs)
bytes-drop zero bs h k = h k
bytes-drop (suc n) [] h k = none_is_byte k
bytes-drop (suc n) (b ∷ bs) h k = bytes-drop n bs (λ i. h (suc i)) k

pub bytes-take : (n : ℕ) (bs : List ℕ) → AreBytes bs → AreBytes (take n bs)
bytes-take zero bs h k = none_is_byte k
bytes-take (suc n) [] h k = none_is_byte k
bytes-take (suc n) (b ∷ bs) h zero = h 0
bytes-take (suc n) (b ∷ bs) h (suc k) = bytes-take n bs (λ i. h (suc i)) k

-- eight bytes make a number of 64 bits
eight : (a b c d e f g h : ℕ) → a < 256 → b < 256 → c < 256 → d < 256 → e < 256 → f < 256 → g < 256 → h < 256 → a + b * 256 ^ 1 + c * 256 ^ 2 + d * 256 ^ 3 + e * 256 ^ 4 + f * 256 ^ 5 + g * 256 ^ 6 + h * 256 ^ 7 < 2 ^ 64
eight a b c d e f g h pa pb pc pd pe pf pg ph = omega arith

pub number_word : (bs : List ℕ) → AreBytes bs → number_of 8 bs < 2 ^ 64
number_word bs h =
    eight (slice_index bs 0) (slice_index bs 1) (slice_index bs 2) (slice_index bs 3) (slice_index bs 4) (slice_index bs 5) (slice_index bs 6) (slice_index bs 7) (h 0) (h 1) (h 2) (h 3) (h 4) (h 5) (h 6) (h 7)

-- what stands in the exchange region and on the stack
pub x_word : (at : ℕ) (s : State) → IsMachine s → x_of at s < 2 ^ 64
x_word at s is = number_word (take 8 (drop at s.exchange)) (bytes-take 8 (drop at s.exchange) (bytes-drop at s.exchange is.exchange_bytes))

pub stack_word : (addr : ℕ) (s : State) → IsMachine s → number_of 8 (stack_at addr 8 s) < 2 ^ 64
stack_word addr s is = number_word (take 8 (drop (addr - STACK) s.stack)) (bytes-take 8 (drop (addr - STACK) s.stack) (bytes-drop (addr - STACK) s.stack is.stack_bytes))

-- all bytes of a region, as they are lent
pub whole : (base addr len : ℕ) (bs lent : List ℕ) → base ≡ addr → length bs ≡ len → lent ≡ take len (drop (addr - base) bs) → AreBytes lent → AreBytes bs
whole base addr len bs lent at all is h =
    let none : addr - base ≡ 0 = omega arith in
    let same : lent ≡ bs = is ∙ ap (λ i. take len (drop i bs)) none ∙ ap (λ i. take i bs) (sym all) ∙ take-length bs in
    subst AreBytes same h
