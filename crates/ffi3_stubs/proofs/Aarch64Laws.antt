-- AArch64's rows as laws of its segments.
use Rattle.std.proofs.Common.{◌≡◌, ℕ, ◌+◌, ◌*◌, ◌%◌, ◌<◌, ◌≤◌, Bool, true, false, if◌then◌else◌, List, ◌++◌, length, refl, ap, ◌∙◌, arith}
use Rattle.std.specs.Prelude.{◌&&◌, ◌==◌, not, nat_lt, slice_index}
use Rattle.ffi3_machine_spec.specs.Memory.{number_of}
use Rattle.ffi3_type_spec.specs.declared.Isa.TheVariants.{Aarch64}
use Rattle.ffi3_type_spec.specs.declared.limits.TheConstants.{STACK, STACK_TOP}
use Rattle.ffi3_place_spec.specs.declared.Loc.{Loc}
use Rattle.ffi3_place_spec.specs.declared.Loc.TheVariants.{G, F, S}
use Rattle.ffi3_machine_spec.specs.declared.stub.TheConstants.{EXCHANGE}
use Rattle.ffi3_machine_spec.specs.State.{State, x_of, stack_at}
use Rattle.ffi3_machine_spec.specs.Stubs.{load, store, exchanged_at, row_bytes}
use Rattle.ffi3_machine.specs.MachineStep.{StepsBy, base}
use Rattle.ffi3_stubs.specs.Effects.{held, received, exchanged, saved}
use Rattle.ffi3_stubs.proofs.Standing.{Stands}
use Rattle.ffi3_stubs.proofs.Places.{load_exchange, load_stack, unequal}
use Rattle.ffi3_stubs.proofs.WordSegments.{Laws, fits, both, under}
use Rattle.ffi3_stubs.proofs.Aarch64Rows.{load_general_row, load_floating_row, store_general_row, store_floating_row, save_general_row, save_floating_row}

base_is : (s : State) (b : ℕ) → b < 31 → base Aarch64 b s ≡ slice_index s.general b
base_is s b h =
    let not_sp : (b == 31) ≡ false = unequal b 31 (λ e. omega arith) in
    ap (λ (x : Bool). if x then s.sp else slice_index s.general b) not_sp

fits_general : (b k : ℕ) → fits 31 18 b 18 (G k) ≡ true → k < 31
unfolding fits
fits_general b k h = under k 31 (both (nat_lt k 31) (not (k == 18) && (not (k == b) && not (k == 18))) h).0

no_stack : (b k w : ℕ) → ¬ (fits 31 18 b 18 (S k w) ≡ true)
unfolding fits
no_stack b k w h = cc

fits_floating : (b k : ℕ) → fits 31 18 b 18 (F k) ≡ true → k < 32
unfolding fits
fits_floating b k h = under k 32 h

load_length : (b : ℕ) (l : Loc) (pc r o : ℕ) → fits 31 18 b 18 l ≡ true → length (row_bytes Aarch64 pc (load l r o)) ≡ 4
unfolding fits
load_length b (G k) pc r o ok = refl
load_length b (F k) pc r o ok = refl
load_length b (S k w) pc r o ok = absurd cc

store_length : (b : ℕ) (l : Loc) (pc r o : ℕ) → fits 31 18 b 18 l ≡ true → length (row_bytes Aarch64 pc (store l r o)) ≡ 4
unfolding fits
store_length b (G k) pc r o ok = refl
store_length b (F k) pc r o ok = refl
store_length b (S k w) pc r o ok = absurd cc

from_x : (b : ℕ) → b < 31 → (s : State) (l : Loc) (tail : List ℕ) → fits 31 18 b 18 l ≡ true → s.pc % 4 ≡ 0 → slice_index s.general b ≡ EXCHANGE → Stands Aarch64 s (row_bytes Aarch64 s.pc (load l b (exchanged_at l)) ++ tail) → StepsBy Aarch64 s (received 4 l (x_of (exchanged_at l) s) s)
from_x b low s (G k) tail ok al held h =
    let small : k < 31 = fits_general b k ok in
    let at : base Aarch64 b s + 8 * k ≡ EXCHANGE + 8 * k = ap (λ x. x + 8 * k) (base_is s b low ∙ held) in
    load_general_row s k b (8 * k) (EXCHANGE + 8 * k) (x_of (8 * k) s) tail small (omega arith) (omega arith) (omega arith) al h at (omega arith) (load_exchange Aarch64 s (8 * k) (EXCHANGE + 8 * k) (omega arith) refl)
from_x b low s (F k) tail ok al held h =
    let small : k < 32 = fits_floating b k ok in
    let at : base Aarch64 b s + (256 + 8 * k) ≡ EXCHANGE + (256 + 8 * k) = ap (λ x. x + (256 + 8 * k)) (base_is s b low ∙ held) in
    load_floating_row s k b (256 + 8 * k) (EXCHANGE + (256 + 8 * k)) (x_of (256 + 8 * k) s) tail small (omega arith) (omega arith) (omega arith) al h at (omega arith) (load_exchange Aarch64 s (256 + 8 * k) (EXCHANGE + (256 + 8 * k)) (omega arith) refl)
from_x b low s (S k w) tail ok al held h = absurd (no_stack b k w ok)

to_x : (b : ℕ) → b < 31 → (s : State) (l : Loc) (tail : List ℕ) → fits 31 18 b 18 l ≡ true → s.pc % 4 ≡ 0 → slice_index s.general b ≡ EXCHANGE → Stands Aarch64 s (row_bytes Aarch64 s.pc (store l b (exchanged_at l)) ++ tail) → StepsBy Aarch64 s (exchanged 4 (exchanged_at l) (held l s) s)
to_x b low s (G k) tail ok al there h =
    let small : k < 31 = fits_general b k ok in
    store_general_row s k b (8 * k) (EXCHANGE + 8 * k) tail small (omega arith) (omega arith) (omega arith) al h (base_is s b low ∙ there) refl
to_x b low s (F k) tail ok al there h =
    let small : k < 32 = fits_floating b k ok in
    store_floating_row s k b (256 + 8 * k) (EXCHANGE + (256 + 8 * k)) tail small (omega arith) (omega arith) (omega arith) al h (base_is s b low ∙ there) refl
to_x b low s (S k w) tail ok al there h = absurd (no_stack b k w ok)

from_stack : (b : ℕ) (s : State) (l : Loc) (at : ℕ) (tail : List ℕ) → fits 31 18 b 18 l ≡ true → s.pc % 4 ≡ 0 → at % 8 ≡ 0 → at < 2048 → STACK ≤ s.sp + at → s.sp + at + 8 ≤ STACK_TOP → Stands Aarch64 s (row_bytes Aarch64 s.pc (load l 31 at) ++ tail) → StepsBy Aarch64 s (received 4 l (number_of 8 (stack_at (s.sp + at) 8 s)) s)
from_stack b s (G k) at tail ok al eight short low high h =
    load_general_row s k 31 at (s.sp + at) (number_of 8 (stack_at (s.sp + at) 8 s)) tail (fits_general b k ok) (omega arith) eight (omega arith) al h refl (omega arith) (load_stack Aarch64 s (s.sp + at) low high)
from_stack b s (F k) at tail ok al eight short low high h =
    load_floating_row s k 31 at (s.sp + at) (number_of 8 (stack_at (s.sp + at) 8 s)) tail (fits_floating b k ok) (omega arith) eight (omega arith) al h refl (omega arith) (load_stack Aarch64 s (s.sp + at) low high)
from_stack b s (S k w) at tail ok al eight short low high h = absurd (no_stack b k w ok)

to_stack : (b : ℕ) (s : State) (l : Loc) (at : ℕ) (tail : List ℕ) → fits 31 18 b 18 l ≡ true → s.pc % 4 ≡ 0 → at % 8 ≡ 0 → at < 2048 → STACK ≤ s.sp + at → s.sp + at + 8 ≤ STACK_TOP → Stands Aarch64 s (row_bytes Aarch64 s.pc (store l 31 at) ++ tail) → StepsBy Aarch64 s (saved 4 (s.sp + at) (held l s) s)
to_stack b s (G k) at tail ok al eight short low high h =
    save_general_row s k at (s.sp + at) tail (fits_general b k ok) eight (omega arith) al h refl low high
to_stack b s (F k) at tail ok al eight short low high h =
    save_floating_row s k at (s.sp + at) tail (fits_floating b k ok) eight (omega arith) al h refl low high
to_stack b s (S k w) at tail ok al eight short low high h = absurd (no_stack b k w ok)

pub aarch64_laws : (b : ℕ) → b < 31 → Laws Aarch64 31 18 b 18
aarch64_laws b low = record {
  size = λ l r o. refl;
  stored_size = λ l r o. refl;
  load_length = load_length b;
  store_length = store_length b;
  load_exchange = from_x b low;
  store_exchange = to_x b low;
  load_area = from_stack b;
  store_area = to_stack b;
}
