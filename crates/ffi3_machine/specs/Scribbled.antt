-- Facts about scribbled registers.
use Rattle.std.proofs.Common.{◌≡◌, ℕ, ◌<◌, List, length, get_or, refl, arith}
use Rattle.std.proofs.lemmas.List.FromFn.{length-map-range_with_len, get_or-map-range_with_len}
use Rattle.ffi3_type_spec.specs.declared.Isa.{Isa}
use Rattle.ffi3_type_spec.specs.declared.Isa.TheVariants.{Amd64, Aarch64, Riscv}
use Rattle.ffi3_machine_spec.specs.State.{scribble_floating, scribbled_register, scribbled_general, scribbled_floating}
use Rattle.ffi3_machine_spec.specs.State.{begun_general, IsZeroHeld}

pub length-scribbled_general : (isa : Isa) (n : ℕ) (old : List ℕ) → length (scribbled_general isa n old) ≡ 32
unfolding scribbled_general
length-scribbled_general isa n old = length-map-range_with_len (λ k. scribbled_register isa n k (get_or old k 0)) 0 32

pub length-scribbled_floating : (n : ℕ) → length (scribbled_floating n) ≡ 32
unfolding scribbled_floating
length-scribbled_floating n = length-map-range_with_len (scribble_floating n) 0 32

pub get_or-scribbled_general : (isa : Isa) (n : ℕ) (old : List ℕ) (k : ℕ) → k < 32
    → get_or (scribbled_general isa n old) k 0 ≡ scribbled_register isa n k (get_or old k 0)
unfolding scribbled_general
get_or-scribbled_general isa n old k h =
    get_or-map-range_with_len (λ i. scribbled_register isa n i (get_or old i 0)) 0 32 k k 0 h (omega arith)

pub get_or-scribbled_floating : (n k : ℕ) → k < 32 → get_or (scribbled_floating n) k 0 ≡ scribble_floating n k
unfolding scribbled_floating
get_or-scribbled_floating n k h = get_or-map-range_with_len (scribble_floating n) 0 32 k k 0 h (omega arith)

pub IsZeroHeld-scribbled : (isa : Isa) (n : ℕ) (old : List ℕ) → IsZeroHeld isa old
    → IsZeroHeld isa (scribbled_general isa n old)
unfolding scribbled_general
IsZeroHeld-scribbled Amd64 n old h = tt
IsZeroHeld-scribbled Aarch64 n old h = tt
IsZeroHeld-scribbled Riscv n old h = h

pub IsZeroHeld-begun : (isa : Isa) → IsZeroHeld isa (begun_general isa)
unfolding begun_general scribbled_general
IsZeroHeld-begun Amd64 = tt
IsZeroHeld-begun Aarch64 = tt
IsZeroHeld-begun Riscv = refl
