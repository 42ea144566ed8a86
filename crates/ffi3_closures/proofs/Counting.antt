-- How many closures are live, by the lowest free slot.
use Rattle.std.proofs.Common.{◌≡◌, ℕ, ◌+◌, ◌<◌, [], ◌∷◌, length, Option, Some, None, refl, arith, cond}
use Rattle.std.specs.Prelude.{is_some}
use Rattle.std.proofs.lemmas.List.Sums.{count_by-le-length, sum_by-cons}
use Rattle.ffi3_semantics_spec.specs.declared.Closure.{Closure}
use Rattle.ffi3_semantics_spec.specs.Closures.{Closures, first_free}
use Rattle.ffi3_machine_spec.specs.Slots.{live_count}

abbrev live_one : Option Closure → ℕ
live_one c = cond (is_some c) 1 0

one-more : (c : Closure) (cs : Closures) → live_count (Some c ∷ cs) ≡ 1 + live_count cs
one-more c cs = sum_by-cons live_one (Some c) cs

none-more : (cs : Closures) → live_count (None ∷ cs) ≡ 0 + live_count cs
none-more cs = sum_by-cons live_one None cs

all_live-of : (cs : Closures) → first_free cs ≡ length cs → live_count cs ≡ length cs
all_live-of [] e = refl
all_live-of (None ∷ cs) e = absurd (omega arith)
all_live-of (Some c ∷ cs) e = omega (arith, one-more c cs, all_live-of cs (omega arith))

not_all_live-of : (cs : Closures) → first_free cs < length cs → live_count cs < length cs
not_all_live-of [] h = h
not_all_live-of (None ∷ cs) h = omega (arith, none-more cs, count_by-le-length is_some cs)
not_all_live-of (Some c ∷ cs) h = omega (arith, one-more c cs, not_all_live-of cs (omega arith))

pub all_live : (cs : Closures) → length cs ≡ 256 → first_free cs ≡ 256 → live_count cs ≡ 256
all_live cs count e = omega (arith, all_live-of cs (omega arith))

pub not_all_live : (cs : Closures) → length cs ≡ 256 → first_free cs < 256 → live_count cs < 256
not_all_live cs count h = omega (arith, not_all_live-of cs (omega arith))
