-- The live closures: a finite map from the numbers of slots. (libffi manual, "The Closure API")
use Rattle.std.specs.Prelude.{ℕ, ◌+◌, ◌-◌, ◌*◌, ◌/◌, ◌%◌, ◌==◌, ◌&&◌, nat_le, List, [], ◌∷◌, replicate, slice_index_or}
use Rattle.std.specs.Prelude.{slice_set, Option, Some, None, option_and_then, if◌then◌else◌}
use Rattle.ffi3_type_spec.specs.declared.limits.TheConstants.{SLOTS, SLOT_BYTES, CODE}
use Rattle.ffi3_semantics_spec.specs.declared.Closure.{Closure}

abbrev pub slots : ℕ
slots = SLOTS

abbrev pub slot_bytes : ℕ
slot_bytes = SLOT_BYTES

abbrev pub code_start : ℕ
code_start = CODE

-- at each slot number one closure or none
abbrev pub Closures : Type 0
Closures = List (Option Closure)

abbrev pub no_closures : Closures
no_closures = replicate slots None

-- where a slot starts
abbrev pub slot_address : ℕ → ℕ
slot_address k = code_start + slot_bytes * k

-- the number of the slot that starts at an address; a pointer into the middle of a slot names none
abbrev pub slot_number : ℕ → Option ℕ
slot_number ptr =
    if nat_le code_start ptr && (ptr - code_start) % slot_bytes == 0
    then Some ((ptr - code_start) / slot_bytes)
    else None

-- the closure whose slot starts at an address
abbrev pub closure_at : Closures → ℕ → Option Closure
closure_at closures ptr =
    option_and_then (λ k. slice_index_or closures k None) (slot_number ptr)

-- the least number without a closure
abbrev pub first_free : Closures → ℕ
first_free [] = 0
first_free (None ∷ rest) = 0
first_free (Some c ∷ rest) = first_free rest + 1

abbrev pub with_closure : Closures → ℕ → Option Closure → Closures
with_closure closures k c = slice_set closures k c

-- the map without the closure of a slot that starts at an address
abbrev pub freed_at : Option ℕ → Closures → Closures
freed_at None closures = closures
freed_at (Some k) closures = with_closure closures k None

abbrev pub freed : Closures → ℕ → Closures
freed closures ptr = freed_at (slot_number ptr) closures
