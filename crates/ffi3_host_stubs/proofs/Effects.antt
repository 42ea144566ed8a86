-- What rows do to a processor, one after another.
use Rattle.std.proofs.Common.{ℕ, ◌+◌, List, [], ◌∷◌, map}
use Rattle.ffi3_type_spec.specs.declared.Isa.{Isa}
use Rattle.ffi3_place_spec.specs.declared.Loc.{Loc}
use Rattle.ffi3_place_spec.specs.declared.Loc.TheVariants.{G, F, S}
use Rattle.ffi3_machine_spec.specs.Stubs.{load, store, size_of, exchanged_at}
use Rattle.ffi3_host_stubs.specs.Stubs.{HostRow, same}
use Rattle.ffi3_host_stubs.specs.Processor.{Processor, word_at, set_at, put_word}
use Rattle.ffi3_host_stubs.specs.Calls.{held}

abbrev pub general_with : Loc → ℕ → (ℕ → ℕ) → ℕ → ℕ
general_with (G k) value general = set_at k value general
general_with (F k) value general = general
general_with (S k w) value general = general

abbrev pub floating_with : Loc → ℕ → (ℕ → ℕ) → ℕ → ℕ
floating_with (G k) value floating = floating
floating_with (F k) value floating = set_at k value floating
floating_with (S k w) value floating = floating

-- a register gets a value, by an instruction of so many bytes
abbrev pub received : ℕ → Loc → ℕ → Processor → Processor
received size l value s = record s {
  general = general_with l value s.general;
  floating = floating_with l value s.floating;
  pc = s.pc + size;
}

-- sp gets a value
abbrev pub with_sp_by : ℕ → ℕ → Processor → Processor
with_sp_by size value s = record s { sp = value; pc = s.pc + size }

-- eight bytes of memory get a value, and pc another
abbrev pub stored_at : ℕ → ℕ → Processor → ℕ → Processor
stored_at addr value s pc = record s { memory = put_word addr value s.memory; pc = pc }

abbrev pub stored : ℕ → ℕ → ℕ → Processor → Processor
stored size addr value s = stored_at addr value s (s.pc + size)

-- registers, each with the distance of its word from a base: in the exchange region, and where words follow one another
abbrev pub Places : Type 0
Places = List (Loc × ℕ)

abbrev pub in_exchange : List Loc → Places
in_exchange ls = map (λ l. (l, exchanged_at l)) ls

abbrev pub in_area : ℕ → List Loc → Places
in_area at [] = []
in_area at (l ∷ ls) = (l, at) ∷ in_area (at + 8) ls

abbrev pub registers : Places → List Loc
registers ms = map (λ m. m.0) ms

-- the rows that load them by base register b, and those that store them
abbrev pub load_rows : ℕ → Places → List HostRow
load_rows b [] = []
load_rows b (m ∷ ms) = same (load m.0 b m.1) ∷ load_rows b ms

abbrev pub store_rows : ℕ → Places → List HostRow
store_rows b [] = []
store_rows b (m ∷ ms) = same (store m.0 b m.1) ∷ store_rows b ms

-- what these do where the base is x
abbrev pub from_places : Isa → ℕ → ℕ → Places → Processor → Processor
from_places isa b x [] s = s
from_places isa b x (m ∷ ms) s =
    from_places isa b x ms (received (size_of isa (load m.0 b 0)) m.0 (word_at (x + m.1) s) s)

abbrev pub to_places : Isa → ℕ → ℕ → Places → Processor → Processor
to_places isa b x [] s = s
to_places isa b x (m ∷ ms) s = to_places isa b x ms (stored (size_of isa (load m.0 b 0)) (x + m.1) (held m.0 s) s)
