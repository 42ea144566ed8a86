-- The stubs as a processor runs them: their rows are the model's, but the address of the exchange region comes from a register, and Entry also stores sp.
use Rattle.std.specs.Prelude.{ℕ, ◌+◌, ◌/◌, ◌%◌, pos, List, [], ◌∷◌, ◌++◌}
use Rattle.ffi3_type_spec.specs.declared.Isa.{Isa}
use Rattle.ffi3_type_spec.specs.declared.Isa.TheVariants.{Amd64, Aarch64, Riscv}
use Rattle.ffi3_place_spec.specs.declared.Loc.TheVariants.{G}
use Rattle.ffi3_place_spec.specs.MachineRegisters.{stack_pointer}
use Rattle.ffi3_place_spec.specs.StubRegisters.{callee_saved_words, area_bytes, result_loads}
use Rattle.ffi3_machine_spec.specs.declared.stub.TheConstants.{AREA_AT}
use Rattle.ffi3_machine_spec.specs.Encoding.{rex, mod_rm}
use Rattle.ffi3_machine_spec.specs.Stubs.{Row, address, load, store, sum, jump, returns, StubName, Entry, Exit, Call, Return}
use Rattle.ffi3_machine_spec.specs.Stubs.{rows, row_bytes, sp_rows, area_loads, exchange_loads, return_base}

pub data HostRow : Type 0 where
  -- the value of a register into another
  copied : ℕ → ℕ → HostRow
  -- a row of the model's stubs
  same : Row → HostRow

-- sp to the exchange region, at AREA_AT, where Exit finds the save area: AArch64's stores can't name sp, and x9 is one that a call need not preserve
abbrev pub sp_stores : Isa → ℕ → List HostRow
sp_stores Amd64 base = same (store (G 4) base AREA_AT) ∷ []
sp_stores Aarch64 base = same (sum 9 31 (pos 0)) ∷ same (store (G 9) base AREA_AT) ∷ []
sp_stores Riscv base = same (store (G 2) base AREA_AT) ∷ []

-- the model's rows, with register `from` where they have the address; behind it come the rows `more`
abbrev pub based : ℕ → (ℕ → List HostRow) → List Row → List HostRow
based from more [] = []
based from more (address k ∷ rest) = (copied k from ∷ more k) ++ based from more rest
based from more (load l base offset ∷ rest) = same (load l base offset) ∷ based from more rest
based from more (store l base offset ∷ rest) = same (store l base offset) ∷ based from more rest
based from more (sum to base d ∷ rest) = same (sum to base d) ∷ based from more rest
based from more (jump j ∷ rest) = same (jump j) ∷ based from more rest

-- the model's rows of Exit, with a gap of so many bytes above the save area: 0 is the model's
abbrev pub exit_rows : Isa → ℕ → List Row
exit_rows isa gap =
    address (return_base isa)
    ∷ (sp_rows isa (return_base isa) 17 AREA_AT
    ++ (area_loads (stack_pointer isa) 0 (callee_saved_words isa)
    ++ (exchange_loads (return_base isa) (result_loads isa)
    ++ (sum (stack_pointer isa) (stack_pointer isa) (pos (area_bytes isa + gap))
    ∷ jump returns ∷ []))))

-- the rows of a stub, which finds the exchange region's address in register `from`; the gap is Exit's
abbrev pub host_rows : Isa → ℕ → ℕ → StubName → List HostRow
host_rows isa from gap Call = based from (λ k. []) (rows isa Call)
host_rows isa from gap Return = based from (λ k. []) (rows isa Return)
host_rows isa from gap Entry = based from (sp_stores isa) (rows isa Entry)
host_rows isa from gap Exit = based from (λ k. []) (exit_rows isa gap)

-- MOV r64, r64 on AMD64; the others have a sum with 0
abbrev pub copy_bytes : Isa → ℕ → ℕ → List ℕ
copy_bytes Amd64 to from = rex 1 (from / 8) 0 (to / 8) ∷ 0x89 ∷ mod_rm 3 (from % 8) (to % 8) ∷ []
copy_bytes Aarch64 to from = row_bytes Aarch64 0 (sum to from (pos 0))
copy_bytes Riscv to from = row_bytes Riscv 0 (sum to from (pos 0))

-- none of these rows depends on where it stands
abbrev pub host_row_bytes : Isa → HostRow → List ℕ
host_row_bytes isa (copied to from) = copy_bytes isa to from
host_row_bytes isa (same row) = row_bytes isa 0 row

abbrev pub host_bytes_of : Isa → List HostRow → List ℕ
host_bytes_of isa [] = []
host_bytes_of isa (row ∷ rest) = host_row_bytes isa row ++ host_bytes_of isa rest

unfoldable pub host_bytes : Isa → ℕ → ℕ → StubName → List ℕ
host_bytes isa from gap name = host_bytes_of isa (host_rows isa from gap name)
