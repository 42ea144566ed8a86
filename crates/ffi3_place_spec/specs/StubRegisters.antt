-- The registers that stubs load, store and save: code through which the calls and returns of a target can lead (this library's own). A call goes out through Call and comes back to Return; a trampoline leads to Entry, and the way back is Exit. Registers go over the exchange region of memory: Call and Exit load them from there, Entry and Return store them there. The lists are what the stubs do, in their order; those of AMD64 are for System V's calls alone.
use Rattle.std.specs.Prelude.{ℕ, ◌+◌, ◌*◌, Bool, true, false, List, [], ◌∷◌, ◌++◌, length}
use Rattle.ffi3_type_spec.specs.declared.Target.{Target}
use Rattle.ffi3_type_spec.specs.declared.Target.TheVariants as target
use Rattle.ffi3_type_spec.specs.declared.Isa.{Isa}
use Rattle.ffi3_type_spec.specs.declared.Isa.TheVariants.{Amd64, Aarch64, Riscv}
use Rattle.ffi3_place_spec.specs.declared.Loc.{Loc}
use Rattle.ffi3_place_spec.specs.declared.Loc.TheVariants.{G, F}
use Rattle.ffi3_place_spec.specs.declared.SaveWord.{SaveWord}
use Rattle.ffi3_place_spec.specs.declared.SaveWord.TheVariants.{Spare}
use Rattle.ffi3_place_spec.specs.MachineRegisters.{closure_register, to_list, link_place}

-- the targets that have them
abbrev pub has_stubs : Target → Bool
has_stubs target.Amd64 = true
has_stubs target.Aapcs64 = true
has_stubs target.Riscv = true
has_stubs target.Win64 = false
has_stubs target.Apple = true

-- the general registers of arguments: rdi, rsi, rdx, rcx, r8, r9; x0 to x7; a0 to a7
abbrev pub general_argument_places : Isa → List Loc
general_argument_places Amd64 = G 7 ∷ G 6 ∷ G 2 ∷ G 1 ∷ G 8 ∷ G 9 ∷ []
general_argument_places Aarch64 = G 0 ∷ G 1 ∷ G 2 ∷ G 3 ∷ G 4 ∷ G 5 ∷ G 6 ∷ G 7 ∷ []
general_argument_places Riscv = G 10 ∷ G 11 ∷ G 12 ∷ G 13 ∷ G 14 ∷ G 15 ∷ G 16 ∷ G 17 ∷ []

-- the floating ones: xmm0 to xmm7; v0 to v7; fa0 to fa7
abbrev pub floating_argument_places : Isa → List Loc
floating_argument_places Amd64 = F 0 ∷ F 1 ∷ F 2 ∷ F 3 ∷ F 4 ∷ F 5 ∷ F 6 ∷ F 7 ∷ []
floating_argument_places Aarch64 = F 0 ∷ F 1 ∷ F 2 ∷ F 3 ∷ F 4 ∷ F 5 ∷ F 6 ∷ F 7 ∷ []
floating_argument_places Riscv = F 10 ∷ F 11 ∷ F 12 ∷ F 13 ∷ F 14 ∷ F 15 ∷ F 16 ∷ F 17 ∷ []

-- the register in which a hidden result's address comes: rdi; x8; a0
abbrev pub hidden_register : Isa → ℕ
hidden_register Amd64 = 7
hidden_register Aarch64 = 8
hidden_register Riscv = 10

-- what Call loads from the exchange region: the general registers of arguments; then x8 on AArch64 for a hidden result's address, or rax on AMD64, which tells the number of vector registers; then the floating ones
abbrev pub call_loads : Isa → List Loc
call_loads Amd64 = general_argument_places Amd64 ++ G 0 ∷ floating_argument_places Amd64
call_loads Aarch64 = general_argument_places Aarch64 ++ G (hidden_register Aarch64) ∷ floating_argument_places Aarch64
call_loads Riscv = general_argument_places Riscv ++ floating_argument_places Riscv

-- what Entry stores in the exchange region: the registers of arguments, x8 on AArch64 for a hidden result's address, and the register that holds the closure's address (r10; x17; t1)
abbrev pub entry_stores : Isa → List Loc
entry_stores Amd64 = general_argument_places Amd64 ++ G (closure_register Amd64) ∷ floating_argument_places Amd64
entry_stores Aarch64 =
    general_argument_places Aarch64
    ++ G (hidden_register Aarch64) ∷ (floating_argument_places Aarch64 ++ G (closure_register Aarch64) ∷ [])
entry_stores Riscv = general_argument_places Riscv ++ (floating_argument_places Riscv ++ G (closure_register Riscv) ∷ [])

-- what Entry saves on the stack and Exit loads back, in the order of the save area: the registers that a callee preserves, and the one that holds the return address (x30; ra)
abbrev pub callee_saved_words : Isa → List Loc
callee_saved_words Amd64 = G 3 ∷ G 5 ∷ G 12 ∷ G 13 ∷ G 14 ∷ G 15 ∷ []
callee_saved_words Aarch64 =
    G 19 ∷ G 20 ∷ G 21 ∷ G 22 ∷ G 23 ∷ G 24 ∷ G 25 ∷ G 26 ∷ G 27 ∷ G 28 ∷ G 29
    ∷ to_list (link_place Aarch64) ++ F 8 ∷ F 9 ∷ F 10 ∷ F 11 ∷ F 12 ∷ F 13 ∷ F 14 ∷ F 15 ∷ []
callee_saved_words Riscv =
    to_list (link_place Riscv)
    ++ G 8 ∷ G 9 ∷ G 18 ∷ G 19 ∷ G 20 ∷ G 21 ∷ G 22 ∷ G 23 ∷ G 24 ∷ G 25 ∷ G 26 ∷ G 27
    ∷ F 8 ∷ F 9 ∷ F 18 ∷ F 19 ∷ F 20 ∷ F 21 ∷ F 22 ∷ F 23 ∷ F 24 ∷ F 25 ∷ F 26 ∷ F 27 ∷ []

-- all that Entry saves, in the order of the save area: behind these the register in which a hidden result's address comes
abbrev pub stub_area : Isa → List Loc
stub_area isa = callee_saved_words isa ++ G (hidden_register isa) ∷ []

-- the words of the save area behind those that Entry saves
abbrev pub spare_words : Isa → List SaveWord
spare_words Amd64 = []
spare_words Aarch64 = Spare ∷ []
spare_words Riscv = []

-- the bytes of the save area, by which Entry lowers the stack pointer and Exit raises it: eight for each word
abbrev pub area_bytes : Isa → ℕ
area_bytes Amd64 = 8 * length (stub_area Amd64)
area_bytes Aarch64 = 8 * (length (stub_area Aarch64) + length (spare_words Aarch64))
area_bytes Riscv = 8 * length (stub_area Riscv)

-- what Exit loads from the exchange region and Return stores there: the registers of results
abbrev pub result_loads : Isa → List Loc
result_loads Amd64 = G 0 ∷ G 2 ∷ F 0 ∷ F 1 ∷ []
result_loads Aarch64 = G 0 ∷ G 1 ∷ F 0 ∷ F 1 ∷ F 2 ∷ F 3 ∷ []
result_loads Riscv = G 10 ∷ G 11 ∷ F 10 ∷ F 11 ∷ []

-- what else Call writes, the stack pointer aside: the register that holds the exchange region's address (r11; x17; t1), the one through which the callee's address goes, and on AArch64 the stack pointer's new value (x16; t2), and the one that holds the return address (x30; ra)
abbrev pub call_scratch : Isa → List Loc
call_scratch Amd64 = G 11 ∷ []
call_scratch Aarch64 = G 17 ∷ G 16 ∷ G 30 ∷ []
call_scratch Riscv = G 6 ∷ G 7 ∷ G 1 ∷ []

-- what else Entry writes: the register that holds the exchange region's address (r11; x16; t2), on AArch64 also the stack pointer's new value
abbrev pub entry_scratch : Isa → List Loc
entry_scratch Amd64 = G 11 ∷ []
entry_scratch Aarch64 = G 16 ∷ []
entry_scratch Riscv = G 7 ∷ []

-- what else Exit writes: the register that holds the exchange region's address (r11; x16; t1), and the one through which the stack pointer's new value goes (x17); Return writes no other registers than these and the stack pointer
abbrev pub exit_scratch : Isa → List Loc
exit_scratch Amd64 = G 11 ∷ []
exit_scratch Aarch64 = G 16 ∷ G 17 ∷ []
exit_scratch Riscv = G 6 ∷ []
