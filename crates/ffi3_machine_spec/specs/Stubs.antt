-- The stubs: code through which calls and returns lead, in a region of its own. Each is a table of rows, and its bytes are those of the rows in order. (Intel 64 and IA-32 Architectures Software Developer's Manual, volume 2; Arm Architecture Reference Manual for A-profile, C6.2; RISC-V unprivileged ISA, 2.4 to 2.6, RV64I and "D")
use Rattle.std.specs.Prelude.{ℕ, suc, ◌+◌, ◌-◌, ◌*◌, ◌/◌, ◌%◌, ◌^◌, ◌==◌, if◌then◌else◌, ℤ, pos, negsuc, List, [], ◌∷◌}
use Rattle.std.specs.Prelude.{◌++◌, map, length, neg_ℤ}
use Rattle.std.specs.List.{repeat, replace_range}
use Rattle.std.specs.Int.{w32, to_le_bytes}
use Rattle.ffi3_type_spec.specs.declared.Isa.{Isa}
use Rattle.ffi3_type_spec.specs.declared.Isa.TheVariants.{Amd64, Aarch64, Riscv}
use Rattle.ffi3_place_spec.specs.declared.Loc.{Loc}
use Rattle.ffi3_place_spec.specs.declared.Loc.TheVariants.{G, F, S}
use Rattle.ffi3_place_spec.specs.MachineRegisters.{stack_pointer}
use Rattle.ffi3_place_spec.specs.StubRegisters.{call_loads, entry_stores, callee_saved_words, stub_area, area_bytes}
use Rattle.ffi3_place_spec.specs.StubRegisters.{result_loads}
use Rattle.ffi3_machine_spec.specs.Encoding.{rex, mod_rm}
use Rattle.ffi3_machine_spec.specs.declared.stub.TheConstants.{STUBS, EXCHANGE, AREA_AT, CALLEE_AT, CALL_SP_AT}
use Rattle.ffi3_machine_spec.specs.declared.stub.TheConstants.{ENTRY_SP_AT, RETURN_SP_AT}
use Rattle.ffi3_machine_spec.specs.declared.stub.Stub.{Stub}
use Rattle.ffi3_machine_spec.specs.declared.stub.Stub.TheVariants as stub
use Rattle.ffi3_machine_spec.specs.State.{free_word}

-- ---- rows

pub data Jump : Type 0 where
  -- call the address at a base register and an offset
  calls_at : ℕ → ℕ → Jump
  -- call the address in a register
  calls : ℕ → Jump
  -- return
  returns : Jump

-- registers by their numbers in instructions
pub data Row : Type 0 where
  -- the exchange region's address into a register
  address : ℕ → Row
  -- a register from 8 bytes at a base register and an offset
  load : Loc → ℕ → ℕ → Row
  -- a register to these
  store : Loc → ℕ → ℕ → Row
  -- one register is another plus a number
  sum : ℕ → ℕ → ℤ → Row
  jump : Jump → Row

pub data StubName : Type 0 where
  Entry : StubName
  Exit : StubName
  Call : StubName
  Return : StubName

-- ---- the registers of each table

-- where a register stands in the exchange region
abbrev pub exchanged_at : Loc → ℕ
exchanged_at (G k) = 8 * k
exchanged_at (F k) = 256 + 8 * k
exchanged_at (S k w) = 0

-- the bytes of the save area, below zero
abbrev pub area_below : Isa → ℤ
area_below Amd64 = neg_ℤ (pos (area_bytes Amd64))
area_below Aarch64 = neg_ℤ (pos (area_bytes Aarch64))
area_below Riscv = neg_ℤ (pos (area_bytes Riscv))

-- the register that holds the exchange region's address
abbrev pub call_base : Isa → ℕ
call_base Amd64 = 11
call_base Aarch64 = 17
call_base Riscv = 6

abbrev pub entry_base : Isa → ℕ
entry_base Amd64 = 11
entry_base Aarch64 = 16
entry_base Riscv = 7

abbrev pub return_base : Isa → ℕ
return_base Amd64 = 11
return_base Aarch64 = 16
return_base Riscv = 6

-- ---- the tables

-- registers from the exchange region, and to it
abbrev pub exchange_loads : ℕ → List Loc → List Row
exchange_loads base locs = map (λ l. load l base (exchanged_at l)) locs

abbrev pub exchange_stores : ℕ → List Loc → List Row
exchange_stores base locs = map (λ l. store l base (exchanged_at l)) locs

-- registers from words that follow one another, and to them
abbrev pub area_loads : ℕ → ℕ → List Loc → List Row
area_loads base at [] = []
area_loads base at (l ∷ ls) = load l base at ∷ area_loads base (at + 8) ls

abbrev pub area_stores : ℕ → ℕ → List Loc → List Row
area_stores base at [] = []
area_stores base at (l ∷ ls) = store l base at ∷ area_stores base (at + 8) ls

-- sp from the exchange region: AArch64's loads can't name it
abbrev pub sp_rows : Isa → ℕ → ℕ → ℕ → List Row
sp_rows Amd64 base through at = load (G 4) base at ∷ []
sp_rows Aarch64 base through at = load (G through) base at ∷ sum 31 through (pos 0) ∷ []
sp_rows Riscv base through at = load (G 2) base at ∷ []

abbrev pub call_jump : Isa → List Row
call_jump Amd64 = jump (calls_at 11 CALLEE_AT) ∷ []
call_jump Aarch64 = load (G 16) 17 CALLEE_AT ∷ jump (calls 16) ∷ []
call_jump Riscv = load (G 7) 6 CALLEE_AT ∷ jump (calls 7) ∷ []

abbrev pub rows : Isa → StubName → List Row
rows isa Call =
    address (call_base isa)
    ∷ (sp_rows isa (call_base isa) 16 CALL_SP_AT
    ++ (exchange_loads (call_base isa) (call_loads isa)
    ++ call_jump isa))
rows isa Entry =
    sum (stack_pointer isa) (stack_pointer isa) (area_below isa)
    ∷ (area_stores (stack_pointer isa) 0 (stub_area isa)
    ++ (address (entry_base isa)
    ∷ (exchange_stores (entry_base isa) (entry_stores isa)
    ++ sp_rows isa (entry_base isa) 16 ENTRY_SP_AT)))
rows isa Exit =
    address (return_base isa)
    ∷ (sp_rows isa (return_base isa) 17 AREA_AT
    ++ (area_loads (stack_pointer isa) 0 (callee_saved_words isa)
    ++ (exchange_loads (return_base isa) (result_loads isa)
    ++ (sum (stack_pointer isa) (stack_pointer isa) (pos (area_bytes isa))
    ∷ jump returns ∷ []))))
rows isa Return =
    address (return_base isa)
    ∷ (exchange_stores (return_base isa) (result_loads isa)
    ++ sp_rows isa (return_base isa) 17 RETURN_SP_AT)

-- ---- the rows' bytes

abbrev pub word : ℕ → List ℕ
word n = to_le_bytes w32 n

-- the lowest `width` bits of a number in two's complement
abbrev pub in_bits : ℕ → ℤ → ℕ
in_bits width (pos n) = n
in_bits width (negsuc n) = 2 ^ width - suc n

-- MOV with [rsp + offset] and with [r11 + offset]; MOVSD with [r11 + offset]
abbrev pub amd64_move : ℕ → ℕ → Loc → ℕ → ℕ → List ℕ
amd64_move general_op floating_op (G k) base offset =
    if base == 4
    then rex 1 (k / 8) 0 0 ∷ general_op ∷ mod_rm 2 (k % 8) 4 ∷ 0x24 ∷ word offset
    else rex 1 (k / 8) 0 1 ∷ general_op ∷ mod_rm 2 (k % 8) 3 ∷ word offset
amd64_move general_op floating_op (F k) base offset =
    0xF2 ∷ rex 0 0 0 1 ∷ 0x0F ∷ floating_op ∷ mod_rm 2 k 3 ∷ word offset
amd64_move general_op floating_op (S k w) base offset = []

-- LEA, MOV, MOVSD, LEA rsp, CALL, RET; `at` is the instruction's address
abbrev pub amd64_row : ℕ → Row → List ℕ
amd64_row at (address k) = rex 1 (k / 8) 0 0 ∷ 0x8D ∷ mod_rm 0 (k % 8) 5 ∷ word (EXCHANGE - (at + 7))
amd64_row at (load l base offset) = amd64_move 0x8B 0x10 l base offset
amd64_row at (store l base offset) = amd64_move 0x89 0x11 l base offset
amd64_row at (sum to from d) = rex 1 0 0 0 ∷ 0x8D ∷ mod_rm 2 4 4 ∷ 0x24 ∷ word (in_bits 32 d)
amd64_row at (jump (calls_at base offset)) = rex 0 0 0 1 ∷ 0xFF ∷ mod_rm 2 2 3 ∷ word offset
amd64_row at (jump (calls k)) = []
amd64_row at (jump returns) = 0xC3 ∷ []

-- an instruction with an immediate of 12 bits
abbrev pub aarch64_immediate : ℕ → ℕ → ℕ → ℕ → List ℕ
aarch64_immediate op imm12 n t = word (op * 2 ^ 22 + imm12 * 2 ^ 10 + n * 2 ^ 5 + t)

abbrev pub aarch64_sum : ℕ → ℕ → ℤ → List ℕ
aarch64_sum to from (pos n) = aarch64_immediate 0b1001000100 n from to
aarch64_sum to from (negsuc n) = aarch64_immediate 0b1101000100 (suc n) from to

-- ADR, LDR, STR, ADD and SUB, BLR, RET
abbrev pub aarch64_row : ℕ → Row → List ℕ
aarch64_row at (address k) = word ((EXCHANGE - at) % 4 * 2 ^ 29 + 0b10000 * 2 ^ 24 + (EXCHANGE - at) / 4 * 2 ^ 5 + k)
aarch64_row at (load (G k) base offset) = aarch64_immediate 0b1111100101 (offset / 8) base k
aarch64_row at (load (F k) base offset) = aarch64_immediate 0b1111110101 (offset / 8) base k
aarch64_row at (load (S k w) base offset) = []
aarch64_row at (store (G k) base offset) = aarch64_immediate 0b1111100100 (offset / 8) base k
aarch64_row at (store (F k) base offset) = aarch64_immediate 0b1111110100 (offset / 8) base k
aarch64_row at (store (S k w) base offset) = []
aarch64_row at (sum to from d) = aarch64_sum to from d
aarch64_row at (jump (calls_at base offset)) = []
aarch64_row at (jump (calls k)) = word (0b1101011000111111000000 * 2 ^ 10 + k * 2 ^ 5)
aarch64_row at (jump returns) = word (0b1101011001011111000000 * 2 ^ 10 + 30 * 2 ^ 5)

abbrev pub riscv_i : ℕ → ℕ → ℕ → ℕ → ℕ → List ℕ
riscv_i imm rs1 funct3 rd opcode = word (imm * 2 ^ 20 + rs1 * 2 ^ 15 + funct3 * 2 ^ 12 + rd * 2 ^ 7 + opcode)

abbrev pub riscv_s : ℕ → ℕ → ℕ → ℕ → List ℕ
riscv_s imm rs2 rs1 opcode =
    word (imm / 32 * 2 ^ 25 + rs2 * 2 ^ 20 + rs1 * 2 ^ 15 + 0b011 * 2 ^ 12 + imm % 32 * 2 ^ 7 + opcode)

-- AUIPC and ADDI, LD, FLD, SD, FSD, ADDI, JALR
abbrev pub riscv_row : ℕ → Row → List ℕ
riscv_row at (address k) =
    word ((EXCHANGE - at + 2048) / 4096 * 2 ^ 12 + k * 2 ^ 7 + 0b0010111)
    ++ riscv_i ((EXCHANGE - at) % 4096) k 0b000 k 0b0010011
riscv_row at (load (G k) base offset) = riscv_i offset base 0b011 k 0b0000011
riscv_row at (load (F k) base offset) = riscv_i offset base 0b011 k 0b0000111
riscv_row at (load (S k w) base offset) = []
riscv_row at (store (G k) base offset) = riscv_s offset k base 0b0100011
riscv_row at (store (F k) base offset) = riscv_s offset k base 0b0100111
riscv_row at (store (S k w) base offset) = []
riscv_row at (sum to from d) = riscv_i (in_bits 12 d) from 0b000 to 0b0010011
riscv_row at (jump (calls_at base offset)) = []
riscv_row at (jump (calls k)) = riscv_i 0 k 0b000 1 0b1100111
riscv_row at (jump returns) = riscv_i 0 1 0b000 0 0b1100111

abbrev pub row_bytes : Isa → ℕ → Row → List ℕ
row_bytes Amd64 at row = amd64_row at row
row_bytes Aarch64 at row = aarch64_row at row
row_bytes Riscv at row = riscv_row at row

-- how many bytes a row has, and how many instructions
abbrev pub amd64_move_size : Loc → ℕ → ℕ
amd64_move_size (G k) base = if base == 4 then 8 else 7
amd64_move_size (F k) base = 9
amd64_move_size (S k w) base = 0

abbrev pub amd64_size : Row → ℕ
amd64_size (address k) = 7
amd64_size (load l base offset) = amd64_move_size l base
amd64_size (store l base offset) = amd64_move_size l base
amd64_size (sum to from d) = 8
amd64_size (jump (calls_at base offset)) = 7
amd64_size (jump (calls k)) = 0
amd64_size (jump returns) = 1

abbrev pub riscv_size : Row → ℕ
riscv_size (address k) = 8
riscv_size (load l base offset) = 4
riscv_size (store l base offset) = 4
riscv_size (sum to from d) = 4
riscv_size (jump j) = 4

abbrev pub size_of : Isa → Row → ℕ
size_of Amd64 row = amd64_size row
size_of Aarch64 row = 4
size_of Riscv row = riscv_size row

abbrev pub bytes_of : Isa → ℕ → List Row → List ℕ
bytes_of isa at [] = []
bytes_of isa at (row ∷ rest) = row_bytes isa at row ++ bytes_of isa (at + size_of isa row) rest

-- ---- the region

-- where a stub begins; Call ends where Return begins, so that it returns there
abbrev pub stub_at : Isa → StubName → ℕ
stub_at isa Entry = 0x1000
stub_at isa Exit = 0x1800
stub_at Amd64 Call = 0x1F72
stub_at Aarch64 Call = 0x1FA8
stub_at Riscv Call = 0x1FAC
stub_at isa Return = 0x2000

unfoldable pub stub_bytes : Isa → StubName → List ℕ
stub_bytes isa name = bytes_of isa (stub_at isa name) (rows isa name)

-- a region with the stub's bytes in place
abbrev pub with_stub : Isa → StubName → List ℕ → List ℕ
with_stub isa name region =
    replace_range region
    (stub_at isa name - STUBS) (stub_at isa name - STUBS + length (stub_bytes isa name)) (stub_bytes isa name)

-- the four stubs, and a free slot's filling between them
unfoldable pub begun_stubs : Isa → List ℕ
begun_stubs isa =
    with_stub isa Return (with_stub isa Call (with_stub isa Exit (with_stub isa Entry (repeat 1536 (free_word isa)))))

-- where the machine goes for a stub
abbrev pub goes_for : Isa → Stub → ℕ
goes_for isa stub.Call = stub_at isa Call
goes_for isa stub.Exit = stub_at isa Exit
