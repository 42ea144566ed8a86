-- Names of registers, by their numbers in instructions. (Intel 64 and IA-32 Architectures Software Developer's Manual, volume 2, table 3-1; AAPCS64 6.1; RISC-V ELF psABI, "Integer Register Convention" and "Floating-point Register Convention")
use Rattle.std.specs.Prelude.{ℕ, List, [], ◌∷◌, codes}
use Rattle.ffi3_type_spec.specs.declared.Isa.{Isa}
use Rattle.ffi3_type_spec.specs.declared.Isa.TheVariants.{Amd64, Aarch64, Riscv}

abbrev pub amd64_general : List (List ℕ)
amd64_general =
    codes "rax" ∷ codes "rcx" ∷ codes "rdx" ∷ codes "rbx" ∷ codes "rsp" ∷ codes "rbp" ∷ codes "rsi" ∷ codes "rdi"
    ∷ codes "r8" ∷ codes "r9" ∷ codes "r10" ∷ codes "r11" ∷ codes "r12" ∷ codes "r13" ∷ codes "r14" ∷ codes "r15" ∷ []

abbrev pub amd64_floating : List (List ℕ)
amd64_floating =
    codes "xmm0" ∷ codes "xmm1" ∷ codes "xmm2" ∷ codes "xmm3" ∷ codes "xmm4" ∷ codes "xmm5" ∷ codes "xmm6"
    ∷ codes "xmm7" ∷ codes "xmm8" ∷ codes "xmm9" ∷ codes "xmm10" ∷ codes "xmm11" ∷ codes "xmm12" ∷ codes "xmm13"
    ∷ codes "xmm14" ∷ codes "xmm15" ∷ []

-- number 31 is the stack pointer or zero, as the instruction has it
abbrev pub aarch64_general : List (List ℕ)
aarch64_general =
    codes "x0" ∷ codes "x1" ∷ codes "x2" ∷ codes "x3" ∷ codes "x4" ∷ codes "x5" ∷ codes "x6" ∷ codes "x7" ∷ codes "x8"
    ∷ codes "x9" ∷ codes "x10" ∷ codes "x11" ∷ codes "x12" ∷ codes "x13" ∷ codes "x14" ∷ codes "x15" ∷ codes "x16"
    ∷ codes "x17" ∷ codes "x18" ∷ codes "x19" ∷ codes "x20" ∷ codes "x21" ∷ codes "x22" ∷ codes "x23" ∷ codes "x24"
    ∷ codes "x25" ∷ codes "x26" ∷ codes "x27" ∷ codes "x28" ∷ codes "x29" ∷ codes "x30" ∷ []

abbrev pub aarch64_floating : List (List ℕ)
aarch64_floating =
    codes "v0" ∷ codes "v1" ∷ codes "v2" ∷ codes "v3" ∷ codes "v4" ∷ codes "v5" ∷ codes "v6" ∷ codes "v7" ∷ codes "v8"
    ∷ codes "v9" ∷ codes "v10" ∷ codes "v11" ∷ codes "v12" ∷ codes "v13" ∷ codes "v14" ∷ codes "v15" ∷ codes "v16"
    ∷ codes "v17" ∷ codes "v18" ∷ codes "v19" ∷ codes "v20" ∷ codes "v21" ∷ codes "v22" ∷ codes "v23" ∷ codes "v24"
    ∷ codes "v25" ∷ codes "v26" ∷ codes "v27" ∷ codes "v28" ∷ codes "v29" ∷ codes "v30" ∷ codes "v31" ∷ []

abbrev pub riscv_general : List (List ℕ)
riscv_general =
    codes "zero" ∷ codes "ra" ∷ codes "sp" ∷ codes "gp" ∷ codes "tp" ∷ codes "t0" ∷ codes "t1" ∷ codes "t2" ∷ codes "s0"
    ∷ codes "s1" ∷ codes "a0" ∷ codes "a1" ∷ codes "a2" ∷ codes "a3" ∷ codes "a4" ∷ codes "a5" ∷ codes "a6" ∷ codes "a7"
    ∷ codes "s2" ∷ codes "s3" ∷ codes "s4" ∷ codes "s5" ∷ codes "s6" ∷ codes "s7" ∷ codes "s8" ∷ codes "s9"
    ∷ codes "s10" ∷ codes "s11" ∷ codes "t3" ∷ codes "t4" ∷ codes "t5" ∷ codes "t6" ∷ []

abbrev pub riscv_floating : List (List ℕ)
riscv_floating =
    codes "ft0" ∷ codes "ft1" ∷ codes "ft2" ∷ codes "ft3" ∷ codes "ft4" ∷ codes "ft5" ∷ codes "ft6" ∷ codes "ft7"
    ∷ codes "fs0" ∷ codes "fs1" ∷ codes "fa0" ∷ codes "fa1" ∷ codes "fa2" ∷ codes "fa3" ∷ codes "fa4" ∷ codes "fa5"
    ∷ codes "fa6" ∷ codes "fa7" ∷ codes "fs2" ∷ codes "fs3" ∷ codes "fs4" ∷ codes "fs5" ∷ codes "fs6" ∷ codes "fs7"
    ∷ codes "fs8" ∷ codes "fs9" ∷ codes "fs10" ∷ codes "fs11" ∷ codes "ft8" ∷ codes "ft9" ∷ codes "ft10" ∷ codes "ft11"
    ∷ []

-- those of an instruction set's general registers, from number 0 on; a number past the last has no name
abbrev pub general_names : Isa → List (List ℕ)
general_names Amd64 = amd64_general
general_names Aarch64 = aarch64_general
general_names Riscv = riscv_general

-- those of its floating registers
abbrev pub floating_names : Isa → List (List ℕ)
floating_names Amd64 = amd64_floating
floating_names Aarch64 = aarch64_floating
floating_names Riscv = riscv_floating
