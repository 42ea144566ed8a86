-- Bytes that begin with an instruction of amd64.
use Rattle.std.proofs.Common.{◌≡◌, ℕ, ◌+◌, ◌*◌, ◌<◌, ◌≤◌, List, [], ◌∷◌, length, get_or, arith, ap, refl, sym, ◌∙◌, ℤ, Option, Some, None, IfSome}
use Rattle.std.proofs.lemmas.Bool.Decides.{nat_tests}
use Rattle.ffi3_isa.specs.declared.Instr.{Instr}
use Rattle.ffi3_isa.specs.declared.Instr.TheVariants.{Endbr, Nop, Lea, JmpMem, Addi, CallMem, Ret}
use Rattle.ffi3_isa.specs.Amd64.{IsAmd64, IsTrampolineCode, IsFixed, IsMovAtR11, IsMovAtSp, IsMovsd, IsAtR11, IsAtSp, IsLeaOf, disp32, mov, movsd, endbr64, lea, jmp, nop, lea_sp, call, ret, trampoline, fixed, mov_at_r11, mov_at_sp, movsd_at_r11}

pub is_endbr64 : (bs : List ℕ) → 4 ≤ length bs → get_or bs 0 0 ≡ 0xF3 → get_or bs 1 0 ≡ 0x0F → get_or bs 2 0 ≡ 0x1E → get_or bs 3 0 ≡ 0xFA → IsTrampolineCode bs Endbr 4
is_endbr64 (x ∷ y ∷ z ∷ u ∷ rest) h p q r s = endbr64 {rest = rest} cc
is_endbr64 _ h p q r s = absurd (omega arith)

pub is_jmp : (bs : List ℕ) (d : ℤ) → 6 ≤ length bs → get_or bs 0 0 ≡ 0xFF → get_or bs 1 0 ≡ 0x25 → d ≡ disp32 (get_or bs 2 0) (get_or bs 3 0) (get_or bs 4 0) (get_or bs 5 0) → IsTrampolineCode bs (JmpMem d) 6
is_jmp (x ∷ y ∷ i ∷ j ∷ k ∷ l ∷ rest) d h p q e =
    rw e (jmp {a = i} {b = j} {c = k} {d = l} {rest = rest} cc)
is_jmp _ d h p q e = absurd (omega arith)

pub is_nop : (bs : List ℕ) → 7 ≤ length bs → get_or bs 0 0 ≡ 0x0F → get_or bs 1 0 ≡ 0x1F → get_or bs 2 0 ≡ 0x80 → IsTrampolineCode bs Nop 7
is_nop (x ∷ y ∷ z ∷ i ∷ j ∷ k ∷ l ∷ rest) h p q r =
    nop {a = i} {b = j} {c = k} {d = l} {rest = rest} cc
is_nop _ h p q r = absurd (omega arith)

pub is_lea : (bs : List ℕ) (register : ℕ) (d : ℤ) → 7 ≤ length bs → get_or bs 1 0 ≡ 0x8D → IsLeaOf (get_or bs 0 0) (get_or bs 2 0) register → d ≡ disp32 (get_or bs 3 0) (get_or bs 4 0) (get_or bs 5 0) (get_or bs 6 0) → IsTrampolineCode bs (Lea register d) 7
is_lea (x ∷ y ∷ z ∷ i ∷ j ∷ k ∷ l ∷ rest) register d h p m e =
    rw e (lea {prefix = x} {mod_reg_rm = z} {register = register} {a = i} {b = j} {c = k} {d = l} {rest = rest} (cc) m)
is_lea _ register d h p m e = absurd (omega arith)

-- where the second byte is that of LEA and no register is named, there is no instruction
pub none_named : (bs : List ℕ) (i : Instr) (n : ℕ) → get_or bs 1 0 ≡ 0x8D → ((register : ℕ) → ¬ IsLeaOf (get_or bs 0 0) (get_or bs 2 0) register) → ¬ IsTrampolineCode bs i n
none_named bs i n p none (endbr64 is) = absurd (omega (arith, ap (λ (l : List ℕ). get_or l 1 0) is))
none_named bs i n p none (jmp is) = absurd (omega (arith, ap (λ (l : List ℕ). get_or l 1 0) is))
none_named bs i n p none (nop is) = absurd (omega (arith, ap (λ (l : List ℕ). get_or l 1 0) is))
none_named bs i n p none (lea {prefix = x} {mod_reg_rm = z} {register = register} is names) =
    none register (rw (ap (λ (l : List ℕ). get_or l 0 0) is, ap (λ (l : List ℕ). get_or l 2 0) is) names)

pub is_lea_sp : (bs : List ℕ) (d : ℤ) → 8 ≤ length bs → get_or bs 0 0 ≡ 0x48 → get_or bs 1 0 ≡ 0x8D → get_or bs 2 0 ≡ 0xA4 → get_or bs 3 0 ≡ 0x24 → d ≡ disp32 (get_or bs 4 0) (get_or bs 5 0) (get_or bs 6 0) (get_or bs 7 0) → IsFixed bs (Addi 4 4 d) 8
is_lea_sp (b0 ∷ b1 ∷ b2 ∷ b3 ∷ b4 ∷ b5 ∷ b6 ∷ b7 ∷ rest) d h p q r s e =
    rw e (lea_sp {a = b4} {b = b5} {c = b6} {d = b7} {rest = rest} cc)
is_lea_sp _ d h p q r s e = absurd (omega arith)

pub is_call : (bs : List ℕ) (d : ℤ) → 7 ≤ length bs → get_or bs 0 0 ≡ 0x41 → get_or bs 1 0 ≡ 0xFF → get_or bs 2 0 ≡ 0x93 → d ≡ disp32 (get_or bs 3 0) (get_or bs 4 0) (get_or bs 5 0) (get_or bs 6 0) → IsFixed bs (CallMem 11 d) 7
is_call (b0 ∷ b1 ∷ b2 ∷ b3 ∷ b4 ∷ b5 ∷ b6 ∷ rest) d h p q r e =
    rw e (call {a = b3} {b = b4} {c = b5} {d = b6} {rest = rest} cc)
is_call _ d h p q r e = absurd (omega arith)

pub is_ret : (bs : List ℕ) → 1 ≤ length bs → get_or bs 0 0 ≡ 0xC3 → IsFixed bs Ret 1
is_ret [] h p = absurd (omega arith)
is_ret (b0 ∷ rest) h p =
    ret {rest = rest} cc

pub is_mov_at_r11 : (bs : List ℕ) (i : Instr) (register : ℕ) → 7 ≤ length bs → IsAtR11 (get_or bs 0 0) (get_or bs 2 0) register → mov (get_or bs 1 0) register 11 (disp32 (get_or bs 3 0) (get_or bs 4 0) (get_or bs 5 0) (get_or bs 6 0)) ≡ Some i → IsMovAtR11 bs i 7
is_mov_at_r11 (b0 ∷ b1 ∷ b2 ∷ b3 ∷ b4 ∷ b5 ∷ b6 ∷ rest) i register h m e =
    record { prefix = b0; op = b1; mod_reg_rm = b2; register = register; a = b3; b = b4; c = b5; d = b6; rest = rest; is_bytes = refl; names = m; means = e; is_size = refl }
is_mov_at_r11 _ i register h m e = absurd (omega arith)

pub is_mov_at_sp : (bs : List ℕ) (i : Instr) (register : ℕ) → 8 ≤ length bs → get_or bs 3 0 ≡ 0x24 → IsAtSp (get_or bs 0 0) (get_or bs 2 0) register → mov (get_or bs 1 0) register 4 (disp32 (get_or bs 4 0) (get_or bs 5 0) (get_or bs 6 0) (get_or bs 7 0)) ≡ Some i → IsMovAtSp bs i 8
is_mov_at_sp (b0 ∷ b1 ∷ b2 ∷ b3 ∷ b4 ∷ b5 ∷ b6 ∷ b7 ∷ rest) i register h s m e =
    record { prefix = b0; op = b1; mod_reg_rm = b2; register = register; a = b4; b = b5; c = b6; d = b7; rest = rest; is_bytes = cc; names = m; means = e; is_size = refl }
is_mov_at_sp _ i register h s m e = absurd (omega arith)

pub is_movsd : (bs : List ℕ) (i : Instr) (register : ℕ) → 9 ≤ length bs → get_or bs 0 0 ≡ 0xF2 → get_or bs 1 0 ≡ 0x41 → get_or bs 2 0 ≡ 0x0F → register < 8 → get_or bs 4 0 ≡ 128 + 8 * register + 3 → movsd (get_or bs 3 0) register 11 (disp32 (get_or bs 5 0) (get_or bs 6 0) (get_or bs 7 0) (get_or bs 8 0)) ≡ Some i → IsMovsd bs i 9
is_movsd (b0 ∷ b1 ∷ b2 ∷ b3 ∷ b4 ∷ b5 ∷ b6 ∷ b7 ∷ b8 ∷ rest) i register h p q r small m e =
    record { op = b3; register = register; a = b5; b = b6; c = b7; d = b8; rest = rest; is_bytes = cc; in_range = small; means = e; is_size = refl }
is_movsd _ i register h p q r small m e = absurd (omega arith)

-- ---- what the bytes of an instruction say

byte : (bs cs : List ℕ) (k : ℕ) → bs ≡ cs → get_or bs k 0 ≡ get_or cs k 0
byte bs cs k e = ap (λ (l : List ℕ). get_or l k 0) e

pub names_r11 : (bs : List ℕ) (i : Instr) (n : ℕ) → (h : IsMovAtR11 bs i n) → IsAtR11 (get_or bs 0 0) (get_or bs 2 0) h.register
names_r11 bs i n h = rw (byte bs _ 0 h.is_bytes, byte bs _ 2 h.is_bytes) h.names

pub means_r11 : (bs : List ℕ) (i : Instr) (n : ℕ) → (h : IsMovAtR11 bs i n) → mov (get_or bs 1 0) h.register 11 (disp32 (get_or bs 3 0) (get_or bs 4 0) (get_or bs 5 0) (get_or bs 6 0)) ≡ Some i
means_r11 bs i n h = ap (λ (l : List ℕ). mov (get_or l 1 0) h.register 11 (disp32 (get_or l 3 0) (get_or l 4 0) (get_or l 5 0) (get_or l 6 0))) h.is_bytes ∙ h.means

pub names_sp : (bs : List ℕ) (i : Instr) (n : ℕ) → (h : IsMovAtSp bs i n) → IsAtSp (get_or bs 0 0) (get_or bs 2 0) h.register
names_sp bs i n h = rw (byte bs _ 0 h.is_bytes, byte bs _ 2 h.is_bytes) h.names

pub means_sp : (bs : List ℕ) (i : Instr) (n : ℕ) → (h : IsMovAtSp bs i n) → mov (get_or bs 1 0) h.register 4 (disp32 (get_or bs 4 0) (get_or bs 5 0) (get_or bs 6 0) (get_or bs 7 0)) ≡ Some i
means_sp bs i n h = ap (λ (l : List ℕ). mov (get_or l 1 0) h.register 4 (disp32 (get_or l 4 0) (get_or l 5 0) (get_or l 6 0) (get_or l 7 0))) h.is_bytes ∙ h.means

-- where the register, what the opcode makes of it and the offset are said apart
pub moves_at_sp : (bs : List ℕ) (i : Instr) (register : ℕ) (d : ℤ) → 8 ≤ length bs → get_or bs 3 0 ≡ 0x24 → IsAtSp (get_or bs 0 0) (get_or bs 2 0) register → Some i ≡ mov (get_or bs 1 0) register 4 d → d ≡ disp32 (get_or bs 4 0) (get_or bs 5 0) (get_or bs 6 0) (get_or bs 7 0) → IsMovAtSp bs i 8
moves_at_sp bs i register d long sib names made offset =
    is_mov_at_sp bs i register long sib names (sym (made ∙ ap (λ (z : ℤ). mov (get_or bs 1 0) register 4 z) offset))

pub moves_only_at_sp : (bs : List ℕ) (i j : Instr) (n register : ℕ) (d : ℤ) → ((k : ℕ) → IsAtSp (get_or bs 0 0) (get_or bs 2 0) k → Some register ≡ Some k) → Some i ≡ mov (get_or bs 1 0) register 4 d → d ≡ disp32 (get_or bs 4 0) (get_or bs 5 0) (get_or bs 6 0) (get_or bs 7 0) → IsMovAtSp bs j n → ◌≡◌ {A = Option (Instr × ℕ)} (Some (i, 8)) (Some (j, n))
moves_only_at_sp bs i j n register d named made offset h =
    let e : Some register ≡ Some h.register = named h.register (names_sp bs j n h) in
    let same : register ≡ h.register = cc in
    let f : Some i ≡ Some j = made ∙ ap (λ (k : ℕ). mov (get_or bs 1 0) k 4 d) same ∙ ap (λ (z : ℤ). mov (get_or bs 1 0) h.register 4 z) offset ∙ means_sp bs j n h in
    let size = h.is_size in cc

pub names_xmm : (bs : List ℕ) (i : Instr) (n : ℕ) → (h : IsMovsd bs i n) → get_or bs 4 0 ≡ 128 + 8 * h.register + 3
names_xmm bs i n h = byte bs _ 4 h.is_bytes ∙ omega arith

pub means_xmm : (bs : List ℕ) (i : Instr) (n : ℕ) → (h : IsMovsd bs i n) → movsd (get_or bs 3 0) h.register 11 (disp32 (get_or bs 5 0) (get_or bs 6 0) (get_or bs 7 0) (get_or bs 8 0)) ≡ Some i
means_xmm bs i n h = ap (λ (l : List ℕ). movsd (get_or l 3 0) h.register 11 (disp32 (get_or l 5 0) (get_or l 6 0) (get_or l 7 0) (get_or l 8 0))) h.is_bytes ∙ h.means

-- ---- no bytes begin with two

-- an op that is no MOV's
mov_op : (op register base : ℕ) (d : ℤ) (i : Instr) → ¬ (op ≡ 0x8B) → ¬ (op ≡ 0x89) → ¬ (mov op register base d ≡ Some i)
mov_op op register base d i a b is =
    let e : mov op register base d ≡ None = grind (arith, nat_tests) in cc

pub trampoline-fixed : (bs : List ℕ) (i j : Instr) (n m : ℕ) → IsTrampolineCode bs i n → ¬ IsFixed bs j m
trampoline-fixed bs i j n m (endbr64 {rest = u} is) (lea_sp {a = a2} {b = b2} {c = c2} {d = d2} {rest = v} that) = absurd (omega (arith, byte bs _ 0 is, byte bs _ 1 is, byte bs _ 2 is, byte bs _ 0 that, byte bs _ 1 that, byte bs _ 2 that))
trampoline-fixed bs i j n m (endbr64 {rest = u} is) (call {a = a2} {b = b2} {c = c2} {d = d2} {rest = v} that) = absurd (omega (arith, byte bs _ 0 is, byte bs _ 1 is, byte bs _ 2 is, byte bs _ 0 that, byte bs _ 1 that, byte bs _ 2 that))
trampoline-fixed bs i j n m (endbr64 {rest = u} is) (ret {rest = v} that) = absurd (omega (arith, byte bs _ 0 is, byte bs _ 1 is, byte bs _ 2 is, byte bs _ 0 that, byte bs _ 1 that, byte bs _ 2 that))
trampoline-fixed bs i j n m (lea {prefix = p} {mod_reg_rm = md} {register = g} {a = a} {b = b} {c = c} {d = d} {rest = u} is nm) (lea_sp {a = a2} {b = b2} {c = c2} {d = d2} {rest = v} that) = let w : md ≡ 64 * 0 + 8 * nm.reg + 5 = nm.is_mod_rm in let y : nm.reg < 8 = nm.reg_in_range in absurd (omega (arith, byte bs _ 0 is, byte bs _ 1 is, byte bs _ 2 is, byte bs _ 0 that, byte bs _ 1 that, byte bs _ 2 that))
trampoline-fixed bs i j n m (lea {prefix = p} {mod_reg_rm = md} {register = g} {a = a} {b = b} {c = c} {d = d} {rest = u} is nm) (call {a = a2} {b = b2} {c = c2} {d = d2} {rest = v} that) = absurd (omega (arith, byte bs _ 0 is, byte bs _ 1 is, byte bs _ 2 is, byte bs _ 0 that, byte bs _ 1 that, byte bs _ 2 that))
trampoline-fixed bs i j n m (lea {prefix = p} {mod_reg_rm = md} {register = g} {a = a} {b = b} {c = c} {d = d} {rest = u} is nm) (ret {rest = v} that) = absurd (omega (arith, byte bs _ 0 is, byte bs _ 1 is, byte bs _ 2 is, byte bs _ 0 that, byte bs _ 1 that, byte bs _ 2 that))
trampoline-fixed bs i j n m (jmp {a = a} {b = b} {c = c} {d = d} {rest = u} is) (lea_sp {a = a2} {b = b2} {c = c2} {d = d2} {rest = v} that) = absurd (omega (arith, byte bs _ 0 is, byte bs _ 1 is, byte bs _ 2 is, byte bs _ 0 that, byte bs _ 1 that, byte bs _ 2 that))
trampoline-fixed bs i j n m (jmp {a = a} {b = b} {c = c} {d = d} {rest = u} is) (call {a = a2} {b = b2} {c = c2} {d = d2} {rest = v} that) = absurd (omega (arith, byte bs _ 0 is, byte bs _ 1 is, byte bs _ 2 is, byte bs _ 0 that, byte bs _ 1 that, byte bs _ 2 that))
trampoline-fixed bs i j n m (jmp {a = a} {b = b} {c = c} {d = d} {rest = u} is) (ret {rest = v} that) = absurd (omega (arith, byte bs _ 0 is, byte bs _ 1 is, byte bs _ 2 is, byte bs _ 0 that, byte bs _ 1 that, byte bs _ 2 that))
trampoline-fixed bs i j n m (nop {a = a} {b = b} {c = c} {d = d} {rest = u} is) (lea_sp {a = a2} {b = b2} {c = c2} {d = d2} {rest = v} that) = absurd (omega (arith, byte bs _ 0 is, byte bs _ 1 is, byte bs _ 2 is, byte bs _ 0 that, byte bs _ 1 that, byte bs _ 2 that))
trampoline-fixed bs i j n m (nop {a = a} {b = b} {c = c} {d = d} {rest = u} is) (call {a = a2} {b = b2} {c = c2} {d = d2} {rest = v} that) = absurd (omega (arith, byte bs _ 0 is, byte bs _ 1 is, byte bs _ 2 is, byte bs _ 0 that, byte bs _ 1 that, byte bs _ 2 that))
trampoline-fixed bs i j n m (nop {a = a} {b = b} {c = c} {d = d} {rest = u} is) (ret {rest = v} that) = absurd (omega (arith, byte bs _ 0 is, byte bs _ 1 is, byte bs _ 2 is, byte bs _ 0 that, byte bs _ 1 that, byte bs _ 2 that))

pub trampoline-r11 : (bs : List ℕ) (i j : Instr) (n m : ℕ) → IsTrampolineCode bs i n → ¬ IsMovAtR11 bs j m
trampoline-r11 bs i j n m (endbr64 {rest = u} is) h = absurd (mov_op h.op h.register _ (disp32 h.a h.b h.c h.d) j (omega (arith, byte bs _ 0 is, byte bs _ 1 is, byte bs _ 0 h.is_bytes, byte bs _ 1 h.is_bytes)) (omega (arith, byte bs _ 0 is, byte bs _ 1 is, byte bs _ 0 h.is_bytes, byte bs _ 1 h.is_bytes)) h.means)
trampoline-r11 bs i j n m (lea {prefix = p} {mod_reg_rm = md} {register = g} {a = a} {b = b} {c = c} {d = d} {rest = u} is nm) h = absurd (mov_op h.op h.register _ (disp32 h.a h.b h.c h.d) j (omega (arith, byte bs _ 0 is, byte bs _ 1 is, byte bs _ 0 h.is_bytes, byte bs _ 1 h.is_bytes)) (omega (arith, byte bs _ 0 is, byte bs _ 1 is, byte bs _ 0 h.is_bytes, byte bs _ 1 h.is_bytes)) h.means)
trampoline-r11 bs i j n m (jmp {a = a} {b = b} {c = c} {d = d} {rest = u} is) h = absurd (mov_op h.op h.register _ (disp32 h.a h.b h.c h.d) j (omega (arith, byte bs _ 0 is, byte bs _ 1 is, byte bs _ 0 h.is_bytes, byte bs _ 1 h.is_bytes)) (omega (arith, byte bs _ 0 is, byte bs _ 1 is, byte bs _ 0 h.is_bytes, byte bs _ 1 h.is_bytes)) h.means)
trampoline-r11 bs i j n m (nop {a = a} {b = b} {c = c} {d = d} {rest = u} is) h = absurd (mov_op h.op h.register _ (disp32 h.a h.b h.c h.d) j (omega (arith, byte bs _ 0 is, byte bs _ 1 is, byte bs _ 0 h.is_bytes, byte bs _ 1 h.is_bytes)) (omega (arith, byte bs _ 0 is, byte bs _ 1 is, byte bs _ 0 h.is_bytes, byte bs _ 1 h.is_bytes)) h.means)

pub fixed-r11 : (bs : List ℕ) (i j : Instr) (n m : ℕ) → IsFixed bs i n → ¬ IsMovAtR11 bs j m
fixed-r11 bs i j n m (lea_sp {a = a2} {b = b2} {c = c2} {d = d2} {rest = v} that) h = absurd (mov_op h.op h.register _ (disp32 h.a h.b h.c h.d) j (omega (arith, byte bs _ 0 that, byte bs _ 1 that, byte bs _ 0 h.is_bytes, byte bs _ 1 h.is_bytes)) (omega (arith, byte bs _ 0 that, byte bs _ 1 that, byte bs _ 0 h.is_bytes, byte bs _ 1 h.is_bytes)) h.means)
fixed-r11 bs i j n m (call {a = a2} {b = b2} {c = c2} {d = d2} {rest = v} that) h = absurd (mov_op h.op h.register _ (disp32 h.a h.b h.c h.d) j (omega (arith, byte bs _ 0 that, byte bs _ 1 that, byte bs _ 0 h.is_bytes, byte bs _ 1 h.is_bytes)) (omega (arith, byte bs _ 0 that, byte bs _ 1 that, byte bs _ 0 h.is_bytes, byte bs _ 1 h.is_bytes)) h.means)
fixed-r11 bs i j n m (ret {rest = v} that) h = let w = h.names.is_prefix in let x = h.names.r_in_range in absurd (omega (arith, byte bs _ 0 that, byte bs _ 0 h.is_bytes))

pub trampoline-sp : (bs : List ℕ) (i j : Instr) (n m : ℕ) → IsTrampolineCode bs i n → ¬ IsMovAtSp bs j m
trampoline-sp bs i j n m (endbr64 {rest = u} is) h = absurd (mov_op h.op h.register _ (disp32 h.a h.b h.c h.d) j (omega (arith, byte bs _ 0 is, byte bs _ 1 is, byte bs _ 0 h.is_bytes, byte bs _ 1 h.is_bytes)) (omega (arith, byte bs _ 0 is, byte bs _ 1 is, byte bs _ 0 h.is_bytes, byte bs _ 1 h.is_bytes)) h.means)
trampoline-sp bs i j n m (lea {prefix = p} {mod_reg_rm = md} {register = g} {a = a} {b = b} {c = c} {d = d} {rest = u} is nm) h = absurd (mov_op h.op h.register _ (disp32 h.a h.b h.c h.d) j (omega (arith, byte bs _ 0 is, byte bs _ 1 is, byte bs _ 0 h.is_bytes, byte bs _ 1 h.is_bytes)) (omega (arith, byte bs _ 0 is, byte bs _ 1 is, byte bs _ 0 h.is_bytes, byte bs _ 1 h.is_bytes)) h.means)
trampoline-sp bs i j n m (jmp {a = a} {b = b} {c = c} {d = d} {rest = u} is) h = absurd (mov_op h.op h.register _ (disp32 h.a h.b h.c h.d) j (omega (arith, byte bs _ 0 is, byte bs _ 1 is, byte bs _ 0 h.is_bytes, byte bs _ 1 h.is_bytes)) (omega (arith, byte bs _ 0 is, byte bs _ 1 is, byte bs _ 0 h.is_bytes, byte bs _ 1 h.is_bytes)) h.means)
trampoline-sp bs i j n m (nop {a = a} {b = b} {c = c} {d = d} {rest = u} is) h = absurd (mov_op h.op h.register _ (disp32 h.a h.b h.c h.d) j (omega (arith, byte bs _ 0 is, byte bs _ 1 is, byte bs _ 0 h.is_bytes, byte bs _ 1 h.is_bytes)) (omega (arith, byte bs _ 0 is, byte bs _ 1 is, byte bs _ 0 h.is_bytes, byte bs _ 1 h.is_bytes)) h.means)

pub fixed-sp : (bs : List ℕ) (i j : Instr) (n m : ℕ) → IsFixed bs i n → ¬ IsMovAtSp bs j m
fixed-sp bs i j n m (lea_sp {a = a2} {b = b2} {c = c2} {d = d2} {rest = v} that) h = absurd (mov_op h.op h.register _ (disp32 h.a h.b h.c h.d) j (omega (arith, byte bs _ 0 that, byte bs _ 1 that, byte bs _ 0 h.is_bytes, byte bs _ 1 h.is_bytes)) (omega (arith, byte bs _ 0 that, byte bs _ 1 that, byte bs _ 0 h.is_bytes, byte bs _ 1 h.is_bytes)) h.means)
fixed-sp bs i j n m (call {a = a2} {b = b2} {c = c2} {d = d2} {rest = v} that) h = absurd (mov_op h.op h.register _ (disp32 h.a h.b h.c h.d) j (omega (arith, byte bs _ 0 that, byte bs _ 1 that, byte bs _ 0 h.is_bytes, byte bs _ 1 h.is_bytes)) (omega (arith, byte bs _ 0 that, byte bs _ 1 that, byte bs _ 0 h.is_bytes, byte bs _ 1 h.is_bytes)) h.means)
fixed-sp bs i j n m (ret {rest = v} that) h = let w = h.names.is_prefix in let x = h.names.r_in_range in absurd (omega (arith, byte bs _ 0 that, byte bs _ 0 h.is_bytes))

pub r11-sp : (bs : List ℕ) (i j : Instr) (n m : ℕ) → IsMovAtR11 bs i n → ¬ IsMovAtSp bs j m
r11-sp bs i j n m g h = let w = g.names.is_mod_rm in let x = h.names.is_mod_rm in let y = g.names.reg_in_range in let z = h.names.reg_in_range in absurd (omega (arith, byte bs _ 2 g.is_bytes, byte bs _ 2 h.is_bytes))

pub trampoline-movsd : (bs : List ℕ) (i j : Instr) (n m : ℕ) → IsTrampolineCode bs i n → ¬ IsMovsd bs j m
trampoline-movsd bs i j n m (endbr64 {rest = u} is) h = absurd (omega (arith, byte bs _ 0 is, byte bs _ 1 is, byte bs _ 0 h.is_bytes, byte bs _ 1 h.is_bytes))
trampoline-movsd bs i j n m (lea {prefix = p} {mod_reg_rm = md} {register = g} {a = a} {b = b} {c = c} {d = d} {rest = u} is nm) h = absurd (omega (arith, byte bs _ 0 is, byte bs _ 1 is, byte bs _ 0 h.is_bytes, byte bs _ 1 h.is_bytes))
trampoline-movsd bs i j n m (jmp {a = a} {b = b} {c = c} {d = d} {rest = u} is) h = absurd (omega (arith, byte bs _ 0 is, byte bs _ 1 is, byte bs _ 0 h.is_bytes, byte bs _ 1 h.is_bytes))
trampoline-movsd bs i j n m (nop {a = a} {b = b} {c = c} {d = d} {rest = u} is) h = absurd (omega (arith, byte bs _ 0 is, byte bs _ 1 is, byte bs _ 0 h.is_bytes, byte bs _ 1 h.is_bytes))

pub fixed-movsd : (bs : List ℕ) (i j : Instr) (n m : ℕ) → IsFixed bs i n → ¬ IsMovsd bs j m
fixed-movsd bs i j n m (lea_sp {a = a2} {b = b2} {c = c2} {d = d2} {rest = v} that) h = absurd (omega (arith, byte bs _ 0 that, byte bs _ 0 h.is_bytes))
fixed-movsd bs i j n m (call {a = a2} {b = b2} {c = c2} {d = d2} {rest = v} that) h = absurd (omega (arith, byte bs _ 0 that, byte bs _ 0 h.is_bytes))
fixed-movsd bs i j n m (ret {rest = v} that) h = absurd (omega (arith, byte bs _ 0 that, byte bs _ 0 h.is_bytes))

pub r11-movsd : (bs : List ℕ) (i j : Instr) (n m : ℕ) → IsMovAtR11 bs i n → ¬ IsMovsd bs j m
r11-movsd bs i j n m g h = let w = g.names.is_prefix in let x = g.names.r_in_range in absurd (omega (arith, byte bs _ 0 g.is_bytes, byte bs _ 0 h.is_bytes))

pub sp-movsd : (bs : List ℕ) (i j : Instr) (n m : ℕ) → IsMovAtSp bs i n → ¬ IsMovsd bs j m
sp-movsd bs i j n m g h = let w = g.names.is_prefix in let x = g.names.r_in_range in absurd (omega (arith, byte bs _ 0 g.is_bytes, byte bs _ 0 h.is_bytes))

-- ---- where one form of instruction is found, and those before are not

pub only_trampoline : (bs : List ℕ) (i : Instr) (n : ℕ) (p : Instr × ℕ) → IsTrampolineCode bs p.0 p.1 → ((j : Instr) (m : ℕ) → IsTrampolineCode bs j m → Some p ≡ Some (j, m)) → IsAmd64 bs i n → Some p ≡ Some (i, n)
only_trampoline bs i n p is only (trampoline h) = only i n h
only_trampoline bs i n p is only (fixed h) = absurd (trampoline-fixed bs p.0 i p.1 n is h)
only_trampoline bs i n p is only (mov_at_r11 h) = absurd (trampoline-r11 bs p.0 i p.1 n is h)
only_trampoline bs i n p is only (mov_at_sp h) = absurd (trampoline-sp bs p.0 i p.1 n is h)
only_trampoline bs i n p is only (movsd_at_r11 h) = absurd (trampoline-movsd bs p.0 i p.1 n is h)

pub only_fixed : (bs : List ℕ) (i : Instr) (n : ℕ) (r0 : Option (Instr × ℕ)) (p : Instr × ℕ) → r0 ≡ None → ((j : Instr) (m : ℕ) → IsTrampolineCode bs j m → r0 ≡ Some (j, m)) → IsFixed bs p.0 p.1 → ((j : Instr) (m : ℕ) → IsFixed bs j m → Some p ≡ Some (j, m)) → IsAmd64 bs i n → Some p ≡ Some (i, n)
only_fixed bs i n r0 p e0 o0 is only (trampoline h) = let f = o0 i n h in cc
only_fixed bs i n r0 p e0 o0 is only (fixed h) = only i n h
only_fixed bs i n r0 p e0 o0 is only (mov_at_r11 h) = absurd (fixed-r11 bs p.0 i p.1 n is h)
only_fixed bs i n r0 p e0 o0 is only (mov_at_sp h) = absurd (fixed-sp bs p.0 i p.1 n is h)
only_fixed bs i n r0 p e0 o0 is only (movsd_at_r11 h) = absurd (fixed-movsd bs p.0 i p.1 n is h)

pub only_r11 : (bs : List ℕ) (i : Instr) (n : ℕ) (r0 r1 : Option (Instr × ℕ)) (p : Instr × ℕ) → r0 ≡ None → ((j : Instr) (m : ℕ) → IsTrampolineCode bs j m → r0 ≡ Some (j, m)) → r1 ≡ None → ((j : Instr) (m : ℕ) → IsFixed bs j m → r1 ≡ Some (j, m)) → IsMovAtR11 bs p.0 p.1 → ((j : Instr) (m : ℕ) → IsMovAtR11 bs j m → Some p ≡ Some (j, m)) → IsAmd64 bs i n → Some p ≡ Some (i, n)
only_r11 bs i n r0 r1 p e0 o0 e1 o1 is only (trampoline h) = let f = o0 i n h in cc
only_r11 bs i n r0 r1 p e0 o0 e1 o1 is only (fixed h) = let f = o1 i n h in cc
only_r11 bs i n r0 r1 p e0 o0 e1 o1 is only (mov_at_r11 h) = only i n h
only_r11 bs i n r0 r1 p e0 o0 e1 o1 is only (mov_at_sp h) = absurd (r11-sp bs p.0 i p.1 n is h)
only_r11 bs i n r0 r1 p e0 o0 e1 o1 is only (movsd_at_r11 h) = absurd (r11-movsd bs p.0 i p.1 n is h)

pub only_sp : (bs : List ℕ) (i : Instr) (n : ℕ) (r0 r1 r2 : Option (Instr × ℕ)) (p : Instr × ℕ) → r0 ≡ None → ((j : Instr) (m : ℕ) → IsTrampolineCode bs j m → r0 ≡ Some (j, m)) → r1 ≡ None → ((j : Instr) (m : ℕ) → IsFixed bs j m → r1 ≡ Some (j, m)) → r2 ≡ None → ((j : Instr) (m : ℕ) → IsMovAtR11 bs j m → r2 ≡ Some (j, m)) → IsMovAtSp bs p.0 p.1 → ((j : Instr) (m : ℕ) → IsMovAtSp bs j m → Some p ≡ Some (j, m)) → IsAmd64 bs i n → Some p ≡ Some (i, n)
only_sp bs i n r0 r1 r2 p e0 o0 e1 o1 e2 o2 is only (trampoline h) = let f = o0 i n h in cc
only_sp bs i n r0 r1 r2 p e0 o0 e1 o1 e2 o2 is only (fixed h) = let f = o1 i n h in cc
only_sp bs i n r0 r1 r2 p e0 o0 e1 o1 e2 o2 is only (mov_at_r11 h) = let f = o2 i n h in cc
only_sp bs i n r0 r1 r2 p e0 o0 e1 o1 e2 o2 is only (mov_at_sp h) = only i n h
only_sp bs i n r0 r1 r2 p e0 o0 e1 o1 e2 o2 is only (movsd_at_r11 h) = absurd (sp-movsd bs p.0 i p.1 n is h)

pub only_movsd : (bs : List ℕ) (i : Instr) (n : ℕ) (r0 r1 r2 r3 : Option (Instr × ℕ)) (r4 : Option (Instr × ℕ)) → r0 ≡ None → ((j : Instr) (m : ℕ) → IsTrampolineCode bs j m → r0 ≡ Some (j, m)) → r1 ≡ None → ((j : Instr) (m : ℕ) → IsFixed bs j m → r1 ≡ Some (j, m)) → r2 ≡ None → ((j : Instr) (m : ℕ) → IsMovAtR11 bs j m → r2 ≡ Some (j, m)) → r3 ≡ None → ((j : Instr) (m : ℕ) → IsMovAtSp bs j m → r3 ≡ Some (j, m)) → ((j : Instr) (m : ℕ) → IsMovsd bs j m → r4 ≡ Some (j, m)) → IsAmd64 bs i n → r4 ≡ Some (i, n)
only_movsd bs i n r0 r1 r2 r3 r4 e0 o0 e1 o1 e2 o2 e3 o3 only (trampoline h) = let f = o0 i n h in cc
only_movsd bs i n r0 r1 r2 r3 r4 e0 o0 e1 o1 e2 o2 e3 o3 only (fixed h) = let f = o1 i n h in cc
only_movsd bs i n r0 r1 r2 r3 r4 e0 o0 e1 o1 e2 o2 e3 o3 only (mov_at_r11 h) = let f = o2 i n h in cc
only_movsd bs i n r0 r1 r2 r3 r4 e0 o0 e1 o1 e2 o2 e3 o3 only (mov_at_sp h) = let f = o3 i n h in cc
only_movsd bs i n r0 r1 r2 r3 r4 e0 o0 e1 o1 e2 o2 e3 o3 only (movsd_at_r11 h) = only i n h

pub last_listed : (bs : List ℕ) (r : Option (Instr × ℕ)) → IfSome r (λ p. IsMovsd bs p.0 p.1) → IfSome r (λ p. IsAmd64 bs p.0 p.1)
last_listed bs None h = tt
last_listed bs (Some p) h = movsd_at_r11 h

pub none_if_only : (bs : List ℕ) (r : Option (Instr × ℕ)) → ((i : Instr) (n : ℕ) → IsAmd64 bs i n → r ≡ Some (i, n)) → r ≡ None → (i : Instr) (n : ℕ) → ¬ IsAmd64 bs i n
none_if_only bs r only none i n h = let e = only i n h in cc
