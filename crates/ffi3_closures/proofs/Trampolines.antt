-- The three steps of each instruction set's trampoline.
use Rattle.std.proofs.Common.{◌≡◌, ◌≢◌, ℕ, ◌+◌, ◌-◌, ◌*◌, ◌%◌, ◌^◌, ◌<◌, ◌≤◌, Bool, true, false, if◌then◌else◌, List, ◌++◌, length, take, drop, get_or, set, refl, sym, ap, ◌∙◌, subst, arith, lit<, length-set, append_assoc, Option, Some}
use Rattle.std.proofs.Math.Nat.{mod-eq_of_lt, add-mod_right, mod-add-mod}
use Rattle.std.proofs.lemmas.Bool.Decides.{nat_tests}
use Rattle.std.proofs.lemmas.List.{drop-drop, get_or-set_same, get_or-set_other, set_comm, take-append-drop}
use Rattle.std.specs.Prelude.{option_map, slice_set, nat_le}
use Rattle.ffi3_isa.specs.declared.Instr.TheVariants.{Endbr, Lea, JmpMem, LdrLit, Adr, Br, Auipc, Ld, Jalr}
use Rattle.ffi3_isa.specs.Fields.{sign_extend, first_word}
use Rattle.ffi3_isa.specs.Amd64.{endbr64, lea, jmp, disp32, trampoline as code_of}
use Rattle.ffi3_isa.specs.Aarch64.{ldr_literal, adr, br, trampoline as word_of}
use Rattle.ffi3_isa.specs.Riscv.{auipc, ld, jalr}
use Rattle.ffi3_machine_spec.specs.Memory.{number_of}
use Rattle.ffi3_type_spec.specs.declared.Target.{Target}
use Rattle.ffi3_type_spec.specs.declared.Isa.{Isa}
use Rattle.ffi3_type_spec.specs.declared.Isa.TheVariants.{Amd64, Aarch64, Riscv}
use Rattle.ffi3_type_spec.specs.TargetIsa.{isa_of}
use Rattle.ffi3_type_spec.specs.declared.limits.TheConstants.{CODE, CODE_END, ENTRY, STACK, STACK_TOP}
use Rattle.ffi3_machine_spec.specs.State.{State}
use Rattle.ffi3_machine.specs.MachineStep.{StepsBy, Steps, TakesSteps, bytes_from, has_eight, loaded, moved, goes_to, sets, even}
use Rattle.ffi3_semantics_spec.specs.declared.Closure.{Closure}
use Rattle.ffi3_machine_spec.specs.Slots.{trampoline, slot_head, slot_tail, live_slot}
use Rattle.ffi3_closures.specs.Reaching.{reached, reached_by}

record ThreeSteps (isa : Isa) (s : State) : Type 0 where
  first : State
  second : State
  one : StepsBy isa s first
  two : StepsBy isa first second
  three : StepsBy isa second (reached_by isa s)

-- ---- addresses

small : (a : ℕ) → a < 100000 → a < 2 ^ 64
small a h = let big : 100000 < 2 ^ 64 = lit< tt in omega arith

plain : (a n b : ℕ) → a + n ≡ b → b < 100000 → (a + n) % 2 ^ 64 ≡ b
plain a n b e h = ap (λ x. x % 2 ^ 64) e ∙ mod-eq_of_lt (small b h)

wraps : (a n b : ℕ) → a + n ≡ b + 2 ^ 64 → b < 100000 → (a + n) % 2 ^ 64 ≡ b
wraps a n b e h = ap (λ x. x % 2 ^ 64) e ∙ add-mod_right b (2 ^ 64) ∙ mod-eq_of_lt (small b h)

-- one step is counted, and three
abbrev once : ℕ → ℕ
once n = (n + 1) % 2 ^ 64

thrice : (n : ℕ) → (n + 3) % 2 ^ 64 ≡ once (once (once n))
thrice n =
    let two : n + 1 + 1 ≡ n + 2 = omega arith in
    let three : n + 2 + 1 ≡ n + 3 = omega arith in
    let twice : once (once n) ≡ (n + 2) % 2 ^ 64 = mod-add-mod (n + 1) (2 ^ 64) 1 ∙ ap (λ x. x % 2 ^ 64) two in
    sym (ap once twice ∙ mod-add-mod (n + 2) (2 ^ 64) 1 ∙ ap (λ x. x % 2 ^ 64) three)

differ : (a b : ℕ) → a < b → a ≢ b
differ a b h e = omega arith

-- ---- the code region

in_code : (b : Bool) (x y : List ℕ) → b ≡ true → (if b then x else y) ≡ x
in_code b x y e = rw e refl

reaches_code : (pc : ℕ) → CODE ≤ pc → nat_le CODE pc ≡ true
reaches_code pc h = grind (arith, nat_tests)

-- the code from a place in a slot on
from : (isa : Isa) (code bytes : List ℕ) (k n pc : ℕ) → pc ≡ CODE + 64 * k + n → drop (64 * k) code ≡ bytes → bytes_from isa pc code ≡ drop n bytes
from isa code bytes k n pc at is =
    let place : pc - CODE ≡ 64 * k + n = omega arith in
    in_code (nat_le CODE pc) _ _ (reaches_code pc (omega arith)) ∙ ap (λ i. drop i code) place ∙ sym (drop-drop n (64 * k) code) ∙ ap (drop n) is

-- the same of the code alone
code_from : (code bytes : List ℕ) (k n pc : ℕ) → pc ≡ CODE + 64 * k + n → drop (64 * k) code ≡ bytes → drop (pc - CODE) code ≡ drop n bytes
code_from code bytes k n pc at is =
    let place : pc - CODE ≡ 64 * k + n = omega arith in
    ap (λ i. drop i code) place ∙ sym (drop-drop n (64 * k) code) ∙ ap (drop n) is

has_eight-no : (low high addr : ℕ) → addr < low → has_eight low high addr ≡ false
has_eight-no low high addr h = grind (arith, nat_tests)

has_eight-yes : (low high addr : ℕ) → low ≤ addr → addr + 8 ≤ high → has_eight low high addr ≡ true
has_eight-yes low high addr h g = grind (arith, nat_tests)

second_of : (b c : Bool) (x y z : Option ℕ) → b ≡ false → c ≡ true → (if b then x else (if c then y else z)) ≡ y
second_of b c x y z e f = rw (e, f) refl

load : (isa : Isa) (s : State) (bytes : List ℕ) (k n addr : ℕ) → k < 256 → n ≤ 56 → addr ≡ CODE + 64 * k + n → drop (64 * k) s.code ≡ bytes → loaded isa addr s ≡ Some (number_of 8 (take 8 (drop n bytes)))
load isa s bytes k n addr h g at is =
    second_of (has_eight STACK STACK_TOP addr) (has_eight CODE CODE_END addr) _ _ _ (has_eight-no STACK STACK_TOP addr (omega arith)) (has_eight-yes CODE CODE_END addr (omega arith) (omega arith)) ∙ ap (λ b. Some (number_of 8 (take 8 b))) (code_from s.code bytes k n addr at is)

-- ---- each instruction set

amd64-reaches : (s : State) (k : ℕ) (tail : List ℕ) → k < 256 → s.pc ≡ CODE + 64 * k → drop (64 * k) s.code ≡ slot_head Amd64 ++ tail → ThreeSteps Amd64 s
unfolding trampoline slot_head
amd64-reaches s k tail h at is =
    let next_2 : (s.pc + 4 + 7) % 2 ^ 64 ≡ s.pc + 11 = plain (s.pc + 4) 7 (s.pc + 11) (omega arith) (omega arith) in
    let to : moved ((s.pc + 4 + 7) % 2 ^ 64) (disp32 0xF5 0xFF 0xFF 0xFF) ≡ s.pc = ap (λ a. moved a (disp32 0xF5 0xFF 0xFF 0xFF)) next_2 ∙ wraps (s.pc + 11) 18446744073709551605 s.pc (omega arith) (omega arith) in
    let next_3 : (s.pc + 11 + 6) % 2 ^ 64 ≡ s.pc + 17 = plain (s.pc + 11) 6 (s.pc + 17) (omega arith) (omega arith) in
    let entry : moved ((s.pc + 11 + 6) % 2 ^ 64) (disp32 7 0 0 0) ≡ s.pc + 24 = ap (λ a. moved a (disp32 7 0 0 0)) next_3 ∙ plain (s.pc + 17) 7 (s.pc + 24) (omega arith) (omega arith) in
    let s_2 : State = record s { general = slice_set s.general 10 s.pc; pc = s.pc + 11; steps = once (once s.steps) } in
    record {
      first = record s { pc = s.pc + 4; steps = once s.steps };
      second = s_2;
      one = record {
        instr = Endbr;
        size = 4;
        change = goes_to (s.pc + 4);
        stands = record { aligned = tt; listed = code_of (endbr64 (from Amd64 s.code (slot_head Amd64 ++ tail) k 0 s.pc (omega arith) is)) };
        does = ap (λ a. Some (goes_to a)) (plain s.pc 4 (s.pc + 4) refl (omega arith));
        is_after = refl;
      };
      two = record {
        instr = Lea 10 (disp32 0xF5 0xFF 0xFF 0xFF);
        size = 7;
        change = sets Amd64 10 (s.pc + 11) s.pc;
        stands = record {
          aligned = tt;
          listed = code_of (lea (from Amd64 s.code (slot_head Amd64 ++ tail) k 4 (s.pc + 4) (omega arith) is) (record { r = 1; reg = 2; r_in_range = omega arith; reg_in_range = omega arith; is_prefix = refl; is_mod_rm = refl; is_register = refl; is_listed = λ e. omega arith }));
        };
        does = λ i. Some (sets Amd64 10 (next_2 i) (to i));
        is_after = refl;
      };
      three = record {
        instr = JmpMem (disp32 7 0 0 0);
        size = 6;
        change = goes_to ENTRY;
        stands = record { aligned = tt; listed = code_of (jmp (from Amd64 s.code (slot_head Amd64 ++ tail) k 11 (s.pc + 11) (omega arith) is)) };
        does = ap (λ a. option_map goes_to (loaded Amd64 a s_2)) entry ∙ ap (option_map goes_to) (load Amd64 s_2 (slot_head Amd64 ++ tail) k 24 (s.pc + 24) h (omega arith) (omega arith) is);
        is_after = ap (λ n. let t : State = record s { general = slice_set s.general 10 s.pc; pc = ENTRY; steps = n } in t) (thrice s.steps);
      };
    }

aarch64-reaches : (s : State) (k : ℕ) (tail : List ℕ) → length s.general ≡ 32 → k < 256 → s.pc ≡ CODE + 64 * k → drop (64 * k) s.code ≡ slot_head Aarch64 ++ tail → ThreeSteps Aarch64 s
unfolding trampoline slot_head
aarch64-reaches s k tail count h at is =
    let entry : moved s.pc (sign_extend 21 16) ≡ s.pc + 16 = plain s.pc 16 (s.pc + 16) refl (omega arith) in
    let next_1 : (s.pc + 4) % 2 ^ 64 ≡ s.pc + 4 = plain s.pc 4 (s.pc + 4) refl (omega arith) in
    let next_2 : (s.pc + 4 + 4) % 2 ^ 64 ≡ s.pc + 8 = plain (s.pc + 4) 4 (s.pc + 8) (omega arith) (omega arith) in
    let to : moved (s.pc + 4) (sign_extend 21 2097148) ≡ s.pc = wraps (s.pc + 4) 18446744073709551612 s.pc (omega arith) (omega arith) in
    let other = differ 16 17 (lit< tt) in
    let held : get_or (set (set s.general 16 ENTRY) 17 s.pc) 16 0 ≡ ENTRY = get_or-set_other (set s.general 16 ENTRY) 17 16 s.pc 0 other ∙ get_or-set_same s.general 16 ENTRY 0 (omega arith) in
    record {
      first = record s { general = slice_set s.general 16 ENTRY; pc = s.pc + 4; steps = once s.steps };
      second = record s { general = slice_set (slice_set s.general 16 ENTRY) 17 s.pc; pc = s.pc + 8; steps = once (once s.steps) };
      one = record {
        instr = LdrLit 16 (sign_extend 21 16);
        size = 4;
        change = sets Aarch64 16 (s.pc + 4) ENTRY;
        stands = record {
          aligned = omega arith;
          listed = record {
            word = 0x58000090;
            begins = ap first_word (from Aarch64 s.code (slot_head Aarch64 ++ tail) k 0 s.pc (omega arith) is);
            means = word_of (ldr_literal {imm19 = 4} {t = 16} (lit< tt) (lit< tt) refl);
            is_size = refl;
          };
        };
        does = ap (λ a. option_map (sets Aarch64 16 ((s.pc + 4) % 2 ^ 64)) (loaded Aarch64 a s)) entry ∙ ap (option_map (sets Aarch64 16 ((s.pc + 4) % 2 ^ 64))) (load Aarch64 s (slot_head Aarch64 ++ tail) k 16 (s.pc + 16) h (omega arith) (omega arith) is) ∙ ap (λ a. Some (sets Aarch64 16 a ENTRY)) next_1;
        is_after = refl;
      };
      two = record {
        instr = Adr 17 (sign_extend 21 2097148);
        size = 4;
        change = sets Aarch64 17 (s.pc + 8) s.pc;
        stands = record {
          aligned = omega arith;
          listed = record {
            word = 0x10FFFFF1;
            begins = ap first_word (from Aarch64 s.code (slot_head Aarch64 ++ tail) k 4 (s.pc + 4) (omega arith) is);
            means = word_of (adr {immlo = 0} {immhi = 524287} {rd = 17} (lit< tt) (lit< tt) (lit< tt) refl);
            is_size = refl;
          };
        };
        does = λ i. Some (sets Aarch64 17 (next_2 i) (to i));
        is_after = refl;
      };
      three = record {
        instr = Br 16;
        size = 4;
        change = goes_to ENTRY;
        stands = record {
          aligned = omega arith;
          listed = record {
            word = 0xD61F0200;
            begins = ap first_word (from Aarch64 s.code (slot_head Aarch64 ++ tail) k 8 (s.pc + 8) (omega arith) is);
            means = word_of (br {n = 16} (lit< tt) refl);
            is_size = refl;
          };
        };
        does = ap (λ a. Some (goes_to a)) held;
        is_after = ap (λ n. let t : State = record s { general = slice_set (slice_set s.general 16 ENTRY) 17 s.pc; pc = ENTRY; steps = n } in t) (thrice s.steps);
      };
    }

riscv-reaches : (s : State) (k : ℕ) (tail : List ℕ) → length s.general ≡ 32 → k < 256 → s.pc ≡ CODE + 64 * k → drop (64 * k) s.code ≡ slot_head Riscv ++ tail → ThreeSteps Riscv s
unfolding trampoline slot_head
riscv-reaches s k tail count h at is =
    let next_1 : (s.pc + 4) % 2 ^ 64 ≡ s.pc + 4 = plain s.pc 4 (s.pc + 4) refl (omega arith) in
    let here : moved s.pc (sign_extend 32 0) ≡ s.pc = plain s.pc 0 s.pc (omega arith) (omega arith) in
    let next_2 : (s.pc + 4 + 4) % 2 ^ 64 ≡ s.pc + 8 = plain (s.pc + 4) 4 (s.pc + 8) (omega arith) (omega arith) in
    let own : get_or (set s.general 6 s.pc) 6 0 ≡ s.pc = get_or-set_same s.general 6 s.pc 0 (omega arith) in
    let entry : moved (get_or (set s.general 6 s.pc) 6 0) (sign_extend 12 16) ≡ s.pc + 16 = ap (λ a. moved a (sign_extend 12 16)) own ∙ plain s.pc 16 (s.pc + 16) refl (omega arith) in
    let s_1 : State = record s { general = slice_set s.general 6 s.pc; pc = s.pc + 4; steps = once s.steps } in
    let count_1 : length (set s.general 6 s.pc) ≡ 32 = length-set s.general 6 s.pc ∙ count in
    let held : get_or (set (set s.general 6 s.pc) 7 ENTRY) 7 0 ≡ ENTRY = get_or-set_same (set s.general 6 s.pc) 7 ENTRY 0 (omega arith) in
    let to : even (moved (get_or (set (set s.general 6 s.pc) 7 ENTRY) 7 0) (sign_extend 12 0)) ≡ ENTRY = ap (λ a. even (moved a (sign_extend 12 0))) held in
    let other = differ 6 7 (lit< tt) in
    let swapped : set (set s.general 7 ENTRY) 6 s.pc ≡ set (set s.general 6 s.pc) 7 ENTRY = sym (set_comm s.general 6 7 s.pc ENTRY other) in
    record {
      first = s_1;
      second = record s { general = slice_set (slice_set s.general 6 s.pc) 7 ENTRY; pc = s.pc + 8; steps = once (once s.steps) };
      one = record {
        instr = Auipc 6 (sign_extend 32 0);
        size = 4;
        change = sets Riscv 6 (s.pc + 4) s.pc;
        stands = record {
          aligned = omega arith;
          listed = record {
            word = 0x00000317;
            begins = ap first_word (from Riscv s.code (slot_head Riscv ++ tail) k 0 s.pc (omega arith) is);
            means = auipc (record { imm_in_range = lit< {m = 0} {n = 1048576} tt; rd_in_range = lit< {m = 6} {n = 32} tt; is_word = refl });
            is_size = refl;
          };
        };
        does = λ i. Some (sets Riscv 6 (next_1 i) (here i));
        is_after = refl;
      };
      two = record {
        instr = Ld 7 6 (sign_extend 12 16);
        size = 4;
        change = sets Riscv 7 (s.pc + 8) ENTRY;
        stands = record {
          aligned = omega arith;
          listed = record {
            word = 0x01033383;
            begins = ap first_word (from Riscv s.code (slot_head Riscv ++ tail) k 4 (s.pc + 4) (omega arith) is);
            means = ld (record { imm_in_range = lit< {m = 16} {n = 4096} tt; rs1_in_range = lit< {m = 6} {n = 32} tt; rd_in_range = lit< {m = 7} {n = 32} tt; is_word = refl });
            is_size = refl;
          };
        };
        does = ap (λ a. option_map (sets Riscv 7 ((s.pc + 4 + 4) % 2 ^ 64)) (loaded Riscv a s_1)) entry ∙ ap (option_map (sets Riscv 7 ((s.pc + 4 + 4) % 2 ^ 64))) (load Riscv s_1 (slot_head Riscv ++ tail) k 16 (s.pc + 16) h (omega arith) (omega arith) is) ∙ ap (λ a. Some (sets Riscv 7 a ENTRY)) next_2;
        is_after = refl;
      };
      three = record {
        instr = Jalr 0 7 (sign_extend 12 0);
        size = 4;
        change = sets Riscv 0 ENTRY ((s.pc + 8 + 4) % 2 ^ 64);
        stands = record {
          aligned = omega arith;
          listed = record {
            word = 0x00038067;
            begins = ap first_word (from Riscv s.code (slot_head Riscv ++ tail) k 8 (s.pc + 8) (omega arith) is);
            means = jalr (record { imm_in_range = lit< {m = 0} {n = 4096} tt; rs1_in_range = lit< {m = 7} {n = 32} tt; rd_in_range = lit< {m = 0} {n = 32} tt; is_word = refl });
            is_size = refl;
          };
        };
        does = ap (λ a. Some (sets Riscv 0 a ((s.pc + 8 + 4) % 2 ^ 64))) to;
        is_after = λ i. let t : State = record s { general = swapped i; pc = ENTRY; steps = thrice s.steps i } in t;
      };
    }

reaches-at : (isa : Isa) (s : State) (k : ℕ) (tail : List ℕ) → length s.general ≡ 32 → k < 256 → s.pc ≡ CODE + 64 * k → drop (64 * k) s.code ≡ slot_head isa ++ tail → ThreeSteps isa s
reaches-at Amd64 s k tail count h at is = amd64-reaches s k tail h at is
reaches-at Aarch64 s k tail count h at is = aarch64-reaches s k tail count h at is
reaches-at Riscv s k tail count h at is = riscv-reaches s k tail count h at is

-- ---- the machine's own

in_turn : (s : State) → ThreeSteps (isa_of s.target) s → TakesSteps 3 s (reached s)
in_turn s w =
    let same : w.first.target ≡ s.target = ap (λ (x : State). x.target) w.one.is_after in
    let still : w.second.target ≡ s.target = ap (λ (x : State). x.target) w.two.is_after ∙ same in
    let two : Steps w.first w.second = subst (λ (t : Target). StepsBy (isa_of t) w.first w.second) (sym same) w.two in
    let three : Steps w.second (reached s) = subst (λ (t : Target). StepsBy (isa_of t) w.second (reached s)) (sym still) w.three in
    (w.first, w.one, (w.second, two, (reached s, three, refl)))

-- from a live slot
pub reaches : (s : State) (c : Closure) (k : ℕ) → length s.general ≡ 32 → k < 256 → s.pc ≡ CODE + 64 * k → take 64 (drop (64 * k) s.code) ≡ live_slot (isa_of s.target) c → TakesSteps 3 s (reached s)
reaches s c k count h at is =
    let whole : drop (64 * k) s.code ≡ slot_head (isa_of s.target) ++ (slot_tail c ++ drop 64 (drop (64 * k) s.code)) = sym (take-append-drop 64 (drop (64 * k) s.code)) ∙ ap (λ b. b ++ drop 64 (drop (64 * k) s.code)) is ∙ append_assoc (slot_head (isa_of s.target)) (slot_tail c) (drop 64 (drop (64 * k) s.code)) in
    in_turn s (reaches-at (isa_of s.target) s k (slot_tail c ++ drop 64 (drop (64 * k) s.code)) count h at whole)
