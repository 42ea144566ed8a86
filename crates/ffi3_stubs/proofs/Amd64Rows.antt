-- What each row of AMD64's tables does.
use Rattle.std.proofs.Common.{◌≡◌, ◌≢◌, ℕ, ◌+◌, ◌-◌, ◌/◌, ◌%◌, ◌<◌, ◌≤◌, Bool, true, false, if◌then◌else◌, List, ◌++◌, length, refl, sym, ap, ◌∙◌, arith, Some, None, ℤ, pos, negsuc}
use Rattle.std.proofs.lemmas.Bool.Decides.{nat_tests}
use Rattle.std.proofs.lemmas.Nat.{from_le_bytes-to_le_bytes_4}
use Rattle.std.specs.Prelude.{option_map, slice_index, nat_lt, ◌==◌}
use Rattle.std.specs.Int.{w32, byte_at, from_le_bytes, to_le_bytes}
use Rattle.ffi3_isa.specs.declared.Instr.TheVariants.{Lea, CallMem, Ret}
use Rattle.ffi3_isa.specs.Fields.{sign_extend}
use Rattle.ffi3_isa.specs.Amd64.{trampoline, fixed, mov_at_r11, mov_at_sp, movsd_at_r11, lea, lea_sp, call, ret, disp32}
use Rattle.ffi3_machine_spec.specs.Encoding.{rex, mod_rm}
use Rattle.ffi3_machine_spec.specs.Memory.{number_of}
use Rattle.ffi3_type_spec.specs.declared.Isa.TheVariants.{Amd64}
use Rattle.ffi3_type_spec.specs.declared.limits.TheConstants.{STACK, STACK_TOP}
use Rattle.ffi3_place_spec.specs.declared.Loc.TheVariants.{G, F}
use Rattle.ffi3_machine_spec.specs.declared.stub.TheConstants.{EXCHANGE}
use Rattle.ffi3_machine_spec.specs.State.{State, stack_at}
use Rattle.ffi3_machine_spec.specs.Stubs.{address, load, store, sum, jump, calls_at, returns, amd64_row}
use Rattle.ffi3_machine.specs.MachineStep.{StepsBy, loaded, moved, next, sets, stores, pops, pushes, changed}
use Rattle.ffi3_stubs.specs.Effects.{addressed, received, with_sp_by, exchanged, saved, pushed, popped}
use Rattle.ffi3_stubs.proofs.Standing.{Stands, plain, wraps}
use Rattle.ffi3_stubs.proofs.Places.{along, load_stack, in_stack, takes_stack}
use Rattle.ffi3_stubs.proofs.Instructions.{IsPlain, loads, loads_sp, exchanges, saves, sums_sp}

-- ---- distances

pub disp : ℕ → ℤ
disp o = disp32 (byte_at 0 o) (byte_at 1 o) (byte_at 2 o) (byte_at 3 o)

extended : (b : Bool) (x y : ℤ) → b ≡ true → (if b then x else y) ≡ x
extended b x y e = rw e refl

disp-pos : (o : ℕ) → o < 2147483648 → disp o ≡ pos o
unfolding disp
disp-pos o h =
    let round : from_le_bytes w32 (to_le_bytes w32 o) ≡ o = from_le_bytes-to_le_bytes_4 o (omega arith) in
    let test : nat_lt o 2147483648 ≡ true = grind (arith, nat_tests) in
    ap (sign_extend 32) round ∙ extended (nat_lt o 2147483648) _ _ test

pub up : (from o to : ℕ) → o < 2147483648 → from + o ≡ to → to < 4294967296 → moved from (disp o) ≡ to
up from o to h e small = ap (λ (d : ℤ). moved from d) (disp-pos o h) ∙ plain from o to e small

-- ---- rows

apart4 : (k : ℕ) → k ≢ 4 → (k == 4) ≡ false
apart4 k h = grind (arith, nat_tests)

plain_number : (k : ℕ) → k ≢ 4 → IsPlain Amd64 k
plain_number k h = record { no_zero = refl; no_sp = apart4 k h }

-- lea of the exchange region's address
pub address_row : (s : State) (at k : ℕ) (tail : List ℕ) → s.pc ≡ at → k < 16 → k ≢ 4 → Stands Amd64 s (amd64_row at (address k) ++ tail) → StepsBy Amd64 s (addressed 7 k s)
unfolding disp
address_row s at k tail here in_range listed h =
    let low : 4096 ≤ s.pc = h.low in
    let high : s.pc + length (amd64_row at (address k) ++ tail) ≤ 10240 = h.high in
    let near : s.pc < 10240 = omega arith in
    let o : ℕ = EXCHANGE - (at + 7) in
    let behind : next 7 s ≡ s.pc + 7 = along s 7 (omega arith) in
    let to : moved (next 7 s) (disp o) ≡ EXCHANGE = ap (λ a. moved a (disp o)) behind ∙ up (s.pc + 7) o EXCHANGE (omega arith) (omega arith) (omega arith) in
    let is_other : (k == 4) ≡ false = apart4 k listed in
    record {
      instr = Lea k (disp o);
      size = 7;
      change = sets Amd64 k (s.pc + 7) EXCHANGE;
      stands = record {
        aligned = tt;
        listed = trampoline (lea h.are (record { r = k / 8; reg = k % 8; r_in_range = omega arith; reg_in_range = omega arith; is_prefix = refl; is_mod_rm = refl; is_register = omega arith; is_listed = listed }));
      };
      does = λ i. Some (sets Amd64 k (behind i) (to i));
      is_after = sym (ap (λ (b : Bool). changed Amd64 (record { general = if b then None else Some (k, EXCHANGE); floating = None; sp = if b then Some EXCHANGE else None; store = None; pc = s.pc + 7 }) s) is_other);
    }

-- a general register from [r11 + o]
pub load_general_row : (s : State) (k o addr v : ℕ) (tail : List ℕ) → k < 16 → k ≢ 4 → o < 2147483648 → Stands Amd64 s (amd64_row s.pc (load (G k) 11 o) ++ tail) → slice_index s.general 11 + o ≡ addr → addr < 4294967296 → loaded Amd64 addr s ≡ Some v → StepsBy Amd64 s (received 7 (G k) v s)
unfolding disp
load_general_row s k o addr v tail in_range listed near h at far is =
    let high : s.pc + length (amd64_row s.pc (load (G k) 11 o) ++ tail) ≤ 10240 = h.high in
    loads Amd64 s (G k) 11 (disp o) 7 addr v (plain_number k listed) (record { aligned = tt; listed = mov_at_r11 (record { prefix = rex 1 (k / 8) 0 1; op = 0x8B; mod_reg_rm = mod_rm 2 (k % 8) 3; register = k; a = byte_at 0 o; b = byte_at 1 o; c = byte_at 2 o; d = byte_at 3 o; rest = tail; is_bytes = h.are; names = record { r = k / 8; reg = k % 8; r_in_range = omega arith; reg_in_range = omega arith; is_prefix = refl; is_mod_rm = refl; is_register = omega arith }; means = refl; is_size = refl }) }) (along s 7 (omega arith)) (up (slice_index s.general 11) o addr near at far) is

-- sp from [r11 + o]
pub load_sp_row : (s : State) (o addr v : ℕ) (tail : List ℕ) → o < 2147483648 → Stands Amd64 s (amd64_row s.pc (load (G 4) 11 o) ++ tail) → slice_index s.general 11 + o ≡ addr → addr < 4294967296 → loaded Amd64 addr s ≡ Some v → StepsBy Amd64 s (with_sp_by 7 v s)
unfolding disp
load_sp_row s o addr v tail near h at far is =
    let high : s.pc + length (amd64_row s.pc (load (G 4) 11 o) ++ tail) ≤ 10240 = h.high in
    loads_sp Amd64 s 11 (disp o) 7 addr v (record { aligned = tt; listed = mov_at_r11 (record { prefix = rex 1 0 0 1; op = 0x8B; mod_reg_rm = mod_rm 2 4 3; register = 4; a = byte_at 0 o; b = byte_at 1 o; c = byte_at 2 o; d = byte_at 3 o; rest = tail; is_bytes = h.are; names = record { r = 0; reg = 4; r_in_range = omega arith; reg_in_range = omega arith; is_prefix = refl; is_mod_rm = refl; is_register = refl }; means = refl; is_size = refl }) }) (along s 7 (omega arith)) (up (slice_index s.general 11) o addr near at far) is refl

-- a general register from [rsp + o]
pub load_area_row : (s : State) (k o addr v : ℕ) (tail : List ℕ) → k < 16 → k ≢ 4 → o < 2147483648 → Stands Amd64 s (amd64_row s.pc (load (G k) 4 o) ++ tail) → s.sp + o ≡ addr → addr < 4294967296 → loaded Amd64 addr s ≡ Some v → StepsBy Amd64 s (received 8 (G k) v s)
unfolding disp
load_area_row s k o addr v tail in_range listed near h at far is =
    let high : s.pc + length (amd64_row s.pc (load (G k) 4 o) ++ tail) ≤ 10240 = h.high in
    loads Amd64 s (G k) 4 (disp o) 8 addr v (plain_number k listed) (record { aligned = tt; listed = mov_at_sp (record { prefix = rex 1 (k / 8) 0 0; op = 0x8B; mod_reg_rm = mod_rm 2 (k % 8) 4; register = k; a = byte_at 0 o; b = byte_at 1 o; c = byte_at 2 o; d = byte_at 3 o; rest = tail; is_bytes = h.are; names = record { r = k / 8; reg = k % 8; r_in_range = omega arith; reg_in_range = omega arith; is_prefix = refl; is_mod_rm = refl; is_register = omega arith; is_listed = listed }; means = refl; is_size = refl }) }) (along s 8 (omega arith)) (up s.sp o addr near at far) is

-- a floating register from [r11 + o]
pub load_floating_row : (s : State) (k o addr v : ℕ) (tail : List ℕ) → k < 8 → o < 2147483648 → Stands Amd64 s (amd64_row s.pc (load (F k) 11 o) ++ tail) → slice_index s.general 11 + o ≡ addr → addr < 4294967296 → loaded Amd64 addr s ≡ Some v → StepsBy Amd64 s (received 9 (F k) v s)
unfolding disp
load_floating_row s k o addr v tail in_range near h at far is =
    let high : s.pc + length (amd64_row s.pc (load (F k) 11 o) ++ tail) ≤ 10240 = h.high in
    loads Amd64 s (F k) 11 (disp o) 9 addr v tt (record { aligned = tt; listed = movsd_at_r11 (record { op = 0x10; register = k; a = byte_at 0 o; b = byte_at 1 o; c = byte_at 2 o; d = byte_at 3 o; rest = tail; is_bytes = h.are; in_range = in_range; means = refl; is_size = refl }) }) (along s 9 (omega arith)) (up (slice_index s.general 11) o addr near at far) is

-- a general register to [r11 + o]
pub store_general_row : (s : State) (k o addr : ℕ) (tail : List ℕ) → k < 16 → k ≢ 4 → o + 8 ≤ 552 → Stands Amd64 s (amd64_row s.pc (store (G k) 11 o) ++ tail) → slice_index s.general 11 ≡ EXCHANGE → EXCHANGE + o ≡ addr → StepsBy Amd64 s (exchanged 7 o (slice_index s.general k) s)
unfolding disp
store_general_row s k o addr tail in_range listed room h base at =
    let high : s.pc + length (amd64_row s.pc (store (G k) 11 o) ++ tail) ≤ 10240 = h.high in
    exchanges Amd64 s (G k) 11 (disp o) 7 o addr (plain_number k listed) (record { aligned = tt; listed = mov_at_r11 (record { prefix = rex 1 (k / 8) 0 1; op = 0x89; mod_reg_rm = mod_rm 2 (k % 8) 3; register = k; a = byte_at 0 o; b = byte_at 1 o; c = byte_at 2 o; d = byte_at 3 o; rest = tail; is_bytes = h.are; names = record { r = k / 8; reg = k % 8; r_in_range = omega arith; reg_in_range = omega arith; is_prefix = refl; is_mod_rm = refl; is_register = omega arith }; means = refl; is_size = refl }) }) (along s 7 (omega arith)) (up (slice_index s.general 11) o addr (omega arith) (omega arith) (omega arith)) room at

-- a floating register to [r11 + o]
pub store_floating_row : (s : State) (k o addr : ℕ) (tail : List ℕ) → k < 8 → o + 8 ≤ 552 → Stands Amd64 s (amd64_row s.pc (store (F k) 11 o) ++ tail) → slice_index s.general 11 ≡ EXCHANGE → EXCHANGE + o ≡ addr → StepsBy Amd64 s (exchanged 9 o (slice_index s.floating k) s)
unfolding disp
store_floating_row s k o addr tail in_range room h base at =
    let high : s.pc + length (amd64_row s.pc (store (F k) 11 o) ++ tail) ≤ 10240 = h.high in
    exchanges Amd64 s (F k) 11 (disp o) 9 o addr tt (record { aligned = tt; listed = movsd_at_r11 (record { op = 0x11; register = k; a = byte_at 0 o; b = byte_at 1 o; c = byte_at 2 o; d = byte_at 3 o; rest = tail; is_bytes = h.are; in_range = in_range; means = refl; is_size = refl }) }) (along s 9 (omega arith)) (up (slice_index s.general 11) o addr (omega arith) (omega arith) (omega arith)) room at

-- a general register to [rsp + o]
pub store_area_row : (s : State) (k o addr : ℕ) (tail : List ℕ) → k < 16 → k ≢ 4 → o < 2147483648 → Stands Amd64 s (amd64_row s.pc (store (G k) 4 o) ++ tail) → s.sp + o ≡ addr → STACK ≤ addr → addr + 8 ≤ STACK_TOP → StepsBy Amd64 s (saved 8 addr (slice_index s.general k) s)
unfolding disp
store_area_row s k o addr tail in_range listed near h at low top =
    let high : s.pc + length (amd64_row s.pc (store (G k) 4 o) ++ tail) ≤ 10240 = h.high in
    saves Amd64 s (G k) 4 (disp o) 8 addr (plain_number k listed) (record { aligned = tt; listed = mov_at_sp (record { prefix = rex 1 (k / 8) 0 0; op = 0x89; mod_reg_rm = mod_rm 2 (k % 8) 4; register = k; a = byte_at 0 o; b = byte_at 1 o; c = byte_at 2 o; d = byte_at 3 o; rest = tail; is_bytes = h.are; names = record { r = k / 8; reg = k % 8; r_in_range = omega arith; reg_in_range = omega arith; is_prefix = refl; is_mod_rm = refl; is_register = omega arith; is_listed = listed }; means = refl; is_size = refl }) }) (along s 8 (omega arith)) (up s.sp o addr near at (omega arith)) low top

-- lea rsp, [rsp + n]
pub rise_row : (s : State) (n to : ℕ) (tail : List ℕ) → n < 2147483648 → Stands Amd64 s (amd64_row s.pc (sum 4 4 (pos n)) ++ tail) → s.sp + n ≡ to → to < 4294967296 → StepsBy Amd64 s (with_sp_by 8 to s)
unfolding disp
rise_row s n to tail near h is small =
    let high : s.pc + length (amd64_row s.pc (sum 4 4 (pos n)) ++ tail) ≤ 10240 = h.high in
    sums_sp Amd64 s 4 (disp n) 8 to (record { aligned = tt; listed = fixed (lea_sp h.are) }) (along s 8 (omega arith)) (up s.sp n to near is small)

-- lea rsp, [rsp - 56]
pub fall_row : (s : State) (to : ℕ) (tail : List ℕ) → Stands Amd64 s (amd64_row s.pc (sum 4 4 (negsuc 55)) ++ tail) → s.sp ≡ to + 56 → s.sp < 4294967296 → StepsBy Amd64 s (with_sp_by 8 to s)
fall_row s to tail h is small =
    let high : s.pc + length (amd64_row s.pc (sum 4 4 (negsuc 55)) ++ tail) ≤ 10240 = h.high in
    sums_sp Amd64 s 4 (disp32 0xC8 0xFF 0xFF 0xFF) 8 to (record { aligned = tt; listed = fixed (lea_sp h.are) }) (along s 8 (omega arith)) (wraps s.sp 18446744073709551560 to (omega arith) (omega arith))

-- call [r11 + o]
pub call_row : (s : State) (o addr to : ℕ) (tail : List ℕ) → o < 2147483648 → Stands Amd64 s (amd64_row s.pc (jump (calls_at 11 o)) ++ tail) → slice_index s.general 11 + o ≡ addr → addr < 4294967296 → loaded Amd64 addr s ≡ Some to → STACK + 8 ≤ s.sp → s.sp ≤ STACK_TOP → StepsBy Amd64 s (pushed 7 to s)
unfolding disp
call_row s o addr to tail near h at far is low top =
    let high : s.pc + length (amd64_row s.pc (jump (calls_at 11 o)) ++ tail) ≤ 10240 = h.high in
    let behind : next 7 s ≡ s.pc + 7 = along s 7 (omega arith) in
    let through : moved (slice_index s.general 11) (disp o) ≡ addr = up (slice_index s.general 11) o addr near at far in
    let sp : moved s.sp (negsuc 7) ≡ s.sp - 8 = wraps s.sp 18446744073709551608 (s.sp - 8) (omega arith) (omega arith) in
    record {
      instr = CallMem 11 (disp o);
      size = 7;
      change = record { general = None; floating = None; sp = Some (s.sp - 8); store = Some (s.sp - 8, s.pc + 7); pc = to };
      stands = record { aligned = tt; listed = fixed (call h.are) };
      does = ap (λ a. pushes (moved s.sp (negsuc 7)) (next 7 s) (loaded Amd64 a s)) through ∙ ap (pushes (moved s.sp (negsuc 7)) (next 7 s)) is ∙ (λ i. stores (Some (sp i)) to (sp i) (behind i)) ∙ takes_stack (Some (s.sp - 8)) to (s.sp - 8) (s.pc + 7) (omega arith) (omega arith);
      is_after = sym (in_stack Amd64 s (Some (s.sp - 8)) (s.sp - 8) (s.pc + 7) to (omega arith) (omega arith));
    }

-- ret
pub return_row : (s : State) (tail : List ℕ) → Stands Amd64 s (amd64_row s.pc (jump returns) ++ tail) → STACK ≤ s.sp → s.sp + 8 ≤ STACK_TOP → StepsBy Amd64 s (popped s)
return_row s tail h low top =
    let sp : moved s.sp (pos 8) ≡ s.sp + 8 = plain s.sp 8 (s.sp + 8) refl (omega arith) in
    record {
      instr = Ret;
      size = 1;
      change = pops (s.sp + 8) (number_of 8 (stack_at s.sp 8 s));
      stands = record { aligned = tt; listed = fixed (ret h.are) };
      does = ap (option_map (pops (moved s.sp (pos 8)))) (load_stack Amd64 s s.sp low top) ∙ ap (λ a. Some (pops a (number_of 8 (stack_at s.sp 8 s)))) sp;
      is_after = refl;
    }
