-- The slot of AMD64, wherever it stands and its data.
use Rattle.std.proofs.Common.{⊎_elim, subst, ◌≡◌, ◌⊎◌, inl, inr, ℕ, ◌+◌, ◌-◌, ◌^◌, ◌<◌, ◌≤◌, Bool, true, false, if◌then◌else◌, List, [], ◌∷◌, ◌++◌, refl, sym, ap, ◌∙◌, arith}
use Rattle.std.proofs.lemmas.Bool.Decides.{nat_tests}
use Rattle.std.specs.Prelude.{nat_le}
use Rattle.ffi3_isa.specs.declared.Instr.TheVariants.{Endbr, Lea, JmpMem}
use Rattle.ffi3_isa.specs.Amd64.{trampoline, endbr64, lea, jmp, disp32}
use Rattle.ffi3_machine_spec.specs.Encoding.{rex, mod_rm}
use Rattle.ffi3_type_spec.specs.declared.Isa.TheVariants.{Amd64}
use Rattle.ffi3_place_spec.specs.declared.Loc.TheVariants.{G}
use Rattle.ffi3_machine.specs.MachineStep.{moved}
use Rattle.ffi3_machine_spec.specs.Stubs.{word}
use Rattle.ffi3_stubs.specs.Calls.{same_loc}
use Rattle.ffi3_host_stubs.specs.Processor.{Processor, half, word_at, set_at, next, listed, IsKept, HasCode}
use Rattle.ffi3_host_stubs.specs.Slots.{less_by, slot_code, Reaches}
use Rattle.ffi3_host_stubs.proofs.Standing.{wraps, along, TakesBy, in_turn}
use Rattle.ffi3_host_stubs.proofs.Effects.{received}
use Rattle.ffi3_host_stubs.proofs.Memory.{neither, received_other}
use Rattle.ffi3_host_stubs.proofs.Rows.{Says, Led, starts, goes_by, jumps_by}
use Rattle.ffi3_host_stubs.proofs.Amd64Rows.{disp, up}

marked : List ℕ
marked = 0xF3 ∷ 0x0F ∷ 0x1E ∷ 0xFA ∷ []

loaded : ℕ → List ℕ
loaded o = rex 1 1 0 0 ∷ 0x8D ∷ mod_rm 0 2 5 ∷ word o

jumped : ℕ → List ℕ
jumped o = 0xFF ∷ mod_rm 0 4 5 ∷ word o

mark_says : Says Amd64 marked Endbr 4
unfolding marked
mark_says = record {
  sized = refl;
  code = λ bytes tail e. listed (trampoline (endbr64 e));
  aligned = λ p h. tt;
}

-- lea r10, [rip + k]
data_says : (k : ℕ) → Says Amd64 (loaded k) (Lea 10 (disp k)) 7
unfolding loaded disp
data_says k = record {
  sized = refl;
  code = λ bytes tail e. listed (trampoline (lea e (record { r = 1; reg = 2; r_in_range = omega arith; reg_in_range = omega arith; is_prefix = refl; is_mod_rm = refl; is_register = refl; is_listed = λ f. omega (arith, f) })));
  aligned = λ p h. tt;
}

-- jmp [rip + k]
jump_says : (k : ℕ) → Says Amd64 (jumped k) (JmpMem (disp k)) 6
unfolding jumped disp
jump_says k = record {
  sized = refl;
  code = λ bytes tail e. listed (trampoline (jmp e));
  aligned = λ p h. tt;
}

reached : ℕ → Processor → Processor
reached d s = record s { general = set_at 10 (s.pc + d) s.general; pc = word_at (s.pc + d + 24) s }

-- the data's address, from behind the instruction that makes it
data_at : (pc d : ℕ) → (d ≡ 0) ⊎ (11 ≤ d) → d < 2147483000 → pc + d + 64 ≤ half → moved (pc + 4 + 7) (disp (less_by 32 d 11)) ≡ pc + d
unfolding disp
data_at pc d (inl e) near far =
    let zero_back : moved (pc + 4 + 7) (disp32 0xF5 0xFF 0xFF 0xFF) ≡ pc = wraps (pc + 4 + 7) 18446744073709551605 pc (omega arith) (omega (arith, far)) in
    let same : pc ≡ pc + d = omega (arith, e) in
    ap (λ (k : ℕ). moved (pc + 4 + 7) (disp (less_by 32 k 11))) e ∙ zero_back ∙ same
data_at pc d (inr far_off) near far =
    let test : nat_le 11 d ≡ true = grind (arith, nat_tests) in
    ap (λ (b : Bool). moved (pc + 4 + 7) (disp (if b then d - 11 else 2 ^ 32 - (11 - d)))) test ∙ up (pc + 4 + 7) (d - 11) (pc + d) (omega (arith, near)) (omega (arith, far_off)) (omega (arith, far))

slot_runs : (s : Processor) (d : ℕ) → (d ≡ 0) ⊎ (11 ≤ d) → d < 2147483000 → s.pc + d + 64 ≤ half → (s.pc + d + 64 ≤ s.limit) ⊎ (s.sp ≤ s.pc + d) → HasCode s s.pc (slot_code Amd64 d) → TakesBy Amd64 3 s (reached d s)
unfolding slot_code marked loaded jumped reached
slot_runs s d apart near far outside h =
    let t2 : List ℕ = 0x0F ∷ 0x1F ∷ mod_rm 2 0 0 ∷ word 0 in
    let k : ℕ = less_by 32 d 11 in
    let s1 : Processor = record s { pc = s.pc + 4 } in
    let s2 : Processor = received 7 (G 10) (s.pc + d) s1 in
    let to : moved (next 7 s1) (disp k) ≡ s.pc + d = ap (λ (n : ℕ). moved n (disp k)) (along s1 7 (omega (arith, far))) ∙ data_at s.pc d apart near far in
    let entry : moved (next 6 s2) (disp (d + 7)) ≡ s.pc + d + 24 = ap (λ (n : ℕ). moved n (disp (d + 7))) (along s2 6 (omega (arith, far))) ∙ up (s2.pc + 6) (d + 7) (s.pc + d + 24) (omega (arith, near)) (omega arith) (omega (arith, far)) in
    let kept : IsKept Amd64 (s.pc + d + 24) s2 = ⊎_elim (λ e. inl (omega (arith, e))) (λ e. inr (omega (arith, e))) outside in
    let one = goes_by marked (loaded k ++ (jumped (d + 7) ++ t2)) (λ pc. record s { pc = pc }) mark_says tt tt refl (λ p. refl) (λ p. refl) (starts Amd64 s (slot_code Amd64 d) tt h) in
    let two = goes_by (loaded k) (jumped (d + 7) ++ t2) (λ pc. record s1 { general = set_at 10 (s.pc + d) s.general; pc = pc }) (data_says k) tt tt (ap (λ (a : ℕ). let t : Processor = record s1 { general = set_at 10 a s.general; pc = next 7 s1 } in t) to) (λ p. refl) (λ p. refl) one in
    jumps_by (jumped (d + 7)) t2 (λ pc. record s2 { pc = word_at (s.pc + d + 24) s }) (jump_says (d + 7)) tt (subst (λ (a : ℕ). IsKept Amd64 a s2) (sym entry) kept) (ap (λ (a : ℕ). let t : Processor = record s2 { pc = word_at a s } in t) entry) two

pub reaches : (d : ℕ) → (d ≡ 0) ⊎ (11 ≤ d) → d < 2147483000 → Reaches Amd64 d (slot_code Amd64 d)
unfolding reached
reaches d apart near s aligned h far outside to = (
  reached d s,
  in_turn Amd64 3 s (reached d s) (slot_runs s d apart near far outside h),
  record {
    closure = refl;
    pc = refl;
    others = λ l out. received_other 7 (s.pc + d) l (G 10) s (neither (same_loc l (G 10)) false out).0;
    sp = refl;
    memory = refl;
    limit = refl;
    code = refl;
  },
)
