-- The region of the stubs: how long it is, and what stands from an address on.
use Rattle.std.proofs.Common.{◌≡◌, ℕ, ◌+◌, ◌-◌, ◌*◌, ◌<◌, ◌≤◌, Bool, true, false, if◌then◌else◌, List, [], length, drop, refl, sym, ap, ◌∙◌, arith, length-drop}
use Rattle.std.proofs.lemmas.Bool.Decides.{nat_tests}
use Rattle.std.proofs.lemmas.List.{take_all, drop_all}
use Rattle.std.specs.Prelude.{nat_le}
use Rattle.std.specs.List.{repeat, replace_range}
use Rattle.ffi3_machine_spec.specs.Memory.{Memory, range_of, with_bytes}
use Rattle.ffi3_type_spec.specs.declared.Isa.{Isa}
use Rattle.ffi3_type_spec.specs.declared.Isa.TheVariants.{Amd64, Aarch64, Riscv}
use Rattle.ffi3_type_spec.specs.declared.limits.TheConstants.{CODE}
use Rattle.ffi3_machine_spec.specs.State.{free_word}
use Rattle.ffi3_machine_spec.specs.Stubs.{StubName, Entry, Exit, Call, Return, stub_at, stub_bytes, with_stub, begun_stubs}
use Rattle.ffi3_machine.specs.MachineStep.{bytes_from, has_eight}
use Rattle.ffi3_machine.proofs.Slots.{length-repeat, length-replaced}

-- a region with stubs keeps its length
kept : (isa : Isa) (name : StubName) (xs : List ℕ) → stub_at isa name - 4096 + length (stub_bytes isa name) ≤ 6144 → length xs ≡ 6144 → length (with_stub isa name xs) ≡ 6144
kept isa name xs inside n =
    length-replaced xs (stub_bytes isa name) (stub_at isa name - 4096) (stub_at isa name - 4096 + length (stub_bytes isa name)) refl (omega arith) ∙ n

unfoldable pub bare : Isa → List ℕ
bare isa = repeat 1536 (free_word isa)

unfoldable pub with_entry : Isa → List ℕ
with_entry isa = with_stub isa Entry (bare isa)

unfoldable pub with_exit : Isa → List ℕ
with_exit isa = with_stub isa Exit (with_entry isa)

unfoldable pub with_call : Isa → List ℕ
with_call isa = with_stub isa Call (with_exit isa)

four_bytes : (isa : Isa) → length (free_word isa) ≡ 4
four_bytes Amd64 = refl
four_bytes Aarch64 = refl
four_bytes Riscv = refl

pub length-bare : (isa : Isa) → length (bare isa) ≡ 6144
unfolding bare
length-bare isa = length-repeat 1536 (free_word isa) ∙ ap (λ n. 1536 * n) (four_bytes isa)

-- how long the stubs are
pub record Lengths (isa : Isa) : Type 0 where
  pub entry : length (stub_bytes isa Entry) ≤ 2048
  pub exit : length (stub_bytes isa Exit) ≤ 1024
  pub call_low : 7168 ≤ stub_at isa Call
  pub call_end : stub_at isa Call + length (stub_bytes isa Call) ≡ 8192
  pub back : length (stub_bytes isa Return) ≤ 2048

pub lengths : (isa : Isa) → Lengths isa
unfolding stub_bytes
lengths Amd64 = record { entry = omega arith; exit = omega arith; call_low = omega arith; call_end = refl; back = omega arith }
lengths Aarch64 = record { entry = omega arith; exit = omega arith; call_low = omega arith; call_end = refl; back = omega arith }
lengths Riscv = record { entry = omega arith; exit = omega arith; call_low = omega arith; call_end = refl; back = omega arith }

pub length-entry : (isa : Isa) → Lengths isa → length (with_entry isa) ≡ 6144
unfolding with_entry
length-entry isa h = let e = h.entry in kept isa Entry (bare isa) (omega arith) (length-bare isa)

pub length-exit : (isa : Isa) → Lengths isa → length (with_exit isa) ≡ 6144
unfolding with_exit
length-exit isa h = let e = h.exit in kept isa Exit (with_entry isa) (omega arith) (length-entry isa h)

pub length-call : (isa : Isa) → Lengths isa → length (with_call isa) ≡ 6144
unfolding with_call
length-call isa h = let a = h.call_low in let b = h.call_end in kept isa Call (with_exit isa) (omega arith) (length-exit isa h)

pub length-begun_stubs : (isa : Isa) → length (begun_stubs isa) ≡ 6144
unfolding begun_stubs bare with_entry with_exit with_call
length-begun_stubs isa =
    let h = lengths isa in
    let e = h.back in kept isa Return (with_call isa) (omega arith) (length-call isa h)

-- ---- what stands from an address on

test_no : (a b : ℕ) → b < a → nat_le a b ≡ false
test_no a b h = grind (arith, nat_tests)

test_yes : (a b : ℕ) → a ≤ b → nat_le a b ≡ true
test_yes a b h = grind (arith, nat_tests)

chosen : (b c : Bool) (x y z : List ℕ) → b ≡ false → c ≡ true → (if b then x else (if c then y else z)) ≡ y
chosen b c x y z e f = rw (e, f) refl

pub from_stubs : (isa : Isa) (addr : ℕ) (code : List ℕ) → 4096 ≤ addr → addr < CODE → bytes_from isa addr code ≡ drop (addr - 4096) (begun_stubs isa)
from_stubs isa addr code low high =
    chosen (nat_le CODE addr) (nat_le 4096 addr) _ _ _ (test_no CODE addr high) (test_yes 4096 addr low)

pub above_stubs : (isa : Isa) (addr : ℕ) (code : List ℕ) → 10240 ≤ addr → addr < CODE → [] ≡ bytes_from isa addr code
above_stubs isa addr code low high =
    let e = length-begun_stubs isa in
    sym (from_stubs isa addr code (omega arith) high ∙ drop_all (addr - 4096) (begun_stubs isa) (omega arith))

pub stubs_end : (isa : Isa) (m : Memory) → m ≡ record { base = 4096; bytes = begun_stubs isa } → m.base + length m.bytes ≡ 10240
stubs_end isa m e =
    let n = length-begun_stubs isa in
    ap (λ (x : Memory). x.base + length x.bytes) e ∙ omega arith

pub lent_stubs : (i isa : Isa) (m : Memory) (addr len : ℕ) (r code : List ℕ) → i ≡ isa → m ≡ record { base = 4096; bytes = begun_stubs i } → 4096 ≤ addr → addr < 10240 → len ≡ 10240 - addr → r ≡ range_of m addr len → r ≡ bytes_from isa addr code
lent_stubs i isa m addr len r code same e low high is lent =
    let n = length-begun_stubs i in
    lent ∙ ap (λ (x : Memory). range_of x addr len) e ∙ take_all len (drop (addr - 4096) (begun_stubs i)) (omega (arith, length-drop (addr - 4096) (begun_stubs i))) ∙ sym (from_stubs i addr code low (omega arith)) ∙ ap (λ (x : Isa). bytes_from x addr code) same

-- ---- the stubs, written one after another

one_written : (isa : Isa) (name : StubName) (m n : Memory) (b : List ℕ) (addr : ℕ) → m.base ≡ 4096 → addr ≡ stub_at isa name → b ≡ stub_bytes isa name → n ≡ with_bytes addr b m → n ≡ record { base = 4096; bytes = with_stub isa name m.bytes }
one_written isa name m n b addr base at is e =
    let shape : ℕ → ℕ → List ℕ → Memory = λ x a w. record { base = x; bytes = replace_range m.bytes (a - x) (a - x + length w) w } in
    e ∙ ap (λ x. shape x addr b) base ∙ ap (λ a. shape 4096 a b) at ∙ ap (λ w. shape 4096 (stub_at isa name) w) is

pub four_written : (isa : Isa) (m k l n o : Memory) (entry exit call back : List ℕ) (at : ℕ) → m.base ≡ 4096 → at ≡ stub_at isa Call → entry ≡ stub_bytes isa Entry → exit ≡ stub_bytes isa Exit → call ≡ stub_bytes isa Call → back ≡ stub_bytes isa Return → k ≡ with_bytes 4096 entry m → l ≡ with_bytes 6144 exit k → n ≡ with_bytes at call l → o ≡ with_bytes 8192 back n → o ≡ record m { bytes = with_stub isa Return (with_stub isa Call (with_stub isa Exit (with_stub isa Entry m.bytes))) }
four_written isa m k l n o entry exit call back at base where_ a b c d ek el en eo =
    let first = one_written isa Entry m k entry 4096 base refl a ek in
    let second = one_written isa Exit k l exit 6144 (ap (λ (x : Memory). x.base) first) refl b el in
    let third = one_written isa Call l n call at (ap (λ (x : Memory). x.base) second) where_ c en in
    let fourth = one_written isa Return n o back 8192 (ap (λ (x : Memory). x.base) third) refl d eo in
    let made : List ℕ → Memory = λ w. record { base = 4096; bytes = w } in
    fourth ∙ ap (λ (x : Memory). made (with_stub isa Return x.bytes)) third ∙ ap (λ (x : Memory). made (with_stub isa Return (with_stub isa Call x.bytes))) second ∙ ap (λ (x : Memory). made (with_stub isa Return (with_stub isa Call (with_stub isa Exit x.bytes)))) first ∙ ap (λ x. let r : Memory = record { base = x; bytes = with_stub isa Return (with_stub isa Call (with_stub isa Exit (with_stub isa Entry m.bytes))) } in r) (sym base)

pub length-words : (isa : Isa) → length (repeat 1536 (free_word isa)) ≡ 6144
length-words isa = length-repeat 1536 (free_word isa) ∙ ap (λ n. 1536 * n) (four_bytes isa)

pub begun_by : (isa i : Isa) (m k l : Memory) → isa ≡ i → k ≡ record m { bytes = repeat 1536 (free_word isa) } → l ≡ record k { bytes = with_stub i Return (with_stub i Call (with_stub i Exit (with_stub i Entry k.bytes))) } → l ≡ record m { bytes = begun_stubs isa }
unfolding begun_stubs
begun_by isa i m k l same filled done =
    let four : Isa → List ℕ → List ℕ = λ j w. with_stub j Return (with_stub j Call (with_stub j Exit (with_stub j Entry w))) in
    done ∙ ap (λ (x : Memory). let r : Memory = record { base = x.base; bytes = four i x.bytes } in r) filled ∙ ap (λ (j : Isa). let r : Memory = record { base = m.base; bytes = four j (repeat 1536 (free_word isa)) } in r) (sym same)

pub stubs_length : (isa : Isa) (m : Memory) → m ≡ record { base = 4096; bytes = begun_stubs isa } → length m.bytes ≡ 6144
stubs_length isa m e = ap (λ (x : Memory). length x.bytes) e ∙ length-begun_stubs isa

pub stubs_again : (isa i j : Isa) (m k : Memory) → j ≡ i → m ≡ record { base = 4096; bytes = begun_stubs isa } → k ≡ record m { bytes = begun_stubs j } → k ≡ record { base = 4096; bytes = begun_stubs i }
stubs_again isa i j m k same before after =
    after ∙ ap (λ (x : Memory). let r : Memory = record { base = x.base; bytes = begun_stubs j } in r) before ∙ ap (λ (x : Isa). let r : Memory = record { base = 4096; bytes = begun_stubs x } in r) same

pub ends_within : (low high addr : ℕ) → has_eight low high addr ≡ true → addr + 8 ≤ high
ends_within low high addr h = grind (arith, nat_tests)
