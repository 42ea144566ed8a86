-- Loads and stores at places of the stack and of the exchange region, by any instruction set.
use Rattle.std.proofs.Common.{◌≡◌, ◌≢◌, ℕ, ◌+◌, ◌-◌, ◌<◌, ◌≤◌, Bool, true, false, if◌then◌else◌, min, List, ◌++◌, length, take, drop, refl, ap, ◌∙◌, arith, Option, Some, None}
use Rattle.std.proofs.lemmas.Bool.Decides.{nat_tests}
use Rattle.std.proofs.lemmas.Nat.{from_le_bytes-to_le_bytes_4}
use Rattle.std.specs.Prelude.{◌==◌, ◌||◌, unwrap_or}
use Rattle.std.specs.List.{replace_range}
use Rattle.std.specs.Int.{w32, to_le_bytes}
use Rattle.ffi3_isa.specs.Fields.{first_word}
use Rattle.ffi3_machine_spec.specs.Memory.{number_of, low_bytes}
use Rattle.ffi3_type_spec.specs.declared.Isa.{Isa}
use Rattle.ffi3_type_spec.specs.declared.limits.TheConstants.{STACK, STACK_TOP, CODE, CODE_END}
use Rattle.ffi3_machine_spec.specs.declared.stub.TheConstants.{EXCHANGE, EXCHANGE_END}
use Rattle.ffi3_machine.specs.declared.step.Change.{Change}
use Rattle.ffi3_machine_spec.specs.State.{State, x_of, stack_at}
use Rattle.ffi3_machine.specs.MachineStep.{has_eight, loaded, next, stores, changed}
use Rattle.ffi3_stubs.specs.Effects.{counted}
use Rattle.ffi3_stubs.proofs.Standing.{plain}

pub along : (s : State) (n : ℕ) → s.pc + n < 4294967296 → next n s ≡ s.pc + n
along s n h = plain s.pc n (s.pc + n) refl h

-- the first word of the bytes that a word has
pub word_first : (w : ℕ) (tail : List ℕ) → w < 4294967296 → first_word (to_le_bytes w32 w ++ tail) ≡ Some w
word_first w tail h = ap Some (from_le_bytes-to_le_bytes_4 w h)

no_low : (low high addr : ℕ) → addr < low → has_eight low high addr ≡ false
no_low low high addr h = grind (arith, nat_tests)

no_high : (low high addr : ℕ) → high < addr + 8 → has_eight low high addr ≡ false
no_high low high addr h = grind (arith, nat_tests)

yes : (low high addr : ℕ) → low ≤ addr → addr + 8 ≤ high → has_eight low high addr ≡ true
yes low high addr h g = grind (arith, nat_tests)

third_of : (b c d : Bool) (x y z w : Option ℕ) → b ≡ false → c ≡ false → d ≡ true → (if b then x else (if c then y else (if d then z else w))) ≡ z
third_of b c d x y z w e f g = rw (e, f, g) refl

first_of_two : (b : Bool) (x y : Option ℕ) → b ≡ true → (if b then x else y) ≡ x
first_of_two b x y e = rw e refl

pub load_exchange : (isa : Isa) (s : State) (o addr : ℕ) → o + 8 ≤ 552 → EXCHANGE + o ≡ addr → loaded isa addr s ≡ Some (x_of o s)
load_exchange isa s o addr h e =
    let place : addr - EXCHANGE ≡ o = omega arith in
    third_of (has_eight STACK STACK_TOP addr) (has_eight CODE CODE_END addr) (has_eight EXCHANGE EXCHANGE_END addr) _ _ _ _ (no_low STACK STACK_TOP addr (omega arith)) (no_high CODE CODE_END addr (omega arith)) (yes EXCHANGE EXCHANGE_END addr (omega arith) (omega arith)) ∙ ap (λ i. Some (number_of 8 (take 8 (drop i s.exchange)))) place

pub load_stack : (isa : Isa) (s : State) (addr : ℕ) → STACK ≤ addr → addr + 8 ≤ STACK_TOP → loaded isa addr s ≡ Some (number_of 8 (stack_at addr 8 s))
load_stack isa s addr low high =
    first_of_two (has_eight STACK STACK_TOP addr) _ _ (yes STACK STACK_TOP addr low high)

pub in_exchange : (isa : Isa) (s : State) (addr o v pc : ℕ) → o + 8 ≤ 552 → EXCHANGE + o ≡ addr → changed isa (record { general = None; floating = None; sp = None; store = Some (addr, v); pc = pc }) s ≡ record s { exchange = replace_range s.exchange o (o + length (low_bytes 8 v)) (low_bytes 8 v); pc = pc; steps = counted s }
in_exchange isa s addr o v pc h at =
    let place : addr - EXCHANGE ≡ o = omega arith in
    let none : has_eight STACK STACK_TOP addr ≡ false = no_low STACK STACK_TOP addr (omega arith) in
    let there : has_eight EXCHANGE EXCHANGE_END addr ≡ true = yes EXCHANGE EXCHANGE_END addr (omega arith) (omega arith) in
    let shape : Bool → Bool → ℕ → State = λ b c i. record s { stack = if b then replace_range s.stack (addr - STACK) (addr - STACK + length (low_bytes 8 v)) (low_bytes 8 v) else s.stack; mark = if b then min s.mark addr else s.mark; exchange = if c then replace_range s.exchange i (i + length (low_bytes 8 v)) (low_bytes 8 v) else s.exchange; pc = pc; steps = counted s } in
    ap (λ (b : Bool). shape b (has_eight EXCHANGE EXCHANGE_END addr) (addr - EXCHANGE)) none ∙ ap (λ (c : Bool). shape false c (addr - EXCHANGE)) there ∙ ap (λ (i : ℕ). shape false true i) place

pub in_stack : (isa : Isa) (s : State) (sp : Option ℕ) (addr v pc : ℕ) → STACK ≤ addr → addr + 8 ≤ STACK_TOP → changed isa (record { general = None; floating = None; sp = sp; store = Some (addr, v); pc = pc }) s ≡ record s { sp = unwrap_or sp s.sp; stack = replace_range s.stack (addr - STACK) (addr - STACK + length (low_bytes 8 v)) (low_bytes 8 v); mark = min s.mark addr; pc = pc; steps = counted s }
in_stack isa s sp addr v pc low high =
    let there : has_eight STACK STACK_TOP addr ≡ true = yes STACK STACK_TOP addr low high in
    let none : has_eight EXCHANGE EXCHANGE_END addr ≡ false = no_high EXCHANGE EXCHANGE_END addr (omega arith) in
    let shape : Bool → Bool → State = λ b c. record s { sp = unwrap_or sp s.sp; stack = if b then replace_range s.stack (addr - STACK) (addr - STACK + length (low_bytes 8 v)) (low_bytes 8 v) else s.stack; mark = if b then min s.mark addr else s.mark; exchange = if c then replace_range s.exchange (addr - EXCHANGE) (addr - EXCHANGE + length (low_bytes 8 v)) (low_bytes 8 v) else s.exchange; pc = pc; steps = counted s } in
    ap (λ (b : Bool). shape b (has_eight EXCHANGE EXCHANGE_END addr)) there ∙ ap (λ (c : Bool). shape true c) none

takes : (b c : Bool) (x : Option Change) → (b || c) ≡ true → (if b || c then x else None) ≡ x
takes b c x e = rw e refl

pub takes_exchange : (sp : Option ℕ) (pc addr o v : ℕ) → o + 8 ≤ 552 → EXCHANGE + o ≡ addr → stores sp pc addr v ≡ Some (record { general = None; floating = None; sp = sp; store = Some (addr, v); pc = pc })
takes_exchange sp pc addr o v h at =
    let none : has_eight STACK STACK_TOP addr ≡ false = no_low STACK STACK_TOP addr (omega arith) in
    let there : has_eight EXCHANGE EXCHANGE_END addr ≡ true = yes EXCHANGE EXCHANGE_END addr (omega arith) (omega arith) in
    takes (has_eight STACK STACK_TOP addr) (has_eight EXCHANGE EXCHANGE_END addr) _ (ap (λ (b : Bool). b || has_eight EXCHANGE EXCHANGE_END addr) none ∙ ap (λ (c : Bool). false || c) there)

pub takes_stack : (sp : Option ℕ) (pc addr v : ℕ) → STACK ≤ addr → addr + 8 ≤ STACK_TOP → stores sp pc addr v ≡ Some (record { general = None; floating = None; sp = sp; store = Some (addr, v); pc = pc })
takes_stack sp pc addr v low high =
    let there : has_eight STACK STACK_TOP addr ≡ true = yes STACK STACK_TOP addr low high in
    takes (has_eight STACK STACK_TOP addr) (has_eight EXCHANGE EXCHANGE_END addr) _ (ap (λ (b : Bool). b || has_eight EXCHANGE EXCHANGE_END addr) there)

pub unequal : (k n : ℕ) → k ≢ n → (k == n) ≡ false
unequal k n h = grind (arith, nat_tests)
