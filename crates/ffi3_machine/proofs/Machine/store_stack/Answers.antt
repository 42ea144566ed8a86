use Rattle.std.proofs.Common.{◌≡◌, ◌≢◌, ℕ, ◌+◌, ◌-◌, ◌<◌, Bool, cond, List, length, min, ap, ap₂, sym, ◌∙◌, arith}
use Rattle.std.proofs.lemmas.Bool.{ne_eqb}
use Rattle.std.specs.List.{replace_range}
use Rattle.ffi3_type_spec.specs.declared.limits.TheConstants.{STACK}
use Rattle.ffi3_machine_spec.specs.Memory.{Memory}
use Rattle.ffi3_machine_spec.specs.State.{State, lowered, stored}
use Rattle.ffi3_machine.specs.Fields.{state_of}
use Rattle.ffi3_machine.proofs.Machine.store_stack.Goals as goal

-- the mark falls to a lower address, where a byte is written
falls : (mark addr len : ℕ) → len ≢ 0 → addr < mark → addr ≡ lowered mark addr len
falls mark addr len some below =
    let lower : addr ≡ min mark addr = omega (arith, below) in
    lower ∙ ap (λ (b : Bool). cond b mark (min mark addr)) (sym (ne_eqb len 0 some))

stored_below : (s : State) (addr : ℕ) (bytes stack : List ℕ) → length bytes ≢ 0 → addr < s.mark → stack ≡ replace_range s.stack (addr - STACK) (addr - STACK + length bytes) bytes → record s { stack = stack; mark = addr } ≡ stored addr bytes s
stored_below s addr bytes stack some below placed =
    ap₂ (λ (k : List ℕ) (m : ℕ). record s { stack = k; mark = m }) placed (falls s.mark addr (length bytes) some below)

pub returns-then-addr-self : goal.returns-then-addr-self
returns-then-addr-self c =
    let bytes = c.args.bytes.now in
    let placed = ap (λ (m : Memory). m.bytes) c.copy_in.ensures ∙ ap (λ (b : ℕ). replace_range c.self.inside.stack.bytes (c.args.addr - b) (c.args.addr - b + length bytes) bytes) c.self.invariant.0 in
    rw (← c.self.view_is) (stored_below (state_of c.self.inside) c.args.addr bytes c.copy_in.new.self.bytes (λ e. omega (arith, c.if-bytes-ne0.true, e)) c.if-addr-self.true placed)
