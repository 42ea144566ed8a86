-- Stretches of the stack in steps that record events, or change what stands beside the stack, put together.
use Rattle.std.proofs.Common.{◌⊎◌, inl, inr, ℕ, ◌+◌, ◌<◌, ◌≤◌, ◌∙◌, arith}
use Rattle.ffi3_type_spec.specs.declared.limits.TheConstants.{STACK}
use Rattle.ffi3_machine_spec.specs.State.{State, scribbled}
use Rattle.ffi3_machine_transfer.specs.Passing.{passing}
use Rattle.ffi3_machine_transfer.specs.Stored.{WroteWithin, with_journal_of}
use Rattle.ffi3_machine_transfer.proofs.Composing.{beside}

-- ---- steps one after another

-- first a stretch from `mid` to `high`, then one from `low` to `mid`
pub wrote_down : (low mid high : ℕ) (a b c : State) → low ≤ mid → mid ≤ high → WroteWithin mid high a (with_journal_of a b) → WroteWithin low mid b (with_journal_of b c) → WroteWithin low high a (with_journal_of a c)
wrote_down low mid high a b c below above s t =
    beside low high a c (t.size ∙ s.size) (λ i far. t.outside i (first i far) ∙ s.outside i (second i far)) (falls s.mark t.mark) (t.target ∙ s.target) (t.code ∙ s.code)
  where
    first : (i : ℕ) → (STACK + i < low) ⊎ (high ≤ STACK + i) → (STACK + i < low) ⊎ (mid ≤ STACK + i)
    first i (inl far) = inl far
    first i (inr far) = inr (omega (arith, above, far))

    second : (i : ℕ) → (STACK + i < low) ⊎ (high ≤ STACK + i) → (STACK + i < mid) ⊎ (high ≤ STACK + i)
    second i (inl far) = inl (omega (arith, below, far))
    second i (inr far) = inr far

    falls : (a.mark ≤ b.mark) ⊎ (mid ≤ b.mark) → (b.mark ≤ c.mark) ⊎ (low ≤ c.mark) → (a.mark ≤ c.mark) ⊎ (low ≤ c.mark)
    falls x (inr h) = inr h
    falls (inl h) (inl k) = inl (omega (arith, h, k))
    falls (inr h) (inl k) = inr (omega (arith, below, h, k))

-- what a call passes stands beside the stack
pub passed_beside : (low high : ℕ) (a b : State) → WroteWithin low high (passing a) (passing b) → WroteWithin low high a (with_journal_of a b)
passed_beside low high a b w = beside low high a b w.size w.outside w.mark w.target w.code

-- and so do scribbled registers
pub scribbled_beside : (n low high : ℕ) (a b : State) → WroteWithin low high (passing (scribbled n a)) (passing b) → WroteWithin low high a (with_journal_of a b)
scribbled_beside n low high a b w = beside low high a b w.size w.outside w.mark w.target w.code

-- what is copied into a block, and a scribble after it
pub copied_beside : (n low high : ℕ) (a b : State) → WroteWithin low high (passing a) (passing b) → WroteWithin low high a (with_journal_of a (scribbled n b))
copied_beside n low high a b w = beside low high a (scribbled n b) w.size w.outside w.mark w.target w.code
