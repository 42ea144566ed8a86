-- Bytes that are stored on the stack.
use Rattle.std.specs.Prelude.{◌^◌, Bool, true, false, if◌then◌else◌, ◌==◌, min, refl}
use Rattle.std.proofs.Common.{◌≡◌, ℕ, ◌+◌, ◌-◌, ◌<◌, ◌≤◌, ◌⊎◌, inl, inr, List, get_or, length, ap, ◌∙◌, arith}
use Rattle.std.specs.Int.{w64, to_le_bytes}
use Rattle.std.proofs.lemmas.Bool.{cases_lt}
use Rattle.ffi3_place_spec.specs.declared.Loc.TheVariants.{S}
use Rattle.ffi3_type_spec.specs.declared.limits.TheConstants.{STACK}
use Rattle.ffi3_marshal.proofs.Puts.{eight_bytes}
use Rattle.ffi3_marshal.proofs.Ranges.{in_range, below_range, above_range, range_length}
use Rattle.ffi3_machine_spec.specs.State.{State, stored, lowered}
use Rattle.ffi3_machine_transfer.specs.Stored.{stack_byte, byte_of, WroteOnly, WroteWithin, word_in}

-- ---- words

-- the eight bytes of a place on the stack make the number
pub word_there : (base n v : ℕ) (m : State) → v < 2 ^ 64 → ((k : ℕ) → k < 8 → byte_of base m (S n 8) k ≡ get_or (to_le_bytes w64 v) k 0) → word_in base m (S n 8) ≡ v
word_there base n v m h here = eight_bytes (byte_of base m (S n 8)) v h here

-- ---- the stack

min_cases : (a b : ℕ) → (a ≤ min a b) ⊎ (b ≤ min a b)
min_cases a b =
    elim (cases_lt a b) [
      | inl less ↦ inl (omega arith)
      | inr more ↦ inr (omega arith)
    ]

lowered_cases : (empty : Bool) (mark addr : ℕ) → (mark ≤ (if empty then mark else min mark addr)) ⊎ (addr ≤ (if empty then mark else min mark addr))
lowered_cases true mark addr = inl (omega arith)
lowered_cases false mark addr = min_cases mark addr

pub mark_within : (low mark addr len : ℕ) → low ≤ addr → (mark ≤ lowered mark addr len) ⊎ (low ≤ lowered mark addr len)
mark_within low mark addr len h =
    elim (lowered_cases (len == 0) mark addr) [
      | inl same ↦ inl same
      | inr above ↦ inr (omega (arith, above, h))
    ]

-- bytes that are stored from an address on
module _ (addr : ℕ) (bytes : List ℕ) (old : State) (low : STACK ≤ addr) (fits : addr - STACK + length bytes ≤ length old.stack) where
  pub stored_inside : (k : ℕ) → k < length bytes → stack_byte (stored addr bytes old) (addr + k) ≡ get_or bytes k 0
  stored_inside k h =
      let back : addr + k - STACK - (addr - STACK) ≡ k = omega (arith, low) in
      in_range old.stack bytes (addr - STACK) (addr - STACK + length bytes) refl fits (addr + k - STACK) (omega (arith, low)) (omega (arith, low, h)) ∙ ap (λ n. get_or bytes n 0) back

  pub stored_outside : (i : ℕ) → (STACK + i < addr) ⊎ (addr + length bytes ≤ STACK + i) → get_or (stored addr bytes old).stack i 0 ≡ get_or old.stack i 0
  stored_outside i (inl below) = below_range old.stack bytes (addr - STACK) (addr - STACK + length bytes) refl fits i (omega (arith, low, below))
  stored_outside i (inr above) = above_range old.stack bytes (addr - STACK) (addr - STACK + length bytes) refl fits i (omega (arith, low, above))

  pub stored_within : (from to : ℕ) → from ≤ addr → addr + length bytes ≤ to → WroteWithin from to old (stored addr bytes old)
  stored_within from to h k = record {
    size = range_length old.stack bytes (addr - STACK) (addr - STACK + length bytes) refl fits;
    outside = outside;
    mark = mark_within from old.mark addr (length bytes) h;
    target = refl;
    pc = refl;
    code = refl;
    events = refl;
    spare_events = refl;
    spare_bytes = refl;
    exchange = refl;
    steps = refl;
  }
    where
      outside : (i : ℕ) → (STACK + i < from) ⊎ (to ≤ STACK + i) → get_or (stored addr bytes old).stack i 0 ≡ get_or old.stack i 0
      outside i (inl below) = stored_outside i (inl (omega (arith, h, below)))
      outside i (inr above) = stored_outside i (inr (omega (arith, k, above)))

pub only_stored : (to : ℕ) (bytes : List ℕ) (old : State) → STACK ≤ to → to - STACK + length bytes ≤ length old.stack → WroteOnly to (to + length bytes) old (stored to bytes old)
only_stored to bytes old low fits = record {
  within = stored_within to bytes old low fits to (to + length bytes) (omega arith) (omega arith);
  sp = refl;
  general = refl;
  floating = refl;
}
