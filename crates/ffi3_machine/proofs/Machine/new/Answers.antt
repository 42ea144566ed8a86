use Rattle.std.proofs.Common.{ℕ, ap, ◌∙◌, arith, length, refl}
use Rattle.std.proofs.lemmas.List.{length-replicate}
use Rattle.ffi3_machine_spec.specs.Memory.{Memory}
use Rattle.ffi3_type_spec.specs.declared.limits.TheConstants.{CODE_BYTES}
use Rattle.ffi3_machine.proofs.Machine.new.Goals as goal

pub invariant_of-machine : goal.invariant_of-machine
invariant_of-machine c = (
  c.in_ok-new_region.ensures.0,
  ap (λ (m : Memory). m.base) c.in_ok-new.ensures,
  record {
    general = refl;
    floating = refl;
    stack = c.in_ok-new_region.ensures.1;
    code = ap (λ (m : Memory). length m.bytes) c.in_ok-new.ensures ∙ length-replicate {A = ℕ} CODE_BYTES 0;
    exchange = ap (λ (m : Memory). length m.bytes) c.in_ok-new-2.ensures ∙ length-replicate {A = ℕ} 552 0;
    mark_low = omega arith;
    mark_high = omega arith;
    zero = tt;
  },
  ap (λ (m : Memory). m.base) c.in_ok-new-2.ensures,
  c.in_ok-new_stubs.ensures,
)
