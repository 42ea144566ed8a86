use Rattle.std.proofs.Common.{◌∙◌, ap, arith, length, refl}
use Rattle.ffi3_machine_spec.specs.Memory.{Memory}
use Rattle.ffi3_type_spec.specs.TargetIsa.{isa_of}
use Rattle.ffi3_machine_spec.specs.State.{begun_general}
use Rattle.ffi3_machine.specs.Scribbled.{length-scribbled_general, length-scribbled_floating, IsZeroHeld-begun}
use Rattle.ffi3_machine.proofs.Stubs.{stubs_length, stubs_again}
use Rattle.ffi3_machine.proofs.Slots.{length-begun_stack, length-begun_code, length-begun_exchange}
use Rattle.ffi3_machine.proofs.Machine.begin.Goals as goal

pub invariant_of-self : goal.invariant_of-self
unfolding begun_general
invariant_of-self c = (
  ap (λ (m : Memory). m.base) c.begin_stack.ensures ∙ c.self.invariant.0,
  ap (λ (m : Memory). m.base) c.free_slots.ensures ∙ c.self.invariant.1,
  record {
    general = rw c.scribble_general.ensures (length-scribbled_general _ _ _);
    floating = rw c.scribble_floating.ensures (length-scribbled_floating _);
    stack = ap (λ (m : Memory). length m.bytes) c.begin_stack.ensures ∙ length-begun_stack;
    code = ap (λ (m : Memory). length m.bytes) c.free_slots.ensures ∙ length-begun_code _;
    exchange = ap (λ (m : Memory). length m.bytes) c.begin_exchange.ensures ∙ length-begun_exchange;
    mark_low = omega arith;
    mark_high = omega arith;
    zero = rw (c.scribble_general.ensures, c.isa-isa.ensures) (IsZeroHeld-begun (isa_of c.args.target));
  },
  ap (λ (m : Memory). m.base) c.begin_exchange.ensures ∙ c.self.invariant.3,
  stubs_again (isa_of c.self.inside.target) (isa_of c.args.target) c.isa-isa.result c.self.inside.stubs _ c.isa-isa.ensures c.self.invariant.4 c.begin_stubs.ensures,
)

pub begin_stubs-requires-clause-length : goal.begin_stubs-requires-clause-length
begin_stubs-requires-clause-length c =
    stubs_length (isa_of c.self.inside.target) c.self.inside.stubs c.self.invariant.4

pub returns : goal.returns
unfolding begun_general
returns c =
    rw (c.scribble_general.ensures, c.scribble_floating.ensures, c.begin_stack.ensures, c.free_slots.ensures, c.begin_exchange.ensures, c.isa-isa.ensures, c.clear.ensures, ← c.self.view_is) refl
