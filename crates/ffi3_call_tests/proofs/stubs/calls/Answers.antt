use Rattle.std.proofs.Common.{◌≡◌, ℕ, ◌+◌, ◌≤◌, subst, arith}
use Rattle.ffi3_type_spec.specs.declared.Isa.{Isa}
use Rattle.ffi3_type_spec.specs.declared.Isa.TheVariants.{Amd64, Aarch64, Riscv}
use Rattle.ffi3_type_spec.specs.declared.limits.TheConstants.{CODE, STACK}
use Rattle.ffi3_place_spec.specs.MachineRegisters.{pushed_bytes}
use Rattle.ffi3_machine_spec.specs.State.{IsSlot}
use Rattle.ffi3_call_tests.proofs.stubs.calls.Goals as goal

few_pushed : (isa : Isa) → pushed_bytes isa ≤ 8
few_pushed Amd64 = omega arith
few_pushed Aarch64 = omega arith
few_pushed Riscv = omega arith

has_room : (isa : Isa) (sp at : ℕ) → STACK + 1024 ≤ sp → sp ≡ at → STACK + pushed_bytes isa ≤ at
has_room isa sp at low is = let few = few_pushed isa in omega (arith, few, low, is)

pub run_call-requires-clause-slot : goal.run_call-requires-clause-slot
run_call-requires-clause-slot c =
    let first : c.x-slot.result ≡ CODE = search in
    subst IsSlot c.x-slot.ensures (0, omega arith, omega (arith, first))

pub run_call-requires-clause-low : goal.run_call-requires-clause-low
run_call-requires-clause-low c =
    has_room _ c.x-sp.result _ (omega arith) c.x-sp.ensures
