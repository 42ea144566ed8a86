use Rattle.std.proofs.Common.{rules, ◌≡◌, ◌+◌, ◌-◌, ◌≤◌, List, ◌++◌, take, drop, length, refl, ap, sym, subst, ◌∙◌, ℕ, arith}
use Rattle.ffi3_type_spec.specs.declared.limits.TheConstants.{STACK}
use Rattle.ffi3_type_spec.specs.Layout.{size_of}
use Rattle.ffi3_type_spec.specs.Value.{IsWritten}
use Rattle.ffi3_values.specs.ValueOf.{value_of}
use Rattle.ffi3_machine_spec.specs.State.{stored}
use Rattle.ffi3_machine_transfer.specs.Passing.{passing}
use Rattle.ffi3_machine_transfer.specs.Runs.{IsRunStored}
use Rattle.ffi3_machine_transfer.proofs.RunStoring.{run_stored}
use Rattle.ffi3_machine_transfer.proofs.stack_runs.store_run.Goals as goal

pub returns-clause-stored : goal.returns-clause-stored
returns-clause-stored c =
    let t = c.args.ty.now in
    let v = value_of c.args.value.now in
    let r = c.args.run in
    let m = passing c.args.machine.now in
    let base = c.args.base in
    let loaded : ℕ → List ℕ = λ n. take c.args.run.off c.args.bytes.now ++ (c.copy_from_slice.new.self ++ drop n (drop c.args.run.off c.args.bytes.now)) in
    let many : c.args.run.off + c.args.run.len - c.args.run.off ≡ c.args.run.len = omega arith in
    let sized : length c.write_bytes.new.out ≡ size_of t = search rules in
    let fits : base - STACK + (c.args.run.at + c.args.run.len) ≤ length m.stack = omega (arith, c.address.ensures.low, c.address.ensures.high, c.requires.lies.0, c.facts.ensures.stack) in
    let here = c.copy_from_slice.ensures.after ∙ (rw c.address.ensures.value at c.lend_stack.ensures.value) in
    subst (IsRunStored base t v r m) (sym (ap passing (rw c.address.ensures.value at c.store_stack.ensures) ∙ ap (λ n. stored (base + c.args.run.at) (take n (drop c.args.run.off c.write_bytes.new.out)) m) many))
    (run_stored base t v c.args.bytes.now (loaded c.args.run.len) c.write_bytes.new.out c.copy_from_slice.new.self r m c.address.ensures.low fits c.requires.sized sized c.requires.lies.1 here refl (subst (λ n. IsWritten t v (loaded n) c.write_bytes.new.out) many (rw c.as_type.ensures.value at c.write_bytes.ensures)))
