use Rattle.std.proofs.Common.{rules, ◌≡◌, ◌+◌, ◌-◌, ◌≤◌, length, ap, sym, subst, ◌∙◌, arith}
use Rattle.ffi3_type_spec.specs.Layout.{size_of}
use Rattle.ffi3_values.specs.ValueOf.{value_of}
use Rattle.ffi3_type_spec.specs.declared.limits.TheConstants.{STACK}
use Rattle.ffi3_machine_spec.specs.State.{stack_at}
use Rattle.ffi3_machine_transfer.specs.Passing.{passing}
use Rattle.ffi3_machine_transfer.specs.Stored.{KeepsPadding}
use Rattle.ffi3_machine_transfer.proofs.Copying.{padding_kept}
use Rattle.ffi3_callee.proofs.returned_value.give_buffer_by.Goals as goal

pub returns-clause-unused : goal.returns-clause-unused
returns-clause-unused c =
    let t = c.args.ty.now in
    let m = passing c.args.machine.now in
    let sized : length c.write_bytes.new.out ≡ size_of t = search rules in
    let fits : c.args.address - STACK + size_of t ≤ length m.stack = omega (arith, c.requires.low, c.requires.high, c.facts.ensures.stack) in
    let loaded = c.copy_from_slice.ensures.after ∙ c.lend_stack.ensures.value ∙ ap (λ n. stack_at c.args.address n m) c.size-size.ensures.value in
    subst (KeepsPadding c.args.address t m) (sym (ap passing c.store_stack.ensures)) (padding_kept c.args.address t (value_of c.args.value.now) c.copy_from_slice.new.self c.write_bytes.new.out m c.requires.low fits sized loaded (rw c.as_type.ensures.value at c.write_bytes.ensures))
