use Rattle.std.proofs.Common.{◌≡◌, ◌+◌, ◌-◌, ◌≤◌, length, ap, sym, ◌∙◌, subst, arith, rules}
use Rattle.ffi3_type_spec.specs.declared.limits.TheConstants.{STACK, STACK_TOP}
use Rattle.ffi3_machine_transfer.specs.Passing.{passing}
use Rattle.ffi3_type_spec.specs.Layout.{size_of}
use Rattle.ffi3_values.specs.ValueOf.{value_of}
use Rattle.ffi3_machine_spec.specs.State.{stack_at}
use Rattle.ffi3_machine_transfer.specs.Stored.{IsPlace}
use Rattle.ffi3_machine_transfer.specs.Standing.{IsCopied}
use Rattle.ffi3_machine_transfer.proofs.Imaged.{copied_there, taken, within_there}
use Rattle.ffi3_machine_transfer.proofs.store_copy.Goals as goal

pub store_copy-requires-clause-lies : goal.store_copy-requires-clause-lies
store_copy-requires-clause-lies c =
    let room : length (passing c.args.machine.now).stack - (c.address-first.result - STACK) ≡ STACK_TOP - c.args.base = omega (arith, c.address-first.ensures.value, c.address-first.ensures.low, c.address-first.ensures.high, c.facts.ensures.stack) in
    subst (λ n. IsPlace n c.args.at) (sym room) c.requires.lies

pub store_copy-requires-clause-takes : goal.store_copy-requires-clause-takes
store_copy-requires-clause-takes c = taken c.args.machine.now.target c.args.at c.requires.writable

pub returns : goal.returns
returns c =
    let t = c.args.ty.now in
    let start = c.address-first.result - STACK in
    let at_base : c.args.base ≡ STACK + (c.address-first.result - STACK) = omega (arith, c.address-first.ensures.value, c.address-first.ensures.low) in
    let old = passing c.args.machine.now in
    let new = passing c.store_copy.new.state.machine.now in
    let room : length (passing c.args.machine.now).stack - (c.address-first.result - STACK) ≡ STACK_TOP - c.args.base = omega (arith, c.address-first.ensures.value, c.address-first.ensures.low, c.address-first.ensures.high, c.facts.ensures.stack) in
    let sized : length c.write_bytes.new.out ≡ size_of c.args.ty.now = search rules in
    let fits : c.args.base + c.args.copy - STACK + size_of c.args.ty.now ≤ length c.args.machine.now.stack = omega (arith, c.address-first.ensures.low, c.requires.high, c.facts.ensures.stack) in
    let loaded = c.copy_from_slice.ensures.after ∙ (rw c.address-first.ensures.value at c.lend_stack.ensures.value) ∙ ap (λ n. stack_at (c.args.base + c.args.copy) n (passing c.args.machine.now)) c.size-size.ensures.value in
    let ends : c.args.copy + size_of c.args.ty.now ≤ length (passing c.args.machine.now).stack - (c.address-first.result - STACK) = omega (arith, room, c.requires.high) in
    let same = c.store_copy.ensures.within (length old.stack - start) (subst (λ n. IsPlace n c.args.at) (sym room) c.requires.lies) ends in
    let machine : c.machine-1.given.0 ≡ c.store_copy.new.state.machine.now = search rules in
    subst (λ x. IsCopied c.args.base t (value_of c.args.value.now) c.args.at c.args.copy (passing c.args.machine.now) (passing x)) (sym machine)
    (copied_there c.args.base start at_base old new t (value_of c.args.value.now) c.args.at c.args.copy c.copy_from_slice.new.self c.write_bytes.new.out sized loaded fits (rw c.as_type.ensures.value at c.write_bytes.ensures) same.1.sp (λ n lies inside. within_there c.args.base start at_base old new n (c.store_copy.ensures.within n lies inside).1.within) c.store_copy.ensures.copied)
