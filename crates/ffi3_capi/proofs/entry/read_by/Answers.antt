use Rattle.std.proofs.Common.{◌≤◌, ℕ, length, ap, sym, ◌∙◌, arith}
use Rattle.ffi3_type_spec.specs.Signature.{Signature}
use Rattle.ffi3_explain_spec.specs.Arguments.{least_stack}
use Rattle.ffi3_transfer.specs.Stored.{image_in}
use Rattle.ffi3_capi.specs.Entry.{arguments_of}
use Rattle.ffi3_capi.proofs.OneByOne.{found_by_each}
use Rattle.ffi3_capi.proofs.entry.read_by.Goals as goal

pub returns-clause-found : goal.returns-clause-found
returns-clause-found g c =
    let std = g.A.Abi.standard in
    let s = c.args.sig in
    let bytes = c.in-Ok-see_arguments.bytes in
    let wanted = c.least_stack_of-wanted.result in
    let fault = c.fault_with.result in
    let counted = c.count-arguments.ensures.value ∙ ap (λ (r : Signature). length r.arguments) c.of.ensures in
    let reach = c.least_stack_of-wanted.ensures ∙ ap (least_stack std) c.in-Ok.ensures in
    let told = c.told.ensures ∙ ap (λ (n : ℕ). arguments_of n c.len.result wanted fault) counted
    ∙ ap (λ (n : ℕ). arguments_of (length s.arguments) n wanted fault) c.len.ensures
    ∙ ap (λ (n : ℕ). arguments_of (length s.arguments) (length bytes) n fault) reach
    ∙ ap (arguments_of (length s.arguments) (length bytes) (least_stack std s)) c.fault_with.ensures in
    let long : least_stack std c.in-Ok.placed ≤ length c.args.stack.now = omega (arith, c.if-stack-wanted.false, c.least_stack_of-wanted.ensures) in
    found_by_each std c.in-Ok.placed s (image_in c.args.registers.now c.args.stack.now) (record { told = c.told.result; bytes = bytes }) c.in-Ok-see_arguments._each c.in-Ok.ensures told long c.in-Ok-see_arguments.ensures (sym c.in-None.is ∙ c.first_outside.ensures)
