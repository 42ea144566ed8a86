use Rattle.std.proofs.Common.{refl, sym, ◌∙◌, arith}
use Rattle.ffi3_explain.proofs.Standing.{told_values}
use Rattle.ffi3_transfer.specs.Stored.{image_in}
use Rattle.ffi3_transfer.specs.Packed.{values_packed}
use Rattle.ffi3_transfer.proofs.Owning.{owned_values}
use Rattle.ffi3_transfer.proofs.collecting.collect.Goals as goal

pub returns-then-stack-least-clause-err : goal.returns-then-stack-least-clause-err
returns-then-stack-least-clause-err g c = (
  omega (arith, c.if-values-wanted.false, c.packed_size-wanted.ensures),
  omega (arith, c.least_stack_of-least.ensures),
  omega (arith, c.if-stack-least.true, c.least_stack_of-least.ensures),
)

pub collect_arguments-requires-clause-sized : goal.collect_arguments-requires-clause-sized
collect_arguments-requires-clause-sized g c =
    omega (arith, c.if-values-wanted.false, c.packed_size-wanted.ensures)

pub returns-in-None-clause-ok : goal.returns-in-None-clause-ok
returns-in-None-clause-ok g c =
    let std = g.A.Abi.standard in
    let s = c.args.placed.now in
    let m = image_in c.args.registers.now c.args.stack.now in
    let values = values_packed s.arguments c.collect_arguments.new.values in
    let is = told_values std s m std.link refl values c.collect_arguments.ensures.values (sym c.first_outside.ensures ∙ c.in-None.is) in
    record {
      is = is;
      owned = λ vs own. owned_values std s m c.sig-sig.ensures.can_be (g.met.A.Abi.sound s) vs own values is;
      padding = c.collect_arguments.ensures.padding;
      sized = c.collect_arguments.ensures.sized;
      room = omega (arith, c.if-stack-least.false, c.least_stack_of-least.ensures);
    }
