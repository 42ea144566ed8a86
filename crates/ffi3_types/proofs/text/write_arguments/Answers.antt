use Rattle.std.proofs.Common.{ap, sym, ◌∙◌, arith, length}
use Rattle.ffi3_type_spec.proofs.Signatures.{fixed_within}
use Rattle.ffi3_types.proofs.text.write_arguments.Goals as goal

pub write_range-requires-clause-in_range : goal.write_range-requires-clause-in_range
write_range-requires-clause-in_range c =
    omega (arith, fixed_within c.as_sig-plain.result.now c.in-Some.fixed c.as_sig-plain.ensures.right (sym c.fixed.ensures ∙ c.in-Some.is), ap length c.args-args.ensures)

pub write_range-requires-in-Some-clause-in_order : goal.write_range-requires-in-Some-clause-in_order
write_range-requires-in-Some-clause-in_order c =
    omega (arith, fixed_within c.as_sig-plain.result.now c.in-Some.fixed c.as_sig-plain.ensures.right (sym c.fixed.ensures ∙ c.in-Some.is), ap length c.args-args.ensures, c.len.ensures.count)
