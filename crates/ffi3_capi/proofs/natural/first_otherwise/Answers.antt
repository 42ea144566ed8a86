use Rattle.std.proofs.Common.{rules, ap, ◌∙◌, arith}
use Rattle.ffi3_capi.specs.WholeType.{offsets_of}
use Rattle.ffi3_capi.proofs.Differing.{another_member, another_whole}
use Rattle.ffi3_capi.proofs.natural.first_otherwise.Goals as goal

pub returns-in-Some-clause-another : goal.returns-in-Some-clause-another
returns-in-Some-clause-another c =
    λ i e. another_member c.args.ty.now c.args.size c.args.align c.args.offsets.now c.in_ok-natural.natural c.in-Some.i i (c.in_ok-natural.ensures ∙ ap offsets_of c.as_type.ensures.value) c.in-Some.ensures.some e

pub returns-then-size-clause-another : goal.returns-then-size-clause-another
returns-then-size-clause-another c =
    λ i e. another_whole c.args.ty.now c.args.size c.args.align c.args.offsets.now c.in_ok-natural.natural i (c.in_ok-natural.ensures ∙ ap offsets_of c.as_type.ensures.value) (search rules) (λ s a. omega (arith, c.if-size.true, s, c.size.ensures.value)) e

pub returns-then-align-clause-another : goal.returns-then-align-clause-another
returns-then-align-clause-another c =
    λ i e. another_whole c.args.ty.now c.args.size c.args.align c.args.offsets.now c.in_ok-natural.natural i (c.in_ok-natural.ensures ∙ ap offsets_of c.as_type.ensures.value) (search rules) (λ s a. omega (arith, c.if-align.true, a, c.align.ensures)) e
