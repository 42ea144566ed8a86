use Rattle.std.proofs.Common.{length, ap, sym, ◌∙◌, arith}
use Rattle.std.proofs.lemmas.Option.{same_Some}
use Rattle.ffi3_next_move.proofs.Numbering.{before_more, native_within}
use Rattle.ffi3_next_move.proofs.Asked.{native_here}
use Rattle.ffi3_next_move.proofs.numbers.count_of.Goals as goal

pub returns-clause-is : goal.returns-clause-is
returns-clause-is g c n at =
    c.len.ensures.count ∙ ap length c.sigs_of.ensures.are ∙ ap (λ x. length x.native.signatures) (same_Some _ n (sym c.native_at.ensures ∙ at))

pub returns-clause-more : goal.returns-clause-more
returns-clause-more g c =
    omega (arith, before_more _ c.args.j _ (native_here _ c.args.j _ c.native_at.ensures), c.len.ensures.count, ap length c.sigs_of.ensures.are)

pub returns-clause-within : goal.returns-clause-within
returns-clause-within g c =
    omega (arith, native_within _ c.args.j _ (native_here _ c.args.j _ c.native_at.ensures), c.len.ensures.count, ap length c.sigs_of.ensures.are)
