use Rattle.std.proofs.Common.{length, rules, sym, refl, ◌∙◌}
use Rattle.ffi3_interface.specs.Listing.{nothing, unknown}
use Rattle.ffi3_interface.proofs.Answering.{none_if}
use Rattle.ffi3_interface.proofs.Telling.{moves_told, untold_as}
use Rattle.ffi3_interface.proofs.listing.tell_moves.Goals as goal

pub returns-in_default-clause-told : goal.returns-in_default-clause-told
returns-in_default-clause-told c = unknown (sym c.list_numbered.ensures ∙ c.in_default.is)

pub returns-then-not-is_kept-clause-told : goal.returns-then-not-is_kept-clause-told
returns-then-not-is_kept-clause-told c =
    nothing c.in-Some.which (none_if c.args.it.now.kept (search rules)) (sym c.list_numbered.ensures ∙ c.in-Some.is)

pub returns-in-Some-tell_on-clause-told : goal.returns-in-Some-tell_on-clause-told
returns-in-Some-tell_on-clause-told c =
    moves_told c.value_mut-kept.result.now c.in-Some.which c.deref.result.now c.tell_on.new.array c.status_of.result c.in-Some-tell_on.found (length c.args.array.now) (search rules) (sym c.list_numbered.ensures ∙ c.in-Some.is) c.deref.ensures c.in-Some-tell_on.ensures.count c.in-Some-tell_on.ensures.told refl c.status_of.ensures

pub returns-in-None-clause-told : goal.returns-in-None-clause-told
returns-in-None-clause-told c =
    untold_as c.value_mut-kept.result.now c.in-Some.which c.deref.result.now c.tell_on.new.array (search rules) (sym c.list_numbered.ensures ∙ c.in-Some.is) c.deref.ensures c.in-None.ensures.many (c.tell_on.ensures.untold (search rules))
