use Rattle.std.proofs.Common.{sym, ◌∙◌}
use Rattle.ffi3_script.proofs.ReadShapes.{no_two_items, both_items_of}
use Rattle.ffi3_script.proofs.arrays.two_items.Goals as goal

pub returns-then-len-ne2 : goal.returns-then-len-ne2
returns-then-len-ne2 c =
    no_two_items c.args.value.now c.in-Some.items (sym c.in-Some.ensures.value) (λ two. c.if-len-ne2.true (c.len.ensures.count ∙ two))

pub returns : goal.returns
returns c =
    both_items_of c.args.value.now c.in-Some.items c.get.result c.get-2.result (sym c.in-Some.ensures.value) (sym c.len.ensures.count ∙ c.if-len-ne2.false) c.get.ensures.item c.get-2.ensures.item
