use Rattle.std.proofs.Common.{◌∙◌, ◌<◌, ◌+◌, ◌++◌, length, ap, sym, arith, rules}
use Rattle.ffi3_text_spec.specs.PlaceLines.{longer, register_texts}
use Rattle.ffi3_text.proofs.Parts.{texts_from, begins, turn_above, turn_next}
use Rattle.ffi3_text.proofs.place.write_registers.Goals as goal
use Rattle.ffi3_text.proofs.place.write_registers.Goals.{then-stands_above, else-stands_above+in_ok-write_register}

pub loop-k-init : goal.loop-k-init
loop-k-init c =
    let text = c.args.text.now in
    let ps = c.args.pieces.now in
    let some : 0 < length ps = omega (arith, c.if-len-eq0.false, c.len.ensures) in
    record {
      told = ap (λ r. text ++ texts_from c.args.isa r ps 1) c.part_of-part.ensures.value ∙ ap (λ t. text ++ t) (sym (begins c.args.isa ps c.get.result.now some c.get.ensures));
      bound = c.part_of-part.ensures.small;
    }

pub longer-part-requires : goal.longer-part-requires
longer-part-requires c = search rules

pub loop-k-preserved : goal.loop-k-preserved
loop-k-preserved c =
    let isa = c.args.isa in
    let ps = c.args.pieces.now in
    let whole = c.args.text.now ++ register_texts isa ps in
    let so_far = c.loop-k.invariant.told in
    let p = c.loop-k.part in
    let q = c.get-piece.result.now in
    let below : c.loop-k.k < length ps = omega (arith, c.loop-k-test.true, c.len-k-end.ensures) in
    elim c.if-stands_above.branch [
      | then-stands_above w ↦ record {
        told = ap (λ t. t ++ texts_from isa c.if-stands_above.part ps (c.loop-k.k + 1)) w.text-is ∙ turn_above isa ps c.loop-k.k p c.if-stands_above.part q c.loop-k.text whole below c.get-piece.ensures (sym c.stands_above.ensures ∙ w.if-stands_above.true) (w.part-is ∙ w.longer-part.ensures ∙ ap (longer p) w.length_of.ensures) so_far;
        bound = search rules;
      }
      | else-stands_above+in_ok-write_register w ↦ record {
        told = turn_next isa ps c.loop-k.k p c.if-stands_above.part q c.loop-k.text c.if-stands_above.text whole below c.get-piece.ensures (sym c.stands_above.ensures ∙ w.if-stands_above.false) (w.part-is ∙ w.part_of-part-else-stands_above.ensures.value) (w.text-is ∙ w.in_ok-write_register.ensures) so_far;
        bound = search rules;
      }
    ]
