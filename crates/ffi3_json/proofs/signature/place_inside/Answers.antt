use Rattle.std.proofs.Common.{sym, ◌∙◌, arith}
use Rattle.ffi3_types.specs.TreeOf.{tree_of}
use Rattle.ffi3_json.proofs.Paths.{way-more, way-end}
use Rattle.ffi3_json.proofs.signature.place_inside.Goals as goal

pub loop-i-preserved : goal.loop-i-preserved
loop-i-preserved c =
    c.loop-i.invariant ∙ way-more c.loop-i.place (tree_of c.loop-i.node.now) (tree_of c.part_of-node.result.now) c.args.way.now c.loop-i.i c.get-number.result.now c.key_of_parts.result.now c.push_key.new.self c.push_number.new.self (omega arith) c.get-number.ensures c.key_of_parts.ensures c.in_ok-push_key.ensures c.in_ok-push_number.ensures c.part_of-node.ensures

pub returns : goal.returns
returns c =
    sym (c.loop-i.invariant ∙ way-end c.loop-i.place (tree_of c.loop-i.node.now) c.args.way.now c.loop-i.i (omega arith))
