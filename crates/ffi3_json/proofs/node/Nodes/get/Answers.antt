use Rattle.std.proofs.Common.{sym, ap, subst, arith}
use Rattle.serde_json.specs.Data.{depth, items_depth}
use Rattle.ffi3_script_spec.specs.Language.{HasShortArrays}
use Rattle.ffi3_json.specs.RefOf.{items_of}
use Rattle.ffi3_json.proofs.Items.{item-short, item-depth}
use Rattle.ffi3_json.proofs.node.Nodes.get.Goals as goal

pub invariant_of-result : goal.invariant_of-result
invariant_of-result c =
    (c.get.ensures.range, subst HasShortArrays (sym c.get.ensures.item) (item-short (items_of c.self.inside.items) c.args.i c.self.invariant.2))

pub returns-clause-less : goal.returns-clause-less
returns-clause-less c =
    omega (arith, item-depth (items_of c.self.inside.items) c.args.i, ap depth c.get.ensures.item, ap items_depth c.self.view_is)
