use Rattle.std.proofs.Common.{◌≡◌, ap, arith}
use Rattle.std.proofs.lemmas.Grind.{common_steps}
use Rattle.ffi3_type_spec.specs.Tree.{nodes, tree_at}
use Rattle.ffi3_type_spec.proofs.Layouts.{nodes-element}
use Rattle.ffi3_types.specs.TreeOf.{tree_of}
use Rattle.ffi3_types.proofs.Fields.get.Goals as goal

pub returns-clause-fewer_nodes : goal.returns-clause-fewer_nodes
returns-clause-fewer_nodes c =
    let here : tree_of c.index.result.now ≡ tree_at c.args.self.now c.args.i = grind (arith, common_steps) in
    omega (arith, ap nodes here, nodes-element c.args.self.now c.args.i c.requires)
