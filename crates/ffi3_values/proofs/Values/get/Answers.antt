use Rattle.std.proofs.Common.{◌≡◌, ap, arith}
use Rattle.std.proofs.lemmas.Grind.{common_steps}
use Rattle.ffi3_type_spec.specs.Value.{value_nodes}
use Rattle.ffi3_type_spec.proofs.Values.{value_at, nodes-value}
use Rattle.ffi3_values.specs.ValueOf.{value_of}
use Rattle.ffi3_values.proofs.Values.get.Goals as goal

pub returns-clause-fewer_nodes : goal.returns-clause-fewer_nodes
returns-clause-fewer_nodes c =
    let here : value_of c.index.result.now ≡ value_at c.args.self.now c.args.i = grind (arith, common_steps) in
    omega (arith, ap value_nodes here, nodes-value c.args.self.now c.args.i c.requires)
