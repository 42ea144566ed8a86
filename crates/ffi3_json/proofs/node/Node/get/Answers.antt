use Rattle.std.proofs.Common.{sym, ap, arith}
use Rattle.serde_json.specs.Data.{depth}
use Rattle.ffi3_json.specs.RefOf.{data_of}
use Rattle.ffi3_json.proofs.Objects.{short-get, depth-get}
use Rattle.ffi3_json.proofs.node.Node.get.Goals as goal

pub invariant_of-result : goal.invariant_of-result
invariant_of-result c =
    (c.in-Some.ensures.range, short-get c.args.name.now (data_of c.self.inside.json) (data_of c.in-Some.json) (sym c.in-Some.ensures.value) c.self.invariant.1)

pub returns-in-Some-clause-less : goal.returns-in-Some-clause-less
returns-in-Some-clause-less c =
    omega (arith, depth-get c.args.name.now (data_of c.self.inside.json) (data_of c.in-Some.json) (sym c.in-Some.ensures.value), ap depth c.self.view_is)
