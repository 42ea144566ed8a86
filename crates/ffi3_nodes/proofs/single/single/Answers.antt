use Rattle.std.proofs.Common.{◌≡◌, arith}
use Rattle.ffi3_types.specs.TreeOf.{tree_of}
use Rattle.ffi3_nodes.proofs.OneType.{first_alone, others_alone}
use Rattle.ffi3_nodes.proofs.single.single.Goals as goal

pub returns-clause-ok : goal.returns-clause-ok
returns-clause-ok c =
    let one : c.len-count.result ≡ 1 = omega (arith, c.if-count-ne1.false) in
    first_alone (tree_of c.in-Some.ty) c.in-Ok.types c.take_first.new.self c.args.nodes.now c.len-count.result c.in-Ok.ensures c.len-count.ensures one c.in-Some.ensures.some

pub returns-then-count-ne1-clause-none : goal.returns-then-count-ne1-clause-none
returns-then-count-ne1-clause-none c =
    others_alone c.args.nodes.now c.len-count.result (record {
      types = c.in-Ok.types;
      written = c.in-Ok.ensures;
      counted = c.len-count.ensures;
      others = λ one. absurd (omega (arith, one, c.if-count-ne1.true));
    })
