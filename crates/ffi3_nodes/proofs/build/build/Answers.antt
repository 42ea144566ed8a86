use Rattle.std.proofs.Common.{◌≡◌, ◌+◌, ◌-◌, ◌<◌, length, drop, subst, arith}
use Rattle.ffi3_nodes.specs.Nodes.{AreWritten}
use Rattle.ffi3_nodes.proofs.Building.{written_at_end, node_fits}
use Rattle.ffi3_nodes.proofs.build.build.Goals as goal

pub loop-i-init : goal.loop-i-init
loop-i-init c = written_at_end c.args.nodes.now c.in_ok-behind.behind c.in_ok-behind.ensures

pub first_type-requires : goal.first_type-requires
first_type-requires c =
    let below : c.loop-i.i < length c.args.nodes.now = c.loop-i-test.true in
    let at : length c.args.nodes.now - 1 - c.loop-i.i < length c.args.nodes.now = omega (arith, below) in
    let behind : length c.args.nodes.now - c.loop-i.i ≡ length c.args.nodes.now - 1 - c.loop-i.i + 1 = omega (arith, below) in
    record {
      fits = node_fits c.args.nodes.now (length c.args.nodes.now - 1 - c.loop-i.i) (record { kind = 0; count = 0 }) c.loop-i.behind c.requires.faultless at
          (subst (λ k. AreWritten c.loop-i.behind (drop k c.args.nodes.now)) behind c.loop-i.invariant);
    }
