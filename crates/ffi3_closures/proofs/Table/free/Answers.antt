use Rattle.std.proofs.Common.{◌≡◌, arith, None}
use Rattle.ffi3_closures.proofs.Holding.{holds-after}
use Rattle.ffi3_closures.proofs.Table.free.Goals as goal

pub returns-clause-holds : goal.returns-clause-holds
returns-clause-holds c =
    let map : c.self.inside.slots.items ≡ c.args.self.now = c.self.view_is in
    rw c.put.ensures (holds-after c.args.machine.now c.write_code.new.self c.args.self.now c.in_ok-k.k c.args.addr None c.free_slot.result (rw map at c.self.invariant) (omega arith) c.in_ok-k.ensures.address (rw (c.isa.ensures, c.target.ensures) at c.free_slot.ensures) c.write_code.ensures c.requires)
