use Rattle.std.proofs.Common.{◌≡◌, ◌+◌, ◌*◌, arith, refl, Some}
use Rattle.ffi3_type_spec.specs.declared.limits.TheConstants.{CODE}
use Rattle.ffi3_closures.proofs.Counting.{all_live, not_all_live}
use Rattle.ffi3_closures.proofs.Holding.{holds-after}
use Rattle.ffi3_closures.proofs.Table.make.Goals as goal

pub returns-clause-holds : goal.returns-clause-holds
returns-clause-holds c =
    let map : c.self.inside.slots.items ≡ c.args.self.now = c.self.view_is in
    rw c.put.ensures (holds-after c.args.machine.now c.write_code.new.self c.args.self.now c.first_free-k.result (CODE + 64 * c.first_free-k.result) (Some (record { func = c.args.func; sig = c.args.sig; user = c.args.user })) c.live_slot.result (rw map at c.self.invariant) (omega arith) refl (rw (c.isa.ensures, c.target.ensures) at c.live_slot.ensures) c.write_code.ensures c.requires)

pub returns-clause-not_all_live : goal.returns-clause-not_all_live
returns-clause-not_all_live c =
    let map : c.self.inside.slots.items ≡ c.args.self.now = c.self.view_is in
    not_all_live c.args.self.now (rw map at c.self.invariant) (omega arith)

pub returns-then-full-clause-all_live : goal.returns-then-full-clause-all_live
returns-then-full-clause-all_live c =
    let map : c.self.inside.slots.items ≡ c.args.self.now = c.self.view_is in
    all_live c.args.self.now (rw map at c.self.invariant) (omega arith)
