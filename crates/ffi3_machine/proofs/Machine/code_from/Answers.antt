use Rattle.std.proofs.Common.{◌≡◌, ap, arith}
use Rattle.ffi3_type_spec.specs.TargetIsa.{isa_of}
use Rattle.ffi3_machine_spec.specs.State.{State}
use Rattle.ffi3_machine.proofs.Stubs.{above_stubs, stubs_end, lent_stubs}
use Rattle.ffi3_machine.proofs.Machine.code_from.Goals as goal

pub returns-then-addr-ge-STUBS_END : goal.returns-then-addr-ge-STUBS_END
returns-then-addr-ge-STUBS_END c =
    above_stubs (isa_of c.args.self.now.target) c.args.addr c.args.self.now.code (omega arith) (omega arith)

pub lend-requires-then-addr-ge-STUBS-clause-high : goal.lend-requires-then-addr-ge-STUBS-clause-high
lend-requires-then-addr-ge-STUBS-clause-high c =
    let whole = stubs_end (isa_of c.self.inside.target) c.self.inside.stubs c.self.invariant.4 in
    omega arith

pub returns-then-addr-ge-STUBS : goal.returns-then-addr-ge-STUBS
returns-then-addr-ge-STUBS c =
    let same : isa_of c.self.inside.target ≡ isa_of c.args.self.now.target = ap (λ (s : State). isa_of s.target) c.self.view_is in
    lent_stubs (isa_of c.self.inside.target) (isa_of c.args.self.now.target) c.self.inside.stubs c.args.addr _ _ c.args.self.now.code same c.self.invariant.4 (omega arith) (omega arith) (omega arith) c.lend-then-addr-ge-STUBS.ensures.value
