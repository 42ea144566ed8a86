use Rattle.std.proofs.Common.{◌≡◌, true, arith}
use Rattle.ffi3_type_spec.specs.TargetIsa.{isa_of}
use Rattle.ffi3_machine.specs.MachineStep.{has_eight}
use Rattle.ffi3_machine.proofs.Stubs.{stubs_end, ends_within}
use Rattle.ffi3_machine.proofs.Machine.load.Goals as goal

pub load-requires-then-has_eight-4-clause-high : goal.load-requires-then-has_eight-4-clause-high
load-requires-then-has_eight-4-clause-high c =
    let whole = stubs_end (isa_of c.self.inside.target) c.self.inside.stubs c.self.invariant.4 in
    let test : has_eight 4096 10240 c.args.addr ≡ true = cc in
    let within = ends_within 4096 10240 c.args.addr test in
    omega arith
