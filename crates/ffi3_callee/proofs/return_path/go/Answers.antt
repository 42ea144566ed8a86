use Rattle.std.proofs.Common.{◌≡◌, ◌-◌, Bool, true, false, ap, sym, ◌∙◌, arith}
use Rattle.ffi3_type_spec.specs.TargetIsa.{isa_of}
use Rattle.ffi3_place_spec.specs.MachineRegisters.{pushed_bytes}
use Rattle.ffi3_place_spec.specs.StubRegisters.{area_bytes}
use Rattle.ffi3_machine_spec.specs.declared.stub.TheConstants.{AREA_AT}
use Rattle.ffi3_machine_spec.specs.State.{with_pc, with_x}
use Rattle.ffi3_machine_spec.specs.Stubs.{Exit, stub_at}
use Rattle.ffi3_stubs.specs.Calls.{after_exit}
use Rattle.ffi3_machine_transfer.specs.Passing.{by_exchange}
use Rattle.ffi3_callee.specs.GoneBack.{gone_back_if}
use Rattle.ffi3_callee.proofs.WayBack.{gone_by_stub, gone_itself}
use Rattle.ffi3_machine_transfer.proofs.Passing.{laws_of}
use Rattle.ffi3_callee.proofs.return_path.go.Goals as goal

pub overflow_sub-area : goal.overflow_sub-area
overflow_sub-area g c =
    omega (arith, c.entry.ensures, c.SAVE.ensures, g.met.A.Abi.save_is, c.requires.incoming.entry)

pub leave_by_stub-requires-clause-low : goal.leave_by_stub-requires-clause-low
leave_by_stub-requires-clause-low g c =
    omega (arith, c.entry.ensures, c.SAVE.ensures, g.met.A.Abi.save_is, c.requires.incoming.low, c.requires.incoming.entry)

pub leave_by_stub-requires-clause-high : goal.leave_by_stub-requires-clause-high
leave_by_stub-requires-clause-high g c =
    let std = g.A.Abi.standard in
    let m = c.args.machine.now in
    let e : by_exchange c.args.machine.now.target ≡ true = cc in
    let same : std.target ≡ m.target = g.met.A.Abi.target_is ∙ sym c.requires.target in
    let laws = laws_of std m.target g.met.A.Abi.by_stubs same e in
    let bytes : std.save ≡ area_bytes (isa_of m.target) = laws.area_size ∙ ap (λ k. area_bytes (isa_of k)) same in
    let pushed : std.link ≡ pushed_bytes (isa_of m.target) = g.met.A.Abi.agrees.link ∙ ap (λ k. pushed_bytes (isa_of k)) same in
    omega (arith, bytes, pushed, c.entry.ensures, c.SAVE.ensures, g.met.A.Abi.save_is, c.requires.incoming.entry, c.requires.incoming.high)

pub returns-then-exchanged : goal.returns-then-exchanged
returns-then-exchanged g c =
    let std = g.A.Abi.standard in
    let m = c.args.machine.now in
    let entry = c.args.incoming.entry in
    let e : by_exchange c.args.machine.now.target ≡ true = cc in
    let same : std.target ≡ m.target = g.met.A.Abi.target_is ∙ sym c.requires.target in
    let laws = laws_of std m.target g.met.A.Abi.by_stubs same e in
    let area : c.entry.result - c.SAVE.result ≡ c.args.incoming.entry - std.save = omega (arith, c.entry.ensures, c.SAVE.ensures, g.met.A.Abi.save_is) in
    record {
      whole = c.leave_by_stub.ensures.whole ∙ ap (λ a. after_exit (isa_of m.target) (with_pc (stub_at (isa_of m.target) Exit) (with_x AREA_AT a m))) area ∙ ap (λ (b : Bool). gone_back_if b std entry m) (sym e);
      back = gone_by_stub std g.met.A.Abi.agrees laws (c.entry.result - c.SAVE.result) entry m c.leave_by_stub.new.machine c.facts.ensures same area (omega (arith, c.requires.incoming.low, c.requires.incoming.entry)) (omega (arith, c.requires.incoming.high)) e c.leave_by_stub.ensures.says c.leave_by_stub.ensures.counted;
    }

pub returns-else-exchanged : goal.returns-else-exchanged
returns-else-exchanged g c =
    let std = g.A.Abi.standard in
    let m = c.args.machine.now in
    let entry = c.args.incoming.entry in
    let e : by_exchange c.args.machine.now.target ≡ false = cc in
    let r = c.restore.ensures in
    record {
      whole = r.whole ∙ ap (λ (b : Bool). gone_back_if b std entry m) (sym e);
      back = gone_itself std g.met.A.Abi.agrees entry m c.restore.new.machine (g.met.A.Abi.target_is ∙ sym c.requires.target) e r.given_back r.others r.within r.sp;
    }
