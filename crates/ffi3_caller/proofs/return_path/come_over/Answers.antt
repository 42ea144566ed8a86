use Rattle.std.proofs.Common.{◌≡◌, ◌+◌, Bool, true, false, ap, sym, ◌∙◌, arith}
use Rattle.ffi3_type_spec.specs.TargetIsa.{isa_of}
use Rattle.ffi3_machine_spec.specs.declared.stub.TheConstants.{RETURN_SP_AT}
use Rattle.ffi3_machine_spec.specs.State.{State, with_x}
use Rattle.ffi3_stubs.specs.Calls.{after_return}
use Rattle.ffi3_machine_transfer.specs.Passing.{by_exchange}
use Rattle.ffi3_caller.specs.Called.{come_back_if}
use Rattle.ffi3_caller.proofs.ByStub.{back_by_stub, back_itself}
use Rattle.ffi3_caller.proofs.return_path.come_over.Goals as goal

pub returns-then-exchanged : goal.returns-then-exchanged
returns-then-exchanged c =
    let m = c.args.machine.now in
    let e : by_exchange c.args.machine.now.target ≡ true = cc in
    let sp : c.sp-sp.result + c.args.frame ≡ m.sp + c.args.frame = omega (arith, c.sp-sp.ensures.value) in
    record {
      whole = c.run_return.ensures.whole ∙ ap (λ (t : State). after_return (isa_of t.target) t) (c.set_x.ensures ∙ ap (λ v. with_x RETURN_SP_AT v m) sp) ∙ ap (λ (b : Bool). come_back_if b c.args.frame m) (sym e);
      back = back_by_stub c.args.frame (c.sp-sp.result + c.args.frame) m c.set_x.new.self c.run_return.new.machine c.sp-sp.ensures.machine sp c.set_x.ensures c.requires.frame e c.run_return.ensures.says c.run_return.ensures.counted;
    }

pub returns-else-exchanged : goal.returns-else-exchanged
returns-else-exchanged c =
    let e : by_exchange c.args.machine.now.target ≡ false = cc in
    record {
      whole = ap (λ (b : Bool). come_back_if b c.args.frame c.args.machine.now) (sym e);
      back = back_itself c.args.frame c.args.machine.now e;
    }
