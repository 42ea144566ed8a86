use Rattle.std.proofs.Common.{◌≡◌, ◌-◌, ◌≤◌, Bool, true, false, ap, sym, subst, ◌∙◌, arith}
use Rattle.ffi3_place_spec.specs.Standard.{frame_of}
use Rattle.ffi3_machine_transfer.specs.Passing.{by_exchange}
use Rattle.ffi3_type_spec.specs.declared.limits.TheConstants.{STACK}
use Rattle.ffi3_caller.specs.Called.{frame_start_if}
use Rattle.ffi3_caller.proofs.frame_start.Goals as goal

pub overflow_sub-result : goal.overflow_sub-result
overflow_sub-result g c =
    let e : by_exchange c.args.machine.now.target ≡ true = cc in
    let frame = frame_of g.A.Abi.standard c.args.cif.now in
    let low : STACK ≤ c.args.machine.now.sp - frame_of g.A.Abi.standard c.args.cif.now = subst (λ (b : Bool). STACK ≤ frame_start_if b frame c.args.machine.now) e c.requires in
    omega (arith, low, c.sp-sp.ensures.value, c.frame.ensures)

pub returns-then-exchanged : goal.returns-then-exchanged
returns-then-exchanged g c =
    let e : by_exchange c.args.machine.now.target ≡ true = cc in
    let is : c.sp-sp.result - c.frame.result ≡ c.args.machine.now.sp - frame_of g.A.Abi.standard c.args.cif.now = omega (arith, c.sp-sp.ensures.value, c.frame.ensures) in
    is ∙ sym (ap (λ (b : Bool). frame_start_if b (frame_of g.A.Abi.standard c.args.cif.now) c.args.machine.now) e)

pub returns-else-exchanged : goal.returns-else-exchanged
returns-else-exchanged g c =
    let e : by_exchange c.args.machine.now.target ≡ false = cc in
    c.sp-sp.ensures.value ∙ sym (ap (λ (b : Bool). frame_start_if b (frame_of g.A.Abi.standard c.args.cif.now) c.args.machine.now) e)
