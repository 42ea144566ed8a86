use Rattle.std.proofs.Common.{◌≡◌, subst, ap, sym, ◌∙◌, arith}
use Rattle.ffi3_type_spec.proofs.Placed.{faultless_is_plain}
use Rattle.ffi3_place_spec.proofs.OnMachine.{as_before}
use Rattle.ffi3_machine_transfer.specs.Passing.{by_exchange}
use Rattle.ffi3_caller.specs.Called.{HasComeBack, come_back_if}
use Rattle.ffi3_caller.proofs.Pushing.{back_preserves, back_reserves, result_back}
use Rattle.ffi3_machine_transfer.proofs.Passing.{laws_of}
use Rattle.ffi3_caller.proofs.return_path.come_back.Goals as goal

pub come_over-requires-clause-frame : goal.come_over-requires-clause-frame
come_over-requires-clause-frame g c = omega (arith, c.frame.ensures, c.requires.frame)

pub returns-clause-whole : goal.returns-clause-whole
returns-clause-whole g c =
    c.come_over.ensures.whole ∙ ap (λ n. come_back_if (by_exchange c.args.machine.now.target) n c.args.machine.now) c.frame.ensures

pub returns-clause-back : goal.returns-clause-back
returns-clause-back g c =
    subst (λ n. HasComeBack n c.args.machine.now c.come_over.new.machine) c.frame.ensures c.come_over.ensures.back

pub returns-clause-preserved : goal.returns-clause-preserved
returns-clause-preserved g c =
    let std = g.A.Abi.standard in
    let m = c.args.machine.now in
    let same : std.target ≡ m.target = g.met.A.Abi.target_is ∙ sym c.requires.target in
    back_preserves std g.met.A.Abi.agrees c.frame.result m c.come_over.new.machine same (λ e. laws_of std m.target g.met.A.Abi.by_stubs same e) c.come_over.ensures.back

pub returns-clause-reserved : goal.returns-clause-reserved
returns-clause-reserved g c =
    let std = g.A.Abi.standard in
    let m = c.args.machine.now in
    let same : std.target ≡ m.target = g.met.A.Abi.target_is ∙ sym c.requires.target in
    back_reserves std g.met.A.Abi.agrees c.frame.result m c.come_over.new.machine same c.come_over.ensures.back

pub returns-clause-owns : goal.returns-clause-owns
returns-clause-owns g c = λ v own.
    let std = g.A.Abi.standard in
    let s = c.args.cif.now in
    let m = c.args.machine.now in
    let plain = (faultless_is_plain s c.sig-sig.ensures.faultless) in
    let sound = as_before std s (g.met.A.Abi.sound s) plain in
    let same : std.target ≡ m.target = g.met.A.Abi.target_is ∙ sym c.requires.target in
    let back = subst (λ n. HasComeBack n m c.come_over.new.machine) c.frame.ensures c.come_over.ensures.back in
    result_back std s m c.come_over.new.machine v sound same (λ e. laws_of std m.target (g.met.A.Abi.result_by_stubs s plain) same e) back own
