use Rattle.std.proofs.Common.{◌≡◌, sym, ◌∙◌}
use Rattle.ffi3_type_spec.proofs.Placed.{faultless_is_plain}
use Rattle.ffi3_callee.proofs.WayBack.{gone_keeps, gone_kept, gone_reserved}
use Rattle.ffi3_machine_transfer.proofs.Passing.{laws_of}
use Rattle.ffi3_callee.proofs.return_path.go_back.Goals as goal

pub returns-clause-reserved : goal.returns-clause-reserved
returns-clause-reserved g c =
    gone_reserved g.A.Abi.standard g.met.A.Abi.agrees c.args.incoming.entry c.args.machine.now c.go.new.machine c.go.ensures.back

pub returns-clause-kept : goal.returns-clause-kept
returns-clause-kept g c = λ e room sp hold same.
    gone_kept g.A.Abi.standard g.met.A.Abi.agrees c.args.incoming.entry c.args.machine.now c.go.new.machine c.go.ensures.back e room sp hold same

pub returns-clause-keeps : goal.returns-clause-keeps
returns-clause-keeps g c = λ base v held.
    let std = g.A.Abi.standard in
    let s = c.args.cif.now in
    let m = c.args.machine.now in
    let sound = g.met.A.Abi.sound s in
    let same : std.target ≡ m.target = g.met.A.Abi.target_is ∙ sym c.requires.target in
    gone_keeps std g.met.A.Abi.agrees c.args.incoming.entry m c.go.new.machine c.go.ensures.back s sound c.sig-sig.ensures.faultless (λ e. laws_of std m.target g.met.A.Abi.by_stubs same e) (λ e. laws_of std m.target (g.met.A.Abi.result_by_stubs s (faultless_is_plain s c.sig-sig.ensures.faultless)) same e) base v held
