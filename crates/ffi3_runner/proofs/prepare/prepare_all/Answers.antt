use Rattle.std.proofs.Common.{◌∙◌}
use Rattle.ffi3_script_spec.specs.Handed.{handed}
use Rattle.ffi3_runner.proofs.Turning.{all_cifs, more_cifs, one_of_all}
use Rattle.ffi3_runner.proofs.prepare.prepare_all.Goals as goal

pub signature-requires-clause-below : goal.signature-requires-clause-below
signature-requires-clause-below g c =
    let std = g.A.Abi.standard in
    one_of_all std c.args.script.now (handed _ _ _ c.args.natives.now.items) c.loop-number.number c.signatures-number-end.result (c.signatures-number-end.ensures std) c.loop-number-test.true

pub loop-number-preserved : goal.loop-number-preserved
loop-number-preserved g c =
    let std = g.A.Abi.standard in
    more_cifs std c.args.script.now (handed _ _ _ c.args.natives.now.items) c.loop-number.number c.signatures-number-end.result (c.signatures-number-end.ensures std) c.loop-number.cifs c.push.new.self c.in_ok-prepare_copy.field-0 c.loop-number-test.true c.loop-number.invariant (c.in_ok-prepare_copy.ensures ∙ c.of-sig.ensures ∙ c.signature.ensures.is std) c.in_ok-push.ensures.ok

pub returns : goal.returns
returns g c = λ std.
    all_cifs std c.args.script.now (handed _ _ _ c.args.natives.now.items) c.loop-number.number c.signatures-number-end.result (c.signatures-number-end.ensures std) c.loop-number.cifs c.loop-number-test.false c.loop-number.invariant
