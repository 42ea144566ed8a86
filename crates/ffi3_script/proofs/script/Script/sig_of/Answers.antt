use Rattle.std.proofs.Common.{◌<◌, length, arith}
use Rattle.std.proofs.lemmas.List.{length-map}
use Rattle.ffi3_script_spec.proofs.Tests.{and_left, and_right}
use Rattle.ffi3_script.specs.FunctionOf.{function_of}
use Rattle.ffi3_script.proofs.Standing.{signature_below}
use Rattle.ffi3_script.proofs.script.Script.sig_of.Goals as goal

pub returns-clause-below : goal.returns-clause-below
returns-clause-below c =
    let s = c.args.self.now in
    let all = length-map s.functions.items function_of in
    let below : c.args.i < length s.functions.items = omega (arith, c.requires, all) in
    signature_below s.sigs.value _ s.functions.items c.args.i c.index.result.now below c.index.ensures (and_left _ _ (and_right _ _ s.typed))
