use Rattle.ffi3_natives.proofs.Signatures.{calling_right}
use Rattle.ffi3_natives.proofs.apply.ApplyNative.sigs.Goals as goal

pub returns-clause-right : goal.returns-clause-right
returns-clause-right c = calling_right
