use Rattle.ffi3_natives.proofs.Signatures.{sum3_right}
use Rattle.ffi3_natives.proofs.sum3.Sum3Native.sigs.Goals as goal

pub returns-clause-right : goal.returns-clause-right
returns-clause-right c = sum3_right
