use Rattle.std.proofs.Common.{All, subst, sym}
use Rattle.ffi3_type_spec.specs.Signature.{SignatureHasNoFault}
use Rattle.ffi3_script.proofs.Standing.{faultless}
use Rattle.ffi3_script.proofs.script.Script.sigs.Goals as goal

pub returns-clause-faultless : goal.returns-clause-faultless
returns-clause-faultless c =
    subst (All SignatureHasNoFault) (sym c.deref.ensures) (faultless c.args.self.now.sigs.value c.args.self.now.right)
