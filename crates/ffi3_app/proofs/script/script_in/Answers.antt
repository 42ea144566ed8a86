use Rattle.std.proofs.Common.{subst}
use Rattle.ffi3_script.specs.Refusal.{IsScriptRefusal}
use Rattle.ffi3_script_spec.specs.Natives.{names_of}
use Rattle.ffi3_script_spec.specs.Handed.{handed}
use Rattle.ffi3_app.proofs.Working.{refused_no_script}
use Rattle.ffi3_app.proofs.script.script_in.Goals as goal

pub returns-clause-refused : goal.returns-clause-refused
returns-clause-refused g c =
    refused_no_script (names_of (handed _ _ _ c.args.natives.now.items)) c.args.bytes.now c.in-Err.fault c.refusal.result (subst (λ ns. IsScriptRefusal ns c.args.bytes.now c.in-Err.fault) c.in-Ok.ensures c.in-Err.ensures.err) c.refusal.ensures
