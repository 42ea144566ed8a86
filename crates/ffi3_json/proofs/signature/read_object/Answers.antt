use Rattle.ffi3_script_spec.specs.Language.{read_shapes, object_signature}
use Rattle.ffi3_types.specs.SignatureFaultOf.{signature_fault_of}
use Rattle.ffi3_json.proofs.Tellings.{part_handed_on}
use Rattle.ffi3_json.proofs.Signatures.{shapes_fault, tells_own, read_right}
use Rattle.ffi3_json.proofs.signature.read_object.Goals as goal

pub returns-in_err-sig-clause-err : goal.returns-in_err-sig-clause-err
returns-in_err-sig-clause-err c =
    let d = c.args.value.now in
    part_handed_on (object_signature c.args.version d c.args.at.now) (read_shapes c.args.version d c.args.at.now) (shapes_fault c.args.version d c.args.at.now) c.from_residual.result c.in_err-sig.field-0.0 c.from_residual.ensures.1 c.in_err-sig.ensures.err

pub returns-in-Ok-clause-ok : goal.returns-in-Ok-clause-ok
returns-in-Ok-clause-ok c =
    read_right c.args.version c.args.value.now c.args.at.now c.in_ok-sig.sig c.in_ok-sig.ensures.ok c.in-Ok.ensures.ok

pub returns-in-Err-clause-err : goal.returns-in-Err-clause-err
returns-in-Err-clause-err c =
    tells_own c.args.version c.args.value.now c.args.at.now c.in_ok-sig.sig (signature_fault_of c.in-Err.fault) c.in_ok-sig.ensures.ok c.in-Err.ensures.err c.told.result c.told.ensures
