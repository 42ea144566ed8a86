use Rattle.ffi3_types.specs.TreeOf.{tree_of}
use Rattle.ffi3_types.specs.FaultOf.{path_of, fault_of}
use Rattle.ffi3_script_spec.specs.Language.{inside_type, reason_of_type_fault}
use Rattle.ffi3_script_spec.specs.Values.{read_right_type}
use Rattle.ffi3_json.proofs.Tellings.{tells_made}
use Rattle.ffi3_script.proofs.ReadTypes.{right_type-ok, right_type-fault}
use Rattle.ffi3_script.proofs.plain.read_right_type.Goals as goal

pub returns-in-Ok-clause-ok : goal.returns-in-Ok-clause-ok
returns-in-Ok-clause-ok c =
    right_type-ok c.args.version c.args.value.now c.args.at.now (tree_of c.in_ok-ty.ty) c.in_ok-ty.ensures.ok c.in-Ok.ensures.ok

pub returns-in-Err-clause-err : goal.returns-in-Err-clause-err
returns-in-Err-clause-err c =
    let d = c.args.value.now in
    let e = c.in-Err.fault in
    tells_made (read_right_type c.args.version d c.args.at.now) (inside_type c.args.at.now (tree_of c.in_ok-ty.ty) (path_of e)) (reason_of_type_fault (fault_of e))
    (right_type-fault c.args.version d c.args.at.now (tree_of c.in_ok-ty.ty) (path_of e) (fault_of e) c.in_ok-ty.ensures.ok c.in-Err.ensures.err) c.bad_type.result c.bad_type.ensures
