use Rattle.ffi3_cdecl_spec.specs.Machine as declaration
use Rattle.ffi3_script_spec.specs.Language.{object_signature, declared_signature}
use Rattle.ffi3_json.proofs.Signatures.{of_text, of_object, reads_signature, reads_by_order, reads_rightly, tells_signature, tells_by_order}
use Rattle.ffi3_json.proofs.signature.read_signature_at.Goals as goal

pub returns-in-Some-clause-ok : goal.returns-in-Some-clause-ok
returns-in-Some-clause-ok c =
    let d = c.args.value.now in
    let at = c.args.at.now in
    let text = c.in-Some.text.now in
    reads_signature c.args.version d at (declared_signature at (declaration.read text)) (of_text c.args.version d at text c.in-Some.ensures) c.read_declared.result c.read_declared.ensures.ok

pub returns-in-Some-clause-err : goal.returns-in-Some-clause-err
returns-in-Some-clause-err c =
    let d = c.args.value.now in
    let at = c.args.at.now in
    let text = c.in-Some.text.now in
    tells_signature c.args.version d at (declared_signature at (declaration.read text)) (of_text c.args.version d at text c.in-Some.ensures) c.read_declared.result c.read_declared.ensures.err

pub returns-in-Some-clause-signature : goal.returns-in-Some-clause-signature
returns-in-Some-clause-signature c =
    let d = c.args.value.now in
    let at = c.args.at.now in
    let text = c.in-Some.text.now in
    reads_by_order c.args.version d at (declared_signature at (declaration.read text)) (of_text c.args.version d at text c.in-Some.ensures) c.read_declared.result c.read_declared.ensures.ok

pub returns-in-Some-clause-right : goal.returns-in-Some-clause-right
returns-in-Some-clause-right c =
    let d = c.args.value.now in
    let at = c.args.at.now in
    let text = c.in-Some.text.now in
    reads_rightly c.args.version d at (declared_signature at (declaration.read text)) (of_text c.args.version d at text c.in-Some.ensures) c.read_declared.result c.read_declared.ensures.ok

pub returns-in-Some-clause-first : goal.returns-in-Some-clause-first
returns-in-Some-clause-first c =
    let d = c.args.value.now in
    let at = c.args.at.now in
    let text = c.in-Some.text.now in
    tells_by_order c.args.version d at (declared_signature at (declaration.read text)) (of_text c.args.version d at text c.in-Some.ensures) c.read_declared.result c.read_declared.ensures.err

pub returns-in-None-clause-ok : goal.returns-in-None-clause-ok
returns-in-None-clause-ok c =
    let d = c.args.value.now in
    let at = c.args.at.now in
    reads_signature c.args.version d at (object_signature c.args.version d at) (of_object c.args.version d at c.in-None.ensures) c.read_object.result c.read_object.ensures.ok

pub returns-in-None-clause-err : goal.returns-in-None-clause-err
returns-in-None-clause-err c =
    let d = c.args.value.now in
    let at = c.args.at.now in
    tells_signature c.args.version d at (object_signature c.args.version d at) (of_object c.args.version d at c.in-None.ensures) c.read_object.result c.read_object.ensures.err

pub returns-in-None-clause-signature : goal.returns-in-None-clause-signature
returns-in-None-clause-signature c =
    let d = c.args.value.now in
    let at = c.args.at.now in
    reads_by_order c.args.version d at (object_signature c.args.version d at) (of_object c.args.version d at c.in-None.ensures) c.read_object.result c.read_object.ensures.ok

pub returns-in-None-clause-right : goal.returns-in-None-clause-right
returns-in-None-clause-right c =
    let d = c.args.value.now in
    let at = c.args.at.now in
    reads_rightly c.args.version d at (object_signature c.args.version d at) (of_object c.args.version d at c.in-None.ensures) c.read_object.result c.read_object.ensures.ok

pub returns-in-None-clause-first : goal.returns-in-None-clause-first
returns-in-None-clause-first c =
    let d = c.args.value.now in
    let at = c.args.at.now in
    tells_by_order c.args.version d at (object_signature c.args.version d at) (of_object c.args.version d at c.in-None.ensures) c.read_object.result c.read_object.ensures.err
