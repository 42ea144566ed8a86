use Rattle.std.proofs.Common.{[], length, codes, ◌∙◌}
use Rattle.ffi3_script_spec.specs.Language.{value_under}
use Rattle.ffi3_script_spec.specs.Bodies.{items_at, read_signatures, read_headings, read_script, read_rest}
use Rattle.ffi3_json.proofs.Tellings.{part_handed_on}
use Rattle.ffi3_script.specs.PartsOf.{headings_of}
use Rattle.ffi3_script.proofs.RootParts.{root-items, root-signatures, root-functions, root-headings, root-rest}
use Rattle.ffi3_script.proofs.root.read_root.Goals as goal

pub read_rest-requires-clause-count : goal.read_rest-requires-clause-count
read_rest-requires-clause-count c = c.in_ok-functions.ensures.within 1048577 c.requires.within

pub returns-in_err-signatures-clause-err : goal.returns-in_err-signatures-clause-err
returns-in_err-signatures-clause-err c =
    let natives = c.args.natives.now in
    let d = c.args.value.now in
    part_handed_on (read_script natives d) (items_at (value_under (codes "signatures") d) c.key-place.result)
    (root-items natives d c.from-at.result (c.from-at.ensures ∙ c.new-root.ensures) c.in_ok-check_keys.ensures.ok c.in_ok-version.version c.in_ok-version.ensures.ok c.key-place.result c.key-place.ensures)
    c.from_residual-in_err-signatures.result c.in_err-signatures.field-0.0 c.from_residual-in_err-signatures.ensures.1 c.in_err-signatures.ensures.err

pub returns-in_err-sigs-clause-err : goal.returns-in_err-sigs-clause-err
returns-in_err-sigs-clause-err c =
    let natives = c.args.natives.now in
    let d = c.args.value.now in
    let ss = c.in_ok-signatures.signatures in
    part_handed_on (read_script natives d) (read_signatures c.in_ok-version.version ss c.key-place.result 0)
    (root-signatures natives d c.from-at.result (c.from-at.ensures ∙ c.new-root.ensures) c.in_ok-check_keys.ensures.ok c.in_ok-version.version c.in_ok-version.ensures.ok c.key-place.result c.key-place.ensures ss c.in_ok-signatures.ensures.ok)
    c.from_residual-in_err-sigs.result c.in_err-sigs.field-0.0 c.from_residual-in_err-sigs.ensures.1 c.in_err-sigs.ensures.err

pub returns-in_err-functions-clause-err : goal.returns-in_err-functions-clause-err
returns-in_err-functions-clause-err c =
    let natives = c.args.natives.now in
    let d = c.args.value.now in
    let ss = c.in_ok-signatures.signatures in
    part_handed_on (read_script natives d) (items_at (value_under (codes "functions") d) c.key-place-2.result)
    (root-functions natives d c.from-at.result (c.from-at.ensures ∙ c.new-root.ensures) c.in_ok-check_keys.ensures.ok c.in_ok-version.version c.in_ok-version.ensures.ok c.key-place.result c.key-place.ensures ss c.in_ok-signatures.ensures.ok
    c.in_ok-sigs.sigs c.in_ok-sigs.ensures.ok c.key-place-2.result c.key-place-2.ensures)
    c.from_residual-in_err-functions.result c.in_err-functions.field-0.0 c.from_residual-in_err-functions.ensures.1 c.in_err-functions.ensures.err

pub returns-in_err-headings-clause-err : goal.returns-in_err-headings-clause-err
returns-in_err-headings-clause-err c =
    let natives = c.args.natives.now in
    let d = c.args.value.now in
    let ss = c.in_ok-signatures.signatures in
    let fs = c.in_ok-functions.functions in
    part_handed_on (read_script natives d) (read_headings (length c.in_ok-sigs.sigs) [] fs c.key-place-2.result 0)
    (root-headings natives d c.from-at.result (c.from-at.ensures ∙ c.new-root.ensures) c.in_ok-check_keys.ensures.ok c.in_ok-version.version c.in_ok-version.ensures.ok c.key-place.result c.key-place.ensures ss c.in_ok-signatures.ensures.ok
    c.in_ok-sigs.sigs c.in_ok-sigs.ensures.ok c.key-place-2.result c.key-place-2.ensures fs c.in_ok-functions.ensures.ok)
    c.from_residual-in_err-headings.result c.in_err-headings.field-0.0 c.from_residual-in_err-headings.ensures.1 c.in_err-headings.ensures.err

pub returns-in_err-bodies-clause-err : goal.returns-in_err-bodies-clause-err
returns-in_err-bodies-clause-err c =
    let natives = c.args.natives.now in
    let d = c.args.value.now in
    let ss = c.in_ok-signatures.signatures in
    let fs = c.in_ok-functions.functions in
    let hs = headings_of c.in_ok-headings.headings.list.items in
    part_handed_on (read_script natives d) (read_rest natives d c.in_ok-version.version c.in_ok-sigs.sigs fs hs)
    (λ p r e. root-rest natives d c.from-at.result (c.from-at.ensures ∙ c.new-root.ensures) c.in_ok-check_keys.ensures.ok c.in_ok-version.version c.in_ok-version.ensures.ok c.key-place.result c.key-place.ensures ss c.in_ok-signatures.ensures.ok
    c.in_ok-sigs.sigs c.in_ok-sigs.ensures.ok c.key-place-2.result c.key-place-2.ensures fs c.in_ok-functions.ensures.ok hs c.in_ok-headings.ensures.ok ∙ e)
    c.from_residual-in_err-bodies.result c.in_err-bodies.field-0.0 c.from_residual-in_err-bodies.ensures.1 c.in_err-bodies.ensures.err

pub returns-clause-ok : goal.returns-clause-ok
returns-clause-ok c =
    let natives = c.args.natives.now in
    let d = c.args.value.now in
    let ss = c.in_ok-signatures.signatures in
    let fs = c.in_ok-functions.functions in
    let hs = headings_of c.in_ok-headings.headings.list.items in
    root-rest natives d c.from-at.result (c.from-at.ensures ∙ c.new-root.ensures) c.in_ok-check_keys.ensures.ok c.in_ok-version.version c.in_ok-version.ensures.ok c.key-place.result c.key-place.ensures ss c.in_ok-signatures.ensures.ok
    c.in_ok-sigs.sigs c.in_ok-sigs.ensures.ok c.key-place-2.result c.key-place-2.ensures fs c.in_ok-functions.ensures.ok hs c.in_ok-headings.ensures.ok ∙ c.in_ok-bodies.ensures.ok
