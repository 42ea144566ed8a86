use Rattle.std.proofs.Common.{◌≡◌, true, length, sym, subst, arith}
use Rattle.ffi3_script_spec.specs.Reading.{IsJson, IsTheReading, script}
use Rattle.ffi3_script_spec.specs.Typed.{script_is_typed}
use Rattle.ffi3_script_spec.proofs.WellTyped.{script_is_well_typed}
use Rattle.ffi3_json.specs.Within.{HasArraysWithin}
use Rattle.ffi3_script.specs.PartsOf.{script_in}
use Rattle.ffi3_script.proofs.Few.{IsFew, script-few}
use Rattle.ffi3_script.proofs.Making.{signatures-few, functions-few, each-few, main-few}
use Rattle.ffi3_script.proofs.Refusals.{refused-text, refused-value, refusal_handed_on, accepted}
use Rattle.ffi3_script.proofs.read.read_script.Goals as goal

pub returns-in_err-document-clause-err : goal.returns-in_err-document-clause-err
returns-in_err-document-clause-err c =
    refusal_handed_on c.args.natives.now c.args.bytes.now c.in_err-document.field-0.0 (refused-text c.args.natives.now c.args.bytes.now c.in_err-document.field-0.0 c.in_err-document.ensures.err) c.from_residual.result c.from_residual.ensures.1

pub returns-in_err-parts-clause-err : goal.returns-in_err-parts-clause-err
returns-in_err-parts-clause-err c =
    let json : IsJson c.args.bytes.now c.root.result = subst (IsJson c.args.bytes.now) (sym c.root.ensures) c.in_ok-document.ensures.ok in
    refusal_handed_on c.args.natives.now c.args.bytes.now c.in_err-parts.field-0.0
    (refused-value c.args.natives.now c.args.bytes.now c.root.result json c.in_err-parts.field-0.0 c.in_err-parts.ensures.err) c.from_residual-in_err-parts.result c.from_residual-in_err-parts.ensures.1

pub script_of-requires : goal.script_of-requires
script_of-requires c =
    let natives = c.args.natives.now in
    let p = c.in_ok-parts.parts in
    let s = script_in p.version p.sigs p.functions.items p.main.items in
    let within : HasArraysWithin 1048577 c.root.result = subst (HasArraysWithin 1048577) (sym c.root.ensures) c.in_ok-document.ensures.few in
    let few : IsFew 1048577 s = script-few 1048577 natives c.root.result s within c.in_ok-parts.ensures.ok in
    let same : c.len.result ≡ length natives = c.len.ensures.count in
    record {
      few_signatures = signatures-few 1048577 (omega arith) p.version p.sigs p.functions.items p.main.items few;
      few_natives = omega (arith, same, c.requires);
      few = functions-few 1048577 (omega arith) p.version p.sigs p.functions.items p.main.items few;
      functions_few = each-few 1048577 (omega arith) p.version p.sigs p.functions.items p.main.items few;
      main_few = main-few 1048577 (omega arith) p.version p.sigs p.functions.items p.main.items few;
      typed = subst (λ n. script_is_typed n s ≡ true) (sym same) (script_is_well_typed natives c.root.result s c.in_ok-parts.ensures.ok);
    }

pub returns-clause-ok : goal.returns-clause-ok
returns-clause-ok c =
    let p = c.in_ok-parts.parts in
    let s = script_in p.version p.sigs p.functions.items p.main.items in
    let json : IsJson c.args.bytes.now c.root.result = subst (IsJson c.args.bytes.now) (sym c.root.ensures) c.in_ok-document.ensures.ok in
    subst (λ r. IsTheReading c.args.natives.now c.args.bytes.now (script r)) (sym c.in_ok-script_of.ensures.is) (accepted c.args.natives.now c.args.bytes.now c.root.result json s c.in_ok-parts.ensures.ok)
