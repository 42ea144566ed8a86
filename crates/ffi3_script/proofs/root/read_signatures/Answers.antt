use Rattle.std.proofs.Common.{length, sym, ap, refl, ◌∙◌, arith}
use Rattle.std.proofs.lemmas.List.{length_push}
use Rattle.ffi3_script_spec.specs.Language.{read_signature}
use Rattle.ffi3_script_spec.specs.Bodies.{read_signatures}
use Rattle.ffi3_json.proofs.Tellings.{part_handed_on}
use Rattle.ffi3_script.proofs.Loops.{all_read}
use Rattle.ffi3_script.proofs.RootParts.{signatures-turn, signatures-fault}
use Rattle.ffi3_script.proofs.root.read_signatures.Goals as goal

pub returns-in_err-sig-clause-err : goal.returns-in_err-sig-clause-err
returns-in_err-sig-clause-err c =
    let ds = c.args.items.now in
    let at = c.args.at.now in
    let x = c.get.result in
    let whole = read_signatures c.args.version ds at 0 in
    part_handed_on whole (read_signature c.args.version x c.item.result)
    (λ p r e. signatures-fault c.args.version ds at c.loop-i.i x whole c.loop-i.sigs (omega arith) c.get.ensures.item c.loop-i.invariant.so_far p r (ap (read_signature c.args.version x) (sym c.item.ensures) ∙ e))
    c.from_residual.result c.in_err-sig.field-0.0 c.from_residual.ensures.1 c.in_err-sig.ensures.err

pub loop-i-preserved : goal.loop-i-preserved
loop-i-preserved c =
    let ds = c.args.items.now in
    let at = c.args.at.now in
    let x = c.get.result in
    let sig = c.in_ok-sig.sig in
    let pushed = c.in_ok-push.ensures.ok in
    record {
      count = omega (arith, ap length pushed, length_push c.loop-i.sigs sig, c.loop-i.invariant.count);
      so_far = signatures-turn c.args.version ds at c.loop-i.i x (read_signatures c.args.version ds at 0) c.loop-i.sigs (omega arith) c.get.ensures.item c.loop-i.invariant.so_far sig c.push.new.self (ap (read_signature c.args.version x) (sym c.item.ensures) ∙ c.in_ok-sig.ensures.ok) pushed;
    }

pub returns-clause-ok : goal.returns-clause-ok
returns-clause-ok c =
    let ds = c.args.items.now in
    let at = c.args.at.now in
    all_read (λ es. read_signatures c.args.version es at c.loop-i.i) (read_signatures c.args.version ds at 0) c.loop-i.sigs ds c.loop-i.i (omega arith) refl c.loop-i.invariant.so_far
