use Rattle.std.proofs.Common.{◌<◌, List, length, map, drop, codes, refl, sym, ap, subst, ◌∙◌, arith}
use Rattle.ffi3_type_spec.specs.Signature.{signature_at}
use Rattle.ffi3_script_spec.specs.Language.{JsonPath, Read, under, value_under}
use Rattle.ffi3_script_spec.specs.Bodies.{read_body, read_bodies}
use Rattle.ffi3_script_spec.specs.Script.{ScriptMove}
use Rattle.ffi3_json.proofs.Tellings.{part_handed_on}
use Rattle.ffi3_script.specs.ScopeOf.{surroundings_in}
use Rattle.ffi3_script.specs.PartsOf.{headings_of, part_of}
use Rattle.ffi3_script.specs.declared.functions.Heading.{Heading}
use Rattle.ffi3_script.proofs.Loops.{all_read}
use Rattle.ffi3_script.proofs.FunctionParts.{part-turn, part-fault}
use Rattle.ffi3_script.proofs.functions.read_parts.Goals as goal

pub read_part-requires-clause-within : goal.read_part-requires-clause-within
read_part-requires-clause-within c =
    subst (λ (h : Heading). h.sig < length c.args.globals.now.sigs.now) (sym c.index.ensures) (c.requires.within c.loop-i.i c.index.result.now (omega arith))

pub returns-in_err-part-clause-err : goal.returns-in_err-part-clause-err
returns-in_err-part-clause-err c =
    let g = c.args.globals.now in
    let hs = c.args.headings.now.items in
    let h = c.index.result.now in
    let ds = c.args.items.now in
    let i = c.loop-i.i in
    let x = c.get.result in
    let whole = read_bodies g.version g.sigs.now g.functions.now (headings_of hs) ds c.args.at.now 0 in
    let body : JsonPath → Read (List ScriptMove) = λ q. read_body (surroundings_in g (signature_at g.sigs.now h.sig)) (value_under (codes "body") x) (under q (codes "body")) in
    part_handed_on whole (body c.item.result)
    (λ p r e. part-fault g.version g.sigs.now g.functions.now hs h ds c.args.at.now i x whole (map part_of c.loop-i.parts.items) (omega arith) c.index.ensures (omega arith) c.get.ensures.item c.loop-i.invariant p r (ap body (sym c.item.ensures) ∙ e))
    c.from_residual.result c.in_err-part.field-0.0 c.from_residual.ensures.1 c.in_err-part.ensures.err

pub loop-i-preserved : goal.loop-i-preserved
loop-i-preserved c =
    let g = c.args.globals.now in
    let hs = c.args.headings.now.items in
    let h = c.index.result.now in
    let ds = c.args.items.now in
    let i = c.loop-i.i in
    let x = c.get.result in
    let one = c.in_ok-part.part in
    let whole = read_bodies g.version g.sigs.now g.functions.now (headings_of hs) ds c.args.at.now 0 in
    let body : JsonPath → Read (List ScriptMove) = λ q. read_body (surroundings_in g (signature_at g.sigs.now h.sig)) (value_under (codes "body") x) (under q (codes "body")) in
    part-turn g.version g.sigs.now g.functions.now hs h ds c.args.at.now i x whole (map part_of c.loop-i.parts.items) (omega arith) c.index.ensures (omega arith) c.get.ensures.item c.loop-i.invariant
    c.loop-i.parts.items c.push_part.new.parts.items one refl c.in_ok-part.ensures.headed c.in_ok-push_part.ensures (ap body (sym c.item.ensures) ∙ c.in_ok-part.ensures.ok)

pub returns-clause-ok : goal.returns-clause-ok
returns-clause-ok c =
    let g = c.args.globals.now in
    let hs = c.args.headings.now.items in
    let ds = c.args.items.now in
    let i = c.loop-i.i in
    all_read (λ es. read_bodies g.version g.sigs.now g.functions.now (headings_of (drop i hs)) es c.args.at.now i) (read_bodies g.version g.sigs.now g.functions.now (headings_of hs) ds c.args.at.now 0) (map part_of c.loop-i.parts.items) ds i (omega arith) refl c.loop-i.invariant
