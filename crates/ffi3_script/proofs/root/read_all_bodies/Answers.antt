use Rattle.std.proofs.Common.{◌≡◌, List, map, codes, None, refl, ap, ◌∙◌}
use Rattle.ffi3_type_spec.specs.Tree.{Tree, void}
use Rattle.ffi3_semantics_spec.specs.Move.{no_signature}
use Rattle.ffi3_script_spec.specs.Language.{under, value_under}
use Rattle.ffi3_script_spec.specs.Bodies.{read_body, read_bodies}
use Rattle.ffi3_json.proofs.Tellings.{part_handed_on}
use Rattle.ffi3_script_body.specs.ExprOf.{script_moves_of}
use Rattle.ffi3_script.specs.ScopeOf.{surroundings_in}
use Rattle.ffi3_script.specs.PartsOf.{headings_of, part_of, bodies_and_main}
use Rattle.ffi3_script.proofs.RootParts.{functions-refused, main-refused, bodies-read}
use Rattle.ffi3_script.proofs.root.read_all_bodies.Goals as goal

pub returns-in_err-functions-clause-err : goal.returns-in_err-functions-clause-err
returns-in_err-functions-clause-err c =
    let g = c.args.globals.now in
    let hs = headings_of c.args.headings.now.items in
    let fs = c.args.items.now in
    part_handed_on (bodies_and_main g.version g.sigs.now g.functions.now hs fs c.args.value.now c.args.at.now) (read_bodies g.version g.sigs.now g.functions.now hs fs c.key.result 0)
    (functions-refused g.version g.sigs.now g.functions.now (headings_of c.args.headings.now.items) c.args.items.now c.args.value.now c.args.at.now c.key.result c.key.ensures no_signature refl)
    c.from_residual.result c.in_err-functions.field-0.0 c.from_residual.ensures.1 c.in_err-functions.ensures.err

pub returns-in_err-main-clause-err : goal.returns-in_err-main-clause-err
returns-in_err-main-clause-err c =
    let g = c.args.globals.now in
    let own : c.new-own.result ≡ no_signature = c.new-own.ensures ∙ ap (λ (ts : List Tree). record { result_type = void; arguments = ts; fixed = None }) c.new.ensures in
    let d = c.args.value.now in
    part_handed_on (bodies_and_main g.version g.sigs.now g.functions.now (headings_of c.args.headings.now.items) c.args.items.now d c.args.at.now)
    (read_body (surroundings_in g c.new-own.result) (value_under (codes "main") d) (under c.args.at.now (codes "main")))
    (main-refused g.version g.sigs.now g.functions.now (headings_of c.args.headings.now.items) c.args.items.now c.args.value.now c.args.at.now c.key.result c.key.ensures c.new-own.result own (map part_of c.in_ok-functions.functions.items) c.in_ok-functions.ensures.ok)
    c.from_residual-in_err-main.result c.in_err-main.field-0.0 c.from_residual-in_err-main.ensures.1 c.in_err-main.ensures.err

pub returns-clause-ok : goal.returns-clause-ok
returns-clause-ok c =
    let g = c.args.globals.now in
    let own : c.new-own.result ≡ no_signature = c.new-own.ensures ∙ ap (λ (ts : List Tree). record { result_type = void; arguments = ts; fixed = None }) c.new.ensures in
    bodies-read g.version g.sigs.now g.functions.now (headings_of c.args.headings.now.items) c.args.items.now c.args.value.now c.args.at.now c.key.result c.key.ensures c.new-own.result own (map part_of c.in_ok-functions.functions.items) c.in_ok-functions.ensures.ok (script_moves_of c.in_ok-main.main.items) c.in_ok-main.ensures.ok
