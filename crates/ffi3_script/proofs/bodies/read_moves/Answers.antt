use Rattle.std.proofs.Common.{◌≡◌, [], length, string_bytes, option_map, sym, ap, refl, ◌∙◌, arith}
use Rattle.std.proofs.lemmas.List.{length_push}
use Rattle.ffi3_script_spec.specs.Language.{read, at_item}
use Rattle.ffi3_script_spec.specs.Bodies.{read_move, read_moves, type_of_act}
use Rattle.ffi3_json.proofs.Tellings.{part_handed_on}
use Rattle.ffi3_script_body.specs.ExprOf.{act_of, script_move_of, script_moves_of}
use Rattle.ffi3_script.specs.ScopeOf.{given_of, surroundings_in}
use Rattle.ffi3_script.proofs.Loops.{all_read}
use Rattle.ffi3_script.proofs.BodyParts.{moves-turn, moves-fault}
use Rattle.ffi3_script.proofs.bodies.read_moves.Goals as goal

pub returns-in_err-one-clause-err : goal.returns-in_err-one-clause-err
returns-in_err-one-clause-err c =
    let s = surroundings_in c.args.globals.now c.args.own.now in
    let ds = c.args.items.now in
    let given = given_of c.loop-i.names c.loop-i.types in
    let x = c.get.result in
    let whole = read_moves s [] ds c.args.at.now 0 in
    part_handed_on whole (read_move s given x c.item.result)
    (λ p r e. moves-fault s given ds c.args.at.now c.loop-i.i x whole (script_moves_of c.loop-i.moves.items) (omega arith) c.get.ensures.item c.loop-i.invariant.so_far p r (ap (read_move s given x) (sym c.item.ensures) ∙ e))
    c.from_residual.result c.in_err-one.field-0.0 c.from_residual.ensures.1 c.in_err-one.ensures.err

pub loop-i-preserved : goal.loop-i-preserved
loop-i-preserved c =
    let s = surroundings_in c.args.globals.now c.args.own.now in
    let ds = c.args.items.now in
    let i = c.loop-i.i in
    let x = c.get.result in
    let one = c.in_ok-one.one in
    let before = c.loop-i.invariant in
    let named = c.in_ok-push_move.ensures.named in
    let typed = c.in_ok-push_move.ensures.typed in
    let was : read_move s (given_of c.loop-i.names c.loop-i.types) x (at_item c.args.at.now i) ≡ read (script_move_of one) = ap (read_move s (given_of c.loop-i.names c.loop-i.types) x) (sym c.item.ensures) ∙ c.in_ok-one.ensures.ok in
    record {
      even = omega (arith, ap length named, ap length typed, length_push c.loop-i.names (option_map string_bytes one.name), length_push c.loop-i.types (type_of_act c.args.globals.now.sigs.now (act_of one.act)), before.even);
      count = omega (arith, ap length typed, length_push c.loop-i.types (type_of_act c.args.globals.now.sigs.now (act_of one.act)), before.count);
      so_far = moves-turn s c.loop-i.names c.push_move.new.names c.loop-i.types c.push_move.new.types ds c.args.at.now i x (read_moves s [] ds c.args.at.now 0) c.loop-i.moves.items c.push_move.new.moves.items one
          before.even (omega arith) c.get.ensures.item before.so_far was named typed c.in_ok-push_move.ensures.pushed;
    }

pub returns-clause-ok : goal.returns-clause-ok
returns-clause-ok c =
    let s = surroundings_in c.args.globals.now c.args.own.now in
    let ds = c.args.items.now in
    all_read (λ es. read_moves s (given_of c.loop-i.names c.loop-i.types) es c.args.at.now c.loop-i.i) (read_moves s [] ds c.args.at.now 0) (script_moves_of c.loop-i.moves.items) ds c.loop-i.i (omega arith) refl c.loop-i.invariant.so_far
