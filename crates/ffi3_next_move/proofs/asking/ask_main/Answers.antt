use Rattle.std.proofs.Common.{refl, sym, subst}
use Rattle.std.proofs.lemmas.Result.{IfOk-weaker}
use Rattle.ffi3_semantics_spec.specs.Meaning.{main}
use Rattle.ffi3_body.specs.MoveOf.{move_of}
use Rattle.ffi3_script_spec.specs.Natives.{program_beside}
use Rattle.ffi3_script_body.specs.Agrees.{one_more}
use Rattle.ffi3_script.specs.ScriptOf.{script_of, natives_of, main_body}
use Rattle.ffi3_next_move.specs.Stands.{IsInBody}
use Rattle.ffi3_next_move.proofs.Asked.{asked_as, main_asked}
use Rattle.ffi3_next_move.proofs.asking.ask_main.Goals as goal

pub ask_body-requires : goal.ask_body-requires
ask_body-requires c =
    subst (λ b. IsInBody b c.args.seen.now c.args.cursor.now) (sym c.main.ensures.is) c.requires

pub returns-clause-asked : goal.returns-clause-asked
returns-clause-asked c std natives few =
    let s = c.args.script.now in
    let a = c.args.seen.now in
    let b = c.main.result.now in
    let d = c.ask_body.new.cursor in
    let p = program_beside std natives (script_of s) in
    IfOk-weaker c.ask_body.result _ _ (λ m next. asked_as p main a (λ r. IsInBody b (one_more a r) d) (λ r. IsInBody (main_body s) (one_more a r) d) (move_of m) (move_of m) (main_asked std natives (script_of s) b (natives_of s) a (λ r. IsInBody b (one_more a r) d) (move_of m) c.main.ensures.signatures_are c.main.ensures.functions_are c.main.ensures.moves_are few next) refl (λ r later. subst (λ x. IsInBody x (one_more a r) d) c.main.ensures.is later)) c.ask_body.ensures.next

pub returns-clause-stands : goal.returns-clause-stands
returns-clause-stands c =
    subst (λ b. IsInBody b c.args.seen.now c.ask_body.new.cursor) c.main.ensures.is c.ask_body.ensures.stands
