use Rattle.std.proofs.Common.{◌≡◌, refl, sym, ◌∙◌, subst, arith}
use Rattle.std.proofs.lemmas.Option.{same_Some}
use Rattle.std.proofs.lemmas.Result.{IfOk-weaker}
use Rattle.ffi3_semantics_spec.specs.Meaning.{function}
use Rattle.ffi3_body.specs.MoveOf.{move_of}
use Rattle.ffi3_script_spec.specs.Natives.{program_beside}
use Rattle.ffi3_script_body.specs.Agrees.{one_more}
use Rattle.ffi3_script.specs.ScriptOf.{script_of, natives_of}
use Rattle.ffi3_next_move.specs.Stands.{IsInBody, IsInFunction}
use Rattle.ffi3_next_move.proofs.Asked.{asked_as, function_asked}
use Rattle.ffi3_next_move.proofs.asking.ask_function.Goals as goal

pub body-requires : goal.body-requires
body-requires c = omega (arith, c.requires.below)

pub ask_body-requires : goal.ask_body-requires
ask_body-requires c =
    let same : c.requires.body ≡ c.body.result.now = same_Some c.requires.body c.body.result.now (sym c.requires.is ∙ c.body.ensures.is) in
    subst (λ b. IsInBody b c.args.seen.now c.args.cursor.now) same c.requires.stands

pub returns-clause-asked : goal.returns-clause-asked
returns-clause-asked c std natives few =
    let s = c.args.script.now in
    let k = c.args.number in
    let a = c.args.seen.now in
    let b = c.body.result.now in
    let d = c.ask_body.new.cursor in
    let p = program_beside std natives (script_of s) in
    IfOk-weaker c.ask_body.result _ _ (λ m next. asked_as p (function k) a (λ r. IsInBody b (one_more a r) d) (λ r. IsInFunction s k (one_more a r) d) (move_of m) (move_of m) (function_asked std natives (script_of s) b k (natives_of s) a (λ r. IsInBody b (one_more a r) d) (move_of m) c.requires.below c.body.ensures.signatures_are c.body.ensures.functions_are c.body.ensures.moves_are few next) refl (λ r later. record { below = c.requires.below; body = b; is = c.body.ensures.is; stands = later })) c.ask_body.ensures.next

pub returns-clause-stands : goal.returns-clause-stands
returns-clause-stands c =
    record { below = c.requires.below; body = c.body.result.now; is = c.body.ensures.is; stands = c.ask_body.ensures.stands }
