use Rattle.std.proofs.Common.{◌<◌, length, refl, sym, ◌∙◌, arith}
use Rattle.ffi3_script.specs.ScriptOf.{script_of, function_at}
use Rattle.ffi3_next_move.proofs.Asked.{script_own}
use Rattle.ffi3_next_move.proofs.standing.in_script.Goals as goal

pub returns : goal.returns
returns c natives =
    let s = script_of c.args.script.now in
    let k = c.args.number in
    let among : (function_at s k).signature < length s.signatures = omega (arith, c.sig_of.ensures.is, c.sig_of.ensures.below) in
    record {
      who = refl;
      agrees = λ std a own none. record {
        below = c.requires;
        body = c.body.result.now;
        is = c.body.ensures.is;
        stands = c.before_moves.ensures a (script_own std natives s k a.signature c.requires among own ∙ sym c.body.ensures.own_is) none;
      };
    }
